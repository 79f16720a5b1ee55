-- The steps of a receiver of metrics books satisfy `Merges`: it takes books from its queue and merges them into the metrics.
use Rattle.std.proofs.Common.{◌≡◌, ◌∙◌, List, [], ◌∷◌, ◌++◌, Option, Some, None, append-nil, append_assoc, ap, refl, sym}
use Rattle.std.specs.Prelude.{MatchOption, option_to_list}
use Rattle.std.proofs.lemmas.List.Sums.{fold-append}
use Rattle.unl_metrics.specs.Book.{Book, sum_of}
use Rattle.unl_refresh.specs.MetricsQueues.{Intake, Merges, total}

-- no book was taken or merged
pub merges_nothing : (metrics : Book) (intake : Intake) → Merges metrics intake metrics intake
merges_nothing metrics intake = record {
  books = [];
  taken = sym (append-nil intake.taken);
  merged = [];
  rest = append-nil (option_to_list intake.held);
  summed = refl;
}

-- the book that was held is merged, or stays
pub merges_held : (metrics metrics_after book : Book) (before after : Intake) → before.held ≡ Some book → after.taken ≡ before.taken
    → MatchOption after.held (metrics_after ≡ sum_of metrics book) (λ back. (back ≡ book) × (metrics_after ≡ metrics))
    → Merges metrics before metrics_after after
merges_held metrics metrics_after book before after had same now = by_now after.held refl now
  where
    by_now : (held : Option Book) → after.held ≡ held
        → MatchOption held (metrics_after ≡ sum_of metrics book) (λ back. (back ≡ book) × (metrics_after ≡ metrics))
        → Merges metrics before metrics_after after
    by_now None is merged = record {
      books = [];
      taken = same ∙ sym (append-nil before.taken);
      merged = book ∷ [];
      rest = ap (λ (h : Option Book). option_to_list h ++ []) had ∙ sym (ap (λ (h : Option Book). book ∷ [] ++ option_to_list h) is);
      summed = merged;
    }
    by_now (Some back) is stays = record {
      books = [];
      taken = same ∙ sym (append-nil before.taken);
      merged = [];
      rest = ap (λ (h : Option Book). option_to_list h ++ []) had ∙ (ap (λ (b : Book). b ∷ []) (sym stays.0) ∙ sym (ap (λ (h : Option Book). option_to_list h) is));
      summed = stays.1;
    }

-- two steps, one after the other, satisfy `Merges` as one step
pub merges_on : (first next last : Book) (before middle after : Intake) → Merges first before next middle → Merges next middle last after
    → Merges first before last after
merges_on first next last before middle after one two =
    let held : List Book = option_to_list before.held in
    let between : List Book = option_to_list middle.held in
    let rest : List Book = option_to_list after.held in
    record {
      books = one.books ++ two.books;
      taken = two.taken ∙ (ap (λ (books : List Book). books ++ two.books) one.taken ∙ append_assoc before.taken one.books two.books);
      merged = one.merged ++ two.merged;
      rest = sym (append_assoc held one.books two.books) ∙ (ap (λ (books : List Book). books ++ two.books) one.rest
          ∙ (append_assoc one.merged between two.books ∙ (ap (λ (books : List Book). one.merged ++ books) two.rest
          ∙ sym (append_assoc one.merged two.merged rest))));
      summed = two.summed ∙ (ap (λ (book : Book). total book two.merged) one.summed ∙ sym (fold-append sum_of first one.merged two.merged));
    }
