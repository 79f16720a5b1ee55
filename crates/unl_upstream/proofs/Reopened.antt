-- The rows applied by reopening, one after another.
use Rattle.std.proofs.Common.{◌≡◌, ◌≢◌, ◌+◌, ℕ, zero, suc, List, [], ◌∷◌, ◌++◌, take, drop, length, length-append, slice_get, Option, Some, None, Result, Ok, Err, IsOk, true, option_map, IfSome, refl, sym, ap, ◌∙◌, subst, arith, append-nil, take-append-drop}
use Rattle.std.proofs.lemmas.List.{take_all, drop_all}
use Rattle.unl_keeper.specs.Rows.{kept}
use Rattle.unl_keeper.specs.State.{KeeperState, kept_rows}
use Rattle.unl_upstream.specs.declared.command.Command.{Command}
use Rattle.unl_upstream.specs.declared.refusal.CommandRefusal.{CommandRefusal}
use Rattle.unl_upstream.specs.declared.reopening.ReopenFault.{ReopenFault}
use Rattle.unl_upstream.specs.declared.reopening.ReopenFault.TheVariants.{BadRow, NoRow, Fault, Memory}
use Rattle.unl_upstream.specs.Kept.{AreLeft, KeptState, ResultIn, commands_in, kept_state}
use Rattle.unl_upstream.specs.Reopening.{Applies, GivesBack, IsAtMostOne, Reopened, ReopeningGivesBack, Reopens, TakesRow, rows_after}
use Rattle.unl_upstream.specs.Upstream.{AppliedCommand, UpstreamState, apply_command}
use Rattle.unl_upstream.proofs.Constructors.{err_is_no_success}
use Rattle.unl_upstream.proofs.Elsewhere.{ResultsThere, AcceptedThere, accepted_there, rows_result_there}
use Rattle.unl_upstream.proofs.Leading.{command_one, commands_both, results_rows, no_stop, rows_result, rows_more, row_applies}

-- ---- one row more

none_is_some : {A B : Type 0} {x : A} → ◌≡◌ {A = Option A} None (Some x) → B
none_is_some is = absurd cc

same_some : {A : Type 0} {x y : A} → ◌≡◌ {A = Option A} (Some x) (Some y) → x ≡ y
same_some is = cc

one_longer : (list : List (List ℕ)) (count : ℕ) (text : List ℕ) → slice_get list count ≡ Some text → take (suc count) list ≡ take count list ++ text ∷ []
one_longer [] count text is = none_is_some is
one_longer (row ∷ rows) zero text is = ap (λ row. row ∷ []) (same_some is)
one_longer (row ∷ rows) (suc count) text is = ap (λ others. row ∷ others) (one_longer rows count text is)

-- the texts applied so far, with the next row, are again the first rows
first_more : (rows : Option (List (List ℕ))) (count : ℕ) (texts : List (List ℕ)) (text : List ℕ) → IfSome rows (λ list. texts ≡ take count list)
    → IfSome rows (λ list. slice_get list count ≡ Some text) → IfSome rows (λ list. texts ++ text ∷ [] ≡ take (count + 1) list)
first_more None count texts text first there = tt
first_more (Some list) count texts text first there =
    let more : suc count ≡ count + 1 = omega arith in
    ap (λ prefix. prefix ++ text ∷ []) first ∙ sym (one_longer list count text there) ∙ ap (λ n. take n list) more

pub applies_more : (opening : UpstreamState) (rows : Option (List (List ℕ))) (count : ℕ) (up after : UpstreamState) → Applies opening rows count up
    → TakesRow count rows up after → Applies opening rows (count + 1) after
applies_more opening rows count up after applies takes =
    let longer : length (applies.texts ++ takes.text ∷ []) ≡ length applies.texts + 1 = length-append applies.texts (takes.text ∷ []) in record {
      texts = applies.texts ++ takes.text ∷ [];
      counted = longer ∙ ap (λ n. n + 1) applies.counted;
      first = first_more rows count applies.texts takes.text applies.first takes.there;
      leads = rows_more applies.texts takes.text opening up after applies.leads takes.leads;
    }

-- ---- how reopening ends

-- if all rows were applied, the upstream is the initial one after the kept commands
all_kept : (opening up : UpstreamState) (count : ℕ) (rows : Option (List (List ℕ))) → Applies opening rows count up → IfSome rows (λ list. count ≡ length list)
    → IfSome (kept count rows) (λ texts. ResultIn opening texts up)
all_kept opening up count None applies whole = tt
all_kept opening up count (Some list) applies whole =
    subst (λ (texts : List (List ℕ)). ResultIn opening texts up) applies.first (rows_result applies.texts opening up applies.leads)

none_past : (up : UpstreamState) (count : ℕ) (rows : Option (List (List ℕ))) → IfSome rows (λ list. count ≡ length list)
    → IfSome (option_map (λ list. drop count list) rows) (AreLeft up [])
none_past up count None whole = tt
none_past up count (Some list) whole = subst (AreLeft up []) (sym (drop_all count list (omega (arith, whole)))) tt

pub reopened : (before after : KeptState) (count : ℕ) → after.keeper.opened ≡ true → count ≡ after.keeper.count
    → IfSome after.keeper.rows (λ list. count ≡ length list) → Applies before.up after.keeper.rows count after.up → Reopened before count after
reopened before after count opened counted whole applies = record {
  opened = opened;
  counted = counted;
  whole = whole;
  applied = applies;
  represents = subst (λ (n : ℕ). IfSome (kept n after.keeper.rows) (λ texts. ResultIn before.up texts after.up)) counted
      (all_kept before.up after.up count after.keeper.rows applies whole);
  left = subst (λ (n : ℕ). IfSome (option_map (λ list. drop n list) after.keeper.rows) (AreLeft after.up [])) counted
      (none_past after.up count after.keeper.rows whole);
}

-- ---- reopening what was kept

-- applying all rows of a keeper succeeds, and they are read as the kept commands and at most one more
record Whole (fresh : UpstreamState) (prefix rows : List (List ℕ)) (failed : List Command) : Type 0 where
  last : UpstreamState
  leads : rows_after rows fresh ≡ Some last
  more : List Command
  few : IsAtMostOne more failed
  commands : commands_in rows ≡ commands_in prefix ++ more

whole_of : (opening fresh up : UpstreamState) (prefix past : List (List ℕ)) (failed : List Command) → fresh.board.slots ≡ opening.board.slots
    → ResultIn opening prefix up → AreLeft up failed past → Whole fresh prefix (prefix ++ past) failed
whole_of opening fresh up prefix [] failed same lead left =
    let there : ResultsThere prefix up fresh = rows_result_there prefix opening up fresh same (results_rows prefix opening up lead) in record {
      last = there.last;
      leads = ap (λ (list : List (List ℕ)). rows_after list fresh) (append-nil prefix) ∙ there.leads;
      more = [];
      few = tt;
      commands = ap commands_in (append-nil prefix) ∙ sym (append-nil (commands_in prefix));
    }
whole_of opening fresh up prefix (text ∷ []) failed same lead left =
    let there : ResultsThere prefix up fresh = rows_result_there prefix opening up fresh same (results_rows prefix opening up lead) in
    by_obeyed there (apply_command left.command up) refl left.accepts
  where
    by_obeyed : ResultsThere prefix up fresh → (r : Result AppliedCommand CommandRefusal) → apply_command left.command up ≡ r → IsOk r → Whole fresh prefix (prefix ++ text ∷ []) failed
    by_obeyed there (Err refusal) is accepts = err_is_no_success AppliedCommand refusal accepts
    by_obeyed there (Ok obeyed) is accepts =
        let o : AcceptedThere left.command up obeyed.up there.last = accepted_there left.command up there.last obeyed there.same is in record {
          last = o.obeyed.up;
          leads = rows_more prefix text fresh there.last o.obeyed.up there.leads (row_applies text there.last left.command o.obeyed left.spelled o.accepts);
          more = left.command ∷ [];
          few = left.one;
          commands = commands_both prefix (text ∷ []) ∙ ap (λ (cs : List Command). commands_in prefix ++ cs) (command_one text left.command left.spelled);
        }
whole_of opening fresh up prefix (text ∷ other ∷ texts) failed same lead left = absurd left

gives_back_of : (fresh : UpstreamState) (before reopened : KeptState) (keeper : KeeperState) (failed : List Command) (rows : List (List ℕ)) (result : Result ℕ ReopenFault)
    → Whole fresh (take before.keeper.count rows) rows failed → before.keeper.rows ≡ Some rows → reopened.keeper.rows ≡ Some rows
    → Reopens (kept_state fresh keeper) result reopened → result ≢ Err Fault → result ≢ Err Memory → GivesBack before failed fresh result reopened
gives_back_of fresh before reopened keeper failed rows (Ok count) whole were are opens fault memory = record {
  count = count;
  answers = refl;
  more = whole.more;
  few = whole.few;
  commands = ap (option_map commands_in) kept_all ∙ ap Some whole.commands
      ∙ sym (ap (λ (o : Option (List (List ℕ))). option_map (λ kept. kept ++ whole.more) (option_map commands_in (kept before.keeper.count o))) were);
  represents = opens.represents;
}
  where
    counted : count ≡ length rows
    counted = subst (λ (o : Option (List (List ℕ))). IfSome o (λ list. count ≡ length list)) are opens.whole

    kept_all : kept_rows reopened.keeper ≡ Some rows
    kept_all = (λ i. kept (sym opens.counted i) (are i)) ∙ ap Some (take_all count rows (omega (arith, counted)))
gives_back_of fresh before reopened keeper failed rows (Err (BadRow place text)) whole were are (count, is, within, applies, at) fault memory =
    let there : slice_get rows count ≡ Some text = subst (λ (o : Option (List (List ℕ))). IfSome o (λ list. slice_get list count ≡ Some text)) are at.1 in
    let first : applies.texts ≡ take count rows = subst (λ (o : Option (List (List ℕ))). IfSome o (λ list. applies.texts ≡ take count list)) are applies.first in
    absurd (no_stop rows count text fresh reopened.up whole.last whole.leads there
    (ap (λ (list : List (List ℕ)). rows_after list fresh) (sym first) ∙ applies.leads) at.0)
gives_back_of fresh before reopened keeper failed rows (Err (NoRow place)) whole were are (count, is, within, applies, none) fault memory =
    none_is_some (sym none ∙ are)
gives_back_of fresh before reopened keeper failed rows (Err Fault) whole were are opens fault memory = absurd (fault refl)
gives_back_of fresh before reopened keeper failed rows (Err Memory) whole were are opens fault memory = absurd (memory refl)

pub gives_back : ReopeningGivesBack
gives_back opening fresh before reopened keeper failed rows result same were holds left as_before still opens fault memory =
    let prefix : List (List ℕ) = take before.keeper.count rows in
    let past : List (List ℕ) = drop before.keeper.count rows in
    let lead : ResultIn opening prefix before.up =
    subst (λ (o : Option (List (List ℕ))). IfSome (kept before.keeper.count o) (λ texts. ResultIn opening texts before.up)) were holds in
    let one : AreLeft before.up failed past =
    subst (λ (o : Option (List (List ℕ))). IfSome (option_map (λ list. drop before.keeper.count list) o) (AreLeft before.up failed)) were left in
    let whole : Whole fresh prefix rows failed =
    subst (λ (list : List (List ℕ)). Whole fresh prefix list failed) (take-append-drop before.keeper.count rows)
    (whole_of opening fresh before.up prefix past failed same lead one) in
    gives_back_of fresh before reopened keeper failed rows result whole were (still ∙ as_before ∙ were) opens fault memory
