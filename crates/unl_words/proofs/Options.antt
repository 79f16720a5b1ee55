-- The options of a command, added one by one.
use Rattle.std.proofs.Common.{◌≡◌, ◌∙◌, ◌+◌, ◌<◌, ◌≤◌, ℕ, List, [], ◌∷◌, length, get_or, map, take, ap, sym}
use Rattle.std.proofs.lemmas.List.{map-append, take_all, take_more}
use Rattle.std.proofs.lemmas.List.Sums.{fold-append}
use Rattle.std.specs.List.{fold}
use Rattle.clap.specs.Words.{App, Rule, with_rule}

-- One more option is added.
pub one_more : {X : Type 0} (rule : X → Rule) (start now new : App) (names : List X) (i : ℕ) (x : X) → i < length names
    → now ≡ fold with_rule start (map rule (take i names)) → new ≡ with_rule now (rule (get_or names i x))
    → new ≡ fold with_rule start (map rule (take (i + 1) names))
one_more rule start now new names i x low before step =
    let name = get_or names i x in
    step ∙ ap (λ (a : App). with_rule a (rule name)) before
    ∙ sym (ap (λ xs. fold with_rule start (map rule xs)) (take_more names i x low)
    ∙ ap (fold with_rule start) (map-append rule (take i names) (name ∷ []))
    ∙ fold-append with_rule start (map rule (take i names)) (rule name ∷ []))

-- All options are added.
pub all_given : {X : Type 0} (rule : X → Rule) (start now : App) (names : List X) (i : ℕ) → length names ≤ i
    → now ≡ fold with_rule start (map rule (take i names)) → now ≡ fold with_rule start (map rule names)
all_given rule start now names i past before = before ∙ ap (λ xs. fold with_rule start (map rule xs)) (take_all i names past)
