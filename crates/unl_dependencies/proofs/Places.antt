-- `first_active` gives the least index whose strategy is active, and a loop over the indexes in ascending order finds this index.
use Rattle.std.proofs.Common.{◌≡◌, ℕ, zero, suc, ◌+◌, ◌<◌, Bool, true, false, cond, List, [], ◌∷◌, length, drop, Option, Some, None, inl, inr, refl, ap, sym, ◌∙◌, subst, arith}
use Rattle.std.specs.Prelude.{◌↔◌, slice_get, unwrap_or}
use Rattle.std.specs.Option.{option_map_or}
use Rattle.std.proofs.lemmas.Bool.{cases_Bool}
use Rattle.unl_documents.specs.declared.feature.Feature.{Feature}
use Rattle.unl_documents.specs.declared.segment.Segment.{Segment}
use Rattle.unl_documents.specs.declared.strategy.Strategy.{Strategy}
use Rattle.unl_context.specs.Context.{Fields}
use Rattle.unl_strategies.specs.Moment.{Moment}
use Rattle.unl_strategies.specs.Strategy.{is_active}
use Rattle.unl_dependencies.specs.Evaluation.{is_active_at, active_from, first_active}
use Rattle.unl_dependencies.specs.Laws.{IsFirstActive}

-- ---- any test of an index and the item there

abbrev Test : Type 0 → Type 0
Test T = ℕ → T → Bool

abbrev from : {T : Type 0} → Test T → ℕ → List T → Option ℕ
from test start [] = None
from test start (x ∷ xs) = cond (test start x) (Some start) (from test (start + 1) xs)

abbrev at : {T : Type 0} → Test T → List T → ℕ → ℕ → Bool
at test xs start k = option_map_or (test (start + k)) (slice_get xs k) false

here : {T : Type 0} (test : Test T) (x : T) (xs : List T) (start : ℕ) → at test (x ∷ xs) start 0 ≡ test start x
here test x xs start = let same : start + 0 ≡ start = omega arith in ap (λ n. test n x) same

step : {T : Type 0} (test : Test T) (x : T) (xs : List T) (start k : ℕ) → at test (x ∷ xs) start (suc k) ≡ at test xs (start + 1) k
step test x xs start k = let same : start + suc k ≡ start + 1 + k = omega arith in ap (λ n. option_map_or (test n) (slice_get xs k) false) same

record Found {T : Type 0} (test : Test T) (xs : List T) (start p : ℕ) : Type 0 where
  place : ℕ
  is : p ≡ start + place
  passes : at test xs start place ≡ true
  first : (j : ℕ) → j < place → at test xs start j ≡ false

first_of_more : {T : Type 0} (test : Test T) (x : T) (xs : List T) (start k : ℕ) → test start x ≡ false → ((j : ℕ) → j < k → at test xs (start + 1) j ≡ false) → (j : ℕ) → j < suc k → at test (x ∷ xs) start j ≡ false
first_of_more test x xs start k not later zero lt = here test x xs start ∙ not
first_of_more test x xs start k not later (suc j) lt = step test x xs start j ∙ later j (omega arith)

found_is_least : {T : Type 0} (test : Test T) (xs : List T) (start p : ℕ) → from test start xs ≡ Some p → Found test xs start p
found_is_least test [] start p is = absurd (cc)
found_is_least test (x ∷ xs) start p is =
    elim (cases_Bool (test start x)) [
      | inl passes ↦
          let found : from test start (x ∷ xs) ≡ Some start = rw passes refl in
          let same : start ≡ p = ap (λ o. unwrap_or o start) (sym found ∙ is) in
          record { place = 0; is = omega arith; passes = here test x xs start ∙ passes; first = λ j lt. absurd (omega arith) }
      | inr not ↦
          let more : from test start (x ∷ xs) ≡ from test (start + 1) xs = rw not refl in
          let later = found_is_least test xs (start + 1) p (sym more ∙ is) in
          record {
            place = suc later.place;
            is = let there = later.is in omega arith;
            passes = step test x xs start later.place ∙ later.passes;
            first = first_of_more test x xs start later.place not later.first;
          }
    ]

least_is_found : {T : Type 0} (test : Test T) (xs : List T) (start k : ℕ) → at test xs start k ≡ true → ((j : ℕ) → j < k → at test xs start j ≡ false) → from test start xs ≡ Some (start + k)
least_is_found test [] start k passes first = absurd (cc)
least_is_found test (x ∷ xs) start zero passes first =
    let is : test start x ≡ true = sym (here test x xs start) ∙ passes in
    let same : start ≡ start + 0 = omega arith in
    rw is (ap Some same)
least_is_found test (x ∷ xs) start (suc k) passes first =
    let not : test start x ≡ false = sym (here test x xs start) ∙ first 0 (omega arith) in
    let same : start + 1 + k ≡ start + suc k = omega arith in
    let later = least_is_found test xs (start + 1) k (sym (step test x xs start k) ∙ passes) (λ j lt. sym (step test x xs start j) ∙ first (suc j) (omega arith)) in
    rw not (later ∙ ap Some same)

none_passes : {T : Type 0} (test : Test T) (xs : List T) (start : ℕ) → from test start xs ≡ None → (k : ℕ) → at test xs start k ≡ false
none_passes test [] start none k = refl
none_passes test (x ∷ xs) start none k =
    elim (cases_Bool (test start x)) [
      | inl passes ↦ let found : from test start (x ∷ xs) ≡ Some start = rw passes refl in absurd (cc)
      | inr not ↦
          let more : from test start (x ∷ xs) ≡ from test (start + 1) xs = rw not refl in
          let later = none_passes test xs (start + 1) (sym more ∙ none) in
          first_of_more test x xs start k not (λ j lt. later j) k (omega arith)
    ]

none_is_found : {T : Type 0} (test : Test T) (xs : List T) (start : ℕ) → ((k : ℕ) → at test xs start k ≡ false) → from test start xs ≡ None
none_is_found test [] start fails = refl
none_is_found test (x ∷ xs) start fails =
    let not : test start x ≡ false = sym (here test x xs start) ∙ fails 0 in
    rw not (none_is_found test xs (start + 1) (λ k. sym (step test x xs start k) ∙ fails (suc k)))

-- ---- strategies

abbrev active_test : List ℕ → List Segment → Fields → Moment → Test Strategy
active_test feature segments context moment place s = is_active s feature place segments context moment

same_from : (start : ℕ) (ss : List Strategy) (feature : List ℕ) (segments : List Segment) (context : Fields) (moment : Moment) → active_from start ss feature segments context moment ≡ from (active_test feature segments context moment) start ss
same_from start [] feature segments context moment = refl
same_from start (s ∷ ss) feature segments context moment = ap (λ rest. cond (is_active s feature start segments context moment) (Some start) rest) (same_from (start + 1) ss feature segments context moment)

same_at : (f : Feature) (segments : List Segment) (context : Fields) (moment : Moment) (k : ℕ) → at (active_test f.name segments context moment) f.strategies 0 k ≡ is_active_at f segments context moment k
same_at f segments context moment k = let same : 0 + k ≡ k = omega arith in ap (λ n. option_map_or (active_test f.name segments context moment n) (slice_get f.strategies k) false) same

pub first_is_least : (f : Feature) (segments : List Segment) (context : Fields) (moment : Moment) (place : ℕ) → (first_active f segments context moment ≡ Some place) ↔ IsFirstActive f segments context moment place
unfolding first_active
first_is_least f segments context moment place =
    let test = active_test f.name segments context moment in
    let same = same_from 0 f.strategies f.name segments context moment in (
      λ is.
          let found = found_is_least test f.strategies 0 place (sym same ∙ is) in
          let there : found.place ≡ place = let at_place = found.is in omega arith in
          subst (IsFirstActive f segments context moment) there (record {
            active = sym (same_at f segments context moment found.place) ∙ found.passes;
            first = λ j lt. sym (same_at f segments context moment j) ∙ found.first j lt;
          }),
      λ least.
          let there : 0 + place ≡ place = omega arith in
          same ∙ least_is_found test f.strategies 0 place (same_at f segments context moment place ∙ least.active) (λ j lt. same_at f segments context moment j ∙ least.first j lt) ∙ ap Some there,
    )

pub none_is_active : (f : Feature) (segments : List Segment) (context : Fields) (moment : Moment) → (first_active f segments context moment ≡ None) ↔ ((place : ℕ) → is_active_at f segments context moment place ≡ false)
unfolding first_active
none_is_active f segments context moment =
    let test = active_test f.name segments context moment in
    let same = same_from 0 f.strategies f.name segments context moment in (
      λ none place. sym (same_at f segments context moment place) ∙ none_passes test f.strategies 0 (sym same ∙ none) place,
      λ fails. same ∙ none_is_found test f.strategies 0 (λ k. same_at f segments context moment k ∙ fails k),
    )

-- ---- from one index to the next

record Split {T : Type 0} (xs : List T) (i : ℕ) : Type 0 where
  item : T
  at_place : slice_get xs i ≡ Some item
  is : drop i xs ≡ item ∷ drop (i + 1) xs

split : {T : Type 0} (xs : List T) (i : ℕ) → i < length xs → Split xs i
split [] i lt = absurd (omega arith)
split (x ∷ xs) zero lt = record { item = x; at_place = refl; is = refl }
split (x ∷ xs) (suc i) lt =
    let more = split xs i (omega arith) in
    let next : suc i + 1 ≡ suc (i + 1) = omega arith in
    record { item = more.item; at_place = more.at_place; is = rw next more.is }

step_at : (f : Feature) (segments : List Segment) (context : Fields) (moment : Moment) (i : ℕ) → i < length f.strategies → active_from i (drop i f.strategies) f.name segments context moment ≡ cond (is_active_at f segments context moment i) (Some i) (active_from (i + 1) (drop (i + 1) f.strategies) f.name segments context moment)
step_at f segments context moment i lt =
    let parts = split f.strategies i lt in
    rw (parts.is, parts.at_place) refl

pub active_here : (f : Feature) (segments : List Segment) (context : Fields) (moment : Moment) (i : ℕ) (b : Bool) → i < length f.strategies → b ≡ is_active_at f segments context moment i → b ≡ true → active_from i (drop i f.strategies) f.name segments context moment ≡ Some i
active_here f segments context moment i b lt is true_is =
    let passes : is_active_at f segments context moment i ≡ true = sym is ∙ true_is in
    step_at f segments context moment i lt ∙ rw passes refl

pub active_later : (f : Feature) (segments : List Segment) (context : Fields) (moment : Moment) (i : ℕ) (b : Bool) → i < length f.strategies → b ≡ is_active_at f segments context moment i → b ≡ false → active_from i (drop i f.strategies) f.name segments context moment ≡ active_from (i + 1) (drop (i + 1) f.strategies) f.name segments context moment
active_later f segments context moment i b lt is false_is =
    let fails : is_active_at f segments context moment i ≡ false = sym is ∙ false_is in
    step_at f segments context moment i lt ∙ rw fails refl
