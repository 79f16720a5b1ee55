-- Lemmas about lists that are built in a loop: the part that is done, and the part that remains.
use Rattle.std.proofs.Common.{◌≡◌, Option, ◌+◌, List, [], ◌∷◌, ◌++◌, length, map, arith, refl, sym, ap, ◌∙◌, append_assoc, append-nil}
use Rattle.std.specs.Prelude.{filter_map, flat_map}
use Rattle.std.specs.List.{All}
use Rattle.std.proofs.lemmas.List.Concat.{flat_map-append}
use Rattle.std.proofs.lemmas.List.Elements.{All-cons, All-head, All-nil, All-tail}
use Rattle.std.proofs.lemmas.List.{map-append}
use Rattle.unl_workers.specs.declared.tally.QueueTally.{QueueTally}
use Rattle.unl_workers.specs.Tallies.{less_a_part, tally}

-- the pieces of one more chunk were appended
pub pieces_chunk : {X Y : Type 0} (f : X → List Y) (done new : List Y) (chunk before rest : List X) (all : List Y)
    → done ++ flat_map f before ≡ all → before ≡ chunk ++ rest → new ≡ done ++ flat_map f chunk → new ++ flat_map f rest ≡ all
pieces_chunk {X} {Y} f done new chunk before rest all so_far steps more =
    ap (λ (list : List Y). list ++ flat_map f rest) more ∙ append_assoc done (flat_map f chunk) (flat_map f rest)
    ∙ ap (λ (list : List Y). done ++ list) (sym (flat_map-append f chunk rest))
    ∙ ap (λ (list : List X). done ++ flat_map f list) (sym steps) ∙ so_far

-- the items of one more chunk were appended
pub items_chunk : {X Y : Type 0} (f : X → Y) (done new : List Y) (chunk before rest : List X) (all : List Y)
    → done ++ map f before ≡ all → before ≡ chunk ++ rest → new ≡ done ++ map f chunk → new ++ map f rest ≡ all
items_chunk {X} {Y} f done new chunk before rest all so_far steps more =
    ap (λ (list : List Y). list ++ map f rest) more ∙ append_assoc done (map f chunk) (map f rest)
    ∙ ap (λ (list : List Y). done ++ list) (sym (map-append f chunk rest))
    ∙ ap (λ (list : List X). done ++ map f list) (sym steps) ∙ so_far

pub all_prefix : {X : Type 0} (P : X → Type 0) (xs ys : List X) → All P (xs ++ ys) → All P xs
all_prefix P [] ys all = All-nil P
all_prefix P (x ∷ xs) ys all = All-cons P x xs (All-head P x (xs ++ ys) all) (all_prefix P xs ys (All-tail P x (xs ++ ys) all))

pub all_back : {X : Type 0} (P : X → Type 0) (xs ys : List X) → All P (xs ++ ys) → All P ys
all_back P [] ys all = all
all_back P (x ∷ xs) ys all = all_back P xs ys (All-tail P x (xs ++ ys) all)

-- one more item was made
pub made_more : {X Y : Type 0} (f : X → Y) (done new : List X) (x : X) (y : Y) (before rest all : List Y)
    → map f done ++ before ≡ all → before ≡ y ∷ rest → new ≡ done ++ x ∷ [] → f x ≡ y → map f new ++ rest ≡ all
made_more {X} {Y} f done new x y before rest all so_far steps more is =
    ap (λ (list : List X). map f list ++ rest) more ∙ ap (λ (list : List Y). list ++ rest) (map-append f done (x ∷ []))
    ∙ append_assoc (map f done) (f x ∷ []) rest ∙ ap (λ (z : Y). map f done ++ z ∷ rest) is
    ∙ ap (λ (list : List Y). map f done ++ list) (sym steps) ∙ so_far

-- one more part was split off, and nothing else changed
pub same_but_parts : {L : Type 0} (first v w : QueueTally L) → v ≡ tally v.parts first.put first.taken first.may_put first.ends_seen
    → w ≡ less_a_part v → w ≡ tally w.parts first.put first.taken first.may_put first.ends_seen
same_but_parts {L} first v w kept less = λ i. record {
  parts = w.parts;
  put = (ap (λ (u : QueueTally L). u.put) less ∙ ap (λ (u : QueueTally L). u.put) kept) i;
  taken = (ap (λ (u : QueueTally L). u.taken) less ∙ ap (λ (u : QueueTally L). u.taken) kept) i;
  may_put = (ap (λ (u : QueueTally L). u.may_put) less ∙ ap (λ (u : QueueTally L). u.may_put) kept) i;
  ends_seen = (ap (λ (u : QueueTally L). u.ends_seen) less ∙ ap (λ (u : QueueTally L). u.ends_seen) kept) i;
}

nothing : {X : Type 0} (xs : List X) → length xs ≡ 0 → xs ≡ []
nothing [] none = refl
nothing (x ∷ xs) none = absurd (omega (arith, none))

-- nothing remains
pub items_all : {Y : Type 0} (done : List Y) (rest all : List Y) → done ++ rest ≡ all → length rest ≡ 0 → done ≡ all
items_all {Y} done rest all so_far none = sym (append-nil done) ∙ ap (λ (list : List Y). done ++ list) (sym (nothing rest none)) ∙ so_far

pub mapped_all : {X Y : Type 0} (f : X → Y) (done : List Y) (rest : List X) (all : List Y) → done ++ map f rest ≡ all
    → length rest ≡ 0 → done ≡ all
mapped_all {X} {Y} f done rest all so_far none =
    sym (append-nil done) ∙ ap (λ (list : List X). done ++ map f list) (sym (nothing rest none)) ∙ so_far

-- filtering an empty list returns an empty list
pub none_found : {X Y : Type 0} (h : X → Option Y) (xs : List X) → length xs ≡ 0 → length (filter_map h xs) ≡ 0
none_found h [] none = refl
none_found h (x ∷ xs) none = absurd (omega (arith, none))
