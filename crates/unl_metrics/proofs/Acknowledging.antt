-- `MetricsBook::acknowledged` removes one range of rows. These are the keys that its definition `acknowledge` drops (the first keys of an
-- environment), and a valid book is left.
use Rattle.std.proofs.Common.{◌≡◌, ℕ, zero, suc, ◌+◌, ◌≤◌, min, Bool, true, false, cond, not, ◌&&◌, T, List, [], ◌∷◌, length, drop, refl, sym, subst, ap, ◌∙◌, nat_cmp, nat_lt, arith}
use Rattle.std.proofs.lemmas.Bool.Decides.{nat_tests}
use Rattle.std.proofs.lemmas.Cmp.{nat_list_cmp_total}
use Rattle.std.proofs.lemmas.List.Elements.{All-cons, All-head, All-tail}
use Rattle.std.proofs.lemmas.List.{length-drop}
use Rattle.std.proofs.lemmas.List.Sums.{prefix_len-le-length}
use Rattle.std.proofs.lemmas.Map.Text.{is_eq-slice_cmp}
use Rattle.std.specs.Cmp.Lexicographic.{slice_cmp}
use Rattle.std.specs.FinMap.Entries.{is_sorted, below_all}
use Rattle.std.specs.List.{prefix_len, position_or_len, remove_range, list_all}
use Rattle.std.specs.Ordering.{is_lt, is_eq, ordering_reverse, ordering_then}
use Rattle.std.specs.Prelude.{All, nat_le, Some, None, position, unwrap_or, is_some}
use Rattle.std.specs.declared.cmp.Ordering.{Ordering}
use Rattle.std.specs.declared.cmp.Ordering.TheVariants.{Less, Equal, Greater}
use Rattle.unl_metrics.specs.Book.{Book, MetricKey, Tally, key_cmp, is_of, acknowledge, has_few_variants, fits, IsCounted, IsMetricsBook}
use Rattle.unl_metrics.proofs.Entries.{each_true, first_of, second_of, both_of, less}

-- ---- the first position

by_some : (here : Bool) (n found : ℕ) → cond here (Some n) None ≡ Some found → found ≡ n
by_some true n found e = ap (λ o. unwrap_or o found) (sym e)
by_some false n found e = absurd (subst T (ap is_some (sym e)) tt)

pub place_some : {X : Type 0} (p : X → Bool) (xs : List X) (found : ℕ) → position p xs ≡ Some found → found ≡ prefix_len (λ x. not (p x)) xs
place_some p xs found e = by_some (nat_lt (position_or_len p xs) (length xs)) (position_or_len p xs) found e

by_none : (n len : ℕ) → n ≤ len → cond (nat_lt n len) (Some n) None ≡ None → len ≡ n
by_none n len le e = grind (arith, nat_tests)

pub place_none : {X : Type 0} (p : X → Bool) (xs : List X) → position p xs ≡ None → length xs ≡ prefix_len (λ x. not (p x)) xs
place_none p xs e = by_none (position_or_len p xs) (length xs) (prefix_len-le-length (λ x. not (p x)) xs) e

not_not : {X : Type 0} (p : X → Bool) (xs : List X) → prefix_len (λ x. not (not (p x))) xs ≡ prefix_len p xs
not_not p [] = refl
not_not p (x ∷ xs) = λ i. cond (back (p x) i) (1 + not_not p xs i) 0
  where
    back : (b : Bool) → not (not b) ≡ b
    back true = refl
    back false = refl

pub run_some : {X : Type 0} (p : X → Bool) (xs : List X) (found : ℕ) → position (λ x. not (p x)) xs ≡ Some found → found ≡ prefix_len p xs
run_some p xs found e = place_some (λ x. not (p x)) xs found e ∙ not_not p xs

pub run_none : {X : Type 0} (p : X → Bool) (xs : List X) → position (λ x. not (p x)) xs ≡ None → length xs ≡ prefix_len p xs
run_none p xs e = place_none (λ x. not (p x)) xs e ∙ not_not p xs

-- ---- the keys of an environment are contiguous

-- The ordering is `Less` or `Equal`.
abbrev pub is_le : Ordering → Bool
is_le Less = true
is_le Equal = true
is_le Greater = false

le_first : (r s : Ordering) → ordering_then r s ≡ Less → is_le r ≡ true
le_first Less s e = refl
le_first Equal s e = refl
le_first Greater s e = absurd (subst (λ o. T (is_lt o)) (sym e) tt)

-- If a key comes before another key, its environment doesn't come after that of the other key.
environment_le : (j k : MetricKey) → key_cmp j k ≡ Less → is_le (slice_cmp nat_cmp j.environment k.environment) ≡ true
environment_le j k e = le_first (slice_cmp nat_cmp j.environment k.environment) _ e

both_le : (r : Ordering) → is_le r ≡ true → is_le (ordering_reverse r) ≡ true → is_eq r ≡ true
both_le Less a b = absurd (subst T (sym b) tt)
both_le Equal a b = refl
both_le Greater a b = absurd (subst T (sym a) tt)

-- A key between two keys of an environment is of the same environment.
between_is_of : (environment : List ℕ) (i j k : MetricKey) → is_of environment i ≡ true → is_of environment k ≡ true → key_cmp i j ≡ Less → key_cmp j k ≡ Less → is_of environment j ≡ true
between_is_of environment i j k at_i at_k low high =
    let o = nat_list_cmp_total in
    let first : slice_cmp nat_cmp i.environment environment ≡ Equal = equal (slice_cmp nat_cmp i.environment environment) (is_eq-slice_cmp i.environment environment ∙ at_i) in
    let last : slice_cmp nat_cmp k.environment environment ≡ Equal = equal (slice_cmp nat_cmp k.environment environment) (is_eq-slice_cmp k.environment environment ∙ at_k) in
    let from : is_le (slice_cmp nat_cmp environment j.environment) ≡ true = ap is_le (sym (o.congr i.environment environment j.environment first)) ∙ environment_le i j low in
    let to : is_le (slice_cmp nat_cmp environment j.environment) ≡ true → is_le (slice_cmp nat_cmp j.environment environment) ≡ true = λ _.
    ap is_le (o.antisymm j.environment environment ∙ ap ordering_reverse (sym (o.congr k.environment environment j.environment last)) ∙ sym (o.antisymm j.environment k.environment)) ∙ environment_le j k high in
    sym (is_eq-slice_cmp j.environment environment) ∙ both_le (slice_cmp nat_cmp j.environment environment) (to from) (ap is_le (sym (o.antisymm environment j.environment)) ∙ from)
  where
    equal : (r : Ordering) → is_eq r ≡ true → r ≡ Equal
    equal Less e = absurd (subst T (sym e) tt)
    equal Equal e = refl
    equal Greater e = absurd (subst T (sym e) tt)

-- ---- what is dropped

-- After a key of the environment and then a key of another environment, no key of the environment follows, so `acknowledge`
-- drops nothing more.
kept : (environment : List ℕ) (e f : MetricKey × Tally) (es : Book) (count : ℕ) → is_of environment e.0 ≡ true → is_of environment f.0 ≡ false → key_cmp e.0 f.0 ≡ Less → T (below_all key_cmp f.0 es) → acknowledge environment count es ≡ es
unfolding acknowledge
kept environment e f es zero here other low above = refl
kept environment e f [] (suc count) here other low above = refl
kept environment e f (g ∷ es) (suc count) here other low above =
    let next : key_cmp f.0 g.0 ≡ Less = less (key_cmp f.0 g.0) (first_of (is_lt (key_cmp f.0 g.0)) (below_all key_cmp f.0 es) above) in
    let rest : acknowledge environment (suc count) es ≡ es = kept environment e f es (suc count) here other low (second_of (is_lt (key_cmp f.0 g.0)) (below_all key_cmp f.0 es) above) in
    elim (is_of environment g.0) as (λ b. is_of environment g.0 ≡ b → cond b (acknowledge environment count es) (g ∷ acknowledge environment (suc count) es) ≡ g ∷ es) [
      | true ↦ λ at. absurd (subst T (sym (between_is_of environment e.0 f.0 g.0 here at low next) ∙ other) tt)
      | false ↦ λ at. ap (λ (b : Book). g ∷ b) rest
    ] refl

-- After a key of the environment, `acknowledge` drops the first `count` keys of the run of keys of the environment that follows, or the
-- whole run if it is shorter.
run_goes : (environment : List ℕ) (e : MetricKey × Tally) (es : Book) (count : ℕ) → is_of environment e.0 ≡ true → T (below_all key_cmp e.0 es) → T (is_sorted key_cmp es) → drop (min (prefix_len (λ f. is_of environment f.0) es) count) es ≡ acknowledge environment count es
unfolding acknowledge
run_goes environment e es zero here above sorted = let none : min (prefix_len (λ f. is_of environment f.0) es) 0 ≡ 0 = grind arith in rw none refl
run_goes environment e [] (suc count) here above sorted = let none : min 0 (suc count) ≡ 0 = grind arith in rw none refl
run_goes environment e (f ∷ es) (suc count) here above sorted =
    let r = prefix_len (λ g. is_of environment g.0) es in
    let low : key_cmp e.0 f.0 ≡ Less = less (key_cmp e.0 f.0) (first_of (is_lt (key_cmp e.0 f.0)) (below_all key_cmp e.0 es) above) in
    let below : T (below_all key_cmp f.0 es) = first_of (below_all key_cmp f.0 es) (is_sorted key_cmp es) sorted in
    let rest : T (is_sorted key_cmp es) = second_of (below_all key_cmp f.0 es) (is_sorted key_cmp es) sorted in
    elim (is_of environment f.0) as (λ b. is_of environment f.0 ≡ b → drop (min (cond b (1 + r) 0) (suc count)) (f ∷ es) ≡ cond b (acknowledge environment count es) (f ∷ acknowledge environment (suc count) es)) [
      | true ↦ λ at. let more : min (1 + r) (suc count) ≡ suc (min r count) = grind arith in rw more (run_goes environment f es count at below rest)
      | false ↦ λ at. let none : min 0 (suc count) ≡ 0 = grind arith in rw none (ap (λ (b : Book). f ∷ b) (sym (kept environment e f es (suc count) here at low below)))
    ] refl

-- The position of the environment's first key, or the length of the book if there is none.
abbrev pub start_of : List ℕ → Book → ℕ
start_of environment book = prefix_len (λ e. not (is_of environment e.0)) book

-- The number of keys of the environment that follow without a gap from that position.
abbrev pub run_at : List ℕ → Book → ℕ
run_at environment book = prefix_len (λ e. is_of environment e.0) (drop (start_of environment book) book)

acknowledge_none : (environment : List ℕ) (es : Book) → acknowledge environment 0 es ≡ es
unfolding acknowledge
acknowledge_none environment es = refl

acknowledge_other : (environment : List ℕ) (count : ℕ) (e : MetricKey × Tally) (es : Book) → is_of environment e.0 ≡ false → acknowledge environment count (e ∷ es) ≡ e ∷ acknowledge environment count es
unfolding acknowledge
acknowledge_other environment zero e es other = refl
acknowledge_other environment (suc count) e es other = rw other refl

acknowledge_one : (environment : List ℕ) (count : ℕ) (e : MetricKey × Tally) (es : Book) → is_of environment e.0 ≡ true → acknowledge environment (suc count) (e ∷ es) ≡ acknowledge environment count es
unfolding acknowledge
acknowledge_one environment count e es here = rw here refl

first_goes : (environment : List ℕ) (count : ℕ) (e : MetricKey × Tally) (es : Book) → is_of environment e.0 ≡ true → T (is_sorted key_cmp (e ∷ es)) → drop (min (1 + prefix_len (λ f. is_of environment f.0) es) count) (e ∷ es) ≡ acknowledge environment count (e ∷ es)
first_goes environment zero e es here sorted = let none : min (1 + prefix_len (λ f. is_of environment f.0) es) 0 ≡ 0 = grind arith in rw (none, acknowledge_none environment (e ∷ es)) refl
first_goes environment (suc count) e es here sorted =
    let more : min (1 + prefix_len (λ f. is_of environment f.0) es) (suc count) ≡ suc (min (prefix_len (λ f. is_of environment f.0) es) count) = grind arith in
    let below : T (below_all key_cmp e.0 es) = first_of (below_all key_cmp e.0 es) (is_sorted key_cmp es) sorted in
    let rest : T (is_sorted key_cmp es) = second_of (below_all key_cmp e.0 es) (is_sorted key_cmp es) sorted in
    rw more (run_goes environment e es count here below rest ∙ sym (acknowledge_one environment count e es here))

-- Acknowledging a sorted book removes a range.
pub range_goes : (environment : List ℕ) (count : ℕ) (book : Book) → T (is_sorted key_cmp book) → remove_range book (start_of environment book) (start_of environment book + min (run_at environment book) count) ≡ acknowledge environment count book
range_goes environment zero [] sorted = sym (acknowledge_none environment [])
range_goes environment (suc count) [] sorted = let none : min 0 (suc count) ≡ 0 = grind arith in rw none (unfold acknowledge in refl)
range_goes environment count (e ∷ es) sorted =
    let rest : T (is_sorted key_cmp es) = second_of (below_all key_cmp e.0 es) (is_sorted key_cmp es) sorted in
    let s = start_of environment es in
    elim (is_of environment e.0) as (λ b. is_of environment e.0 ≡ b → remove_range (e ∷ es) (cond (not b) (1 + s) 0) (cond (not b) (1 + s) 0 + min (prefix_len (λ f. is_of environment f.0) (drop (cond (not b) (1 + s) 0) (e ∷ es))) count) ≡ acknowledge environment count (e ∷ es)) [
      | true ↦ λ at. let zero_more : 0 + min (prefix_len (λ f. is_of environment f.0) (e ∷ es)) count ≡ min (prefix_len (λ f. is_of environment f.0) (e ∷ es)) count = omega arith in
          rw (zero_more, at) (first_goes environment count e es at sorted)
      | false ↦ λ at. let next : 1 + s ≡ suc s = omega arith in
          let further : suc s + min (prefix_len (λ f. is_of environment f.0) (drop s es)) count ≡ suc (s + min (prefix_len (λ f. is_of environment f.0) (drop s es)) count) = omega arith in
          rw (next, further, acknowledge_other environment count e es at) (ap (λ (b : Book). e ∷ b) (range_goes environment count es rest))
    ] refl

-- ---- what is left is a book

below_stays : (x : MetricKey) (environment : List ℕ) (count : ℕ) (es : Book) → T (below_all key_cmp x es) → T (below_all key_cmp x (acknowledge environment count es))
unfolding acknowledge
below_stays x environment zero es h = h
below_stays x environment (suc count) [] h = h
below_stays x environment (suc count) (e ∷ es) h =
    let first : T (is_lt (key_cmp x e.0)) = first_of (is_lt (key_cmp x e.0)) (below_all key_cmp x es) h in
    let others : T (below_all key_cmp x es) = second_of (is_lt (key_cmp x e.0)) (below_all key_cmp x es) h in
    elim (is_of environment e.0) as (λ b. T (below_all key_cmp x (cond b (acknowledge environment count es) (e ∷ acknowledge environment (suc count) es)))) [
      | true ↦ below_stays x environment count es others
      | false ↦ both_of (is_lt (key_cmp x e.0)) (below_all key_cmp x (acknowledge environment (suc count) es)) first (below_stays x environment (suc count) es others)
    ]

rising_stays : (environment : List ℕ) (count : ℕ) (es : Book) → T (is_sorted key_cmp es) → T (is_sorted key_cmp (acknowledge environment count es))
unfolding acknowledge
rising_stays environment zero es h = h
rising_stays environment (suc count) [] h = h
rising_stays environment (suc count) (e ∷ es) h =
    let first : T (below_all key_cmp e.0 es) = first_of (below_all key_cmp e.0 es) (is_sorted key_cmp es) h in
    let others : T (is_sorted key_cmp es) = second_of (below_all key_cmp e.0 es) (is_sorted key_cmp es) h in
    elim (is_of environment e.0) as (λ b. T (is_sorted key_cmp (cond b (acknowledge environment count es) (e ∷ acknowledge environment (suc count) es)))) [
      | true ↦ rising_stays environment count es others
      | false ↦ both_of (below_all key_cmp e.0 (acknowledge environment (suc count) es)) (is_sorted key_cmp (acknowledge environment (suc count) es)) (below_stays e.0 environment (suc count) es first) (rising_stays environment (suc count) es others)
    ]

each_stays : (environment : List ℕ) (count : ℕ) (es : Book) → All IsCounted es → All IsCounted (acknowledge environment count es)
unfolding acknowledge
each_stays environment zero es h = h
each_stays environment (suc count) [] h = h
each_stays environment (suc count) (e ∷ es) h =
    elim (is_of environment e.0) as (λ b. All IsCounted (cond b (acknowledge environment count es) (e ∷ acknowledge environment (suc count) es))) [
      | true ↦ each_stays environment count es (All-tail IsCounted e es h)
      | false ↦ All-cons IsCounted e (acknowledge environment (suc count) es) (All-head IsCounted e es h) (each_stays environment (suc count) es (All-tail IsCounted e es h))
    ]

no_longer : (environment : List ℕ) (count : ℕ) (es : Book) → length (acknowledge environment count es) ≤ length es
unfolding acknowledge
no_longer environment zero es = omega arith
no_longer environment (suc count) [] = omega arith
no_longer environment (suc count) (e ∷ es) =
    elim (is_of environment e.0) as (λ b. length (cond b (acknowledge environment count es) (e ∷ acknowledge environment (suc count) es)) ≤ length (e ∷ es)) [
      | true ↦ omega (arith, no_longer environment count es)
      | false ↦ omega (arith, no_longer environment (suc count) es)
    ]

few_stay : (environment : List ℕ) (count : ℕ) (es : Book) → list_all has_few_variants es ≡ true → list_all has_few_variants (acknowledge environment count es) ≡ true
unfolding acknowledge
few_stay environment zero es h = h
few_stay environment (suc count) [] h = h
few_stay environment (suc count) (e ∷ es) h =
    let two = each_true (has_few_variants e) (list_all has_few_variants es) h in
    elim (is_of environment e.0) as (λ b. list_all has_few_variants (cond b (acknowledge environment count es) (e ∷ acknowledge environment (suc count) es)) ≡ true) [
      | true ↦ few_stay environment count es two.1
      | false ↦ rw (two.0, few_stay environment (suc count) es two.1) refl
    ]

fits_still : (m n : ℕ) (few less_few : Bool) → m ≤ n → (few ≡ true → less_few ≡ true) → (nat_le n 10000 && few) ≡ true → (nat_le m 10000 && less_few) ≡ true
fits_still m n few less_few le stays h =
    let two = each_true (nat_le n 10000) few h in
    rw (stays two.1) (let small : nat_le m 10000 ≡ true = grind (arith, nat_tests, two.0, le) in rw small refl)

pub book_stays : (environment : List ℕ) (count : ℕ) (book : Book) → IsMetricsBook book → IsMetricsBook (acknowledge environment count book)
unfolding fits
book_stays environment count book is = record {
  order = record { rising = rising_stays environment count book is.order.rising; each = each_stays environment count book is.order.each };
  fit = fits_still (length (acknowledge environment count book)) (length book) (list_all has_few_variants book) (list_all has_few_variants (acknowledge environment count book)) (no_longer environment count book) (few_stay environment count book) is.fit;
}

-- The end of the range is inside the list.
pub range_ends : {X : Type 0} (xs : List X) (start run count : ℕ) → start ≤ length xs → run ≤ length (drop start xs) → start + min run count ≤ length xs
range_ends xs start run count first more = omega (arith, length-drop start xs)

pub range_is : (environment : List ℕ) (count : ℕ) (book new : Book) (start run most : ℕ) → T (is_sorted key_cmp book) → start ≡ start_of environment book → run ≡ prefix_len (λ e. is_of environment e.0) (drop start book) → most ≡ min run count → new ≡ remove_range book start (start + most) → new ≡ acknowledge environment count book
range_is environment count book new start run most sorted first all ends is =
    is ∙ rw (ends, all, first) (range_goes environment count book sorted)
