-- Counting, one by one, the asks whose feature is on. An ask is one evaluation of a feature for a user.
use Rattle.std.proofs.Common.{◌≡◌, ◌∙◌, ◌<◌, ◌≤◌, ◌+◌, ◌-◌, ◌%◌, ℕ, suc, Bool, true, false, cond, [], ◌∷◌, refl, sym, ap, arith}
use Rattle.std.proofs.lemmas.List.Sums.{sum_by-cons}
use Rattle.std.specs.List.{count_by}
use Rattle.rand_pcg.specs.Lcg.{Lcg}
use Rattle.unl_documents.specs.declared.state.State.{State}
use Rattle.unl_load.specs.Input.{ask_by, asks, is_on_for}
use Rattle.unl_load.specs.Words.{next_word, next}

-- after `asked` of `count` asks: `on` is the number of those that were on, at most `asked`; plus the number of the remaining asks that are
-- on, it is the number of all asks that are on
pub record Counts (state : State) (words : Lcg) (count asked on : ℕ) (left : Lcg) : Type 0 where
  pub all : on + count_by (is_on_for state) (asks (count - asked) left) ≡ count_by (is_on_for state) (asks count words)
  pub most : on ≤ asked

unfold_asks : (n : ℕ) (words : Lcg) → asks (suc n) words ≡ ask_by words ∷ asks n (next (next words))
unfolding asks
unfold_asks n words = refl

shift : (b : Bool) (on rest : ℕ) → cond b (1 + on) on + rest ≡ on + (cond b 1 0 + rest)
shift true on rest = omega arith
shift false on rest = omega arith

one_more : (b : Bool) (on asked : ℕ) → on ≤ asked → cond b (1 + on) on ≤ asked + 1
one_more true on asked most = omega (arith, most)
one_more false on asked most = omega (arith, most)

counts_more : (state : State) (words : Lcg) (count asked on : ℕ) (left : Lcg) → asked < count → Counts state words count asked on left
    → Counts state words count (asked + 1) (cond (is_on_for state (ask_by left)) (1 + on) on) (next (next left))
counts_more state words count asked on left inside counts =
    let is = is_on_for state (ask_by left) in
    let rest = asks (count - (asked + 1)) (next (next left)) in
    let more : count - asked ≡ suc (count - (asked + 1)) = omega (arith, inside) in
    let listed : asks (count - asked) left ≡ ask_by left ∷ rest =
    ap (λ n. asks n left) more ∙ unfold_asks (count - (asked + 1)) left in
    let summed : count_by (is_on_for state) (asks (count - asked) left) ≡ cond is 1 0 + count_by (is_on_for state) rest =
    ap (count_by (is_on_for state)) listed ∙ sum_by-cons (λ ask. cond (is_on_for state ask) 1 0) (ask_by left) rest in
    record {
      all = shift is on (count_by (is_on_for state) rest) ∙ ap (λ n. on + n) (sym summed) ∙ counts.all;
      most = one_more is on asked counts.most;
    }

-- the same after one more ask, which is made from the next two words
pub counts_next : (state : State) (words : Lcg) (count asked on on_after feature user : ℕ) (left between after : Lcg) (is : Bool)
    → asked < count → Counts state words count asked on left → feature ≡ next_word left → between ≡ next left → user ≡ next_word between
    → after ≡ next between → is ≡ is_on_for state (record { feature = feature % 1000; user = user })
    → on_after ≡ cond is (1 + on) on → Counts state words count (asked + 1) on_after after
counts_next state words count asked on on_after feature user left between after is inside counts from goes then_from then_goes same counted =
    rw (counted, same, then_from, then_goes, goes, from) (counts_more state words count asked on left inside counts)

none_left : (words : Lcg) → asks 0 words ≡ []
unfolding asks
none_left words = refl

-- after all asks, `on` is the number of asks that are on
pub all_counted : (state : State) (words : Lcg) (count asked on : ℕ) (left : Lcg) → count ≤ asked → Counts state words count asked on left
    → on ≡ count_by (is_on_for state) (asks count words)
all_counted state words count asked on left over counts =
    let none : count - asked ≡ 0 = omega (arith, over) in
    let nothing : count_by (is_on_for state) (asks (count - asked) left) ≡ 0 =
    ap (λ n. count_by (is_on_for state) (asks n left)) none ∙ ap (count_by (is_on_for state)) (none_left left) in
    let sum : on + count_by (is_on_for state) (asks (count - asked) left) ≡ on = ap (λ n. on + n) nothing ∙ omega arith in
    sym sum ∙ counts.all
