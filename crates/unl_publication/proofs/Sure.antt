-- The invariants of the writer and the readers: ghost (specification-only) fields state them as `∥ P ∥₁`, which says only that a proof of
-- `P` exists. These lemmas show that `P` then holds, and that the steps of the writer and the readers keep the invariants.
use Rattle.std.proofs.Common.{◌≡◌, ℕ, suc, ◌+◌, ◌<◌, ◌≤◌, zero-le, List, [], ◌∷◌, length, fold, Some, true, false, is_err, is_some, Result, Ok, Err, MatchResult, IfSome, sym, refl, ap, ◌∙◌, subst, add-zero, length-append, arith}
use mathlib.Core.Logic.{∥∥₁_elim, ∥∥₁_map, ∥∥₁_map₂}
use base.Stored.{Coded, Coded-set}
use Rattle.std.specs.Coded.{le_prop, coded_ℕ}
use Rattle.std.specs.declared.option.Option.{Option}
use Rattle.std.specs.declared.option.Option.TheVariants.{None}
use Rattle.std.proofs.lemmas.List.Sums.{fold-append}
use Rattle.unl_publication.specs.declared.knowledge.Knowledge.{Knowledge}
use Rattle.unl_publication.specs.Rule.{KnowsAllowed, MayPublish, Opens, Rise, Enters, knows_nothing, knows_opening, shared_knowledge, with_installs}
use Rattle.unl_publication.specs.Meaning.{known, before_of, value_at}
use Rattle.unl_publication.specs.Looking.{AreBothAllowed, Shows, AreFronts, IsAhead, IsBetweenLooks, IsLooking, Takes}
use Rattle.unl_publication.proofs.Meant.{length-first_of}
use Rattle.unl_publication.proofs.Keeps.{Rise-higher, Rise-push, StartsWith-length}

pub Rise-from : (first : ℕ) (ns : List ℕ) (last : ℕ) → ∥ Rise first ns last ∥₁ → Rise first ns last
Rise-from first [] last h = ∥∥₁_elim h le_prop (λ x. x)
Rise-from first (n ∷ ns) last h = (∥∥₁_elim h le_prop (λ x. x.0), Rise-from n ns last (∥∥₁_map h (λ x. x.1)))

module _ {S I : Type 0} where
  pub AreFronts-from : (v : Knowledge S I) → ∥ AreFronts v ∥₁ → AreFronts v
  AreFronts-from v h = Rise-from 0 v.fronts (length v.installs) h

  known_ahead : (past : Option (Knowledge S I)) (now : Knowledge S I) → IsAhead past now → length (known past now).installs ≤ length now.installs
  known_ahead (Some past) now h = omega (arith, h)
  known_ahead None now h = omega arith

  IsAhead-from : (past : Option (Knowledge S I)) (now : Knowledge S I) → ∥ IsAhead past now ∥₁ → IsAhead past now
  IsAhead-from (Some past) now h = ∥∥₁_elim h le_prop (λ x. x)
  IsAhead-from None now h = ∥∥₁_elim h le_prop (λ x. x)

  pub IsBetweenLooks-from : (past : Option (Knowledge S I)) (now : Knowledge S I) → ∥ IsBetweenLooks past now ∥₁ → IsBetweenLooks past now
  IsBetweenLooks-from past now h = record { fronts = AreFronts-from (known past now) (∥∥₁_map h (λ x. x.fronts)); ahead = IsAhead-from past now (∥∥₁_map h (λ x. x.ahead)) }

  pub IsLooking-from : (v : Knowledge S I) → ∥ IsLooking v ∥₁ → IsLooking v
  IsLooking-from v h = record { fronts = AreFronts-from v (∥∥₁_map h (λ x. x.fronts)); before = ∥∥₁_elim h le_prop (λ x. x.before) }

  -- The fronts of the looks never fall, and are at most the length of the list that the reader continues from.
  pub IsBetweenLooks-rises : (past : Option (Knowledge S I)) (now : Knowledge S I) → IsBetweenLooks past now → Rise 0 (known past now).fronts (length now.installs)
  IsBetweenLooks-rises past now h = Rise-higher 0 (known past now).fronts (length (known past now).installs) (length now.installs) h.fronts (known_ahead past now h.ahead)

  -- The invariant holds for a reader that now continues from a learned list.
  pub IsBetweenLooks-learned : (past : Option (Knowledge S I)) (now learned kept : Knowledge S I) → IsBetweenLooks past now → kept ≡ known past now → length now.installs < length learned.installs → IsBetweenLooks (Some kept) learned
  IsBetweenLooks-learned past now learned kept h is more = record {
    fronts = subst AreFronts (sym is) h.fronts;
    ahead = omega (arith, known_ahead past now h.ahead, more, ap (λ (k : Knowledge S I). length k.installs) is);
  }

  -- The invariant holds for a reader that ended a look and continues from its own list.
  pub IsBetweenLooks-alone : (now : Knowledge S I) → IsLooking now → IsBetweenLooks None now
  IsBetweenLooks-alone now h = record { fronts = h.fronts; ahead = h.before }

  -- The invariant holds for a reader that knows an opening value and a list, and hasn't looked.
  pub IsBetweenLooks-fresh : (now : Knowledge S I) → now.fronts ≡ [] → now.before ≡ [] → IsBetweenLooks None now
  IsBetweenLooks-fresh now none nothing = record {
    fronts = subst (λ (ns : List ℕ). Rise 0 ns (length now.installs)) (sym none) zero-le;
    ahead = omega (arith, ap (λ (xs : List (Option S)). length xs) nothing);
  }

  module _ (installed : S → I → S) (front_of : S → ℕ) where
    pub Takes-from : {allows : S → I → Type 0} (value : S) (past : Option (Knowledge S I)) (v w : Knowledge S I) → Enters installed front_of allows (before_of installed past v) (known past v).fronts value v w → Takes installed past v w
    Takes-from value past v w e = record { same = e.same; seen = e.seen }

    before_fits : (past : Option (Knowledge S I)) (now : Knowledge S I) → IsAhead past now → length (before_of installed past now) ≤ length now.installs
    before_fits (Some past) now h = omega (arith, h, length-first_of (value_at installed past) (suc (length past.installs)))
    before_fits None now h = h

    -- The invariant holds for a reader that has begun a look.
    pub IsLooking-taken : (past : Option (Knowledge S I)) (v w : Knowledge S I) → Takes installed past v w → IsBetweenLooks past v → IsLooking w
    IsLooking-taken past v w t h = let up : length v.installs ≤ length w.installs = StartsWith-length w.installs v.installs t.seen in record {
      fronts = subst AreFronts (sym t.same) (Rise-push 0 (known past v).fronts (length v.installs) (length w.installs) (IsBetweenLooks-rises past v h) up);
      before = omega (arith, up, before_fits past v h.ahead, ap (λ (k : Knowledge S I). length k.before) t.same);
    }

    pub Shows-from : Coded S → (value : S) (v : Knowledge S I) → ∥ Shows installed front_of value v ∥₁ → Shows installed front_of value v
    Shows-from code value v h = record {
      value_is = λ o e. ∥∥₁_elim h (Coded-set code _ _) (λ x. x.value_is o e);
      front_is = ∥∥₁_elim h (Coded-set coded_ℕ _ _) (λ x. x.front_is);
    }

    -- A look shows the value after the installs that the reader then knows.
    pub Shows-entered : {allows : S → I → Type 0} (before : List (Option S)) (fronts : List ℕ) (value : S) (v w : Knowledge S I) → Enters installed front_of allows before fronts value v w → Shows installed front_of value w
    Shows-entered before fronts value v w e = record { value_is = λ o is. e.value_is o (sym (ap (λ (k : Knowledge S I). k.opening) e.same) ∙ is); front_is = e.front_is }

    counted : ((s : S) (what : I) → front_of (installed s what) ≡ front_of s + 1) → (s : S) (given : List I) → front_of (fold installed s given) ≡ front_of s + length given
    counted counts s [] = sym (add-zero (front_of s))
    counted counts s (what ∷ given) = omega (arith, counted counts (installed s what) given, counts s what)

    -- After a publication, the writer shows the value after the longer list.
    pub Shows-published : ((s : S) (what : I) → front_of (installed s what) ≡ front_of s + 1) → (value next : S) (given : List I) (v : Knowledge S I)
        → Shows installed front_of value v → next ≡ fold installed value given → Shows installed front_of next (with_installs given v)
    Shows-published counts value next given v h is = record {
      value_is = λ o e. is ∙ ap (λ s. fold installed s given) (h.value_is o e) ∙ sym (fold-append installed o v.installs given);
      front_is = ap front_of is ∙ counted counts value given ∙ ap (λ (n : ℕ). n + length given) h.front_is ∙ sym (length-append v.installs given);
    }

-- ---- installs that the values before them allow

module _ {S I : Type 0} (installed : S → I → S) (allows : S → I → Type 0) where
  -- If the known installs are allowed, so are those of equal knowledge.
  pub KnowsAllowed-same : (v w : Knowledge S I) → w ≡ v → ∥ KnowsAllowed installed allows v ∥₁ → ∥ KnowsAllowed installed allows w ∥₁
  KnowsAllowed-same v w same h = subst (λ (k : Knowledge S I). ∥ KnowsAllowed installed allows k ∥₁) (sym same) h

  -- The installs are allowed for a reader that learned the list.
  pub KnowsAllowed-shared : (v w : Knowledge S I) → w ≡ shared_knowledge v → ∥ KnowsAllowed installed allows v ∥₁ → ∥ KnowsAllowed installed allows w ∥₁
  KnowsAllowed-shared v w same h = KnowsAllowed-same (shared_knowledge v) w same h

  -- A writer that has just learned the opening value knows no install, so all installs that it knows are allowed.
  pub KnowsAllowed-opened : (table : ℕ) (value : S) (v w : Knowledge S I) → v ≡ knows_nothing → Opens table value v w → ∥ KnowsAllowed installed allows w ∥₁
  KnowsAllowed-opened table value v w none opens =
      KnowsAllowed-same (knows_opening table value) w
      (opens ∙ (λ i. record { table = Some table; opening = Some value; installs = (none i).installs; before = (none i).before; fronts = (none i).fronts })) ∣ tt ∣₁

  -- `AreBothAllowed` (the installs that a reader saw and those that it continues from are allowed) for a reader that did not continue from
  -- a learned list.
  pub AreBothAllowed-alone : (late : Option (Knowledge S I)) (now : Knowledge S I) → late ≡ None → ∥ KnowsAllowed installed allows now ∥₁ → ∥ AreBothAllowed installed allows late now ∥₁
  AreBothAllowed-alone late now none h = subst (λ (o : Option (Knowledge S I)). ∥ AreBothAllowed installed allows o now ∥₁) (sym none)
      (∥∥₁_map h (λ (x : KnowsAllowed installed allows now). both x))
    where
      both : KnowsAllowed installed allows now → AreBothAllowed installed allows None now
      both x = record { seen = x; next = x }

  -- `AreBothAllowed` for a reader that continues from a learned list.
  pub AreBothAllowed-learned : (past : Option (Knowledge S I)) (now learned kept : Knowledge S I) → kept ≡ known past now → ∥ AreBothAllowed installed allows past now ∥₁
      → ∥ KnowsAllowed installed allows learned ∥₁ → ∥ AreBothAllowed installed allows (Some kept) learned ∥₁
  AreBothAllowed-learned past now learned kept is h more = ∥∥₁_map₂ h more both
    where
      both : AreBothAllowed installed allows past now → KnowsAllowed installed allows learned → AreBothAllowed installed allows (Some kept) learned
      both x y = record { seen = subst (λ (k : Knowledge S I). KnowsAllowed installed allows k) (sym is) x.seen; next = y }

  allowed_by : (opening : Option S) (list : List I) (value : S) (what : I) → is_some opening ≡ true → ((o : S) → opening ≡ Some o → value ≡ fold installed o list)
      → ((o : S) → opening ≡ Some o → allows (fold installed o list) what) → allows value what
  allowed_by None list value what there is may = absurd cc
  allowed_by (Some o) list value what there is may = subst (λ (s : S). allows s what) (sym (is o refl)) (may o refl)

  -- The value that is shown allows an install that may be published.
  pub MayPublish-allows : (v : Knowledge S I) (value : S) (what : I) → is_some v.opening ≡ true → ((o : S) → v.opening ≡ Some o → value ≡ fold installed o v.installs)
      → MayPublish installed allows v what → allows value what
  MayPublish-allows v value what there is may = allowed_by v.opening v.installs value what there is may

-- A result that is not an error satisfies the statement of its `Ok` case.
pub when_ok : {A B : Type 0} (r : Result A B) (P : Type 0) (Q : B → Type 0) → is_err r ≡ false → MatchResult r (λ _. P) Q → P
when_ok (Ok a) P Q fine h = h
when_ok (Err b) P Q fine h = absurd cc

pub at_ok : {A B : Type 0} (r : Result A B) (a : A) (P : A → Type 0) (Q : B → Type 0) → r ≡ Ok a → MatchResult r P Q → P a
at_ok {A = A} {B = B} r a P Q is h = subst (λ (z : Result A B). MatchResult z P Q) is h

pub at_some : {A : Type 0} (o : Option A) (a : A) (P : A → Type 0) → o ≡ Some a → ∥ IfSome o P ∥₁ → ∥ P a ∥₁
at_some {A = A} o a P is h = ∥∥₁_map h (λ (x : IfSome o P). subst (λ (z : Option A). IfSome z P) is x)

pub nat_from : (m n : ℕ) → ∥ m ≡ n ∥₁ → m ≡ n
nat_from m n h = ∥∥₁_elim h (Coded-set coded_ℕ _ _) (λ x. x)
