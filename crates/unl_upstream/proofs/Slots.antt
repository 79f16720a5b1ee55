-- The slots of an upstream, and the version of an environment in them.
use Rattle.std.proofs.Common.{◌≡◌, ℕ, zero, suc, ◌≤◌, ◌+◌, List, [], ◌∷◌, length, Bool, true, false, cond, Option, Some, map, All, ap, refl, sym, subst, ◌∙◌, arith}
use Rattle.std.specs.Prelude.{◌||◌, find, is_some, nat_le, nat_lt, option_and_then}
use Rattle.std.specs.List.{list_all, list_any, position_from}
use Rattle.std.proofs.lemmas.Bool.Decides.{nat_tests}
use Rattle.std.proofs.lemmas.List.{length-map}
use Rattle.std.proofs.lemmas.List.Elements.{All-cons, All-head, All-nil, All-tail}
use Rattle.std.proofs.lemmas.Option.{none-some, same_Some}
use Rattle.unl_core.specs.declared.board.Slot.{Slot}
use Rattle.unl_core.specs.Board.{AreDifferent, AreSlots, is_named, names_of, same_text, place_in, snapshot_in, taking}
use Rattle.unl_core.proofs.Same.{text_same}
use Rattle.unl_core.proofs.Slots.{names_kept}
use Rattle.unl_tokens.proofs.Same.{and_parts}
use Rattle.unl_delta.specs.declared.version.EnvVersion.{EnvVersion}
use Rattle.unl_delta.specs.Batch.{empty_at}
use Rattle.unl_documents.specs.Limits.{IsName}
use Rattle.unl_documents.specs.Texts.{is_name}
use Rattle.unl_upstream.specs.Upstream.{AreNamed, opening_slot}

-- the version of a slot, if one was found
abbrev version_of : Option Slot → Option EnvVersion
version_of found = option_and_then (λ slot. slot.snapshot) found

-- the slot with this version
abbrev with_version : Slot → EnvVersion → Slot
with_version slot v = record slot { snapshot = Some v }

-- ---- the initial slots

names_of-opening : (epoch : ℕ) (names : List (List ℕ)) → names_of (map (opening_slot epoch) names) ≡ names
names_of-opening epoch [] = refl
names_of-opening epoch (x ∷ xs) = ap (λ names. x ∷ names) (names_of-opening epoch xs)

-- the initial slots of at most eight different names are valid slots
pub slots_opened : (epoch : ℕ) (slots : List Slot) (names : List (List ℕ)) → slots ≡ map (opening_slot epoch) names → length names ≤ 8 → AreDifferent names → AreSlots slots
slots_opened epoch slots names are few different =
    subst AreSlots (sym are) (record {
      few = omega (arith, length-map names (opening_slot epoch));
      different = subst AreDifferent (sym (names_of-opening epoch names)) different;
    })

-- each initial slot has an empty version
pub opened_empty : (epoch : ℕ) (environment : List ℕ) (names : List (List ℕ)) (v : EnvVersion) → snapshot_in environment (map (opening_slot epoch) names) ≡ Some v → v ≡ empty_at epoch
opened_empty epoch environment [] v is = absurd (none-some v is)
opened_empty epoch environment (x ∷ xs) v is = decided (same_text x environment) is (opened_empty epoch environment xs v)
  where
    decided : (t : Bool) → version_of (cond t (Some (opening_slot epoch x)) (find (is_named environment) (map (opening_slot epoch) xs))) ≡ Some v
        → (snapshot_in environment (map (opening_slot epoch) xs) ≡ Some v → v ≡ empty_at epoch) → v ≡ empty_at epoch
    decided true found others = sym (same_Some (empty_at epoch) v found)
    decided false more others = others more

-- the environments of the initial slots are the given names
pub opened_names : (epoch : ℕ) (environment : List ℕ) (names : List (List ℕ))
    → is_some (snapshot_in environment (map (opening_slot epoch) names)) ≡ list_any (λ name. same_text name environment) names
opened_names epoch environment [] = refl
opened_names epoch environment (x ∷ xs) = decided (same_text x environment) (opened_names epoch environment xs)
  where
    decided : (t : Bool) → is_some (snapshot_in environment (map (opening_slot epoch) xs)) ≡ list_any (λ name. same_text name environment) xs
        → is_some (version_of (cond t (Some (opening_slot epoch x)) (find (is_named environment) (map (opening_slot epoch) xs)))) ≡ (t || list_any (λ name. same_text name environment) xs)
    decided true others = refl
    decided false others = others

-- ---- after a version was published

-- a position found from n on is at least n
not_before : (test : Slot → Bool) (n j : ℕ) (slots : List Slot) → position_from test n slots ≡ Some j → n ≤ j
not_before test n j [] is = absurd (none-some j is)
not_before test n j (x ∷ xs) is = decided (test x) is (not_before test (n + 1) j xs)
  where
    decided : (t : Bool) → cond t (Some n) (position_from test (n + 1) xs) ≡ Some j → (position_from test (n + 1) xs ≡ Some j → n + 1 ≤ j) → n ≤ j
    decided true found others = let same : n ≡ j = same_Some n j found in omega arith
    decided false more others = let above : n + 1 ≤ j = others more in omega arith

-- the environment whose slot was replaced has the new version
pub slot_replaced : (environment : List ℕ) (n k : ℕ) (slots : List Slot) (v : EnvVersion) → position_from (is_named environment) n slots ≡ Some (k + n)
    → snapshot_in environment (taking k v slots) ≡ Some v
slot_replaced environment n k [] v is = absurd (none-some (k + n) is)
slot_replaced environment n zero (x ∷ xs) v is = decided (is_named environment x) is
  where
    decided : (t : Bool) → cond t (Some n) (position_from (is_named environment) (n + 1) xs) ≡ Some (zero + n)
        → version_of (cond t (Some (with_version x v)) (find (is_named environment) xs)) ≡ Some v
    decided true found = refl
    decided false more = let above : n + 1 ≤ zero + n = not_before (is_named environment) (n + 1) (zero + n) xs more in absurd (omega arith)
slot_replaced environment n (suc k) (x ∷ xs) v is = decided (is_named environment x) is (slot_replaced environment (n + 1) k xs v)
  where
    decided : (t : Bool) → cond t (Some n) (position_from (is_named environment) (n + 1) xs) ≡ Some (suc k + n)
        → (position_from (is_named environment) (n + 1) xs ≡ Some (k + (n + 1)) → snapshot_in environment (taking k v xs) ≡ Some v)
        → version_of (cond t (Some x) (find (is_named environment) (taking k v xs))) ≡ Some v
    decided true found others = let same : n ≡ suc k + n = same_Some n (suc k + n) found in absurd (omega arith)
    decided false more others = others (more ∙ ap Some (omega arith))

-- a name cannot be equal to two different names
not_both : (name environment other : List ℕ) → same_text name environment ≡ true → same_text environment other ≡ false → same_text name other ≡ false
not_both name environment other here apart = ap (λ (text : List ℕ). same_text text other) (text_same name environment here) ∙ apart

-- every other environment keeps its version
pub other_slot_same : (environment other : List ℕ) (n k : ℕ) (slots : List Slot) (v : EnvVersion) → position_from (is_named environment) n slots ≡ Some (k + n)
    → same_text environment other ≡ false → snapshot_in other (taking k v slots) ≡ snapshot_in other slots
other_slot_same environment other n k [] v is apart = absurd (none-some (k + n) is)
other_slot_same environment other n zero (x ∷ xs) v is apart = decided (is_named environment x) refl is
  where
    decided : (t : Bool) → is_named environment x ≡ t → cond t (Some n) (position_from (is_named environment) (n + 1) xs) ≡ Some (zero + n)
        → snapshot_in other (taking zero v (x ∷ xs)) ≡ snapshot_in other (x ∷ xs)
    decided true here found = rw (not_both x.environment environment other here apart) refl
    decided false here more = let above : n + 1 ≤ zero + n = not_before (is_named environment) (n + 1) (zero + n) xs more in absurd (omega arith)
other_slot_same environment other n (suc k) (x ∷ xs) v is apart = decided (is_named environment x) is (λ more. other_slot_same environment other (n + 1) k xs v more apart)
  where
    more_kept : (t : Bool) → snapshot_in other (taking k v xs) ≡ snapshot_in other xs
        → version_of (cond t (Some x) (find (is_named other) (taking k v xs))) ≡ version_of (cond t (Some x) (find (is_named other) xs))
    more_kept true same = refl
    more_kept false same = same

    decided : (t : Bool) → cond t (Some n) (position_from (is_named environment) (n + 1) xs) ≡ Some (suc k + n)
        → (position_from (is_named environment) (n + 1) xs ≡ Some (k + (n + 1)) → snapshot_in other (taking k v xs) ≡ snapshot_in other xs)
        → snapshot_in other (taking (suc k) v (x ∷ xs)) ≡ snapshot_in other (x ∷ xs)
    decided true found others = let same : n ≡ suc k + n = same_Some n (suc k + n) found in absurd (omega arith)
    decided false more others = more_kept (is_named other x) (others (more ∙ ap Some (omega arith)))

-- ---- the names of the slots' environments

within : (name : List ℕ) → is_name name ≡ true → IsName name
within name is =
    and_parts (nat_lt 0 (length name)) (nat_le (length name) 255) is (λ some few. (grind (arith, nat_tests, some), grind (arith, nat_tests, few)))

all_within : (names : List (List ℕ)) → list_all is_name names ≡ true → All IsName names
all_within [] is = All-nil IsName
all_within (x ∷ xs) is = and_parts (is_name x) (list_all is_name xs) is (λ first others. All-cons IsName x xs (within x first) (all_within xs others))

-- the environments of the initial slots of valid names have names within the limits
pub named_opened : (epoch : ℕ) (slots : List Slot) (names : List (List ℕ)) → slots ≡ map (opening_slot epoch) names → list_all is_name names ≡ true → AreNamed slots
named_opened epoch slots names are named =
    subst AreNamed (sym are) (subst (All IsName) (sym (names_of-opening epoch names)) (all_within names named))

-- publishing a version changes no name
pub named_after : (slot : ℕ) (v : EnvVersion) (slots slots_after : List Slot) → AreNamed slots → slots_after ≡ taking slot v slots → AreNamed slots_after
named_after slot v slots slots_after named are = subst AreNamed (sym are) (subst (All IsName) (sym (names_kept slot v slots)) named)

named_from : (environment : List ℕ) (n k : ℕ) (slots : List Slot) → AreNamed slots → position_from (is_named environment) n slots ≡ Some k → IsName environment
named_from environment n k [] named is = absurd (none-some k is)
named_from environment n k (x ∷ xs) named is = decided (is_named environment x) refl is (named_from environment (n + 1) k xs (All-tail IsName x.environment (names_of xs) named))
  where
    decided : (t : Bool) → is_named environment x ≡ t → cond t (Some n) (position_from (is_named environment) (n + 1) xs) ≡ Some k
        → (position_from (is_named environment) (n + 1) xs ≡ Some k → IsName environment) → IsName environment
    decided true here found others =
        subst IsName (text_same x.environment environment here) (All-head IsName x.environment (names_of xs) named)
    decided false here more others = others more

-- an existing environment has a name within the limits
pub named_at : (environment : List ℕ) (slot : ℕ) (slots : List Slot) → AreNamed slots → place_in environment slots ≡ Some slot → IsName environment
named_at environment slot slots named is = named_from environment 0 slot slots named is
