-- The slots of a board, and the places that a desk keeps for them.
use Rattle.std.proofs.Common.{◌≡◌, ℕ, zero, suc, ◌+◌, Bool, true, false, cond, List, [], ◌∷◌, ◌++◌, Option, Some, None, refl, sym, ◌∙◌, subst, arith, unwrap_or}
use Rattle.std.specs.Prelude.{IfSome, slice_get, slice_set}
use Rattle.std.specs.List.{position_from}
use Rattle.unl_core.specs.declared.board.Slot.{Slot}
use Rattle.unl_core.specs.Board.{empty_slot, is_named, place_in, taking}
use Rattle.unl_core.specs.Histories.{AllRepresented, AreLines, Histories, RepresentedAt}
use Rattle.unl_core.specs.DeskStates.{DeskState, installed_by, is_added, with_slot, with_name}
use Rattle.unl_core.proofs.Same.{text_same}
use Rattle.unl_delta.specs.declared.batch.Batch.{Batch}
use Rattle.unl_delta.specs.declared.batch.Verdict.{Verdict}
use Rattle.unl_delta.specs.declared.batch.Verdict.TheVariants.{Apply, Repeat, Old, Gap, Held}
use Rattle.unl_delta.specs.declared.version.EnvVersion.{EnvVersion}
use Rattle.unl_delta.specs.declared.version.Place.{Place}
use Rattle.unl_delta.specs.Batch.{empty_place, next_version, verdict_of}
use Rattle.unl_delta.specs.History.{PreservesLines, IsSent, RepresentsLine}
use Rattle.unl_delta.specs.Installing.{place_of}
use Rattle.unl_delta.proofs.Delivery.{next_follows}
use Rattle.unl_replay.specs.Replay.{after_verdict}

-- each place has the version of its slot, and `P` holds for the slot's environment and this version
abbrev pub SlotsAre : (List ℕ → Option EnvVersion → Type 0) → List Slot → List Place → Type 0
SlotsAre P [] [] = Unit {0}
SlotsAre P [] (place ∷ places) = ⊥
SlotsAre P (slot ∷ slots) [] = ⊥
SlotsAre P (slot ∷ slots) (place ∷ places) = (place.version ≡ slot.snapshot) × P slot.environment slot.snapshot × SlotsAre P slots places

-- `SlotsAre` still holds after a new empty slot is added
pub slots_more : (P : List ℕ → Option EnvVersion → Type 0) (environment : List ℕ) (slots : List Slot) (places : List Place) → SlotsAre P slots places
    → P environment None → SlotsAre P (slots ++ empty_slot environment ∷ []) (places ++ empty_place ∷ [])
slots_more P environment [] [] all none = (refl, none, tt)
slots_more P environment [] (place ∷ places) all none = absurd all
slots_more P environment (slot ∷ slots) [] all none = absurd all
slots_more P environment (slot ∷ slots) (place ∷ places) all none = (all.0, all.1, slots_more P environment slots places all.2 none)

-- slot `i`, if there is one, belongs to the environment
abbrev IsOf : List ℕ → List Slot → ℕ → Type 0
IsOf environment slots i = IfSome (slice_get slots i) (λ slot. slot.environment ≡ environment)

-- `SlotsAre` still holds after a slot and its place get the same new version
slots_put : (P : List ℕ → Option EnvVersion → Type 0) (environment : List ℕ) (slots : List Slot) (places : List Place) (i : ℕ) (v : EnvVersion) (place : Place)
    → SlotsAre P slots places → IsOf environment slots i → place.version ≡ Some v → P environment (Some v)
    → SlotsAre P (taking i v slots) (slice_set places i place)
slots_put P environment [] [] i v place all named is holds = tt
slots_put P environment [] (p ∷ places) i v place all named is holds = absurd all
slots_put P environment (slot ∷ slots) [] i v place all named is holds = absurd all
slots_put P environment (slot ∷ slots) (p ∷ places) zero v place all named is holds =
    (is, subst (λ (e : List ℕ). P e (Some v)) (sym named) holds, all.2)
slots_put P environment (slot ∷ slots) (p ∷ places) (suc i) v place all named is holds =
    (all.0, all.1, slots_put P environment slots places i v place all.2 named is holds)

-- `SlotsAre` still holds after a place is replaced by one with the same version
slots_held : (P : List ℕ → Option EnvVersion → Type 0) (slots : List Slot) (places : List Place) (i : ℕ) (place : Place) → SlotsAre P slots places
    → place.version ≡ (unwrap_or (slice_get places i) empty_place).version → SlotsAre P slots (slice_set places i place)
slots_held P [] [] i place all same = tt
slots_held P [] (p ∷ places) i place all same = absurd all
slots_held P (slot ∷ slots) [] i place all same = absurd all
slots_held P (slot ∷ slots) (p ∷ places) zero place all same = (same ∙ all.0, all.1, all.2)
slots_held P (slot ∷ slots) (p ∷ places) (suc i) place all same = (all.0, all.1, slots_held P slots places i place all.2 same)

-- `P` holds for an environment and the version of the place of its slot
slots_at : (P : List ℕ → Option EnvVersion → Type 0) (environment : List ℕ) (slots : List Slot) (places : List Place) (i : ℕ) → SlotsAre P slots places
    → IsOf environment slots i → P environment None → P environment (unwrap_or (slice_get places i) empty_place).version
slots_at P environment [] [] i all named none = none
slots_at P environment [] (p ∷ places) i all named none = absurd all
slots_at P environment (slot ∷ slots) [] i all named none = absurd all
slots_at P environment (slot ∷ slots) (p ∷ places) zero all named none =
    subst (λ (o : Option EnvVersion). P environment o) (sym all.0) (subst (λ (e : List ℕ). P e slot.snapshot) named all.1)
slots_at P environment (slot ∷ slots) (p ∷ places) (suc i) all named none = slots_at P environment slots places i all.2 named none

-- a slot has the version of its place
pub version_at : (P : List ℕ → Option EnvVersion → Type 0) (slots : List Slot) (places : List Place) (i : ℕ) → SlotsAre P slots places
    → IfSome (slice_get slots i) (λ slot. (unwrap_or (slice_get places i) empty_place).version ≡ slot.snapshot)
version_at P [] [] i all = tt
version_at P [] (p ∷ places) i all = absurd all
version_at P (slot ∷ slots) [] i all = absurd all
version_at P (slot ∷ slots) (p ∷ places) zero all = all.0
version_at P (slot ∷ slots) (p ∷ places) (suc i) all = version_at P slots places i all.2

same_number : (n r : ℕ) → Some n ≡ Some r → n ≡ r
same_number n r same = cc

-- the slot that a lookup finds belongs to the environment
found_from : (environment : List ℕ) (n : ℕ) (slots : List Slot) (r : ℕ) → position_from (is_named environment) n slots ≡ Some r
    → (j : ℕ) × (r ≡ j + n) × IsOf environment slots j
found_from environment n [] r is = absurd cc
found_from environment n (slot ∷ slots) r is = decided (is_named environment slot) refl is (found_from environment (n + 1) slots r)
  where
    decided : (t : Bool) → is_named environment slot ≡ t → cond t (Some n) (position_from (is_named environment) (n + 1) slots) ≡ Some r
        → (position_from (is_named environment) (n + 1) slots ≡ Some r → (j : ℕ) × (r ≡ j + (n + 1)) × IsOf environment slots j)
        → (j : ℕ) × (r ≡ j + n) × IsOf environment (slot ∷ slots) j
    decided true named so more = (0, omega (arith, same_number n r so), text_same slot.environment environment named)
    decided false named so more =
        let at : (j : ℕ) × (r ≡ j + (n + 1)) × IsOf environment slots j = more so in
        (suc at.0, omega (arith, at.1), at.2)

found : (environment : List ℕ) (slots : List Slot) (slot : ℕ) → place_in environment slots ≡ Some slot → IsOf environment slots slot
found environment slots slot is =
    let at : (j : ℕ) × (slot ≡ j + 0) × IsOf environment slots j = found_from environment 0 slots slot is in
    subst (IsOf environment slots) (omega (arith, at.1)) at.2

-- ---- a desk

-- `SlotsAre` for the slots and places of a desk
abbrev pub DeskIs : (List ℕ → Option EnvVersion → Type 0) → DeskState → Type 0
DeskIs P d = SlotsAre P d.board.slots d.places

-- `DeskIs` still holds after an environment gets its slot
pub desk_named : (P : List ℕ → Option EnvVersion → Type 0) (environment : List ℕ) (d : DeskState) → DeskIs P d → P environment None
    → DeskIs P (with_name environment d)
desk_named P environment d all none = decided (is_added environment d.board.slots)
  where
    decided : (t : Bool) → DeskIs P (cond t (with_slot environment d) d)
    decided true = slots_more P environment d.board.slots d.places all none
    decided false = all

-- `DeskIs` still holds after a slot takes a batch with this verdict
pub desk_after : (P : List ℕ → Option EnvVersion → Type 0) (environment : List ℕ) (slot : ℕ) (batch : Batch) (d : DeskState) (verdict : Verdict) → DeskIs P d
    → place_in environment d.board.slots ≡ Some slot
    → (verdict ≡ Apply → P environment (Some (next_version (place_of (installed_by d) slot) batch)))
    → DeskIs P (after_verdict verdict slot batch d)
desk_after P environment slot batch d Apply all named holds =
    let v : EnvVersion = next_version (place_of (installed_by d) slot) batch in
    slots_put P environment d.board.slots d.places slot v (record { version = Some v; held = false }) all (found environment d.board.slots slot named) refl (holds refl)
desk_after P environment slot batch d Gap all named holds =
    slots_held P d.board.slots d.places slot (record { version = (place_of (installed_by d) slot).version; held = true }) all refl
desk_after P environment slot batch d Repeat all named holds = all
desk_after P environment slot batch d Old all named holds = all
desk_after P environment slot batch d Held all named holds = all

-- ---- slots that represent lines of histories

-- each version on the desk represents the line of histories of its environment
abbrev pub DeskRepresents : Histories → DeskState → Type 0
DeskRepresents histories d = DeskIs (RepresentedAt histories) d

pub all_represented : (histories : Histories) (slots : List Slot) (places : List Place) → SlotsAre (RepresentedAt histories) slots places
    → AllRepresented histories slots
all_represented histories [] [] all = tt
all_represented histories [] (place ∷ places) all = absurd all
all_represented histories (slot ∷ slots) [] all = absurd all
all_represented histories (slot ∷ slots) (place ∷ places) all = (all.1, all_represented histories slots places all.2)

-- `DeskRepresents` still holds after an environment takes a batch that was sent from its line
pub verdict_represents : (histories : Histories) (environment : List ℕ) (slot : ℕ) (batch : Batch) (d : DeskState) (verdict : Verdict) → AreLines histories
    → DeskRepresents histories d → place_in environment d.board.slots ≡ Some slot → IsSent (histories.line environment) (histories.sees environment) batch
    → verdict_of (place_of (installed_by d) slot) batch ≡ verdict → DeskRepresents histories (after_verdict verdict slot batch d)
verdict_represents histories environment slot batch d verdict lines all named sent is =
    desk_after (RepresentedAt histories) environment slot batch d verdict all named (λ applies. represents (is ∙ applies))
  where
    represents : verdict_of (place_of (installed_by d) slot) batch ≡ Apply
        → RepresentsLine (histories.line environment) (histories.sees environment) (next_version (place_of (installed_by d) slot) batch)
    represents applies =
        let v : EnvVersion = next_version (place_of (installed_by d) slot) batch in
        let follows : PreservesLines (place_of (installed_by d) slot).version batch (Some v) = next_follows (place_of (installed_by d) slot) batch v applies refl in
        follows.represents (histories.line environment) (histories.sees environment) (lines environment)
        (slots_at (RepresentedAt histories) environment d.board.slots d.places slot all (found environment d.board.slots slot named) tt) sent
