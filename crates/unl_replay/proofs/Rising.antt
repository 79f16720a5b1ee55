-- No line of a replay replaces the version of an environment by an older one.
use Rattle.std.proofs.Common.{◌≡◌, ℕ, zero, suc, List, [], ◌∷◌, ◌++◌, Bool, true, false, cond, Option, Some, None, subst, unwrap_or}
use Rattle.std.specs.Prelude.{IfSome, find, option_and_then, slice_get}
use Rattle.unl_core.specs.Board.{empty_slot, is_named, snapshot_in, taking}
use Rattle.unl_core.specs.DeskStates.{DeskState, installed_by, is_added, with_name, with_slot}
use Rattle.unl_core.specs.declared.board.Slot.{Slot}
use Rattle.unl_delta.specs.Batch.{empty_place, next_version, verdict_of}
use Rattle.unl_delta.specs.History.{IsNotBelow}
use Rattle.unl_delta.specs.Installing.{place_of}
use Rattle.unl_delta.specs.declared.batch.Batch.{Batch}
use Rattle.unl_delta.specs.declared.batch.Verdict.{Verdict}
use Rattle.unl_delta.specs.declared.batch.Verdict.TheVariants.{Apply, Repeat, Old, Gap, Held}
use Rattle.unl_delta.specs.declared.version.EnvVersion.{EnvVersion}
use Rattle.unl_delta.proofs.NotBelow.{next_not_below, not_below_both, not_below_itself}
use Rattle.unl_replay.specs.Replay.{after_verdict}
use Rattle.unl_replay.proofs.LineSteps.{Leads}
use Rattle.unl_replay.proofs.Slots.{DeskIs, desk_after, desk_named, version_at}

-- ---- the version of an environment

-- the version of a slot, if there is a slot with a version
abbrev version_of : Option Slot → Option EnvVersion
version_of slot = option_and_then (λ s. s.snapshot) slot

-- if a slot gets a version that is not older, no environment gets an older version
put_rises : (e : List ℕ) (slots : List Slot) (i : ℕ) (v : EnvVersion) → IfSome (slice_get slots i) (λ slot. IsNotBelow slot.snapshot (Some v))
    → IsNotBelow (snapshot_in e slots) (snapshot_in e (taking i v slots))
put_rises e [] i v up = tt
put_rises e (slot ∷ slots) zero v up = decided (is_named e slot)
  where
    decided : (t : Bool) → IsNotBelow (version_of (cond t (Some slot) (find (is_named e) slots)))
        (version_of (cond t (Some (record slot { snapshot = Some v })) (find (is_named e) slots)))
    decided true = up
    decided false = not_below_itself (version_of (find (is_named e) slots))
put_rises e (slot ∷ slots) (suc i) v up = later (is_named e slot) (put_rises e slots i v up)
  where
    later : (t : Bool) → IsNotBelow (snapshot_in e slots) (snapshot_in e (taking i v slots)) → IsNotBelow (version_of (cond t (Some slot) (find (is_named e) slots)))
        (version_of (cond t (Some slot) (find (is_named e) (taking i v slots))))
    later true others = not_below_itself slot.snapshot
    later false others = others

-- a new empty slot makes no version older
more_rises : (e environment : List ℕ) (slots : List Slot) → IsNotBelow (snapshot_in e slots) (snapshot_in e (slots ++ empty_slot environment ∷ []))
more_rises e environment [] = tt
more_rises e environment (slot ∷ slots) = decided (is_named e slot) (more_rises e environment slots)
  where
    decided : (t : Bool) → IsNotBelow (snapshot_in e slots) (snapshot_in e (slots ++ empty_slot environment ∷ [])) → IsNotBelow (version_of (cond t (Some slot) (find (is_named e) slots)))
        (version_of (cond t (Some slot) (find (is_named e) (slots ++ empty_slot environment ∷ []))))
    decided true others = not_below_itself slot.snapshot
    decided false others = others

-- ---- a line

-- the condition that every version meets
abbrev pub AnyVersion : List ℕ → Option EnvVersion → Type 0
AnyVersion environment version = Unit {0}

-- each place has the version of its slot
abbrev pub Agrees : DeskState → Type 0
Agrees d = DeskIs AnyVersion d

-- the version of an environment does not get older
abbrev pub RisesAt : List ℕ → DeskState → DeskState → Type 0
RisesAt e d after = IsNotBelow (snapshot_in e d.board.slots) (snapshot_in e after.board.slots)

-- each place still has the version of its slot, and no version got older
abbrev pub Rises : DeskState → DeskState → Type 0
Rises d after = Agrees after × ((e : List ℕ) → RisesAt e d after)

-- giving an environment a slot makes no version older
name_rises : (e environment : List ℕ) (d : DeskState) → RisesAt e d (with_name environment d)
name_rises e environment d = decided (is_added environment d.board.slots)
  where
    decided : (t : Bool) → RisesAt e d (cond t (with_slot environment d) d)
    decided true = more_rises e environment d.board.slots
    decided false = not_below_itself (snapshot_in e d.board.slots)

-- a version that is not older than that of a place is not older than that of its slot
at_its_slot : (d : DeskState) (i : ℕ) (v : EnvVersion) → Agrees d → IsNotBelow (place_of (installed_by d) i).version (Some v)
    → IfSome (slice_get d.board.slots i) (λ slot. IsNotBelow slot.snapshot (Some v))
at_its_slot d i v agrees up = of_slot (slice_get d.board.slots i) (version_at AnyVersion d.board.slots d.places i agrees)
  where
    of_slot : (o : Option Slot) → IfSome o (λ slot. (unwrap_or (slice_get d.places i) empty_place).version ≡ slot.snapshot)
        → IfSome o (λ slot. IsNotBelow slot.snapshot (Some v))
    of_slot None same = tt
    of_slot (Some slot) same = subst (λ (o : Option EnvVersion). IsNotBelow o (Some v)) same up

-- the effect of a batch with this verdict makes no version older
verdict_rises : (e : List ℕ) (slot : ℕ) (batch : Batch) (d : DeskState) (verdict : Verdict) → Agrees d
    → verdict_of (place_of (installed_by d) slot) batch ≡ verdict → RisesAt e d (after_verdict verdict slot batch d)
verdict_rises e slot batch d Apply agrees is =
    let v : EnvVersion = next_version (place_of (installed_by d) slot) batch in
    put_rises e d.board.slots slot v (at_its_slot d slot v agrees (next_not_below (place_of (installed_by d) slot) batch is))
verdict_rises e slot batch d Gap agrees is = not_below_itself (snapshot_in e d.board.slots)
verdict_rises e slot batch d Repeat agrees is = not_below_itself (snapshot_in e d.board.slots)
verdict_rises e slot batch d Old agrees is = not_below_itself (snapshot_in e d.board.slots)
verdict_rises e slot batch d Held agrees is = not_below_itself (snapshot_in e d.board.slots)

-- no change that a line may make makes a version older
pub leads_up : (d : DeskState) → Agrees d → Leads d (λ delivery. Unit {0}) (Rises d)
leads_up d agrees = record {
  same = (agrees, λ e. not_below_itself (snapshot_in e d.board.slots));
  book = λ tokens. (agrees, λ e. not_below_itself (snapshot_in e d.board.slots));
  batch = λ environment batch brings slot named verdict is.
      let now : DeskState = with_name environment d in
      let agrees_now : Agrees now = desk_named AnyVersion environment d agrees tt in (
        desk_after AnyVersion environment slot batch now verdict agrees_now named (λ applies. tt),
        λ e. not_below_both (snapshot_in e d.board.slots) (snapshot_in e now.board.slots)
            (snapshot_in e (after_verdict verdict slot batch now).board.slots) (name_rises e environment d)
            (verdict_rises e slot batch now verdict agrees_now is),
      );
}
