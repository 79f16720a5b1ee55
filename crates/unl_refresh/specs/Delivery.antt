-- What a turn delivers. A line has the history of changes of an environment in each of several rising epochs. If each batch that was
-- received for a slot was sent from the slot's line, then each version that was published represents the line of its slot.
use Rattle.std.specs.Prelude.{◌≡◌, ◌+◌, ℕ, Bool, All, List, [], ◌∷◌, ⊤, Some, IfSome, Ok}
use mathlib.Core.Logic.{inl, inr}
use Rattle.unl_delta.specs.declared.batch.Batch.{Batch}
use Rattle.unl_delta.specs.declared.version.Place.{Place}
use Rattle.unl_delta.specs.History.{Era, IsLine, IsSent, PlaceRepresents, RepresentsLine}
use Rattle.unl_delta.specs.Installing.{Installed, Publication, PublishedBook, PublishedVersion, place_of}
use Rattle.unl_delta.specs.View.{Sees}
use Rattle.unl_http_api.specs.declared.got.Got.{Got}
use Rattle.unl_refresh.specs.Exchange.{ReplyOrFault}
use Rattle.unl_refresh.specs.Refresh.{batch_in, number_held}
use Rattle.unl_refresh.specs.SlotParameters.{SlotParameters}
use Rattle.unl_refresh.specs.Turns.{MakesTurn, PollState, PollsSlotsFrom, StopsAtSlot, StopsFrom, StopsInTurn}

-- the line of each slot's environment, and the projects of the environment that are visible to the client
pub record SlotLines : Type 0 where
  pub line : ℕ → List Era
  pub sees : ℕ → Sees

-- The list of histories of each slot is a line.
abbrev pub AreSlotLines : SlotLines → Type 0
AreSlotLines lines = (slot : ℕ) → IsLine (lines.line slot)

-- If the publication is a version, it represents the line of its slot.
abbrev pub PublishesRevision : SlotLines → Publication → Type 0
PublishesRevision lines (PublishedVersion slot version) = RepresentsLine (lines.line slot) (lines.sees slot) version
PublishesRevision lines (PublishedBook book) = ⊤

-- The version of each place, if there is one, represents the line of its slot. So does each published version, if the publications are
-- observable.
pub record HasRevisions (lines : SlotLines) (now : Installed) : Type 0 where
  pub places : (slot : ℕ) → PlaceRepresents (lines.line slot) (lines.sees slot) (place_of now slot)
  pub published : IfSome now.publications (All (PublishesRevision lines))

-- The batch in what a request for a slot with this place received, if there is one, was sent from the line.
abbrev pub ReceivesSent : List Era → Sees → Bool → Place → ReplyOrFault → Type 0
ReceivesSent line sees delta place received =
    (got : Got) (batch : Batch) → received ≡ Some (Ok got) → got.status ≡ 200
    → batch_in delta (number_held place) got.body ≡ Ok batch → IsSent line sees batch

-- `ReceivesSent` is true of a slot's request.
abbrev pub SlotReceivesSent : SlotLines → ℕ → SlotParameters → PollState → ReplyOrFault → Type 0
SlotReceivesSent lines slot parameters before received =
    ReceivesSent (lines.line slot) (lines.sees slot) parameters.delta (place_of before.installed slot) received

-- Each batch that was received for one of the slots from `slot` on was sent from the slot's line.
abbrev pub AllReceiveSent : (lines : SlotLines) (slot : ℕ) (parameters : List SlotParameters) (before after : PollState)
    → PollsSlotsFrom slot parameters before after → Type 0
AllReceiveSent lines slot [] before after polls = ⊤
AllReceiveSent lines slot (parameters ∷ more) before after polls =
    SlotReceivesSent lines slot parameters before polls.1.1.received × AllReceiveSent lines (slot + 1) more polls.0 after polls.2

-- The same for a turn that stopped at this slot: a batch that was received for it before memory ran out was sent from its line.
abbrev pub StopReceivesSent : (lines : SlotLines) (slot : ℕ) (parameters : SlotParameters) (before after : PollState)
    → StopsAtSlot slot parameters before after → Type 0
StopReceivesSent lines slot parameters before after (inl none) = ⊤
StopReceivesSent lines slot parameters before after (inr stops) = SlotReceivesSent lines slot parameters before stops.1.received

-- The same for all slots from `slot` on that were polled before memory ran out, and the slot where it did.
abbrev pub FirstReceiveSent : (lines : SlotLines) (slot : ℕ) (parameters : List SlotParameters) (before after : PollState)
    → StopsFrom slot parameters before after → Type 0
FirstReceiveSent lines slot [] before after stops = ⊤
FirstReceiveSent lines slot (parameters ∷ more) before after (inl here) = StopReceivesSent lines slot parameters before after here
FirstReceiveSent lines slot (parameters ∷ more) before after (inr later) =
    SlotReceivesSent lines slot parameters before later.1.1.received × FirstReceiveSent lines (slot + 1) more later.0 after later.2

-- Each batch that was received in the turn was sent from the line of the slot that it was received for.
abbrev pub TurnReceivesSent : (lines : SlotLines) (texts : List (List ℕ)) (host : List ℕ) (parameters : List SlotParameters)
    (before after : PollState) → MakesTurn texts host parameters before after → Type 0
TurnReceivesSent lines texts host parameters before after turn = AllReceiveSent lines 0 parameters turn.0 after turn.2

-- The same for a turn that ended early because memory ran out.
abbrev pub StoppedTurnReceivesSent : (lines : SlotLines) (texts : List (List ℕ)) (host : List ℕ) (parameters : List SlotParameters)
    (before after : PollState) → StopsInTurn texts host parameters before after → Type 0
StoppedTurnReceivesSent lines texts host parameters before after (inl book) = ⊤
StoppedTurnReceivesSent lines texts host parameters before after (inr stops) =
    FirstReceiveSent lines 0 parameters stops.0 after stops.2
