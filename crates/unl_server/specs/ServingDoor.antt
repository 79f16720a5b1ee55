-- Serving the links of a door, one after another. The coming draws (a time and a random word each) are those that the next requests take.
-- `Serves before coming link link_after after coming_after` is the effect of serving one link: the server and the coming draws before,
-- the link before and after, the server and the coming draws after.
use Rattle.std.specs.Prelude.{◌≡◌, ℕ, zero, suc, Bool, Result, Ok, Err}
use Rattle.unl_base.specs.declared.Failed.{Failed}
use Rattle.unl_base.specs.Doors.{DoorState, IsFresh, IsOpenDoor, handing_out, taking_back}
use Rattle.unl_server.specs.declared.door.LinkOutcome.{LinkOutcome}
use Rattle.unl_server.specs.declared.door.LinkOutcome.TheVariants.{Served, Closed}
use Rattle.unl_server.specs.Handling.{Coming}
use Rattle.unl_server.specs.Links.{LinkView}

-- the server, the coming draws, and the door
pub record ServerAndDoor (S : Type 0) : Type 0 where
  pub server : S
  pub coming : Coming
  pub door : DoorState

-- the `ServerAndDoor` of this server, these coming draws and this state of a door
abbrev pub server_and_door : {S : Type 0} → S → Coming → DoorState → ServerAndDoor S
server_and_door server coming door = record { server = server; coming = coming; door = door }

-- a link was handed out, served and returned; `closed` says whether the door was closed once it had handed the link out
pub record ServesDoorLink
    {S : Type 0} (Serves : S → Coming → LinkView → LinkView → S → Coming → Type 0) (before after : ServerAndDoor S) : Type 0 where
  pub link : LinkView
  pub link_after : LinkView
  pub closed : Bool
  pub is_open : IsOpenDoor before.door
  pub fresh : IsFresh before.door link.left link.sent link.faults
  pub served : Serves before.server before.coming link link_after after.server after.coming
  pub door : after.door ≡ taking_back link_after.sent link_after.faults (handing_out closed before.door)

-- `n` links were handed out, served and returned, one after another
abbrev pub ServesDoorLinks :
    {S : Type 0} → (S → Coming → LinkView → LinkView → S → Coming → Type 0) → ℕ → ServerAndDoor S → ServerAndDoor S → Type 0
ServesDoorLinks Serves zero before after = after ≡ before
ServesDoorLinks {S} Serves (suc n) before after =
    (middle : ServerAndDoor S) × ServesDoorLinks Serves n before middle × ServesDoorLink Serves middle after

-- one link was served; if the door is closed or failed, none was, and nothing changed
abbrev pub ServesNextLink :
    {S : Type 0} → (S → Coming → LinkView → LinkView → S → Coming → Type 0) → Result LinkOutcome Failed
    → ServerAndDoor S → ServerAndDoor S → Type 0
ServesNextLink Serves (Ok Served) before after = ServesDoorLink Serves before after
ServesNextLink Serves (Ok Closed) before after = after ≡ before
ServesNextLink Serves (Err failed) before after = after ≡ before

-- If the door closed, the result is the number of links that were served. If the door failed, some number of links was served before.
abbrev pub ServesDoor :
    {S : Type 0} → (S → Coming → LinkView → LinkView → S → Coming → Type 0) → Result ℕ Failed
    → ServerAndDoor S → ServerAndDoor S → Type 0
ServesDoor Serves (Ok served) before after = ServesDoorLinks Serves served before after
ServesDoor Serves (Err failed) before after = (served : ℕ) × ServesDoorLinks Serves served before after
