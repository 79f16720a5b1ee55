-- How a run of an upstream ends. First the upstream is reopened: it applies the commands that its keeper has stored, one in each row.
-- Then it takes the commands of its input's lines. Then it serves the links (connections) that its door (a listener) hands out.
use Rattle.std.specs.Prelude.{◌≡◌, ◌≢◌, ℕ, List, [], ◌++◌, Option, Some, Ok, Err, option_and_then, option_map}
use Rattle.unl_base.specs.Doors.{ServedOnlyAt, DoorState, IsClosedAt}
use Rattle.unl_base.specs.Faults.{Rose}
use Rattle.unl_base.specs.Streams.{HasEnded, Sends, SendsPrefix, Takes}
use Rattle.unl_input.specs.Lines.{lines}
use Rattle.unl_input.specs.Refusal.{WritesLine}
use Rattle.unl_input.specs.Taken.{done, lines_outcome}
use Rattle.unl_input.specs.Whole.{TakesLines}
use Rattle.unl_input.specs.declared.taking.LinesFault.TheVariants as line
use Rattle.unl_keeper.specs.State.{KeeperState, MakerState, kept_rows}
use Rattle.unl_server.specs.Handling.{Coming}
use Rattle.unl_server.specs.Linked.{ServesLinks, linking}
use Rattle.unl_upstream.specs.Ends.{connections_line, row_line}
use Rattle.unl_upstream.specs.Kept.{AttemptsPreserve, KeptState, acknowledged, kept_commands, kept_state}
use Rattle.unl_upstream.specs.KeptLines.{SpellKept, keeping, kept_lines_of}
use Rattle.unl_upstream.specs.KeptLinks.{ServesKeptLinks, LinkServed, AllLinksEffect, NoKeeperFaults}
use Rattle.unl_upstream.specs.Reopening.{IsOpening, IsSameKeeper, Reopens}
use Rattle.unl_upstream.specs.Upstream.{UpstreamState}
use Rattle.unl_upstream.specs.declared.command.Command.{Command}
use Rattle.unl_upstream.specs.declared.ends.ServingEnd.{ServingEnd}
use Rattle.unl_upstream.specs.declared.ends.ServingEnd.TheVariants.{Closed, WriteFault, DoorFault, OutOfMemory}
use Rattle.unl_upstream.specs.declared.ends.UpstreamEnd.{UpstreamEnd}
use Rattle.unl_upstream.specs.declared.ends.UpstreamEnd.TheVariants.{OutOfMemory as NoMemory, KeeperFault, Row, Lines, Links}
use Rattle.unl_upstream.specs.declared.reopening.ReopenFault.{ReopenFault}
use Rattle.unl_upstream.specs.declared.reopening.ReopenFault.TheVariants.{BadRow, NoRow, Fault, Memory}

-- ---- what is written and served

-- what an upstream has sent to its output (`None` if not observable), its door, and the draws to come
pub record UpstreamFacing : Type 0 where
  pub sent : Option (List ℕ)
  pub door : DoorState
  pub coming : Coming

-- a constructor of `UpstreamFacing`
abbrev pub upstream_facing : Option (List ℕ) → DoorState → Coming → UpstreamFacing
upstream_facing sent door coming = record { sent = sent; door = door; coming = coming }

-- nothing was sent, and the door is unchanged
pub record IsUntouched (before after : UpstreamFacing) : Type 0 where
  pub silent : after.sent ≡ before.sent
  pub shut : after.door ≡ before.door

-- ---- the links

-- `served` links were served by an upstream and its keeper. Whether or not the door's links are observable, the upstream and the
-- keeper changed only by attempts to keep commands.
pub record ServesUpstreamLinks (state last : KeptState) (before after : UpstreamFacing) (served : ℕ) : Type 0 where
  pub serves_links : ServesKeptLinks (linking state before.coming before.door) (linking last after.coming after.door) served
  pub carries : AttemptsPreserve state last

-- How serving ends at a door that is to listen at this port. If the door failed, nothing was sent; the door either listened there once, or
-- it never listened and no link was served. Otherwise it listened there once and was closed, and the connections line was sent: all of it,
-- a prefix if a write failed, or nothing if memory ran out.
abbrev pub UpstreamLinksEnd : KeptState → ℕ → ServingEnd → KeptState → UpstreamFacing → UpstreamFacing → Type 0
UpstreamLinksEnd state port Closed last before after =
    (served : ℕ) × ServesUpstreamLinks state last before after served × Sends before.sent (connections_line served) after.sent
    × IsClosedAt port before.door after.door
UpstreamLinksEnd state port WriteFault last before after =
    (served : ℕ) × ServesUpstreamLinks state last before after served × SendsPrefix before.sent (connections_line served) after.sent
    × IsClosedAt port before.door after.door
UpstreamLinksEnd state port DoorFault last before after =
    (served : ℕ) × ServesUpstreamLinks state last before after served × ServedOnlyAt port served before.door after.door
    × (after.sent ≡ before.sent)
UpstreamLinksEnd state port OutOfMemory last before after =
    (served : ℕ) × ServesUpstreamLinks state last before after served × (after.sent ≡ before.sent) × IsClosedAt port before.door after.door

-- What the links of a door did, if they are observable: which commands each link added, and which draws (times and random words) it used.
-- The commands are counted from `opened`, the state after reopening. The first link is served after the commands of the
-- lines, and each link adds the commands of its requests that were kept. So the keeper keeps all of these commands, after those that it
-- had when it was opened. If the keeper never failed, no reply is 503 `KeeperFault`.
pub record NamesUpstreamLinks
    (opened : KeptState) (commands : List Command) (kept last : KeptState) (before after : UpstreamFacing) (served : ℕ)
    (links : List (List ℕ)) (returned : List (List ℕ × ℕ)) : Type 0 where
  pub serves : ServesLinks LinkServed (linking kept before.coming before.door) (linking last after.coming after.door) served links
      returned
  pub names : AllLinksEffect opened.up opened.keeper.count before.coming commands 0 kept serves.given_links serves.backs last after.coming
  pub keeps : kept_commands last.keeper ≡ option_map (λ kept. kept ++ names.commands_after) (kept_commands opened.keeper)
  pub no_faults : last.keeper.faults ≡ 0 → NoKeeperFaults opened.up opened.keeper.count before.coming commands 0 kept serves.given_links
      serves.backs names.commands_after names.drawn_after last names.linked

-- ---- the lines

-- The input was read to its end, and the commands of all its lines were accepted and kept. Then `served` links were handed out. Each
-- was served from the state after the link before it, and was returned. So the keeper keeps the commands that it had when it was
-- opened, then those of the lines, and then those of the links.
pub record ServesAfterLines
    (opened : KeptState) (last : KeeperState) (left left_after : Option (List ℕ)) (before after : UpstreamFacing) (served : ℕ)
    : Type 0 where
  pub read : List ℕ
  pub took : Takes left read left_after
  pub end : HasEnded left_after
  pub kept : KeptState
  pub accepted : lines_outcome keeping (kept_lines_of opened) read ≡ record { text = []; ending = done; desk = kept_lines_of kept }
  pub spelled : SpellKept (kept_lines_of opened) (lines read) (kept_lines_of kept)
  pub up : UpstreamState
  pub serves : ServesUpstreamLinks kept (kept_state up last) before after served
  pub keeps : kept_commands last
      ≡ option_map (λ kept. kept ++ (spelled.commands ++ acknowledged serves.carries.some.tried)) (kept_commands opened.keeper)
  pub named : (links : List (List ℕ)) (returned : List (List ℕ × ℕ)) → before.door.links ≡ Some links
      → before.door.returned ≡ Some returned
      → NamesUpstreamLinks opened spelled.commands kept (kept_state up last) before after served links returned

-- How a reopened upstream ends, with a door that is to listen at this port. If the lines are not all taken (a line is refused, the input,
-- the output or the keeper fails, or memory runs out), no link was handed out. If the keeper fails, nothing was sent either. If taking the
-- lines ends with `Memory`, the keeper never failed.
abbrev pub LinesEnd : KeptState → ℕ → UpstreamEnd → KeeperState → Option (List ℕ) → Option (List ℕ) → UpstreamFacing
    → UpstreamFacing → Type 0
LinesEnd opened port NoMemory last left left_after before after = ⊥
LinesEnd opened port KeeperFault last left left_after before after = IsUntouched before after
LinesEnd opened port (Row written) last left left_after before after = ⊥
LinesEnd opened port (Lines fault) last left left_after before after =
    TakesLines keeping (kept_lines_of opened) (Err fault) left left_after before.sent after.sent × (after.door ≡ before.door)
    × (fault ≡ line.Memory → last.faults ≡ 0)
LinesEnd opened port (Links Closed) last left left_after before after =
    (served : ℕ) × ServesAfterLines opened last left left_after before after served
    × Sends before.sent (connections_line served) after.sent × IsClosedAt port before.door after.door
LinesEnd opened port (Links WriteFault) last left left_after before after =
    (served : ℕ) × ServesAfterLines opened last left left_after before after served
    × SendsPrefix before.sent (connections_line served) after.sent × IsClosedAt port before.door after.door
LinesEnd opened port (Links DoorFault) last left left_after before after =
    (served : ℕ) × ServesAfterLines opened last left left_after before after served
    × ServedOnlyAt port served before.door after.door × (after.sent ≡ before.sent)
LinesEnd opened port (Links OutOfMemory) last left left_after before after =
    (served : ℕ) × ServesAfterLines opened last left left_after before after served × (after.sent ≡ before.sent)
    × IsClosedAt port before.door after.door

-- ---- the keeper

-- A keeper is given back to its maker, which created it. The maker then holds the keeper's kept rows, if these and the rows held before are
-- observable. The maker's fault count rose if the keeper ever failed; if the count did not rise, the keeper never failed.
pub record ComesBack (keeper : KeeperState) (before after : MakerState) : Type 0 where
  pub held : after.held ≡ option_and_then (λ _. kept_rows keeper) before.held
  pub rose : keeper.faults ≢ 0 → Rose before.faults after.faults
  pub no_faults : ¬ (Rose before.faults after.faults) → keeper.faults ≡ 0

-- the upstream has taken no command
pub record IsNew (up : UpstreamState) : Type 0 where
  pub opens : IsOpening up

-- the upstream was reopened from its keeper, which had `reopened` rows
pub record ReopensUpstream (start : KeptState) (reopened : ℕ) (opened : KeptState) : Type 0 where
  pub same : IsSameKeeper start.keeper opened.keeper
  pub reopens : Reopens start (Ok reopened) opened

-- the fault is that of the row at this place
abbrev pub IsOfRow : ℕ → ReopenFault → Type 0
IsOfRow place (BadRow at text) = place ≡ at
IsOfRow place (NoRow at) = place ≡ at
IsOfRow place Fault = ⊥
IsOfRow place Memory = ⊥

-- reopening failed because of the row at this place
pub record RefusesUpstreamRow (start : KeptState) (place : ℕ) : Type 0 where
  pub fault : ReopenFault
  pub of_row : IsOfRow place fault
  pub reached : KeptState
  pub same : IsSameKeeper start.keeper reached.keeper
  pub reopens : Reopens start (Err fault) reached

-- an upstream was reopened, and then ended as `LinesEnd` states
pub record EndsReopened
    (start : KeptState) (port : ℕ) (end : UpstreamEnd) (last : KeeperState) (left left_after : Option (List ℕ))
    (before after : UpstreamFacing) : Type 0 where
  pub reopened : ℕ
  pub opened : KeptState
  pub opens : ReopensUpstream start reopened opened
  pub ends : LinesEnd opened port end last left left_after before after

-- How an upstream ends once its keeper was created. If a row is refused, no link was handed out, and the row line was printed:
-- all of it, a prefix if a write failed, or nothing if memory ran out. With `OutOfMemory` (memory ran out before lines were taken) or
-- `KeeperFault`, nothing was sent and no link was handed out.
abbrev pub KeeperEnd : KeptState → ℕ → UpstreamEnd → KeeperState → Option (List ℕ) → Option (List ℕ) → UpstreamFacing
    → UpstreamFacing → Type 0
KeeperEnd start port NoMemory last left left_after before after = IsUntouched before after
KeeperEnd start port KeeperFault last left left_after before after = IsUntouched before after
KeeperEnd start port (Row written) last left left_after before after =
    (place : ℕ) × RefusesUpstreamRow start place × WritesLine written (row_line place) before.sent after.sent × (after.door ≡ before.door)
KeeperEnd start port (Lines fault) last left left_after before after =
    EndsReopened start port (Lines fault) last left left_after before after
KeeperEnd start port (Links end) last left left_after before after = EndsReopened start port (Links end) last left left_after before after
