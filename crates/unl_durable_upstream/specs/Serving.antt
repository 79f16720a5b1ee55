-- How an upstream is reopened from its keeper's rows and then serves the links of a door, and how that ends. If a keeper's rows,
-- a door's links or the draws are not observable, their value here is `None`.
use Rattle.std.specs.Prelude.{◌≡◌, ◌≢◌, ◌⊎◌, ℕ, ◌+◌, List, [], ◌++◌, length, option_map, Result, Some, Ok, Err}
use Rattle.unl_base.specs.Doors.{DoorState, IsClosedAt, ListenedAt}
use Rattle.unl_base.specs.declared.Failed.{Failed}
use Rattle.unl_server.specs.Handling.{Coming}
use Rattle.unl_server.specs.Linked.{ServesLinks, linking}
use Rattle.unl_durable_upstream.specs.declared.fault.ProgramFault.{ProgramFault}
use Rattle.unl_durable_upstream.specs.declared.fault.ProgramFault.TheVariants.{BadArguments, File, Row, Keeper, Door, Memory}
use Rattle.unl_upstream.specs.declared.command.Command.{Command}
use Rattle.unl_upstream.specs.History.{after_commands}
use Rattle.unl_keeper.specs.State.{KeeperState}
use Rattle.unl_upstream.specs.Kept.{AttemptsInOrder, AttemptsPreserve, IsAfterKept, KeepAttempt, KeptState, RoseBy, acknowledged}
use Rattle.unl_upstream.specs.Kept.{failed_after, faults_among, kept_commands, kept_state}
use Rattle.unl_upstream.specs.KeptLinks.{AllLinksEffect, ServesKeptLinks, LinkServed, NoKeeperFaults}
use Rattle.unl_upstream.specs.Reopening.{GivesBack, IsSameKeeper, Reopens}
use Rattle.unl_upstream.specs.Upstream.{UpstreamState}
use Rattle.unl_upstream.specs.declared.reopening.ReopenFault.{ReopenFault}
use Rattle.unl_upstream.specs.declared.reopening.ReopenFault.TheVariants as reopening

-- the exit code of the program for a fault
abbrev pub code_of : ProgramFault → ℕ
code_of BadArguments = 2
code_of (Row place) = 3
code_of Memory = 6
code_of Door = 7
code_of (File error) = 8
code_of Keeper = 8

-- the door and the upcoming draws (a draw is the time and the random word of one request)
pub record Facing : Type 0 where
  pub door : DoorState
  pub coming : Coming

-- a door and draws as one record
abbrev pub facing : DoorState → Coming → Facing
facing door coming = record { door = door; coming = coming }

-- ---- the links

-- An upstream and its keeper served `served` links. Whether or not the door's links are observable, nothing but attempts to keep
-- commands (to apply and store them) changed the upstream and the keeper. `opened` is their state before, `last` after.
pub record ServesDurableLinks (opened last : KeptState) (before after : Facing) (served : ℕ) : Type 0 where
  pub serves_links : ServesKeptLinks (linking opened before.coming before.door) (linking last after.coming after.door) served
  pub carries : AttemptsPreserve opened last

-- How serving ends on a door that was to listen on this port. On success the upstream served `served` links until the door
-- was closed. On failure either nothing changed, as when the door could not listen; or the door listened, and the upstream served
-- `served` links, perhaps none, before the door failed.
abbrev pub LinksEnd : KeptState → ℕ → Result ℕ Failed → KeptState → Facing → Facing → Type 0
LinksEnd opened port (Ok served) last before after =
    ServesDurableLinks opened last before after served × IsClosedAt port before.door after.door
LinksEnd opened port (Err failed) last before after =
    ((last ≡ opened) × (after ≡ before))
    ⊎ ((served : ℕ) × ServesDurableLinks opened last before after served × ListenedAt port before.door after.door)

-- What serving did, for a door whose links are observable. The commands of the links' requests that were accepted and stored are
-- kept in order, after the commands that the upstream was reopened with. If the keeper's fault count is 0 at the end, no reply is the
-- 503 of `KeeperFault`, which says that a put failed.
pub record NamesLinks
    (opened last : KeptState) (before after : Facing) (served : ℕ) (links : List (List ℕ)) (returned : List (List ℕ × ℕ)) : Type 0 where
  pub serves : ServesLinks LinkServed (linking opened before.coming before.door) (linking last after.coming after.door) served links
      returned
  pub names : AllLinksEffect opened.up opened.keeper.count before.coming [] 0 opened serves.given_links serves.backs last after.coming
  pub keeps : kept_commands last.keeper ≡ option_map (λ commands. commands ++ names.commands_after) (kept_commands opened.keeper)
  pub no_faults : last.keeper.faults ≡ 0 → NoKeeperFaults opened.up opened.keeper.count before.coming [] 0 opened serves.given_links
      serves.backs names.commands_after names.drawn_after last names.linked

-- ---- the kept commands

-- If the keeper's rows are observable, reopening an upstream from them again restores the kept commands, or these and one of
-- `failed`, the commands whose put failed. The initial upstream of that reopening must have the same environments and epoch as
-- `initial`. Only a fault of the keeper or running out of memory can prevent the reopening.
abbrev pub CanBeReopened : UpstreamState → KeptState → List Command → Type 0
CanBeReopened initial last failed = (fresh : UpstreamState) (rows : List (List ℕ)) (keeper : KeeperState) (result : Result ℕ ReopenFault)
    (again : KeptState) → fresh.board.slots ≡ initial.board.slots → last.keeper.rows ≡ Some rows → keeper.rows ≡ last.keeper.rows
    → again.keeper.rows ≡ keeper.rows → Reopens (kept_state fresh keeper) result again → result ≢ Err reopening.Fault
    → result ≢ Err reopening.Memory → GivesBack last failed fresh result again

-- The commands that an upstream and its keeper have after serving (`last`), compared to those after reopening (`opened`).
pub record KeepsAcknowledged (initial : UpstreamState) (opened last : KeptState) : Type 0 where
  -- attempts to keep commands were made in order, and nothing else changed the upstream and its keeper
  pub tried : List KeepAttempt
  pub attempts : AttemptsInOrder tried opened last
  -- the keeper keeps what it was reopened with, and then each acknowledged command, in order, one per row
  pub kept : kept_commands last.keeper ≡ option_map (λ commands. commands ++ acknowledged tried) (kept_commands opened.keeper)
  pub counted : last.keeper.count ≡ opened.keeper.count + length (acknowledged tried)
  -- the upstream is the reopened one after the acknowledged commands, and so the initial one after all kept commands
  pub up : last.up ≡ after_commands (acknowledged tried) opened.up
  pub represents : IsAfterKept initial last
  -- a later start has all kept commands again, and at most one more, whose put failed with no successful put since
  pub reopens : CanBeReopened initial last (failed_after [] tried)
  -- the keeper's fault count rose by at least the number of puts that failed other than by running out of memory, or is at its
  -- maximum, 2^64 - 1
  pub faults : RoseBy (faults_among tried) opened.keeper.faults last.keeper.faults

-- The upstream was reopened from its keeper's rows, which held `command_count` commands. Then links were served, and serving
-- ended with the result `ended`.
pub record OpensAndServes
    (start : KeptState) (port : ℕ) (ended : Result ℕ Failed) (last : KeptState) (before after : Facing) : Type 0 where
  pub command_count : ℕ
  pub opened : KeptState
  pub same : IsSameKeeper start.keeper opened.keeper
  pub opens : Reopens start (Ok command_count) opened
  pub serves : LinksEnd opened port ended last before after
  pub keeps : KeepsAcknowledged start.up opened last
  pub named : (served : ℕ) (links : List (List ℕ)) (returned : List (List ℕ × ℕ))
      → ServesLinks LinkServed (linking opened before.coming before.door) (linking last after.coming after.door) served links returned
      → NamesLinks opened last before after served links returned

-- ---- how it ends

-- the fault is that the row with this number is missing, holds no command, or holds a command that is refused
abbrev pub IsOfRow : ℕ → ReopenFault → Type 0
IsOfRow place (reopening.BadRow at text) = at ≡ place
IsOfRow place (reopening.NoRow at) = at ≡ place
IsOfRow place reopening.Fault = ⊥
IsOfRow place reopening.Memory = ⊥

-- the upstream was not reopened, for this reason; the keeper's rows, the door and the upcoming draws are unchanged
pub record FailsToReopen (start : KeptState) (fault : ReopenFault) (last : KeptState) (before after : Facing) : Type 0 where
  pub keeper : IsSameKeeper start.keeper last.keeper
  pub reopens : Reopens start (Err fault) last
  pub same : after ≡ before

-- the upstream was not reopened because row `place` is missing, holds no command, or holds a command that is refused
pub record RefusesRow (start : KeptState) (place : ℕ) (last : KeptState) (before after : Facing) : Type 0 where
  pub fault : ReopenFault
  pub of_row : IsOfRow place fault
  pub fails : FailsToReopen start fault last before after

-- how reopening and serving end with each result, for a door that was to listen on this port; `BadArguments` and `File` are never
-- the result
abbrev pub ReopeningEnds : KeptState → ℕ → Result ℕ ProgramFault → KeptState → Facing → Facing → Type 0
ReopeningEnds start port (Ok served) last before after = OpensAndServes start port (Ok served) last before after
ReopeningEnds start port (Err BadArguments) last before after = ⊥
ReopeningEnds start port (Err (File error)) last before after = ⊥
ReopeningEnds start port (Err (Row place)) last before after = RefusesRow start place last before after
ReopeningEnds start port (Err Keeper) last before after = FailsToReopen start reopening.Fault last before after
ReopeningEnds start port (Err Door) last before after = (failed : Failed) × OpensAndServes start port (Err failed) last before after
ReopeningEnds start port (Err Memory) last before after = FailsToReopen start reopening.Memory last before after
