-- The commands kept by an upstream's keeper, and the effect of keeping one more. The keeper is an append-only store with the text of one
-- command in each row. A row is kept if its put succeeded, or if it existed when the keeper was opened. The rows are `None` in
-- contracts if the keeper's store is not observable.
use Rattle.std.specs.Prelude.{◌≡◌, ◌≤◌, ◌⊎◌, ℕ, ◌+◌, ◌-◌, ◌^◌, min, nat_lt, List, [], ◌∷◌, ◌++◌}
use Rattle.std.specs.Prelude.{drop, filter_map, length, map}
use Rattle.std.specs.Prelude.{if◌then◌else◌, Option, option_map, Result, Ok, Err, IsOk, IfSome, ⊤}
use Rattle.unl_keeper.specs.declared.refusal.KeepRefusal.{KeepRefusal}
use Rattle.unl_keeper.specs.State.{HasKept, IsFailed, IsWritten, KeeperState, PutsRow, kept_rows}
use Rattle.unl_upstream.specs.declared.command.Command.{Command}
use Rattle.unl_upstream.specs.declared.refusal.KeepCommandRefusal.{KeepCommandRefusal}
use Rattle.unl_upstream.specs.declared.refusal.KeepCommandRefusal.TheVariants.{NoSuchEnvironment, NoSuchFeature}
use Rattle.unl_upstream.specs.declared.refusal.KeepCommandRefusal.TheVariants.{NoSuchSegment, TooMany, KeeperFull, KeeperFault, Memory}
use Rattle.unl_upstream.specs.Command.{command_in}
use Rattle.unl_upstream.specs.History.{AreAdded, accepted, after_commands}
use Rattle.unl_upstream.specs.Requests.{if_read}
use Rattle.unl_upstream.specs.Upstream.{AppliedCommand, CommandResult, Prepared, UpstreamState}
use Rattle.unl_upstream.specs.Upstream.{apply_command, committed, prepared, refused_as}
use Rattle.unl_upstream.specs.Writing.{command_text}

-- ---- an upstream and its keeper

-- an upstream, and the keeper of its commands
pub record KeptState : Type 0 where
  pub up : UpstreamState
  pub keeper : KeeperState

-- an upstream and a keeper as one record
abbrev pub kept_state : UpstreamState → KeeperState → KeptState
kept_state up keeper = record { up = up; keeper = keeper }

-- ---- the kept commands

-- the commands parsed from the texts, in order; texts that are not commands are skipped
abbrev pub commands_in : List (List ℕ) → List Command
commands_in texts = filter_map (λ text. if_read (command_in text)) texts

-- the kept commands, if the rows are observable
abbrev pub kept_commands : KeeperState → Option (List Command)
kept_commands keeper = option_map commands_in (kept_rows keeper)

-- Each text is that of a command. These commands are all accepted when applied in order to `opening`, and `up` is the result.
pub record ResultIn (opening : UpstreamState) (texts : List (List ℕ)) (up : UpstreamState) : Type 0 where
  pub spelled : map command_in texts ≡ map Ok (commands_in texts)
  pub all_accepted : accepted (commands_in texts) opening ≡ commands_in texts
  pub leads : up ≡ after_commands (commands_in texts) opening

-- the upstream is `opening` after the kept commands in order, if these are observable
abbrev pub IsAfterKept : UpstreamState → KeptState → Type 0
IsAfterKept opening state = IfSome (kept_rows state.keeper) (λ texts. ResultIn opening texts state.up)

-- ---- keeping one more

-- the maximum number of kept rows
abbrev pub most_rows : ℕ
most_rows = 10000000

-- The result of a command, for a keeper with `count` kept rows: if the command is accepted but the keeper is full, the result is
-- `KeeperFull`.
abbrev pub with_room : {T : Type 0} → ℕ → CommandResult T → Result T KeepCommandRefusal
with_room count (Ok x) = if nat_lt count most_rows then Ok x else Err (KeeperFull count)
with_room count (Err cause) = Err (refused_as cause)

-- the result of keeping a command, unless the keeper fails or memory runs out
abbrev pub keepable : Command → KeptState → Result AppliedCommand KeepCommandRefusal
keepable command state = with_room state.keeper.count (apply_command command state.up)

-- a command is ready to be stored: it is accepted, the keeper has room, and reading its text gives the same command
pub record IsPending (command : Command) (before : KeptState) (ready : Prepared) (text : List ℕ) : Type 0 where
  pub accepts : with_room before.keeper.count (prepared command before.up) ≡ Ok ready
  pub text_is : text ≡ command_text command
  pub spelled : command_in (command_text command) ≡ Ok command

-- the prepared command's text was stored, and the command published
pub record Publishes (ready : Prepared) (text : List ℕ) (before : KeptState) (number : ℕ) (after : KeptState) : Type 0 where
  pub is : number ≡ ready.number
  pub up : after.up ≡ committed ready before.up
  pub row : IsWritten text before.keeper after.keeper

-- the put of a text failed, and nothing was published
pub record FailsToPut (text : List ℕ) (before : KeptState) (refusal : KeepRefusal) (after : KeptState) : Type 0 where
  pub up : after.up ≡ before.up
  pub row : PutsRow text before.keeper (Err refusal) after.keeper

-- the effect of storing a text and publishing its command, by the result
abbrev pub Puts : Prepared → List ℕ → KeptState → Result ℕ KeepRefusal → KeptState → Type 0
Puts ready text before (Ok number) after = Publishes ready text before number after
Puts ready text before (Err refusal) after = FailsToPut text before refusal after

-- the command was accepted and published with this new version number, and its text is the last kept row
pub record Acknowledges (command : Command) (before : KeptState) (number : ℕ) (after : KeptState) : Type 0 where
  pub obeyed : keepable command before ≡ Ok (record { up = after.up; number = number })
  pub spelled : command_in (command_text command) ≡ Ok command
  pub row : IsWritten (command_text command) before.keeper after.keeper

-- the command was accepted and the keeper had room, but the put failed, so the upstream is unchanged
pub record FailsToKeep (command : Command) (before after : KeptState) : Type 0 where
  pub obeyed : IsOk (keepable command before)
  pub spelled : command_in (command_text command) ≡ Ok command
  pub up : after.up ≡ before.up
  pub row : IsFailed (command_text command) before.keeper after.keeper

-- the command was refused for this reason, and nothing changed
pub record Refuses (command : Command) (before : KeptState) (refusal : KeepCommandRefusal) (after : KeptState) : Type 0 where
  pub cause : keepable command before ≡ Err refusal
  pub same : after ≡ before

-- the effect of an attempt to keep a command, by its result; running out of memory changes nothing
abbrev pub KeepsCommand : Command → KeptState → Result ℕ KeepCommandRefusal → KeptState → Type 0
KeepsCommand command before (Ok number) after = Acknowledges command before number after
KeepsCommand command before (Err NoSuchEnvironment) after = Refuses command before NoSuchEnvironment after
KeepsCommand command before (Err NoSuchFeature) after = Refuses command before NoSuchFeature after
KeepsCommand command before (Err NoSuchSegment) after = Refuses command before NoSuchSegment after
KeepsCommand command before (Err (TooMany n)) after = Refuses command before (TooMany n) after
KeepsCommand command before (Err (KeeperFull count)) after = Refuses command before (KeeperFull count) after
KeepsCommand command before (Err KeeperFault) after = FailsToKeep command before after
KeepsCommand command before (Err Memory) after = after ≡ before

-- ---- one after another

-- an attempt to keep a command, and its result
pub record KeepAttempt : Type 0 where
  pub command : Command
  pub result : Result ℕ KeepCommandRefusal

-- these attempts were made in order
abbrev pub AttemptsInOrder : List KeepAttempt → KeptState → KeptState → Type 0
AttemptsInOrder [] before after = after ≡ before
AttemptsInOrder (one ∷ others) before after =
    (middle : KeptState) × KeepsCommand one.command before one.result middle × AttemptsInOrder others middle after

-- the other commands, preceded by `command` if it was acknowledged
abbrev pub if_kept : Command → Result ℕ KeepCommandRefusal → List Command → List Command
if_kept command (Ok number) others = command ∷ others
if_kept command (Err refusal) others = others

-- the commands of the attempts that succeeded, in order
abbrev pub acknowledged : List KeepAttempt → List Command
acknowledged [] = []
acknowledged (one ∷ others) = if_kept one.command one.result (acknowledged others)

-- 1 if the keeper failed, else 0
abbrev pub keeper_faults : Result ℕ KeepCommandRefusal → ℕ
keeper_faults (Ok number) = 0
keeper_faults (Err NoSuchEnvironment) = 0
keeper_faults (Err NoSuchFeature) = 0
keeper_faults (Err NoSuchSegment) = 0
keeper_faults (Err (TooMany n)) = 0
keeper_faults (Err (KeeperFull count)) = 0
keeper_faults (Err KeeperFault) = 1
keeper_faults (Err Memory) = 0

-- the number of attempts at which the keeper failed
abbrev pub faults_among : List KeepAttempt → ℕ
faults_among [] = 0
faults_among (one ∷ others) = keeper_faults one.result + faults_among others

-- the commands whose put failed since the last successful put, after one more attempt; `failed` are those before the attempt
abbrev pub failed_by : List Command → Command → Result ℕ KeepCommandRefusal → List Command
failed_by failed command (Ok number) = []
failed_by failed command (Err NoSuchEnvironment) = failed
failed_by failed command (Err NoSuchFeature) = failed
failed_by failed command (Err NoSuchSegment) = failed
failed_by failed command (Err (TooMany n)) = failed
failed_by failed command (Err (KeeperFull count)) = failed
failed_by failed command (Err KeeperFault) = command ∷ failed
failed_by failed command (Err Memory) = failed

-- the commands whose put failed since the last successful put, after these attempts in order
abbrev pub failed_after : List Command → List KeepAttempt → List Command
failed_after failed [] = failed
failed_after failed (one ∷ others) = failed_after (failed_by failed one.command one.result) others

-- ---- what follows the kept rows

-- the rows after the kept ones, if observable
abbrev pub past_rows : KeeperState → Option (List (List ℕ))
past_rows keeper = option_map (λ list. drop keeper.count list) keeper.rows

-- the command is in the list
abbrev pub IsOneOf : Command → List Command → Type 0
IsOneOf command [] = ⊥
IsOneOf command (other ∷ others) = (other ≡ command) ⊎ IsOneOf command others

-- the text is that of a command that the upstream accepts, and the command is one of the failed ones
pub record IsLeft (up : UpstreamState) (failed : List Command) (text : List ℕ) : Type 0 where
  pub command : Command
  pub spelled : command_in text ≡ Ok command
  pub accepts : IsOk (apply_command command up)
  pub one : IsOneOf command failed

-- there is no text, or one text: that of a command that the upstream accepts and that is one of the failed ones
abbrev pub AreLeft : UpstreamState → List Command → List (List ℕ) → Type 0
AreLeft up failed [] = ⊤
AreLeft up failed (text ∷ []) = IsLeft up failed text
AreLeft up failed (text ∷ other ∷ texts) = ⊥

-- if the rows are observable, at most one row follows the kept ones, and its text is that of a failed command that the upstream accepts
abbrev pub LeavesOne : KeptState → List Command → Type 0
LeavesOne state failed = IfSome (past_rows state.keeper) (AreLeft state.up failed)

-- ---- what attempts to keep commands preserve and change

-- a fault count rose by at least `n`, or is at its maximum, 2^64 - 1
abbrev pub RoseBy : ℕ → ℕ → ℕ → Type 0
RoseBy n before now = min (before + n) (2 ^ 64 - 1) ≤ now

-- Only the acknowledged commands changed the upstream, and all of them are accepted. If the upstream's versions represented the histories
-- of some commands, they now represent those of the same commands followed by the acknowledged ones. The keeper counts one more row
-- for each acknowledged command.
pub record Moves (tried : List KeepAttempt) (before after : KeptState) : Type 0 where
  pub leads : after.up ≡ after_commands (acknowledged tried) before.up
  pub all_accepted : accepted (acknowledged tried) before.up ≡ acknowledged tried
  pub versions : AreAdded (acknowledged tried) before.up after.up
  pub counted : after.keeper.count ≡ before.keeper.count + length (acknowledged tried)

-- The properties of an upstream and its keeper that attempts to keep commands preserve, and what the attempts change.
pub record Carries (tried : List KeepAttempt) (before after : KeptState) : Type 0 where
  -- the upstream is still the result of applying the kept commands in order to the initial one
  pub represents : (opening : UpstreamState) → IsAfterKept opening before → IsAfterKept opening after
  -- only the acknowledged commands changed the upstream, and they follow the earlier kept commands
  pub moves : Moves tried before after
  pub appended : kept_commands after.keeper ≡ option_map (λ commands. commands ++ acknowledged tried) (kept_commands before.keeper)
  -- at most one row follows the kept rows: that of a command that the upstream accepts and whose put failed, with no successful
  -- put since
  pub left : (failed : List Command) → LeavesOne before failed → LeavesOne after (failed_after failed tried)
  -- the fault count rose by at least the number of commands not kept because the keeper failed, or is at its maximum
  pub faults : RoseBy (faults_among tried) before.keeper.faults after.keeper.faults

-- attempts to keep some commands were made in order, and nothing else changed the upstream and its keeper
pub record SomeAttempts (before after : KeptState) : Type 0 where
  pub tried : List KeepAttempt
  pub keeps : AttemptsInOrder tried before after

-- some attempts were made in order, and they preserve the properties in `Carries`
pub record AttemptsPreserve (before after : KeptState) : Type 0 where
  pub some : SomeAttempts before after
  pub carries : Carries some.tried before after

-- if the keeper has at least as many rows as it keeps (`HasKept`), `Carries` holds for any attempts to keep commands, including those at
-- which the keeper fails
abbrev pub KeepingCarries : Type 0
KeepingCarries =
    (tried : List KeepAttempt) (before after : KeptState) → HasKept before.keeper → AttemptsInOrder tried before after
    → Carries tried before after

-- attempts made in order, and then others made in order from the state after the first ones, are together made in order
abbrev pub KeepingContinues : Type 0
KeepingContinues =
    (first second : List KeepAttempt) (before middle after : KeptState) → AttemptsInOrder first before middle
    → AttemptsInOrder second middle after → AttemptsInOrder (first ++ second) before after
