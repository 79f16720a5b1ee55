-- The result of reopening an upstream: the commands in the rows of its keeper (an append-only store with one command in each row) are
-- applied to an initial upstream, in order.
use Rattle.std.specs.Prelude.{◌≡◌, ◌≢◌, ◌≤◌, ℕ, ◌+◌, true, List, [], ◌∷◌, ◌++◌, length, take, slice_get, Option, Some, None}
use Rattle.std.specs.Prelude.{option_and_then, option_map, Result, Ok, Err, IfSome, ⊤}
use Rattle.unl_keeper.specs.declared.refusal.KeepRefusal.{KeepRefusal}
use Rattle.unl_keeper.specs.declared.refusal.KeepRefusal.TheVariants as put_refusal
use Rattle.unl_keeper.specs.Faults.{Rose}
use Rattle.unl_keeper.specs.State.{KeeperState}
use Rattle.unl_documents.specs.Reading.{Reading}
use Rattle.unl_tokens.specs.declared.token.Token.{Token}
use Rattle.unl_upstream.specs.declared.command.Command.{Command}
use Rattle.unl_upstream.specs.declared.reopening.ReopenFault.{ReopenFault}
use Rattle.unl_upstream.specs.declared.reopening.ReopenFault.TheVariants.{BadRow, NoRow, Fault, Memory}
use Rattle.unl_upstream.specs.Command.{command_in}
use Rattle.unl_upstream.specs.Kept.{IsAfterKept, IsOneOf, KeptState, LeavesOne, kept_commands, kept_state}
use Rattle.unl_upstream.specs.Upstream.{AppliedCommand, CommandResult, UpstreamState, apply_command, opening}

-- the upstream is in its initial state: it has applied no command
abbrev pub IsOpening : UpstreamState → Type 0
IsOpening up = (boot : ℕ) × (secret : List ℕ) × (environments : List (List ℕ)) × (book : List Token) × (epoch : ℕ)
    × (up ≡ opening boot secret environments book epoch)

-- ---- one row

-- the upstream after a command, if the command is accepted
abbrev pub if_obeyed : CommandResult AppliedCommand → Option UpstreamState
if_obeyed (Ok obeyed) = Some obeyed.up
if_obeyed (Err cause) = None

-- the upstream after the command that was read from a text; `None` if the text is not a command, or the command is refused
abbrev pub after_reading : UpstreamState → Reading Command → Option UpstreamState
after_reading up (Ok command) = if_obeyed (apply_command command up)
after_reading up (Err fault) = None

-- the upstream after the command of a row; `None` if the row is not a command or its command is refused
unfoldable pub row_after : List ℕ → UpstreamState → Option UpstreamState
row_after text up = after_reading up (command_in text)

-- the upstream after several rows, applied in order; `None` if one of them is not a command or its command is refused
abbrev pub rows_after : List (List ℕ) → UpstreamState → Option UpstreamState
rows_after [] up = Some up
rows_after (text ∷ texts) up = option_and_then (rows_after texts) (row_after text up)

-- the keeper returned the text of the row after the first `before` ones, as far as rows are observable, and applying the text to `up`
-- results in `after`
pub record TakesRow (before : ℕ) (rows : Option (List (List ℕ))) (up after : UpstreamState) : Type 0 where
  pub text : List ℕ
  pub there : IfSome rows (λ list. slice_get list before ≡ Some text)
  pub leads : row_after text up ≡ Some after

-- why the row after the first `before` ones was not applied, by the keeper's state before and after the row was read
abbrev pub WhyRowFails : ℕ → KeeperState → KeeperState → UpstreamState → ReopenFault → Type 0
WhyRowFails before keeper keeper_after up (BadRow place text) = (place ≡ before + 1) × (row_after text up ≡ None)
    × IfSome keeper.rows (λ list. slice_get list before ≡ Some text)
WhyRowFails before keeper keeper_after up (NoRow place) = (place ≡ before + 1) × (keeper.rows ≡ None)
WhyRowFails before keeper keeper_after up Fault = Rose keeper.faults keeper_after.faults
WhyRowFails before keeper keeper_after up Memory = ⊤

-- converts an error of the keeper to an error of reopening
abbrev pub reopen_fault_of : KeepRefusal → ReopenFault
reopen_fault_of put_refusal.Fault = Fault
reopen_fault_of put_refusal.Memory = Memory

-- ---- all rows

-- The keeper returned `count` texts, the first rows if these are observable. Applying them to `opening` results in `up`.
pub record Applies (opening : UpstreamState) (rows : Option (List (List ℕ))) (count : ℕ) (up : UpstreamState) : Type 0 where
  pub texts : List (List ℕ)
  pub counted : length texts ≡ count
  pub first : IfSome rows (λ list. texts ≡ take count list)
  pub leads : rows_after texts opening ≡ Some up

-- the keeper's rows are unchanged, it stays open if it was open, and its fault count does not fall
pub record IsSameKeeper (before after : KeeperState) : Type 0 where
  pub rows : after.rows ≡ before.rows
  pub stays : before.opened ≡ true → after.opened ≡ true
  pub later : before.faults ≤ after.faults

-- The keeper is open, and all its rows are kept and were applied. The upstream is the result of applying the kept commands to the
-- initial one, and no row follows the kept ones.
pub record Reopened (before : KeptState) (count : ℕ) (after : KeptState) : Type 0 where
  pub opened : after.keeper.opened ≡ true
  pub counted : count ≡ after.keeper.count
  pub whole : IfSome after.keeper.rows (λ list. count ≡ length list)
  pub applied : Applies before.up after.keeper.rows count after.up
  pub represents : IsAfterKept before.up after
  pub left : LeavesOne after []

-- the rows before row `place` were applied, and `At` holds for the count of these rows
abbrev pub AppliesRowsBefore : KeptState → ℕ → KeptState → (ℕ → Type 0) → Type 0
AppliesRowsBefore before place after At = (count : ℕ) × (place ≡ count + 1) × (place ≤ after.keeper.count)
    × Applies before.up after.keeper.rows count after.up × At count

-- the effect of reopening, by its result; on an error, only rows before the failure were applied
abbrev pub Reopens : KeptState → Result ℕ ReopenFault → KeptState → Type 0
Reopens before (Ok count) after = Reopened before count after
Reopens before (Err (BadRow place text)) after = AppliesRowsBefore before place after
    (λ count. (row_after text after.up ≡ None) × IfSome after.keeper.rows (λ list. slice_get list count ≡ Some text))
Reopens before (Err (NoRow place)) after = AppliesRowsBefore before place after (λ count. after.keeper.rows ≡ None)
Reopens before (Err Fault) after =
    Rose before.keeper.faults after.keeper.faults × (count : ℕ) × Applies before.up after.keeper.rows count after.up
Reopens before (Err Memory) after = (count : ℕ) × Applies before.up after.keeper.rows count after.up

-- ---- reopening restores the kept commands

-- the list is empty, or has one command, which is among the failed ones
abbrev pub IsAtMostOne : List Command → List Command → Type 0
IsAtMostOne [] failed = ⊤
IsAtMostOne (command ∷ []) failed = IsOneOf command failed
IsAtMostOne (command ∷ other ∷ commands) failed = ⊥

-- Reopening succeeded. The kept commands were applied, or these and one more, whose put had failed. All applied commands are now kept.
pub record GivesBack
    (before : KeptState) (failed : List Command) (fresh : UpstreamState) (result : Result ℕ ReopenFault)
    (reopened : KeptState) : Type 0 where
  pub count : ℕ
  pub answers : result ≡ Ok count
  pub more : List Command
  pub few : IsAtMostOne more failed
  pub commands : kept_commands reopened.keeper ≡ option_map (λ kept. kept ++ more) (kept_commands before.keeper)
  pub represents : IsAfterKept fresh reopened

-- If an upstream is the result of applying the kept commands to an initial one, and at most one row of a failed put follows the kept
-- rows, then reopening the keeper with an initial upstream of the same slots restores the kept commands, and perhaps the command of
-- the failed put. This holds unless the keeper fails or memory runs out.
abbrev pub ReopeningGivesBack : Type 0
ReopeningGivesBack = (opening fresh : UpstreamState) (before reopened : KeptState) (keeper : KeeperState) (failed : List Command)
    (rows : List (List ℕ)) (result : Result ℕ ReopenFault) → fresh.board.slots ≡ opening.board.slots
    → before.keeper.rows ≡ Some rows → IsAfterKept opening before → LeavesOne before failed
    → keeper.rows ≡ before.keeper.rows → reopened.keeper.rows ≡ keeper.rows
    → Reopens (kept_state fresh keeper) result reopened → result ≢ Err Fault → result ≢ Err Memory
    → GivesBack before failed fresh result reopened
