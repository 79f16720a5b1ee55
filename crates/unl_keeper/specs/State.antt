-- The states that contracts use for a keeper (an append-only store of texts, one text per row) and for a maker of keepers, and how each
-- call changes them.
use Rattle.std.specs.Prelude.{◌≡◌, ◌≤◌, ◌⊎◌, ℕ, ◌+◌, ◌-◌, Bool, true, false, List, [], length, slice_get}
use Rattle.std.specs.Prelude.{Option, None, Some, option_and_then, Result, Ok, Err, IfOk, IfErr, IfSome}
use Rattle.unl_keeper.specs.declared.refusal.KeepRefusal.{KeepRefusal}
use Rattle.unl_keeper.specs.declared.refusal.KeepRefusal.TheVariants.{Fault, Memory}
use Rattle.unl_keeper.specs.Faults.{Rose, TakesFaults}
use Rattle.unl_keeper.specs.Rows.{kept, with_row}

-- ---- a keeper

-- The state of a keeper: whether it is open; its fault count, which rises when a call fails with `Fault`; the number of kept
-- rows; and its rows, which are the kept ones and then what a failed put left. The rows are `None` if they are
-- not observable: contracts can't state the rows of a SQLite database.
pub record KeeperState : Type 0 where
  pub opened : Bool
  pub faults : ℕ
  pub count : ℕ
  pub rows : Option (List (List ℕ))

-- the kept rows, if observable
abbrev pub kept_rows : KeeperState → Option (List (List ℕ))
kept_rows keeper = kept keeper.count keeper.rows

-- there are at least as many rows as are kept
abbrev pub HasKept : KeeperState → Type 0
HasKept keeper = IfSome keeper.rows (λ list. keeper.count ≤ length list)

-- at most one row follows the kept ones
abbrev pub HasAtMostOneMore : KeeperState → Type 0
HasAtMostOneMore keeper = IfSome keeper.rows (λ list. length list ≤ keeper.count + 1)

-- ---- opening

-- the keeper is open and keeps `count` rows, which are all of its rows
pub record KeepsAll (keeper : KeeperState) (count : ℕ) : Type 0 where
  pub opened : keeper.opened ≡ true
  pub counted : count ≡ keeper.count
  pub whole : IfSome keeper.rows (λ list. count ≡ length list)

-- after a failed open the number of kept rows is unchanged; if memory ran out, nothing is changed
abbrev pub FailsToOpen : KeeperState → KeeperState → KeepRefusal → Type 0
FailsToOpen old new Fault = new.count ≡ old.count
FailsToOpen old new Memory = new ≡ old

-- The effect of `open`. On success the keeper is open, and every row is kept. Whether it succeeds or fails, the rows are unchanged, and a
-- keeper that was open stays open.
pub record Opens (old : KeeperState) (result : Result ℕ KeepRefusal) (new : KeeperState) : Type 0 where
  pub opened : IfOk result (KeepsAll new)
  pub rows : new.rows ≡ old.rows
  pub stays : old.opened ≡ true → new.opened ≡ true
  pub refused : IfErr result (FailsToOpen old new)

-- ---- a put

-- a put succeeded: the text is the last kept row, and no row follows it
pub record IsWritten (text : List ℕ) (before after : KeeperState) : Type 0 where
  pub opened : after.opened ≡ true
  pub counted : after.count ≡ before.count + 1
  pub rows : after.rows ≡ with_row before.count text before.rows
  pub still : after.faults ≡ before.faults

-- a put failed: the kept rows are unchanged; what follows them is unchanged too, or is the text
pub record IsFailed (text : List ℕ) (before after : KeeperState) : Type 0 where
  pub opened : after.opened ≡ true
  pub counted : after.count ≡ before.count
  pub rows : (after.rows ≡ before.rows) ⊎ (after.rows ≡ with_row before.count text before.rows)
  pub later : before.faults ≤ after.faults
  pub rose : Rose before.faults after.faults

-- the effect of a put, by its result
abbrev pub PutsRow : List ℕ → KeeperState → Result (Unit {0}) KeepRefusal → KeeperState → Type 0
PutsRow text old (Ok done) new = IsWritten text old new
PutsRow text old (Err Fault) new = IsFailed text old new
PutsRow text old (Err Memory) new = new ≡ old

-- ---- a read

-- The effect of reading the row at `place`, counted from 1, of an open keeper. On success the text of this row is returned, if the rows
-- are observable. `None` is returned only if they are not. At most the fault count changes.
pub record ReadsRow (place : ℕ) (old : KeeperState) (result : Result (Option (List ℕ)) KeepRefusal) (new : KeeperState) : Type 0 where
  pub opened : new.opened ≡ true
  pub counted : new.count ≡ old.count
  pub rows : new.rows ≡ old.rows
  pub row : IfOk result (λ found. IfSome old.rows (λ list. found ≡ slice_get list (place - 1)))
  pub there : IfOk result (λ found. found ≡ None → old.rows ≡ None)

-- ---- a maker

-- The state of a maker. `held` are the kept rows of the keeper that the maker took back last, if they are observable. Before the
-- maker takes back its first keeper, `held` has no rows. `faults` is the maker's fault count. It rises when a call fails with
-- `Fault`, and when the maker takes back a keeper whose fault count is above 0.
pub record MakerState : Type 0 where
  pub held : Option (List (List ℕ))
  pub faults : ℕ

-- A new keeper: it is not open and has a fault count of 0. If the rows held by its maker are observable, so are the keeper's
-- rows, and there are none.
pub record IsNewKeeper (held : Option (List (List ℕ))) (keeper : KeeperState) : Type 0 where
  pub unopened : keeper.opened ≡ false
  pub faultless : keeper.faults ≡ 0
  pub empty : IfSome held (λ _. keeper.rows ≡ Some [])

-- The maker takes a keeper back. It then holds the keeper's kept rows, if these and the rows held before are observable. Its fault count
-- rises if the keeper's is above 0.
pub record TakesBack (keeper : KeeperState) (old new : MakerState) : Type 0 where
  pub held : new.held ≡ option_and_then (λ _. kept_rows keeper) old.held
  pub faults : TakesFaults keeper.faults old.faults new.faults
