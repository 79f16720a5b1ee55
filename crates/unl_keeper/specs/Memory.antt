-- The model of a keeper in memory and of its maker (which creates keepers and takes them back), as contracts see them.
use Rattle.std.specs.Prelude.{◌≡◌, Result, Ok, Err, None, Some, IsSome, true, false, [], ◌∷◌, ℕ, ◌+◌, ◌-◌, ◌^◌, ◌==◌, min, Bool, List}
use Rattle.std.specs.Prelude.{Option, option_map, unwrap_or, is_some, find, if◌then◌else◌, ◌++◌, length, option_to_list}
use Rattle.unl_keeper.specs.declared.refusal.KeepRefusal.{KeepRefusal}
use Rattle.unl_keeper.specs.declared.refusal.KeepRefusal.TheVariants.{Fault, Memory}
use Rattle.unl_keeper.specs.declared.memory_keeper.KeepFail.{KeepFail}
use Rattle.unl_keeper.specs.State.{KeeperState, MakerState}

-- the calls that are to fail with `Fault`, the number of calls so far (without those that ran out of memory), and the number of those that
-- failed with `Fault`
pub record Counting : Type 0 where
  pub failing : List KeepFail
  pub calls : ℕ
  pub faults : ℕ

-- What is planned for call number `call`, counted from 0: `None` if it does not fail, otherwise whether it leaves its text. A failed `put`
-- can leave its text as a row after the kept ones.
abbrev pub planned_failure : List KeepFail → ℕ → Option Bool
planned_failure failing call = option_map (λ fail. fail.leaves) (find (λ fail. fail.call == call) failing)

-- the number plus one, saturating at 2^64 - 1
abbrev pub raised : ℕ → ℕ
raised number = min (number + 1) (2 ^ 64 - 1)

-- the counts after one more call
abbrev pub after_call : Counting → Counting
after_call counting = record {
  failing = counting.failing;
  calls = raised counting.calls;
  faults = if is_some (planned_failure counting.failing counting.calls) then raised counting.faults else counting.faults;
}

-- a memory keeper: whether it is open, its kept rows, the row that a failed put left after them, and its counts
pub record MemoryKeeperState : Type 0 where
  pub opened : Bool
  pub kept : List (List ℕ)
  pub past : Option (List ℕ)
  pub counting : Counting

-- a new keeper, not open and without rows, whose calls listed in `failing` fail
abbrev pub new_keeping : List KeepFail → MemoryKeeperState
new_keeping failing = record { opened = false; kept = []; past = None; counting = record { failing = failing; calls = 0; faults = 0 } }

-- all rows: the kept ones, then the one that a failed put left
abbrev pub rows_of : MemoryKeeperState → List (List ℕ)
rows_of keeping = keeping.kept ++ option_to_list keeping.past

-- the state of a memory keeper as a `KeeperState`; its rows are observable
abbrev pub memory_state : MemoryKeeperState → KeeperState
memory_state keeping = record {
  opened = keeping.opened;
  faults = keeping.counting.faults;
  count = length keeping.kept;
  rows = Some (rows_of keeping);
}

-- the keeper after a successful `open`: the row that a failed put left is kept too
abbrev pub opened_keeping : MemoryKeeperState → MemoryKeeperState
opened_keeping keeping = record { opened = true; kept = rows_of keeping; past = None; counting = after_call keeping.counting }

-- the keeper after a successful `put`: one more kept row, and no row after it
abbrev pub put_keeping : List ℕ → MemoryKeeperState → MemoryKeeperState
put_keeping text keeping = record {
  opened = keeping.opened;
  kept = keeping.kept ++ text ∷ [];
  past = None;
  counting = after_call keeping.counting;
}

-- the keeper after a `read`, failed or not, or after a failed `open`: only the counts change
abbrev pub read_keeping : MemoryKeeperState → MemoryKeeperState
read_keeping keeping = record { opened = keeping.opened; kept = keeping.kept; past = keeping.past; counting = after_call keeping.counting }

-- the keeper after a failed `put`: if `leaves` of the call is true, the text replaces any row that an earlier failed `put` left
abbrev pub left_keeping : List ℕ → MemoryKeeperState → MemoryKeeperState
left_keeping text keeping = record {
  opened = keeping.opened;
  kept = keeping.kept;
  past = if unwrap_or (planned_failure keeping.counting.failing keeping.counting.calls) false then Some text else keeping.past;
  counting = after_call keeping.counting;
}

-- How a call ends. It succeeds, with the state `well`, only if it is not listed as failing. It fails with `Fault`, with the
-- state `failed`, only if it is listed. After `Memory` nothing has changed.
abbrev pub CallOutcome :
    {T : Type 0} → MemoryKeeperState → MemoryKeeperState → MemoryKeeperState → MemoryKeeperState → Result T KeepRefusal → Type 0
CallOutcome well failed old new (Ok answer) = (planned_failure old.counting.failing old.counting.calls ≡ None) × (new ≡ well)
CallOutcome well failed old new (Err Fault) = IsSome (planned_failure old.counting.failing old.counting.calls) × (new ≡ failed)
CallOutcome well failed old new (Err Memory) = new ≡ old

-- a memory maker: the kept rows of the keeper that it took back last (none before that), and its fault count
pub record MemoryMakerState : Type 0 where
  pub held : List (List ℕ)
  pub faults : ℕ

-- the state of a memory maker as a `MakerState`; the rows that it holds are observable
abbrev pub memory_maker_state : MemoryMakerState → MakerState
memory_maker_state maker = record { held = Some maker.held; faults = maker.faults }
