-- The turns that remain of a pace. A pace decides when a repeated job takes its next turn.
use Rattle.std.specs.Prelude.{Option, Some, None, ℕ}

-- The number of turns that remain of a pace that is timed by a clock. Without an interval it is 0. With an interval the turns never end,
-- and their number isn't observable (`None`).
abbrev pub turns_of : {A : Type 0} → Option A → Option ℕ
turns_of None = Some 0
turns_of (Some interval) = None
