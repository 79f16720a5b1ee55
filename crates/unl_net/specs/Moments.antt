-- The time between moments.
use Rattle.std.specs.Prelude.{ℕ, Option, Some, None, ◌-◌, ◌/◌}
use Rattle.std.specs.Time.{instant_nanos}
use Rattle.std.specs.declared.time.Instant.{Instant}

-- the whole seconds between two moments: 0 if either is unknown, or if the second is the earlier one
abbrev pub seconds_between : Option Instant → Option Instant → ℕ
seconds_between (Some begun) (Some now) = (instant_nanos now - instant_nanos begun) / 1000000000
seconds_between (Some begun) None = 0
seconds_between None now = 0
