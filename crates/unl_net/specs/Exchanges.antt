-- The time limit of an exchange with a server.
use Rattle.std.specs.Prelude.{Bool, false, ℕ, Option, ◌-◌, nat_lt}
use Rattle.std.specs.Option.{option_map_or}
use Rattle.std.specs.declared.time.Instant.{Instant}
use Rattle.unl_net.specs.Moments.{seconds_between}
use Rattle.unl_net.specs.declared.exchange.Exchange.{Exchange}

-- how many of the 30 seconds of an exchange are left at `now`, 0 if more have passed
abbrev pub seconds_left : Exchange → Option Instant → ℕ
seconds_left exchange now = 30 - seconds_between exchange.begun now

-- whether the server is not asked at `now`: it used up the time of an exchange less than 5 seconds ago; if `now` is unknown,
-- no time counts as passed
abbrev pub rests : Exchange → Option Instant → Bool
rests exchange now = option_map_or (λ _. nat_lt (seconds_between exchange.over now) 5) exchange.over false
