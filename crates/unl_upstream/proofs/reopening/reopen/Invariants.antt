use Rattle.std.proofs.Common.{◌≡◌, true, length, IfSome}
use Rattle.unl_upstream.specs.Reopening.{Applies}
use Rattle.unl_upstream.proofs.reopening.reopen.Given as goal

abbrev pub invariant-rows : goal.invariant-rows
invariant-rows g l =
    ((g.K.Keeper.state l.keeper).opened ≡ true)
    × ((g.K.Keeper.state l.keeper).count ≡ l.count)
    × ((g.K.Keeper.state l.keeper).rows ≡ (g.K.Keeper.state l.initial.keeper).rows)
    × ((g.K.Keeper.state l.keeper).faults ≡ (g.K.Keeper.state l.initial.keeper).faults)
    × IfSome (g.K.Keeper.state l.keeper).rows (λ list. l.count ≡ length list)
    × Applies l.initial.up (g.K.Keeper.state l.keeper).rows l.place l.up
