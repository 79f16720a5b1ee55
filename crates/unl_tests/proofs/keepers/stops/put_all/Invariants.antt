use Rattle.std.proofs.Common.{◌≡◌, true}
use Rattle.unl_tests.proofs.keepers.stops.put_all.Given as goal

abbrev pub invariant-names : goal.invariant-names
invariant-names g l = (g.K.Keeper.state l.keeper).opened ≡ true
