use Rattle.unl_load.proofs.Users.{found_is}
use Rattle.unl_load.proofs.asking.is_on_for.Goals as goal

pub returns : goal.returns
returns c =
    found_is c.args.snapshot.now.state c.args.feature c.args.user _ c.as_str.result.now _ c.in_ok-found.found c.found_on.result
    c.in_ok-name.ensures c.as_str.ensures c.in_ok-context.ensures c.in_ok-found.ensures c.found_on.ensures
