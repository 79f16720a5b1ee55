use Rattle.unl_upstream.proofs.Carrying.{refused_by}
use Rattle.unl_upstream.proofs.keeping.prepare_put.Goals as goal

pub returns-in_err-ready-clause-refused : goal.returns-in_err-ready-clause-refused
returns-in_err-ready-clause-refused g c =
    refused_by c.from_residual.result (g.K.Keeper.state c.args.keeper.now).count c.args.command.now c.args.up.now c.in_err-ready.field-0.0
    c.from_residual.ensures.1 c.in_err-ready.ensures.gives
