use Rattle.std.proofs.Common.{ap}
use Rattle.unl_context.specs.Json.{body_of}
use Rattle.unl_core.proofs.Contexts.{context_given}
use Rattle.unl_core.proofs.answering.body_context.Goals as goal

pub returns : goal.returns
returns c =
    context_given c.read_body.result (body_of c.as_slice.result.now) (body_of c.args.request.now.body) (ap body_of c.as_slice.ensures)
    c.read_body.ensures.reads c.read_body.ensures.fault
