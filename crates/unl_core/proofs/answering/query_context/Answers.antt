use Rattle.std.proofs.Common.{◌∙◌, ap}
use Rattle.unl_context.specs.Query.{query_context}
use Rattle.unl_http_api.specs.Route.{query_of}
use Rattle.unl_core.proofs.Contexts.{context_given}
use Rattle.unl_core.proofs.answering.query_context.Goals as goal

pub returns : goal.returns
returns c =
    context_given c.read_query.result (query_context c.query_of.result.now) (query_context (query_of c.args.request.now.target))
    (ap query_context (c.query_of.ensures ∙ ap query_of c.as_slice.ensures)) c.read_query.ensures.reads c.read_query.ensures.fault
