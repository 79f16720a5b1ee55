use Rattle.std.proofs.Common.{◌∙◌, sym}
use Rattle.unl_core.proofs.Contexts.{posted_context, queried_context}
use Rattle.unl_core.proofs.answering.asked_context.Goals as goal

pub returns-then-is_post : goal.returns-then-is_post
returns-then-is_post c = posted_context c.args.request.now c.body_context.result (sym c.is_post.ensures ∙ c.if-is_post.true) c.body_context.ensures

pub returns : goal.returns
returns c = queried_context c.args.request.now c.query_context.result (sym c.is_post.ensures ∙ c.if-is_post.false) c.query_context.ensures
