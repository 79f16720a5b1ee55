-- The context of a request: read from the body of a POST, otherwise from the query.
use Rattle.std.proofs.Common.{◌≡◌, ◌≢◌, ◌∙◌, Bool, true, false, cond, Ok, Err, subst, sym}
use Rattle.std.specs.Prelude.{IfErr, IfOk}
use Rattle.unl_context.specs.Context.{Fields}
use Rattle.unl_context.specs.Json.{body_of}
use Rattle.unl_context.specs.Query.{query_context}
use Rattle.unl_context.specs.Reading.{HasFault, Reading, Reads}
use Rattle.unl_context.specs.declared.fault.BadContext.TheVariants.{Memory}
use Rattle.unl_documents.specs.Results.{Gives}
use Rattle.unl_http_api.specs.Route.{is_post, query_of}
use Rattle.unl_http_api.specs.declared.request.Request.{Request}
use Rattle.unl_core.specs.Answer.{asked_context}

-- If the success clause and the error clause of a call that reads a context hold, the call returns the expected context or fault, or runs
-- out of memory.
pub context_given : (result reading asked : Reading Fields) → reading ≡ asked → IfOk result (Reads reading)
    → IfErr result (λ e. e ≢ Memory → HasFault reading e) → Gives Memory result asked
context_given (Ok context) reading asked same reads fault = sym same ∙ reads
context_given (Err e) reading asked same reads fault = λ other. sym same ∙ fault other

-- The context of a POST is read from its body.
pub posted_context : (q : Request) (result : Reading Fields) → is_post q.method ≡ true → Gives Memory result (body_of q.body)
    → Gives Memory result (asked_context q)
posted_context q result post given =
    subst (λ (b : Bool). Gives Memory result (cond b (body_of q.body) (query_context (query_of q.target)))) (sym post) given

-- The context of any other request is read from its query.
pub queried_context : (q : Request) (result : Reading Fields) → is_post q.method ≡ false
    → Gives Memory result (query_context (query_of q.target)) → Gives Memory result (asked_context q)
queried_context q result other given =
    subst (λ (b : Bool). Gives Memory result (cond b (body_of q.body) (query_context (query_of q.target)))) (sym other) given
