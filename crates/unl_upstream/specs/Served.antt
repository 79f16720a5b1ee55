-- How one link (a connection) is served, and how all links of a door (a listener) are, for any request handler.
use Rattle.std.specs.Prelude.{◌≡◌, ℕ, List, [], Option, Some, Result, Ok, Err, drop, option_map}
use Rattle.unl_base.specs.Faults.{Rose}
use Rattle.unl_base.specs.declared.Failed.{Failed}
use Rattle.unl_server.specs.Handling.{HandlerState, Coming, handler_state}
use Rattle.unl_server.specs.Conversation.{Concludes, Converses, GivesUp}
use Rattle.unl_server.specs.Linked.{HandsBack, Linking}
use Rattle.unl_server.specs.Links.{LinkView}
use Rattle.unl_http_api.specs.declared.end.End.{End}
use Rattle.unl_http_api.specs.declared.end.End.TheVariants.{ReadFault, WriteFault, Memory}
use Rattle.unl_http_api.specs.declared.reply.Reply.{Reply}
use Rattle.unl_http_api.specs.declared.request.Request.{Request}

-- the upcoming draws after `drawn` of them were taken; `None` if the draws are not observable
abbrev pub draws_after : ℕ → Coming → Coming
draws_after drawn coming = option_map (λ draws. (drop drawn draws.0, draws.1)) coming

-- the type of a relation between a handler's state before a request, the request, its reply, and the handler's state after the reply
abbrev pub Steps : Type 0 → Type 1
Steps S = HandlerState S → Request → Reply → HandlerState S → Type 0

-- the type of a relation between a handler's state before a request, the request at which memory ran out, and the state after
abbrev pub RunsOut : Type 0 → Type 1
RunsOut S = HandlerState S → Request → HandlerState S → Type 0

-- the type of a relation between a handler's state before a connection, how the connection ended, the number of answered requests, and the
-- handler's state after the connection
abbrev pub Changing : Type 0 → Type 1
Changing S = HandlerState S → End → ℕ → HandlerState S → Type 0

-- a link was served: `count` of its requests were answered, each as `Step` states, and `Changes` relates the handler's states before and
-- after
pub record ServesLinkBy
    {S : Type 0} (Step : Steps S) (RunsOutAtRequest : RunsOut S) (Changes : Changing S) (before : S) (coming : Coming)
    (link link_after : LinkView) (after : S) (coming_after : Coming) : Type 0 where
  pub count : ℕ
  pub end : End
  pub conversation : Converses Step RunsOutAtRequest link (handler_state before 0 coming) end (handler_state after count coming_after) count
      link_after
  pub changes : Changes (handler_state before 0 coming) end count (handler_state after count coming_after)

-- A link was served. `bytes` were received on it; `back` is the bytes that were sent on it, and its fault count. `count` of its
-- requests were answered, each as `Step` states, and `Changes` relates the handler's states before and after.
pub record LinkServedBy
    {S : Type 0} (Step : Steps S) (RunsOutAtRequest : RunsOut S) (Changes : Changing S) (before : S) (coming : Coming)
    (bytes : List ℕ) (back : List ℕ × ℕ) (after : S) (coming_after : Coming) : Type 0 where
  pub count : ℕ
  pub end : End
  pub left_after : Option (List ℕ)
  pub conversation : Concludes Step bytes (Some []) (handler_state before 0 coming) end (handler_state after count coming_after) left_after
      (Some back.0)
  pub memory : end ≡ Memory
      → GivesUp Step RunsOutAtRequest bytes (Some []) 0 (handler_state before 0 coming)
      (handler_state after count coming_after) (Some back.0) back.1
  pub changes : Changes (handler_state before 0 coming) end count (handler_state after count coming_after)
  pub read_cause : end ≡ ReadFault → Rose 0 back.1
  pub write_cause : end ≡ WriteFault → Rose 0 back.1

-- On success, the door handed out as many links as the result says, and all of them were given back to it. If the door failed,
-- the same holds for some number of links. If the door's links are observable, `LinkServed` holds for each of them.
abbrev pub ServesAllLinksBy :
    {S : Type 0} → (S → Coming → List ℕ → List ℕ × ℕ → S → Coming → Type 0) → Result ℕ Failed → Linking S → Linking S → Type 0
ServesAllLinksBy LinkServed (Ok served) before after = HandsBack LinkServed before after served
ServesAllLinksBy LinkServed (Err failed) before after = (served : ℕ) × HandsBack LinkServed before after served
