-- The effect of handling one request. Each request gets one draw (a time and a random word) from a supply of draws.
use Rattle.std.specs.Prelude.{◌≡◌, ℕ, ◌+◌, List, Option}
use Rattle.unl_base.specs.declared.draws.Draw.{Draw}
use Rattle.unl_base.specs.Draws.{TakesDraw}
use Rattle.unl_http_api.specs.declared.reply.Reply.{Reply}
use Rattle.unl_http_api.specs.declared.request.Request.{Request}

-- The draws that a supply will return: those of a list, and then a last draw repeated forever. `None` if they aren't observable.
abbrev pub Coming : Type 0
Coming = Option (List Draw × Draw)

-- the handler's state, the number of requests answered on the connection, and the coming draws
pub record HandlerState (S : Type 0) : Type 0 where
  pub state : S
  pub count : ℕ
  pub coming : Coming

-- the `HandlerState` of this state, count of answered requests and coming draws
abbrev pub handler_state : {S : Type 0} → S → ℕ → Coming → HandlerState S
handler_state state count coming = record { state = state; count = count; coming = coming }

-- A draw was taken, the handler gave this reply to the request with that draw, and the count of answered requests rose by one. `gives` is
-- the effect of the handler's answer.
pub record HandlesRequest
    {S : Type 0} (gives : S → Request → Draw → Reply → S → Type 0)
    (before : HandlerState S) (request : Request) (reply : Reply) (after : HandlerState S) : Type 0 where
  pub draw : Draw
  pub taken : TakesDraw before.coming draw after.coming
  pub given : gives before.state request draw reply after.state
  pub counted : after.count ≡ before.count + 1

-- A draw was taken, and then memory ran out while the request was handled. The request was not counted as answered. `out_of_memory` is
-- the effect of running out of memory on the handler's state.
pub record RunsOutOfMemory
    {S : Type 0} (out_of_memory : S → Request → Draw → S → Type 0)
    (before : HandlerState S) (request : Request) (after : HandlerState S) : Type 0 where
  pub draw : Draw
  pub taken : TakesDraw before.coming draw after.coming
  pub ran_out : out_of_memory before.state request draw after.state
  pub counted : after.count ≡ before.count
