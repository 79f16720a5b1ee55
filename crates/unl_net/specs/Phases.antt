-- What a connection waits for while no link serves it. A link reads the connection's requests and writes the replies. Received bytes are
-- refused if no valid request begins with them.
use Rattle.std.specs.Prelude.{Bool, true, false, ℕ, ◌||◌, if◌then◌else◌}
use Rattle.unl_net.specs.declared.phase.Facts.{Facts}
use Rattle.unl_net.specs.declared.phase.Phase.{Phase}
use Rattle.unl_net.specs.declared.served.Fate.{Fate}
use Rattle.unl_net.specs.declared.served.Fate.TheVariants.{KeptOpen, ClosedLater, ClosedNow}
use Rattle.unl_net.specs.declared.served.LinkStage.{LinkStage}
use Rattle.unl_net.specs.declared.served.LinkStage.TheVariants.{Answered, Asked, Open, Parked, Failed}
use Rattle.unl_net.specs.declared.phase.Phase.TheVariants.{Idle, Receiving, Ready, Sending, Draining, Over}

-- What a connection with these facts waits for. The first case that applies decides. If bytes are still to be sent, it waits for the
-- client to take them; if it is to be closed, for the client to shut down its side, or for nothing if the client has; if a whole request
-- or refused bytes were received, for a link; if the client has shut down its side, for nothing; if a part of a request was received, for
-- the rest; otherwise for the next request.
abbrev pub phase_of : Facts → Phase
phase_of known =
    if known.owes then Sending else
    if known.closing then (if known.ended then Over else Draining) else
    if known.asked then Ready else
    if known.ended then Over else
    if known.began then Receiving else Idle

-- whether a connection in this phase waits for its client
abbrev pub waits : Phase → Bool
waits Idle = true
waits Receiving = true
waits Ready = false
waits Sending = true
waits Draining = true
waits Over = false

-- for how many seconds a connection in this phase may wait, counted again from 0 when bytes are sent; 0 if it does not wait for its client
abbrev pub limit_of : Phase → ℕ
limit_of Idle = 75
limit_of Receiving = 30
limit_of Ready = 0
limit_of Sending = 30
limit_of Draining = 2
limit_of Over = 0

-- What happens to a connection when its link ends at this stage. It is kept open if the link ended between two requests. Otherwise it is
-- closed: at once if a call failed or if nothing is left to be sent or read, else once all is sent and the client has shut down its side.
-- `owes`: bytes are still to be sent; `unread`: the client may have sent bytes that no link has read.
abbrev pub fate_of : LinkStage → Bool → Bool → Fate
fate_of Answered owes unread = if owes || unread then ClosedLater else ClosedNow
fate_of Asked owes unread = if owes || unread then ClosedLater else ClosedNow
fate_of Open owes unread = if owes || unread then ClosedLater else ClosedNow
fate_of Parked owes unread = KeptOpen
fate_of Failed owes unread = ClosedNow
