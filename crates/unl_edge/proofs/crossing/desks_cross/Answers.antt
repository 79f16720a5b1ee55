use denote.Param.Send.{IsSend, sendable}
use Rattle.std.proofs.Crossing.{crosses}
use Rattle.unl_edge.specs.contracts.link_handler.FreshDesk as FreshDesk
use Rattle.unl_edge.proofs.Sent.{desk_send}
use Rattle.unl_edge.proofs.crossing.desks_cross.Goals as goal

pub send_of-requires-send-T : goal.send_of-requires-send-T
send_of-requires-send-T c κs =
    let desk : IsSend FreshDesk.the_row = desk_send c.readers_are_send.ensures in search (sendable, crosses) depth 20
