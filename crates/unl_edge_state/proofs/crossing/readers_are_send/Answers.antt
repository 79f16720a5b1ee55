use Rattle.std.proofs.Crossing.{crosses}
use denote.Param.Send.{IsSend, sendable}
use Rattle.unl_edge_state.specs.contracts.reader.EdgeReader as EdgeReader
use Rattle.unl_edge_state.proofs.Sent.{edge_reader_send}
use Rattle.unl_edge_state.proofs.crossing.readers_are_send.Goals as goal

pub send_of-requires-send-T : goal.send_of-requires-send-T
send_of-requires-send-T c κs =
    let reader : IsSend EdgeReader.the_row = edge_reader_send c.seats_cross.ensures in search (sendable, crosses) depth 20
