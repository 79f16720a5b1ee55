use Rattle.std.proofs.Crossing.{crosses}
use denote.Param.Send.{IsSend, sendable}
use denote.Param.SendFields.{declared_send}
use Rattle.unl_edge_state.specs.contracts.reader.EdgeReader as EdgeReader
use Rattle.unl_tests.specs.contracts.replicas.edge_state.Asking as Asking
use Rattle.unl_tests.proofs.replicas.edge_state.publish_concurrently.Goals as goal

asking_send : IsSend EdgeReader.the_row → IsSend Asking.the_row
asking_send reader = declared_send Asking.the_type (reader, (search (sendable, crosses) depth 20, (search (sendable, crosses) depth 20, tt)))

pub with-publishing-requires-send-J : goal.with-publishing-requires-send-J
with-publishing-requires-send-J g c κs within =
    let asking : IsSend Asking.the_row = asking_send c.readers_are_send.ensures in search (sendable, crosses) depth 20
