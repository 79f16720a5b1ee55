-- A worker's desk, which answers requests, and a worker's state are `Send` because their parts are.
use denote.Param.Send.{IsSend, IsSync, sendable}
use denote.Param.SendFields.{declared_send}
use denote.RattleType.{RattleType}
use denote.Ref.{NamedLft}
use Rattle.std.proofs.Crossing.{crosses}
use Rattle.unl_edge.specs.contracts.link_handler.EdgeLinkHandler as EdgeLinkHandler
use Rattle.unl_edge.specs.contracts.link_handler.FreshDesk as FreshDesk
use Rattle.unl_edge_state.specs.contracts.reader.EdgeReader as EdgeReader
use Rattle.unl_metrics.specs.contracts.book.MetricsBook as MetricsBook
use Rattle.unl_connection.specs.contracts.served.Served as Served
use Rattle.unl_refresh.specs.contracts.metrics_sender.MetricsSender as MetricsSender

-- a desk is `Send` if its reader is
pub desk_send : IsSend EdgeReader.the_row → IsSend FreshDesk.the_row
desk_send reader = declared_send FreshDesk.the_type (reader, tt)

-- a worker's state is `Send` if its parts are `Send` and its `Wait` is `Sync`
pub handler_send : (lifetime : NamedLft) (wait : RattleType) → IsSync wait → IsSend FreshDesk.the_row → IsSend MetricsBook.the_row
    → IsSend (MetricsSender.the_row lifetime) → IsSend Served.the_row → IsSend (EdgeLinkHandler.the_row lifetime wait)
handler_send lifetime wait shared desk book sender notes =
    declared_send (EdgeLinkHandler.the_type lifetime wait)
    (desk, (book, (sender, (notes, (search (sendable, crosses) depth 20, tt)))))
