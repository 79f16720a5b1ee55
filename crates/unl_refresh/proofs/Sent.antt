-- The ends of a metrics queue are `Send` if their parts are.
use denote.Param.Send.{IsSend, IsSync, sendable, view_send}
use denote.Param.SendFields.{declared_send}
use denote.Ref.{NamedLft}
use Rattle.std.proofs.Crossing.{crosses}
use Rattle.unl_refresh.specs.Crossing.{pass_type}
use Rattle.unl_metrics.specs.contracts.book.MetricsBook as MetricsBook
use Rattle.unl_refresh.specs.contracts.metrics_queue.MetricsQueue as MetricsQueue
use Rattle.unl_refresh.specs.contracts.metrics_receiver.MetricsReceiver as MetricsReceiver
use Rattle.unl_refresh.specs.contracts.metrics_receiver.MetricsReceiver.TheInside as ReceiverInside
use Rattle.unl_refresh.specs.contracts.metrics_sender.MetricsSender as MetricsSender
use Rattle.unl_refresh.specs.contracts.metrics_sender.MetricsSender.TheInside as SenderInside

pub sender_send : (lifetime : NamedLft) → IsSync MetricsQueue.the_row → IsSend MetricsBook.the_row → IsSend pass_type → IsSend (MetricsSender.the_row lifetime)
sender_send lifetime queue book pass = view_send (SenderInside.the_row lifetime) _ _ _ _
    (declared_send (SenderInside.the_type lifetime) (search (sendable, crosses) depth 20, (pass, tt)))

pub receiver_send : (lifetime : NamedLft) → IsSync MetricsQueue.the_row → IsSend MetricsBook.the_row → IsSend pass_type → IsSend (MetricsReceiver.the_row lifetime)
receiver_send lifetime queue book pass = view_send (ReceiverInside.the_row lifetime) _ _ _ _
    (declared_send (ReceiverInside.the_type lifetime)
    (search (sendable, crosses) depth 20, (pass, (search (sendable, crosses) depth 20, tt))))
