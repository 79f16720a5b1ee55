-- The passes of a queue of links (connections that wait for a worker). A pass is the right of one thread to use the queue.
use Rattle.crossbeam_queue.specs.Passes.{Pass, IsPassOf}
use Rattle.unl_workers.specs.declared.queue.LinkQueue.{LinkQueue}
use Rattle.unl_workers.specs.declared.tally.QueueEntry.{QueueEntry}
use Rattle.unl_workers.specs.declared.tally.QueueTally.{QueueTally}

-- the pass belongs to this queue
abbrev pub IsPassOfQueue : {L : Type 0} → LinkQueue L → Pass (QueueEntry L) (QueueTally L) → Type 0
IsPassOfQueue queue pass = IsPassOf queue.links pass
