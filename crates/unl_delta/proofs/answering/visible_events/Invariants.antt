use Rattle.std.proofs.Common.{◌≡◌, take}
use Rattle.unl_documents.specs.Chunks.{joined}
use Rattle.unl_delta.specs.State.{entry_number, later}
use Rattle.unl_delta.specs.View.{visible_events}
use Rattle.unl_tokens.specs.Names.{sees}
use Rattle.unl_delta.proofs.answering.visible_events.Given as goal

abbrev pub invariant-loop-chunk : goal.invariant-loop-chunk
invariant-loop-chunk l = l.events ≡ visible_events (sees l.projects) (later entry_number l.since (joined (take l.chunk-index l.chunks)))
