use Rattle.std.proofs.Common.{[]}
use Rattle.unl_delta.specs.State.{entry_number, later}
use Rattle.unl_documents.specs.Chunks.{joined}
use Rattle.unl_delta.proofs.Numbers.{later_append}
use Rattle.unl_delta.proofs.Chunks.{gathers_next, never_fall_in}
use Rattle.unl_delta.proofs.applying.later_chunks.Goals as goal

pub push_later-requires-clause-numbers : goal.push_later-requires-clause-numbers
push_later-requires-clause-numbers c = never_fall_in entry_number 0 c.args.chunks.now c.loop-chunk.chunk-index c.chunk-item.result c.loop-chunk-test.true c.chunk-item.is c.requires.numbers

pub loop-chunk-preserved : goal.loop-chunk-preserved
loop-chunk-preserved c = (
  gathers_next (later entry_number c.args.number) [] c.args.chunks.now c.loop-chunk.chunk-index c.chunk-item.result (joined c.loop-chunk.kept) _ (later_append entry_number c.args.number) c.loop-chunk-test.true c.chunk-item.is c.loop-chunk.invariant.0
      c.in_ok-push_later.ensures.items,
  c.in_ok-push_later.ensures.full,
)
