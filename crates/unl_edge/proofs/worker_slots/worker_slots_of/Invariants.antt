use Rattle.std.proofs.Common.{◌≡◌, ◌<◌, ◌+◌, length}
use Rattle.std.specs.Prelude.{All}
use Rattle.unl_edge.specs.LinkHandling.{HasLearned, IsOfOrigin}
use Rattle.unl_edge.specs.WorkerBooks.{HasNewBook}
use Rattle.unl_edge_state.specs.Reading.{IsNewReader}
use Rattle.unl_edge.proofs.worker_slots.worker_slots_of.Given as goal

-- the reader of each slot so far has learned all known installs, each of these slots has a new book, and the readers to come are new and
-- of the writer's origin
abbrev pub invariant-loop-reader : goal.invariant-loop-reader
invariant-loop-reader g l = record {
  same : l.writer ≡ l.initial.writer;
  draws : g.R.Draws.coming l.draws ≡ g.R.Draws.coming l.initial.draws;
  count : length l.pool_slots.items + length l.reader-iterator.rest.items ≡ length l.initial.reader-iterator.rest.items;
  learned : All (λ pool_slot. HasLearned l.initial.writer.known pool_slot.server.desk.reader) l.pool_slots.items;
  rest : All (IsOfOrigin l.initial.writer.known) l.reader-iterator.rest.items;
  new : All IsNewReader l.reader-iterator.rest.items;
  kept : l.receiver ≡ record l.initial.receiver { parts = l.receiver.parts };
  parts : l.receiver.parts + length l.initial.reader-iterator.rest.items ≡ l.initial.receiver.parts + length l.reader-iterator.rest.items;
  less : length l.initial.reader-iterator.rest.items < l.initial.receiver.parts;
  books : All (λ pool_slot. HasNewBook l.initial.receiver pool_slot.server) l.pool_slots.items;
}
