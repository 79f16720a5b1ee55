use Rattle.std.proofs.Common.{◌≡◌, ◌≤◌, ◌-◌, length}
use Rattle.std.specs.Prelude.{All}
use Rattle.unl_edge_state.specs.Reading.{HasBegun}
use Rattle.unl_publication.specs.Rule.{shared_knowledge}
use Rattle.unl_publication.specs.Seen.{is_closed, written}
use Rattle.unl_edge_state.proofs.beginning.readers_at.Given as goal

-- The readers created so far are new, and the writer is unchanged.
abbrev pub invariant-made : goal.invariant-made
invariant-made l =
    (written l.writer ≡ written l.initial.writer)
    × (is_closed l.writer ≡ is_closed l.initial.writer)
    × (length l.readers.items ≤ l.fn.count)
    × All (HasBegun (shared_knowledge (written l.initial.writer))) l.readers.items

abbrev pub decreases-made : goal.decreases-made
decreases-made l = l.fn.count - length l.readers.items
