use Rattle.std.proofs.Common.{◌≡◌, ◌≤◌, ℕ, List, ◌++◌, length}
use Rattle.unl_murmur.specs.Murmur3.{state_after}
use Rattle.unl_murmur.proofs.words.after_blocks.Given as goal

abbrev pub invariant-loop-rest : goal.invariant-loop-rest
invariant-loop-rest l =
    ((more : List ℕ) → state_after l.fn.state (l.fn.bytes ++ more) ≡ state_after l.now (l.rest ++ more)) × (length l.rest ≤ length l.fn.bytes)

abbrev pub decreases-loop-rest : goal.decreases-loop-rest
decreases-loop-rest l = length l.rest
