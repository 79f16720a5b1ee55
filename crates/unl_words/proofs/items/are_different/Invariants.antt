use Rattle.std.proofs.Common.{◌≡◌, length}
use Rattle.unl_words.specs.Lists.{are_different}
use Rattle.unl_words.proofs.items.are_different.Given as goal

-- All texts are distinct exactly if the remaining ones are.
abbrev pub invariant-loop-text : goal.invariant-loop-text
invariant-loop-text l = are_different l.rest ≡ are_different l.texts

abbrev pub decreases-loop-text : goal.decreases-loop-text
decreases-loop-text l = length l.rest
