use Rattle.std.proofs.Common.{◌≡◌, map, take}
use Rattle.unl_words.specs.Lists.{environment_of}
use Rattle.unl_words.proofs.token.environments.Given as goal

-- The environments of the tokens so far.
abbrev pub invariant-loop-token : goal.invariant-loop-token
invariant-loop-token l = l.environments ≡ map environment_of (take l.token-index l.tokens)
