use Rattle.unl_murmur.proofs.Represented.{one_more, no_more}
use Rattle.unl_murmur.proofs.hasher.Hasher.take_all.Goals as goal

pub loop-byte-preserved : goal.loop-byte-preserved
loop-byte-preserved c =
    one_more _ _ _ _ _ _ _ _ _ c.in-Some.ensures.cases.0 c.loop-byte.invariant c.take.ensures c.take_blocks-rest-in-Some.ensures.takes

pub returns : goal.returns
returns c = no_more _ _ _ _ c.in_default.ensures.cases c.loop-byte.invariant
