use Rattle.std.proofs.Common.{rules}
use Rattle.unl_workers.proofs.TakingLemmas.{takes_more}
use Rattle.unl_workers.proofs.Chains.{serves_more}
use Rattle.unl_workers.proofs.worker.run_worker.Goals as goal

pub loop-served-preserved : goal.loop-served-preserved
loop-served-preserved g c = record {
  served = serves_more g.S.Server.serves c.loop-served.served _ _ _ c.loop-served.invariant.served c.serve_one.ensures.served;
  keeps = g.met.S.Server.keeps_on _ _ _ c.loop-served.invariant.keeps c.serve_one.ensures.keeps;
  same = search rules;
  took = takes_more _ _ _ _ _ _ _ _ _ _ c.loop-served.invariant.took c.in-Some.ensures.takes c.serve_one.ensures.this;
}
