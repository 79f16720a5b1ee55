use Rattle.std.proofs.Common.{rules}
use Rattle.unl_documents.proofs.Inlined.{inlined_valid}
use Rattle.unl_documents.proofs.inlining.inline.Goals as goal

pub returns-in_ok-inlined-in-None-clause-valid : goal.returns-in_ok-inlined-in-None-clause-valid
returns-in_ok-inlined-in-None-clause-valid c valid = rw c.in_ok-inlined-in-None.ensures (inlined_valid c.args.state.now valid (search rules))
