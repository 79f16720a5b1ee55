use Rattle.unl_documents.proofs.FirstFaults.{override_first, dependency_first, payload_first, variant_first, constraint_first, strategy_first}
use Rattle.unl_documents.proofs.laws.objects_have_their_first_fault.Goals as goal

pub returns-clause-overrides : goal.returns-clause-overrides
returns-clause-overrides c = override_first

pub returns-clause-dependencies : goal.returns-clause-dependencies
returns-clause-dependencies c = dependency_first

pub returns-clause-payloads : goal.returns-clause-payloads
returns-clause-payloads c = payload_first

pub returns-clause-variants : goal.returns-clause-variants
returns-clause-variants c = variant_first

pub returns-clause-constraints : goal.returns-clause-constraints
returns-clause-constraints c = constraint_first

pub returns-clause-strategies : goal.returns-clause-strategies
returns-clause-strategies c = strategy_first
