use Rattle.std.proofs.Common.{rules}
use Rattle.unl_dependencies.proofs.Named.{named_valid}
use Rattle.unl_dependencies.proofs.finding.feature_named.Goals as goal

pub returns-clause-valid : goal.returns-clause-valid
returns-clause-valid c = named_valid (λ f. f) c.args.name.now c.args.features.now c.first_in_chunks.result (search rules)
