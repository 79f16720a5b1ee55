use Rattle.unl_dependencies.proofs.Named.{named_valid}
use Rattle.unl_dependencies.proofs.features.valid_named.Goals as goal

pub returns-clause-valid : goal.returns-clause-valid
returns-clause-valid g c = named_valid g.F.Features.document c.args.name.now (g.F.Features.state c.args.features.now).features c.named.result c.named.ensures c.requires.valid.features
