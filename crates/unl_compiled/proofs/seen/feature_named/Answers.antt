use Rattle.std.proofs.Common.{ap, ◌∙◌}
use Rattle.unl_dependencies.specs.Evaluation.{feature_named}
use Rattle.unl_compiled.proofs.seen.feature_named.Goals as goal

pub returns : goal.returns
returns c = c.feature_among.ensures ∙ ap (feature_named c.args.name.now) c.chunks.ensures.features
