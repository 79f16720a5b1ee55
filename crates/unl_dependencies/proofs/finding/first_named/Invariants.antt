use Rattle.std.proofs.Common.{◌≡◌, drop}
use Rattle.unl_dependencies.specs.Evaluation.{feature_named}
use Rattle.unl_dependencies.proofs.finding.first_named.Given as goal

abbrev pub invariant-loop-shared : goal.invariant-loop-shared
invariant-loop-shared l = feature_named l.name (drop l.shared-index l.features) ≡ feature_named l.name l.features
