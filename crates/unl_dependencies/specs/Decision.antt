-- Decisions: evaluations with a borrowed variant.
use Rattle.std.specs.Prelude.{ℕ, List, length, Bool, not, ◌&&◌, ◌||◌, ◌==◌, option_map, if◌then◌else◌}
use Rattle.unl_documents.specs.declared.dependency.Dependency.{Dependency}
use Rattle.unl_variants.specs.Variant.{is_among}
use Rattle.unl_dependencies.specs.Evaluation.{off, on_with}
use Rattle.unl_dependencies.specs.declared.evaluation.Evaluation.{Evaluation}
use Rattle.unl_dependencies.specs.declared.evaluation.Decision.{Decision}
use Rattle.unl_dependencies.specs.declared.evaluation.Decision.TheVariants.{Off, On}

-- The evaluation that a decision represents.
abbrev pub evaluation_by : Decision → Evaluation
evaluation_by Off = off
evaluation_by (On variant) = on_with (option_map (λ v. v.now) variant)

-- Whether a dependency is satisfied by its parent feature, which is `on` or off and has the variant `name` (`disabled` if it has no
-- variant). A dependency that is not enabled requires that the parent is off. Any other requires that the parent is on and, if the
-- dependency lists variants, that `name` is one of them.
abbrev pub asks_for : Dependency → Bool → List ℕ → Bool
asks_for d on name = if d.enabled then on && (length d.variants == 0 || is_among d.variants name) else not on
