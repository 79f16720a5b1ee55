use Rattle.std.proofs.Common.{◌≡◌, drop, fold}
use Rattle.unl_context.specs.Query.{with_inner, with_property}
use Rattle.unl_context.proofs.query.Settings.context.Given as goal

abbrev pub invariant-loop-property : goal.invariant-loop-property
invariant-loop-property l = fold (λ c p. with_property p.name p.value c) l.plain (drop l.property-index l.property-items) ≡ with_inner l.fn.self
