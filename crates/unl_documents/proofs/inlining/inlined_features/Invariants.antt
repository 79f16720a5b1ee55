use Rattle.std.proofs.Common.{◌≡◌, take, map}
use Rattle.unl_documents.specs.Inline.{inlined_feature}
use Rattle.unl_documents.proofs.inlining.inlined_features.Given as goal

abbrev pub invariant-loop-feature : goal.invariant-loop-feature
invariant-loop-feature l = l.inlined ≡ map (inlined_feature l.segments) (take l.feature-index l.features)
