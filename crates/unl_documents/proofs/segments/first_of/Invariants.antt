use Rattle.std.proofs.Common.{◌≡◌, drop}
use Rattle.unl_documents.specs.Inline.{segment_with}
use Rattle.unl_documents.proofs.segments.first_of.Given as goal

abbrev pub invariant-loop-shared : goal.invariant-loop-shared
invariant-loop-shared l = segment_with l.id (drop l.shared-index l.segments) ≡ segment_with l.id l.segments
