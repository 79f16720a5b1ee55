use Rattle.std.proofs.Common.{◌∙◌}
use Rattle.unl_constraints.proofs.Searching.{decided_by_search}
use Rattle.unl_documents.specs.States.{name_key}
use Rattle.unl_compiled.proofs.seen.feature_in.Goals as goal

pub returns : goal.returns
returns c = c.feature_at.ensures ∙ rw (c.place_of.ensures, c.as_slice-features.ensures) (decided_by_search name_key c.args.name.now c.args.chunk.now c.requires).0
