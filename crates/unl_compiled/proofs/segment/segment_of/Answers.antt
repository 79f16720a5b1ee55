use Rattle.std.proofs.Common.{◌∙◌}
use Rattle.unl_compiled.proofs.Finding.{segment_is}
use Rattle.unl_compiled.proofs.segment.segment_of.Goals as goal

pub returns : goal.returns
returns c = c.found.ensures ∙ segment_is c.args.id c.args.segments.now
