use Rattle.unl_metrics.proofs.Members.{no_variants}
use Rattle.unl_metrics.proofs.reading.entry_of.Goals as goal

pub defaulted-requires-3 : goal.defaulted-requires-3
defaulted-requires-3 c = rw c.new-none.ensures no_variants
