use Rattle.unl_compiled.proofs.InChunks.{represents}
use Rattle.unl_compiled.proofs.parts.feature_at.Goals as goal

pub unwrap-requires : goal.unwrap-requires
unwrap-requires c = represents _ _ c.args.features.now c.args.place c.get.ensures c.requires
