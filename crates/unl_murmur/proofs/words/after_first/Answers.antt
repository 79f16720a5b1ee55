use Rattle.std.proofs.Common.{◌++◌, drop, sym, ap, ◌∙◌}
use Rattle.unl_murmur.specs.Murmur3.{state_after, after_block}
use Rattle.unl_murmur.proofs.Blocks.{block_first}
use Rattle.unl_murmur.proofs.words.after_first.Goals as goal

pub returns : goal.returns
returns c more =
    block_first _ _ c.requires more
    ∙ ap (λ s. state_after s (drop 4 c.args.bytes.now ++ more)) (sym (c.after_block.ensures ∙ ap (after_block c.args.state) c.from_le_bytes.ensures))
