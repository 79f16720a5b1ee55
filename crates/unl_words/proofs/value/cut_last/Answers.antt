use Rattle.unl_words.proofs.LastSplit.{split_last}
use Rattle.unl_words.proofs.value.cut_last.Goals as goal

pub returns : goal.returns
returns c = split_last c.args.mark c.args.text.now c.rsplit_once.result c.rsplit_once.ensures.cases c.requires
