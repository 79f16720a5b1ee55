use Rattle.std.proofs.Common.{rules}
use Rattle.unl_words.proofs.Numbers.{number_too_great}
use Rattle.unl_words.proofs.number.number_within.Goals as goal

pub returns-in-Err-clause-gives : goal.returns-in-Err-clause-gives
returns-in-Err-clause-gives c = number_too_great c.args.least c.args.most c.args.text.now (search rules) (search rules) c.in-Err.ensures.value.0
