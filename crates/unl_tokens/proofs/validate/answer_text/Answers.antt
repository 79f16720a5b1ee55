use Rattle.unl_tokens.specs.Requests.{known}
use Rattle.unl_tokens.proofs.KnownTokens.{known_is}
use Rattle.unl_tokens.proofs.WrittenBack.{answer_back, no_float_answer}
use Rattle.unl_tokens.proofs.validate.answer_text.Goals as goal

pub returns-clause-reads_back : goal.returns-clause-reads_back
returns-clause-reads_back c = λ few. answer_back (known c.args.book.now c.args.asked.now) (known_is c.args.book.now c.args.asked.now c.indexed.ensures.valid few)

pub returns-clause-no_float : goal.returns-clause-no_float
returns-clause-no_float c = no_float_answer (known c.args.book.now c.args.asked.now)
