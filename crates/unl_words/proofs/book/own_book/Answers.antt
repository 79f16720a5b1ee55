use Rattle.unl_words.proofs.OwnTokens.{own_book_read}
use Rattle.unl_words.proofs.book.own_book.Goals as goal

pub returns-in_err-answer-clause-whole : goal.returns-in_err-answer-clause-whole
returns-in_err-answer-clause-whole c = own_book_read c.args.clients.now c.args.frontends.now

pub returns-clause-whole : goal.returns-clause-whole
returns-clause-whole c = own_book_read c.args.clients.now c.args.frontends.now
