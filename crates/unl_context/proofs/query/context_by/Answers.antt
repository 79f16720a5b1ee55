use Rattle.std.proofs.Common.{rules, ◌<◌, ◌∙◌, ap, fold, length}
use Rattle.unl_context.specs.Query.{pairs_of, with_pair, with_inner}
use Rattle.unl_context.proofs.Counting.{none_yet, set_apart, too_many}
use Rattle.unl_context.proofs.query.context_by.Goals as goal

pub returns-in_err-take_all-clause-large : goal.returns-in_err-take_all-clause-large
returns-in_err-take_all-clause-large c is =
    let many : 256 < length (fold with_pair none_yet (pairs_of c.args.query.now)).plain.properties = rw (← c.nothing.ensures, ← c.new.ensures) (search rules) in
    too_many (pairs_of c.args.query.now) many

pub returns-clause-set : goal.returns-clause-set
returns-clause-set c =
    c.in_ok-context.ensures ∙ ap with_inner c.in_ok-take_all.ensures.ok ∙ rw (c.nothing.ensures, c.new.ensures) (set_apart (pairs_of c.args.query.now))
