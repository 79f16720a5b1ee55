use Rattle.std.proofs.Common.{rules}
use Rattle.unl_metrics.specs.Book.{is_of}
use Rattle.unl_metrics.proofs.Acknowledging.{place_some, place_none}
use Rattle.unl_metrics.proofs.book.first_of.Goals as goal

pub returns-in-Some-clause-place : goal.returns-in-Some-clause-place
returns-in-Some-clause-place c = place_some (λ row. is_of c.args.environment.now row.0) c.args.rows.now c.in-Some.place (search rules)

pub returns-in-None-clause-place : goal.returns-in-None-clause-place
returns-in-None-clause-place c = place_none (λ row. is_of c.args.environment.now row.0) c.args.rows.now (search rules)
