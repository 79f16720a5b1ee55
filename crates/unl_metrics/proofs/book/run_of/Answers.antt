use Rattle.std.proofs.Common.{rules}
use Rattle.unl_metrics.specs.Book.{is_of}
use Rattle.unl_metrics.proofs.Acknowledging.{run_some, run_none}
use Rattle.unl_metrics.proofs.book.run_of.Goals as goal

pub returns-in-Some-clause-run : goal.returns-in-Some-clause-run
returns-in-Some-clause-run c = run_some (λ row. is_of c.args.environment.now row.0) c.args.rows.now c.in-Some.place (search rules)

pub returns-in-None-clause-run : goal.returns-in-None-clause-run
returns-in-None-clause-run c = run_none (λ row. is_of c.args.environment.now row.0) c.args.rows.now (search rules)
