use Rattle.unl_documents.proofs.Tokens.{one, then, spelled, constraint_tokens}
use Rattle.unl_documents.proofs.constraint.ConstraintWriteJson.print.Goals as goal

pub returns : goal.returns
returns c =
    let begun = one c.in_ok-begin_object.ensures in
    let ended = one c.in_ok-end_object.ensures in
    spelled (constraint_tokens c.args.self.now) (then begun (then c.in_ok-print_at.ensures (then c.in_ok-print_at-2.ensures (then c.in_ok-print_at-3.ensures (then c.in_ok-print_at-4.ensures (then c.in_ok-print_some.ensures (then c.in_ok-print_at-5.ensures ended)))))))
