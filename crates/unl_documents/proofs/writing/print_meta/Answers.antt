use Rattle.unl_documents.proofs.Tokens.{one, then, spelled, meta_tokens}
use Rattle.unl_documents.proofs.writing.print_meta.Goals as goal

pub returns : goal.returns
returns c =
    let begun = one c.in_ok-begin_object.ensures in
    let ended = one c.in_ok-end_object.ensures in
    spelled (meta_tokens c.args.head.now) (then begun (then c.in_ok-print_unless_zero.ensures (then c.in_ok-print_at.ensures (then c.in_ok-print_at-2.ensures ended))))
