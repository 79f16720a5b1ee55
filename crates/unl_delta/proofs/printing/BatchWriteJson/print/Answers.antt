use Rattle.unl_documents.proofs.Tokens.{one, then, spelled}
use Rattle.unl_delta.proofs.EventTokens.{batch_tokens}
use Rattle.unl_delta.proofs.printing.BatchWriteJson.print.Goals as goal

pub returns : goal.returns
returns c =
    let begun = one c.in_ok-begin_object.ensures in
    let ended = one c.in_ok-end_object.ensures in
    spelled (batch_tokens c.args.self.now) (then begun (then c.in_ok-print_some.ensures (then c.in_ok-print_unless_zero.ensures (then c.in_ok-print_at.ensures ended))))
