use Rattle.unl_documents.proofs.Tokens.{one, then, spelled}
use Rattle.unl_tokens.specs.Requests.{known}
use Rattle.unl_tokens.proofs.EntryTokens.{answer_tokens}
use Rattle.unl_tokens.proofs.validate.print_answer.Goals as goal

pub returns : goal.returns
returns c =
    let begun = one c.in_ok-begin_object.ensures in
    let opened = one c.in_ok-begin_array.ensures in
    let closed = one c.in_ok-end_array.ensures in
    let ended = one c.in_ok-end_object.ensures in
    spelled (answer_tokens (known c.args.tokens.now c.args.asked.now)) (then begun (then c.in_ok-print_key.ensures (then opened (then c.in_ok-print_known.ensures (then closed ended)))))
