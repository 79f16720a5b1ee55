use Rattle.std.proofs.Common.{◌≡◌, ◌∙◌}
use Rattle.serde_json.specs.Written.{compact_text}
use Rattle.unl_documents.proofs.Tokens.{text_of}
use Rattle.unl_tokens.specs.Requests.{known, answer_data}
use Rattle.unl_tokens.proofs.validate.known_text.Goals as goal

pub returns : goal.returns
returns c =
    let body = answer_data (known c.args.tokens.now c.as_slice.result.now) in
    let printed = text_of body c.new-out.result c.print_answer.new.out (c.new-out.ensures.before ∙ c.in_ok-with_capacity.ensures.items) c.new-out.ensures.tokens c.in_ok-print_answer.ensures in
    let same : compact_text body ≡ compact_text (answer_data (known c.args.tokens.now c.args.asked.now)) = λ i. compact_text (answer_data (known c.args.tokens.now (c.as_slice.ensures i))) in
    c.from_vec.ensures ∙ c.into_inner.ensures.items ∙ printed ∙ same
