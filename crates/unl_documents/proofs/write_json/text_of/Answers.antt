use Rattle.std.proofs.Common.{◌∙◌}
use Rattle.unl_documents.proofs.Tokens.{text_of}
use Rattle.unl_documents.proofs.write_json.text_of.Goals as goal

pub returns : goal.returns
returns g c =
    let body = g.P.WriteJson.written c.args.value.now in
    let printed = text_of body c.new-out.result c.print.new.out (c.new-out.ensures.before ∙ c.in_ok-with_capacity.ensures.items) c.new-out.ensures.tokens c.in_ok-print.ensures in
    c.from_vec.ensures ∙ c.into_inner.ensures.items ∙ printed
