use Rattle.std.proofs.Common.{◌∙◌}
use Rattle.unl_documents.specs.Writing.{feed_data}
use Rattle.unl_documents.proofs.Tokens.{text_of}
use Rattle.unl_documents.proofs.writing.feed_text.Goals as goal

pub returns : goal.returns
returns c =
    let body = feed_data c.args.head.now c.args.state.now in
    let printed = text_of body c.new-out.result c.print_feed.new.out (c.new-out.ensures.before ∙ c.in_ok-with_capacity.ensures.items) c.new-out.ensures.tokens c.in_ok-print_feed.ensures in
    c.from_vec.ensures ∙ c.into_inner.ensures.items ∙ printed
