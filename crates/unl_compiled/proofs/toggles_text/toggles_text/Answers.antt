use Rattle.std.proofs.Common.{◌∙◌}
use Rattle.unl_compiled.specs.Toggles.{body_for}
use Rattle.unl_documents.proofs.Tokens.{text_of}
use Rattle.unl_compiled.proofs.toggles_text.toggles_text.Goals as goal

pub returns : goal.returns
returns c =
    c.from_vec.ensures ∙ c.into_inner.ensures.items
    ∙ text_of (body_for c.args.query.now) c.new-out.result c.write_toggles.new.out (c.new-out.ensures.before ∙ c.in_ok-with_capacity.ensures.items) c.new-out.ensures.tokens c.in_ok-write_toggles.ensures
