use Rattle.std.proofs.Common.{ap, ◌∙◌}
use Rattle.std.specs.List.{prefix_len}
use Rattle.std.proofs.lemmas.Result.{IfOk-weaker}
use Rattle.unl_constraints.proofs.Searching.{is_below}
use Rattle.unl_documents.specs.States.{name_key}
use Rattle.unl_compiled.proofs.seen.place_named.Goals as goal

pub returns : goal.returns
returns c = IfOk-weaker c.place_among.result _ _ (λ place is. is ∙ ap (prefix_len (is_below name_key c.args.name.now)) c.chunks.ensures.features) c.place_among.ensures
