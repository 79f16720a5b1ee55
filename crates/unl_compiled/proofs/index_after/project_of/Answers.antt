use Rattle.std.proofs.Common.{ap, ◌∙◌}
use Rattle.std.specs.Prelude.{option_map}
use Rattle.unl_delta.proofs.Steps.{project_found}
use Rattle.unl_documents.specs.declared.feature.Feature.{Feature}
use Rattle.unl_compiled.proofs.index_after.project_of.Goals as goal

pub returns : goal.returns
returns c =
    let project = option_map (λ (f : Feature). f.project) in
    c.project_in.ensures ∙ ap project (c.document_of.ensures ∙ c.feature_named.ensures) ∙ rw c.as_str.ensures (project_found c.args.name.now c.args.parts.now.features)
