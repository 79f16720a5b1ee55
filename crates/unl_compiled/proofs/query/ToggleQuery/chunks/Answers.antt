use Rattle.std.proofs.Common.{ap, ◌∙◌}
use Rattle.std.specs.Prelude.{filter_map}
use Rattle.unl_compiled.specs.Toggles.{ToggleQuery, toggle_for, toggle_if_seen}
use Rattle.unl_compiled.proofs.Finding.{seen_toggles}
use Rattle.unl_documents.specs.declared.feature.Feature.{Feature}
use Rattle.unl_tokens.specs.Names.{sees}
use Rattle.unl_compiled.proofs.query.ToggleQuery.chunks.Goals as goal

pub returns-clause-toggles : goal.returns-clause-toggles
returns-clause-toggles c =
    let query = c.args.self.now in
    ap (filter_map (toggle_if_seen query)) (c.chunks.ensures.features ∙ ap (λ (q : ToggleQuery). q.state.features) c.self.view_is)
    ∙ seen_toggles (toggle_for query) (λ (f : Feature). sees query.projects f.project) query.state.features
