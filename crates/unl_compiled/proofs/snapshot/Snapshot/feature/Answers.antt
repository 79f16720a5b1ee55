use Rattle.std.proofs.Common.{rules, ◌∙◌}
use Rattle.unl_delta.proofs.Validity.{view_is_valid}
use Rattle.unl_delta.specs.View.{view_of}
use Rattle.unl_dependencies.proofs.Named.{named_valid}
use Rattle.unl_documents.specs.States.{IsValidState}
use Rattle.unl_documents.specs.declared.feature.Feature.{Feature}
use Rattle.unl_tokens.specs.Names.{sees}
use Rattle.unl_compiled.proofs.snapshot.Snapshot.feature.Goals as goal

pub returns-clause-valid : goal.returns-clause-valid
returns-clause-valid c =
    let seen = sees c.args.projects.now in
    let state = c.self.inside.parts in
    let valid : IsValidState state = search rules in
    named_valid (λ (f : Feature). f) c.args.name.now (view_of seen state).features c.document_of.result
    (c.document_of.ensures ∙ c.seen_named.ensures) (view_is_valid seen state valid).features
