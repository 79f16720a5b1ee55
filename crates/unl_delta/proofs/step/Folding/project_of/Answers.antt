use Rattle.std.proofs.Common.{◌≡◌, None, Some, ap, ◌∙◌}
use Rattle.std.specs.Prelude.{find, option_map}
use Rattle.std.specs.Str.{bytes_eq}
use Rattle.unl_documents.specs.declared.feature.Feature.{Feature}
use Rattle.unl_documents.specs.declared.state.State.{State}
use Rattle.unl_delta.specs.State.{project_of}
use Rattle.unl_delta.proofs.Steps.{project_found}
use Rattle.unl_delta.proofs.step.Folding.project_of.Goals as goal

pub returns-in-None : goal.returns-in-None
returns-in-None c =
    let name = c.args.name.now in
    let features = c.self.inside.features in
    let found : None ≡ find (λ (f : Feature). bytes_eq f.name name) features = rw c.in-None.is at c.find_in_chunks.ensures in
    ap (option_map (λ (f : Feature). f.project)) found ∙ project_found name features ∙ ap (λ (s : State). project_of name s.features) c.self.view_is

pub returns-in-Some : goal.returns-in-Some
returns-in-Some c =
    let name = c.args.name.now in
    let features = c.self.inside.features in
    let found : Some c.in-Some.feature.now ≡ find (λ (f : Feature). bytes_eq f.name name) features = rw c.in-Some.is at c.find_in_chunks.ensures in
    ap (option_map (λ (f : Feature). f.project)) found ∙ project_found name features ∙ ap (λ (s : State). project_of name s.features) c.self.view_is
