use Rattle.std.proofs.Common.{◌≡◌, None, Some, ap, ◌∙◌}
use Rattle.std.specs.Prelude.{find}
use Rattle.unl_upstream.specs.Upstream.{is_feature_named}
use Rattle.unl_upstream.proofs.Next.{found_project, project_found}
use Rattle.unl_upstream.proofs.event.project_of.Goals as goal

pub returns-in-None : goal.returns-in-None
returns-in-None c =
    let name = c.args.name.now in
    let features = c.args.version.now.state.features in
    let found : None ≡ find (is_feature_named name) features = rw c.in-None.is at c.feature_named.ensures in
    ap project_found found ∙ found_project name features

pub returns-in-Some : goal.returns-in-Some
returns-in-Some c =
    let name = c.args.name.now in
    let features = c.args.version.now.state.features in
    let found : Some c.in-Some.feature.now ≡ find (is_feature_named name) features = rw c.in-Some.is at c.feature_named.ensures in
    ap project_found found ∙ found_project name features
