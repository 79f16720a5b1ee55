use Rattle.std.proofs.Common.{subst}
use Rattle.std.specs.Prelude.{◌≡◌, IfSome, filter_map}
use Rattle.unl_compiled.specs.Toggles.{ToggleQuery, toggle_at, toggles_for}
use Rattle.unl_compiled.proofs.AtPlaces.{places_found}
use Rattle.unl_compiled.proofs.query.ToggleQuery.places.Goals as goal

pub returns : goal.returns
returns c =
    let q = c.self.inside in
    let inside : ToggleQuery = record { state = q.parts.now; projects = q.projects.now; all = q.all; context = q.context.now; moment = q.moment.now } in
    subst (λ (query : ToggleQuery). IfSome c.places_of_one.result (λ places. filter_map (toggle_at query) places.now ≡ toggles_for query)) c.self.view_is
    (places_found inside q.index.now c.places_of_one.result (λ places. places.now) c.self.invariant.1 c.places_of_one.ensures)
