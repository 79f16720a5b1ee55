use Rattle.std.proofs.Common.{◌<◌, length, subst, sym, ap}
use Rattle.unl_core.specs.DeskStates.{DeskState, installed_by}
use Rattle.unl_delta.proofs.Installs.{hold_keeps}
use Rattle.unl_core.proofs.DeskStateLemmas.{hold_is, places_match_held}
use Rattle.unl_core.proofs.one_desk.OneDeskInstaller.hold.Goals as goal

pub invariant_of-self : goal.invariant_of-self
invariant_of-self c =
    let low : c.args.slot < length c.self.inside.places.items = subst (λ (s : DeskState). c.args.slot < length s.places) (sym c.self.view_is) c.requires in
    places_match_held c.self.inside.board c.self.inside.places.items c.args.slot _ c.index_mut.result.now c.self.invariant low (ap (λ p. p.version) c.index_mut.ensures.value)

pub returns-clause-held : goal.returns-clause-held
returns-clause-held c =
    let low : c.args.slot < length c.self.inside.places.items = subst (λ (s : DeskState). c.args.slot < length s.places) (sym c.self.view_is) c.requires in
    ap installed_by (hold_is c.self.inside.board c.self.inside.places.items c.self.inside.front c.args.slot c.index_mut.result.now c.args.self.now c.self.view_is low c.index_mut.ensures.value)

pub returns-clause-whole : goal.returns-clause-whole
returns-clause-whole c =
    let low : c.args.slot < length c.self.inside.places.items = subst (λ (s : DeskState). c.args.slot < length s.places) (sym c.self.view_is) c.requires in
    hold_is c.self.inside.board c.self.inside.places.items c.self.inside.front c.args.slot c.index_mut.result.now c.args.self.now c.self.view_is low c.index_mut.ensures.value

pub returns-clause-stays : goal.returns-clause-stays
returns-clause-stays c =
    let low : c.args.slot < length c.self.inside.places.items = subst (λ (s : DeskState). c.args.slot < length s.places) (sym c.self.view_is) c.requires in
    hold_keeps c.args.slot (installed_by c.args.self.now) _ c.requires
    (ap installed_by (hold_is c.self.inside.board c.self.inside.places.items c.self.inside.front c.args.slot c.index_mut.result.now c.args.self.now c.self.view_is low c.index_mut.ensures.value))
