use Rattle.std.proofs.Common.{◌<◌, length, sym, ap, subst}
use Rattle.unl_delta.specs.declared.version.Place.{Place}
use Rattle.unl_delta.proofs.Installs.{hold_keeps}
use Rattle.unl_edge_state.specs.Writing.{Writing, installed_by}
use Rattle.unl_edge_state.proofs.Writings.{hold_is, writing_held}
use Rattle.unl_edge_state.proofs.writer.EdgeWriterInstaller.hold.Goals as goal

pub invariant_of-self : goal.invariant_of-self
invariant_of-self g c =
    let low : c.args.slot < length c.self.inside.places.items = subst (λ (w : Writing). c.args.slot < length w.places) (sym c.self.view_is) c.requires in
    writing_held _ c.self.inside.places.items c.args.slot _ c.index_mut.result.now c.self.invariant low (ap (λ (p : Place). p.version) c.index_mut.ensures.value)

pub returns-clause-held : goal.returns-clause-held
returns-clause-held g c =
    let low : c.args.slot < length c.self.inside.places.items = subst (λ (w : Writing). c.args.slot < length w.places) (sym c.self.view_is) c.requires in
    ap installed_by (hold_is _ c.self.inside.places.items _ c.args.slot c.index_mut.result.now c.args.self.now c.self.view_is low c.index_mut.ensures.value)

pub returns-clause-whole : goal.returns-clause-whole
returns-clause-whole g c =
    let low : c.args.slot < length c.self.inside.places.items = subst (λ (w : Writing). c.args.slot < length w.places) (sym c.self.view_is) c.requires in
    hold_is _ c.self.inside.places.items _ c.args.slot c.index_mut.result.now c.args.self.now c.self.view_is low c.index_mut.ensures.value

pub returns-clause-stays : goal.returns-clause-stays
returns-clause-stays g c =
    let low : c.args.slot < length c.self.inside.places.items = subst (λ (w : Writing). c.args.slot < length w.places) (sym c.self.view_is) c.requires in
    hold_keeps c.args.slot (installed_by c.args.self.now) _ c.requires
    (ap installed_by (hold_is _ c.self.inside.places.items _ c.args.slot c.index_mut.result.now c.args.self.now c.self.view_is low c.index_mut.ensures.value))
