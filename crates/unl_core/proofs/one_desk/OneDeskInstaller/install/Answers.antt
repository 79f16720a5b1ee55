use Rattle.std.proofs.Common.{◌<◌, length, subst, sym, ap}
use Rattle.unl_core.specs.DeskStates.{DeskState, installed_by}
use Rattle.unl_delta.proofs.Installs.{installed_follows}
use Rattle.unl_core.proofs.DeskStateLemmas.{install_is, places_match_install, place_version}
use Rattle.unl_core.proofs.one_desk.OneDeskInstaller.install.Goals as goal

pub invariant_of-self : goal.invariant_of-self
invariant_of-self c =
    places_match_install c.self.inside.board c.install.new.board c.self.inside.places.items c.args.slot c.in_ok-snapshot.snapshot c.in_ok-version.version c.in_ok-snapshot-2.snapshot
    c.self.invariant c.install.ensures.changed c.in_ok-snapshot-2.ensures c.in_ok-version.ensures c.in_ok-snapshot.ensures.valid

pub returns-clause-published : goal.returns-clause-published
returns-clause-published c =
    let low : c.args.slot < length c.self.inside.places.items = subst (λ (s : DeskState). c.args.slot < length s.places) (sym c.self.view_is) c.requires.slot in
    ap installed_by (install_is c.self.inside.board c.install.new.board c.self.inside.places.items c.self.inside.front c.args.slot c.args.batch.now c.index.result.now
    c.in_ok-snapshot.snapshot c.in_ok-version.version c.in_ok-snapshot-2.snapshot c.args.self.now c.self.view_is low c.index.ensures c.in_ok-snapshot.ensures.snapshot
    c.in_ok-snapshot-2.ensures c.in_ok-version.ensures c.install.ensures.changed)

pub returns-clause-whole : goal.returns-clause-whole
returns-clause-whole c =
    let low : c.args.slot < length c.self.inside.places.items = subst (λ (s : DeskState). c.args.slot < length s.places) (sym c.self.view_is) c.requires.slot in
    install_is c.self.inside.board c.install.new.board c.self.inside.places.items c.self.inside.front c.args.slot c.args.batch.now c.index.result.now
    c.in_ok-snapshot.snapshot c.in_ok-version.version c.in_ok-snapshot-2.snapshot c.args.self.now c.self.view_is low c.index.ensures c.in_ok-snapshot.ensures.snapshot
    c.in_ok-snapshot-2.ensures c.in_ok-version.ensures c.install.ensures.changed

pub returns-clause-represents : goal.returns-clause-represents
returns-clause-represents c =
    let low : c.args.slot < length c.self.inside.places.items = subst (λ (s : DeskState). c.args.slot < length s.places) (sym c.self.view_is) c.requires.slot in
    installed_follows c.args.slot c.args.batch.now (installed_by c.args.self.now) _ c.requires.slot c.requires.applies
    (ap installed_by (install_is c.self.inside.board c.install.new.board c.self.inside.places.items c.self.inside.front c.args.slot c.args.batch.now c.index.result.now
    c.in_ok-snapshot.snapshot c.in_ok-version.version c.in_ok-snapshot-2.snapshot c.args.self.now c.self.view_is low c.index.ensures c.in_ok-snapshot.ensures.snapshot
    c.in_ok-snapshot-2.ensures c.in_ok-version.ensures c.install.ensures.changed))

pub snapshot_after-requires-clause-represents : goal.snapshot_after-requires-clause-represents
snapshot_after-requires-clause-represents c =
    let low : c.args.slot < length c.self.inside.places.items = subst (λ (s : DeskState). c.args.slot < length s.places) (sym c.self.view_is) c.requires.slot in
    place_version c.self.inside.board c.self.inside.places.items c.args.slot c.index.result.now c.self.invariant low c.index.ensures
