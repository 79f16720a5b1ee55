use Rattle.std.proofs.Common.{◌≡◌, ◌<◌, length, refl, sym, ap, ◌∙◌, subst, true, is_some}
use Rattle.unl_core.specs.declared.board.Board.{Board}
use Rattle.unl_core.specs.DeskStates.{snapshot_at}
use Rattle.unl_core.proofs.DeskStateLemmas.{place_version}
use Rattle.unl_delta.specs.declared.batch.Verdict.TheVariants.{Apply}
use Rattle.unl_delta.specs.declared.version.Place.{Place}
use Rattle.unl_delta.specs.Batch.{verdict_of}
use Rattle.unl_delta.proofs.Installs.{install_follows}
use Rattle.unl_edge_state.specs.Editions.{board_known}
use Rattle.unl_edge_state.specs.Writing.{Writing, installed_by}
use Rattle.unl_edge_state.proofs.Boards.{shown_known}
use Rattle.unl_edge_state.proofs.Ordered.{version_in_order}
use Rattle.unl_edge_state.proofs.Represented.{batch_represented}
use Rattle.unl_edge_state.proofs.Writings.{batch_is, batch_orderly, batch_result_installed, place_is}
use Rattle.unl_publication.specs.Seen.{published}
use Rattle.unl_edge_state.proofs.writer.EdgeWriterInstaller.install.Goals as goal

pub snapshot_after-requires-clause-represents : goal.snapshot_after-requires-clause-represents
snapshot_after-requires-clause-represents g c =
    let low : c.args.slot < length c.self.inside.places.items = subst (λ (w : Writing). c.args.slot < length w.places) (sym c.self.view_is) c.requires.slot in
    place_version _ c.self.inside.places.items c.args.slot c.index.result.now c.self.invariant.represents low c.index.ensures
    ∙ ap (λ (b : Board). snapshot_at b.slots c.args.slot) (sym (c.board.ensures.board ∙ shown_known (published c.self.inside.publisher) c.value.result.now c.self.invariant.begun c.value.ensures.list))

pub snapshot_after-requires-clause-applies : goal.snapshot_after-requires-clause-applies
snapshot_after-requires-clause-applies g c =
    let low : c.args.slot < length c.self.inside.places.items = subst (λ (w : Writing). c.args.slot < length w.places) (sym c.self.view_is) c.requires.slot in
    let here = place_is _ c.self.inside.places.items _ c.args.slot c.index.result.now c.args.self.now c.self.view_is low c.index.ensures in
    subst (λ (p : Place). verdict_of p c.args.batch.now ≡ Apply) here c.requires.applies

pub publish_version-requires-clause-order : goal.publish_version-requires-clause-order
publish_version-requires-clause-order g c =
    let low : c.args.slot < length c.self.inside.places.items = subst (λ (w : Writing). c.args.slot < length w.places) (sym c.self.view_is) c.requires.slot in
    let here = place_is _ c.self.inside.places.items _ c.args.slot c.index.result.now c.args.self.now c.self.view_is low c.index.ensures in
    let represents = ap (λ (p : Place). p.version) here ∙ place_version _ c.self.inside.places.items c.args.slot c.index.result.now c.self.invariant.represents low c.index.ensures
    ∙ ap (λ (w : Writing). snapshot_at (board_known w.known).slots c.args.slot) c.self.view_is in
    version_in_order c.args.self.now c.args.slot c.args.batch.now c.index.result.now c.in_ok-snapshot.snapshot c.in_ok-snapshot-2.snapshot here represents c.requires.applies
    c.in_ok-snapshot.ensures.snapshot c.in_ok-snapshot-2.ensures

pub returns-clause-published : goal.returns-clause-published
returns-clause-published g c =
    let low : c.args.slot < length c.self.inside.places.items = subst (λ (w : Writing). c.args.slot < length w.places) (sym c.self.view_is) c.requires.slot in
    let here = place_is _ c.self.inside.places.items _ c.args.slot c.index.result.now c.args.self.now c.self.view_is low c.index.ensures in
    let begun : is_some c.args.self.now.known.opening ≡ true = subst (λ (w : Writing). is_some w.known.opening ≡ true) c.self.view_is c.self.invariant.begun in
    let whole = batch_is c.publish_version.result _ c.publish_version.new.self c.args.self.now c.args.slot c.args.batch.now c.index.result.now c.in_ok-snapshot.snapshot c.in_ok-snapshot-2.snapshot
    refl here c.in_ok-snapshot.ensures.snapshot c.in_ok-snapshot-2.ensures c.publish_version.ensures.published in
    batch_result_installed c.publish_version.result c.args.self.now c.publish_version.new.self c.args.slot c.args.batch.now begun whole

pub returns-clause-whole : goal.returns-clause-whole
returns-clause-whole g c =
    let low : c.args.slot < length c.self.inside.places.items = subst (λ (w : Writing). c.args.slot < length w.places) (sym c.self.view_is) c.requires.slot in
    let here = place_is _ c.self.inside.places.items _ c.args.slot c.index.result.now c.args.self.now c.self.view_is low c.index.ensures in
    let whole = batch_is c.publish_version.result _ c.publish_version.new.self c.args.self.now c.args.slot c.args.batch.now c.index.result.now c.in_ok-snapshot.snapshot c.in_ok-snapshot-2.snapshot
    refl here c.in_ok-snapshot.ensures.snapshot c.in_ok-snapshot-2.ensures c.publish_version.ensures.published in
    whole

pub returns-clause-orderly : goal.returns-clause-orderly
returns-clause-orderly g c =
    let low : c.args.slot < length c.self.inside.places.items = subst (λ (w : Writing). c.args.slot < length w.places) (sym c.self.view_is) c.requires.slot in
    let here = place_is _ c.self.inside.places.items _ c.args.slot c.index.result.now c.args.self.now c.self.view_is low c.index.ensures in
    let whole = batch_is c.publish_version.result _ c.publish_version.new.self c.args.self.now c.args.slot c.args.batch.now c.index.result.now c.in_ok-snapshot.snapshot c.in_ok-snapshot-2.snapshot
    refl here c.in_ok-snapshot.ensures.snapshot c.in_ok-snapshot-2.ensures c.publish_version.ensures.published in
    let represents = ap (λ (p : Place). p.version) here ∙ place_version _ c.self.inside.places.items c.args.slot c.index.result.now c.self.invariant.represents low c.index.ensures
    ∙ ap (λ (w : Writing). snapshot_at (board_known w.known).slots c.args.slot) c.self.view_is in
    batch_orderly c.publish_version.result c.args.self.now c.publish_version.new.self c.args.slot c.args.batch.now represents c.requires.applies whole c.publish_version.ensures.memory

pub returns-clause-represents : goal.returns-clause-represents
returns-clause-represents g c =
    let low : c.args.slot < length c.self.inside.places.items = subst (λ (w : Writing). c.args.slot < length w.places) (sym c.self.view_is) c.requires.slot in
    let here = place_is _ c.self.inside.places.items _ c.args.slot c.index.result.now c.args.self.now c.self.view_is low c.index.ensures in
    let begun : is_some c.args.self.now.known.opening ≡ true = subst (λ (w : Writing). is_some w.known.opening ≡ true) c.self.view_is c.self.invariant.begun in
    let whole = batch_is c.publish_version.result _ c.publish_version.new.self c.args.self.now c.args.slot c.args.batch.now c.index.result.now c.in_ok-snapshot.snapshot c.in_ok-snapshot-2.snapshot
    refl here c.in_ok-snapshot.ensures.snapshot c.in_ok-snapshot-2.ensures c.publish_version.ensures.published in
    install_follows c.publish_version.result c.args.slot c.args.batch.now (installed_by c.args.self.now) (installed_by c.publish_version.new.self) c.requires.slot c.requires.applies
    (batch_result_installed c.publish_version.result c.args.self.now c.publish_version.new.self c.args.slot c.args.batch.now begun whole)

pub returns-clause-always_represented : goal.returns-clause-always_represented
returns-clause-always_represented g c =
    let low : c.args.slot < length c.self.inside.places.items = subst (λ (w : Writing). c.args.slot < length w.places) (sym c.self.view_is) c.requires.slot in
    let here = place_is _ c.self.inside.places.items _ c.args.slot c.index.result.now c.args.self.now c.self.view_is low c.index.ensures in
    let whole = batch_is c.publish_version.result _ c.publish_version.new.self c.args.self.now c.args.slot c.args.batch.now c.index.result.now c.in_ok-snapshot.snapshot c.in_ok-snapshot-2.snapshot
    refl here c.in_ok-snapshot.ensures.snapshot c.in_ok-snapshot-2.ensures c.publish_version.ensures.published in
    let represents = ap (λ (p : Place). p.version) here ∙ place_version _ c.self.inside.places.items c.args.slot c.index.result.now c.self.invariant.represents low c.index.ensures
    ∙ ap (λ (w : Writing). snapshot_at (board_known w.known).slots c.args.slot) c.self.view_is in
    batch_represented c.publish_version.result c.args.self.now c.publish_version.new.self c.args.slot c.args.batch.now represents c.requires.applies whole c.publish_version.ensures.memory
