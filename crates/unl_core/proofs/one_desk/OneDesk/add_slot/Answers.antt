use Rattle.std.proofs.Common.{◌≡◌, ◌∙◌, ◌<◌, ap, length, Some, None, subst, sym}
use Rattle.unl_core.specs.Board.{place_in}
use Rattle.unl_core.specs.DeskStates.{DeskState, PlacesMatch}
use Rattle.unl_core.proofs.Slots.{place_in-new}
use Rattle.unl_core.proofs.DeskStateLemmas.{places_match_more}
use Rattle.unl_core.proofs.one_desk.OneDesk.add_slot.Goals as goal

pub invariant_of-self-in-Ok : goal.invariant_of-self-in-Ok
invariant_of-self-in-Ok c =
    let room : length c.self.inside.board.slots < 8 = subst (λ (s : DeskState). length s.board.slots < 8) (sym c.self.view_is) c.requires.room in
    let absent : None ≡ place_in c.args.environment.now c.self.inside.board.slots =
    subst (λ (s : DeskState). None ≡ place_in c.args.environment.now s.board.slots) (sym c.self.view_is) c.requires.absent in
    subst (PlacesMatch _) (sym c.in_ok-push.ensures.items)
    (places_match_more c.self.inside.board _ c.self.inside.places.items c.args.environment.now (record { environment = c.in_ok-environment.environment; snapshot = None })
    c.self.invariant room absent (ap (λ e. record { environment = e; snapshot = None }) c.in_ok-environment.ensures) c.in-Ok.ensures.ok)

pub returns-in-Ok-clause-slot : goal.returns-in-Ok-clause-slot
returns-in-Ok-clause-slot c =
    let absent : None ≡ place_in c.args.environment.now c.self.inside.board.slots =
    subst (λ (s : DeskState). None ≡ place_in c.args.environment.now s.board.slots) (sym c.self.view_is) c.requires.absent in
    ap Some c.len-slot.ensures ∙ place_in-new _ _ _ _ absent c.in_ok-environment.ensures c.in-Ok.ensures.ok
