use Rattle.std.proofs.Common.{◌∙◌, ap, map}
use Rattle.unl_core.specs.DeskStates.{place_at}
use Rattle.unl_core.proofs.DeskStateLemmas.{places_match_begun}
use Rattle.unl_core.proofs.one_desk.OneDesk.new.Goals as goal

pub invariant_of-result : goal.invariant_of-result
invariant_of-result c =
    places_match_begun c.args.board c.in_ok-places.places.items c.requires (c.in_ok-places.ensures.places ∙ ap (map place_at) c.as_slice.ensures) c.in_ok-places.ensures.valid
