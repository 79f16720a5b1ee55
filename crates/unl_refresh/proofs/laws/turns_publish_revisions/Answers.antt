use Rattle.std.proofs.Common.{inl, inr, subst, sym}
use Rattle.unl_refresh.specs.Delivery.{HasRevisions}
use Rattle.unl_refresh.proofs.Delivering.{book_kept, stops_kept, turn_kept}
use Rattle.unl_refresh.proofs.laws.turns_publish_revisions.Goals as goal

pub returns-clause-made : goal.returns-clause-made
returns-clause-made c lines texts host parameters before after turn are sent has =
    turn_kept lines texts host parameters before after are turn sent has

pub returns-clause-stopped : goal.returns-clause-stopped
returns-clause-stopped c lines texts host parameters before after (inl stops) are sent has = subst (HasRevisions lines) (sym stops.installed) has
returns-clause-stopped c lines texts host parameters before after (inr stops) are sent has =
    stops_kept lines 0 parameters stops.0 after are stops.2 sent (book_kept lines stops.1 has)
