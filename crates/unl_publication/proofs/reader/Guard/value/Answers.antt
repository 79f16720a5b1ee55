use Rattle.std.proofs.Common.{refl, sym, ap, ◌∙◌, Some}
use Rattle.left_right.specs.Sides.{view}
use Rattle.unl_publication.proofs.Meant.{shown_here}
use Rattle.unl_publication.proofs.Sure.{Shows-from, IsLooking-from}
use Rattle.unl_publication.proofs.reader.Guard.value.Goals as goal

pub returns-clause-list : goal.returns-clause-list
returns-clause-list g c opening is = ap g.T.Absorb.state c.get.ensures ∙ (Shows-from g.T.Absorb.applied g.T.Counted.front_of g.row.T-State.coded _ _ c.args.self.now.shows).value_is opening is

pub returns-clause-value : goal.returns-clause-value
returns-clause-value g c there = let s = c.args.self.now in
    shown_here {S = g.row.T-State.Denot} {I = g.row.I.Denot} g.T.Absorb.applied (view s.reading.place) _ _ refl there (IsLooking-from (view s.reading.place) s.is_looking).before (Shows-from g.T.Absorb.applied g.T.Counted.front_of g.row.T-State.coded _ (view s.reading.place) s.shows).value_is
    ∙ ap (λ x. Some (g.T.Absorb.state x)) (sym c.get.ensures)
