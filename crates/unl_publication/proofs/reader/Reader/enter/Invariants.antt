use Rattle.std.specs.Prelude.{option_map}
use Rattle.left_right.specs.Sides.{view}
use Rattle.unl_publication.specs.Meaning.{known, before_of}
use Rattle.unl_publication.proofs.reader.Reader.enter.Given as goal

abbrev pub ghosts-enter_past : goal.ghosts-enter_past
ghosts-enter_past g a = record {
  before = before_of g.T.Absorb.applied (option_map (λ s. view s.value.place) a.past.now) (view a.seat.place);
  fronts = (known (option_map (λ s. view s.value.place) a.past.now) (view a.seat.place)).fronts;
}
