use Rattle.std.proofs.Common.{◌≡◌, is_some, true, rules}
use Rattle.left_right.specs.Sides.{view}
use Rattle.unl_edge_state.proofs.Continuing.{begins_told, counted_by}
use Rattle.unl_publication.specs.Seen.{reported_front, reported_list}
use Rattle.unl_edge_state.proofs.reader.EdgeReader.learn_all.Goals as goal

pub returns-then-has_list-clause-begins : goal.returns-then-has_list-clause-begins
returns-then-has_list-clause-begins c =
    let told = c.args.told in
    let there : is_some (reported_list told) ≡ true = search rules in
    begins_told (reported_list told) (reported_front told) c.args.self.now c.learn.new.self there c.requires.origin
    (counted_by (λ seat. view seat.place) told.seat told.front told.counted) c.learn.ensures.seen c.learn.ensures.next c.learn.ensures.past
