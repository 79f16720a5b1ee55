use Rattle.std.proofs.Common.{rules}
use Rattle.unl_edge_state.specs.Reading.{StartsReader}
use Rattle.unl_edge_state.proofs.Looks.{learns}
use Rattle.unl_publication.specs.Seen.{reported_front, reported_list}
use Rattle.unl_edge.proofs.Working.{begins_shared}
use Rattle.unl_edge.proofs.worker_slots.worker_slot_of.Goals as goal

-- a new reader that learned a list is steady: it knew no board but the opening board before
pub new-requires : goal.new-requires
new-requires g c =
    learns c.args.reader c.learn_all.new.self (reported_front c.tell.result) (reported_list c.tell.result) c.requires.new c.in_ok-learn_all.ensures.origin
    c.in_ok-learn_all.ensures.next c.in_ok-learn_all.ensures.past

-- and the reader begins with that list
pub returns-clause-learned : goal.returns-clause-learned
returns-clause-learned g c =
    let begins : StartsReader c.args.writer.now.known.opening c.args.writer.now.known.installs c.learn_all.new.self =
    begins_shared c.args.writer.now.known (reported_list c.tell.result) c.learn_all.new.self c.tell.ensures.list
    (c.in_ok-learn_all.ensures.begins c.requires.new) in
    search rules
