use Rattle.std.proofs.Common.{map, string_bytes}
use Rattle.clap.specs.Words.{matches_of}
use Rattle.unl_words.specs.Words.{words_of}
use Rattle.unl_edge.proofs.Endings.{all_causes, decided, ends_by, leaves_by}
use Rattle.unl_edge.proofs.run.run.Goals as goal

pub returns-clause-ends : goal.returns-clause-ends
returns-clause-ends g c = (
  c.run_reading.result,
  c.code.ensures,
  ends_by c.read_words-reading.result (words_of (map string_bytes c.args.words.now)) c.run_reading.result c.args.world.now
      c.run_reading.new.world c.read_words-reading.ensures.exact c.run_reading.ensures.ends c.run_reading.ensures.frame,
)

pub returns-clause-accepted : goal.returns-clause-accepted
returns-clause-accepted g c = λ command names takes. (
  c.run_reading.result,
  c.code.ensures,
  ends_by c.read_words-reading.result (command.asks (matches_of command.app (map string_bytes c.args.words.now))) c.run_reading.result
      c.args.world.now c.run_reading.new.world (c.read_words-reading.ensures.decided command names takes) c.run_reading.ensures.ends
      c.run_reading.ensures.frame,
)

pub returns-clause-frame : goal.returns-clause-frame
returns-clause-frame g c =
    leaves_by c.read_words-reading.result (words_of (map string_bytes c.args.words.now)) c.args.world.now c.run_reading.new.world
    c.read_words-reading.ensures.exact c.run_reading.ensures.frame

pub returns-clause-decided : goal.returns-clause-decided
returns-clause-decided g c =
    decided (words_of (map string_bytes c.args.words.now)) c.run_reading.result c.code.result c.args.world.now c.run_reading.new.world
    c.code.ensures
    (ends_by c.read_words-reading.result (words_of (map string_bytes c.args.words.now)) c.run_reading.result c.args.world.now
    c.run_reading.new.world c.read_words-reading.ensures.exact c.run_reading.ensures.ends c.run_reading.ensures.frame)
    c.run_reading.ensures.caused

pub returns-clause-causes : goal.returns-clause-causes
returns-clause-causes g c =
    all_causes c.run_reading.result c.code.result c.args.world.now c.run_reading.new.world c.code.ensures c.run_reading.ensures.caused
