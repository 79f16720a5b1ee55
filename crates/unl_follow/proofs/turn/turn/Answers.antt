use Rattle.std.proofs.Common.{◌∙◌}
use Rattle.unl_base.specs.Streams.{Sends, SendsPrefix}
use Rattle.unl_follow.proofs.Turning.{turn_taken}
use Rattle.unl_follow.proofs.turn.turn.Goals as goal

pub returns-in_err-write_all-clause-cut : goal.returns-in_err-write_all-clause-cut
returns-in_err-write_all-clause-cut g c is =
    turn_taken SendsPrefix _ _ _ _ _ _ _ c.draw-draw.result c.in_ok-outcome.outcome c.as_bytes.result.now c.draw-draw.ensures.drawn
    c.in_ok-outcome.ensures.asks (c.as_bytes.ensures.value ∙ c.in_ok-line.ensures c.ask_once.new.ask.tag)
    c.in_err-write_all.ensures.err

pub returns-clause-turn : goal.returns-clause-turn
returns-clause-turn g c =
    turn_taken Sends _ _ _ _ _ _ _ c.draw-draw.result c.in_ok-outcome.outcome c.as_bytes.result.now c.draw-draw.ensures.drawn
    c.in_ok-outcome.ensures.asks (c.as_bytes.ensures.value ∙ c.in_ok-line.ensures c.ask_once.new.ask.tag)
    c.in_ok-write_all.ensures.ok
