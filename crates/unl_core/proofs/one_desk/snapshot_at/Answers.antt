use Rattle.std.proofs.Common.{◌∙◌, ap, option_and_then}
use Rattle.unl_core.specs.declared.board.Slot.{Slot}
use Rattle.unl_core.proofs.one_desk.snapshot_at.Goals as goal

pub returns-in-None : goal.returns-in-None
returns-in-None c = ap (option_and_then (λ (s : Slot). s.snapshot)) c.in-None.ensures

pub returns-in-Some : goal.returns-in-Some
returns-in-Some c = c.current.ensures ∙ ap (option_and_then (λ (s : Slot). s.snapshot)) c.in-Some.ensures
