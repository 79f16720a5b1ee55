-- A command has the same effect on any upstream with the same slots.
use Rattle.std.proofs.Common.{◌≡◌, ℕ, List, [], ◌∷◌, Option, Some, None, Ok, refl, sym, ap, ◌∙◌, option_and_then}
use Rattle.unl_core.specs.declared.board.Slot.{Slot}
use Rattle.unl_core.specs.Board.{place_in, snapshot_in, taking}
use Rattle.unl_upstream.specs.declared.command.Command.{Command}
use Rattle.unl_upstream.specs.Command.{environment_of}
use Rattle.unl_upstream.specs.Reopening.{rows_after}
use Rattle.unl_upstream.specs.Upstream.{AppliedCommand, UpstreamState, apply_command, prepared, version_after}
use Rattle.unl_upstream.proofs.Leading.{Begins, IsApplied, begins, row_applied, row_applies}
use Rattle.unl_upstream.proofs.VersionLemmas.{IsObeyed, obeyed_by, obeyed_with, ready_with}

-- a command accepted by one such upstream is accepted by the other too, and results in the same slots
pub record AcceptedThere (command : Command) (up after other : UpstreamState) : Type 0 where
  pub obeyed : AppliedCommand
  pub accepts : apply_command command other ≡ Ok obeyed
  pub same : obeyed.up.board.slots ≡ after.board.slots

pub accepted_there : (command : Command) (up other : UpstreamState) (obeyed : AppliedCommand) → other.board.slots ≡ up.board.slots → apply_command command up ≡ Ok obeyed
    → AcceptedThere command up obeyed.up other
unfolding apply_command prepared
accepted_there command up other obeyed same accepts =
    let o : IsObeyed command up obeyed = obeyed_by command up obeyed accepts in
    let found : place_in (environment_of command) other.board.slots ≡ Some o.slot = ap (place_in (environment_of command)) same ∙ o.at in
    let there : snapshot_in (environment_of command) other.board.slots ≡ Some o.version = ap (snapshot_in (environment_of command)) same ∙ o.version_is in record {
      obeyed = obeyed_with (ready_with o.slot o.version o.event other.board.slots) other;
      accepts = rw (found, there, o.event_is) refl;
      same = ap (taking o.slot (version_after o.version o.event)) same ∙ sym (ap (λ (u : UpstreamState). u.board.slots) o.is);
    }

-- rows that can be applied to one such upstream can be applied to the other too, and result in the same slots
pub record ResultsThere (rows : List (List ℕ)) (after other : UpstreamState) : Type 0 where
  pub last : UpstreamState
  pub leads : rows_after rows other ≡ Some last
  pub same : last.board.slots ≡ after.board.slots

slots_in : Option UpstreamState → List Slot
slots_in (Some up) = up.board.slots
slots_in None = []

pub rows_result_there : (rows : List (List ℕ)) (up after other : UpstreamState) → other.board.slots ≡ up.board.slots → rows_after rows up ≡ Some after → ResultsThere rows after other
unfolding slots_in
rows_result_there [] up after other same is = record {
  last = other;
  leads = refl;
  same = same ∙ ap slots_in is;
}
rows_result_there (row ∷ rows) up after other same is =
    let b : Begins row rows up after = begins row rows up after is in
    let t : IsApplied row up b.middle = row_applied row up b.middle b.first in
    let o : AcceptedThere t.command up t.obeyed.up other = accepted_there t.command up other t.obeyed same t.accepts in
    let middle_same : o.obeyed.up.board.slots ≡ b.middle.board.slots = o.same ∙ ap (λ (u : UpstreamState). u.board.slots) t.is in
    let others : ResultsThere rows after o.obeyed.up = rows_result_there rows b.middle after o.obeyed.up middle_same b.others in record {
      last = others.last;
      leads = ap (option_and_then (rows_after rows)) (row_applies row other t.command o.obeyed t.spelled o.accepts) ∙ others.leads;
      same = others.same;
    }
