use Rattle.std.proofs.Common.{ap, ◌∙◌}
use Rattle.unl_compiled.specs.Places.{listed}
use Rattle.unl_compiled.proofs.Shifts.{moved_listed}
use Rattle.unl_compiled.proofs.index_change.changed.Goals as goal

pub returns : goal.returns
returns c p parted =
    ap (listed p) c.in_ok-push_unlisted.ensures ∙ moved_listed c.args.change.now c.args.index.now c.in_ok-new.new p c.in_ok-new.ensures parted
