use Rattle.std.proofs.Common.{◌≡◌, ◌+◌, drop, not}
use Rattle.std.specs.List.{prefix_len}
use Rattle.std.specs.Str.{bytes_eq}
use Rattle.unl_compiled.proofs.index.slot_of.Given as goal

abbrev pub invariant-loop-slot : goal.invariant-loop-slot
invariant-loop-slot l = l.slot + prefix_len (λ e. not (bytes_eq e.project l.project)) (drop l.slot l.index) ≡ prefix_len (λ e. not (bytes_eq e.project l.project)) l.index
