use Rattle.std.proofs.Common.{◌≡◌, drop}
use Rattle.unl_spec_runner.specs.Steps.{with_files}
use Rattle.unl_spec_runner.proofs.running.run_files.Given as goal

abbrev pub invariant-loop-file : goal.invariant-loop-file
invariant-loop-file l = with_files l.draw (drop l.file-index l.files) l.report ≡ with_files l.draw l.files l.initial.report
