use Rattle.std.proofs.Common.{◌≡◌, drop}
use Rattle.unl_spec_runner.specs.Steps.{with_tests}
use Rattle.unl_spec_runner.proofs.running.run_tests.Given as goal

abbrev pub invariant-loop-test : goal.invariant-loop-test
invariant-loop-test l = with_tests l.draw l.state (drop l.test-index l.tests) l.report ≡ with_tests l.draw l.state l.tests l.initial.report
