use Rattle.unl_spec_runner.proofs.LineBytes.{line_has_bytes}
use Rattle.unl_spec_runner.proofs.running.run_test.Goals as goal

pub add_line-requires : goal.add_line-requires
add_line-requires c = rw c.as_bytes.ensures.value (rw c.in_ok-line.ensures.line (line_has_bytes c.next_number.result c.args.test.now c.in_ok-given.given))
