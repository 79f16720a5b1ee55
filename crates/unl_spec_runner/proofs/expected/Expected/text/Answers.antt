use Rattle.unl_spec_runner.proofs.NoFloats.{no_float}
use Rattle.unl_spec_runner.proofs.expected.Expected.text.Goals as goal

pub plain_text-requires : goal.plain_text-requires
plain_text-requires c = rw c.in_ok-value.ensures.written (no_float c.args.self.now)
