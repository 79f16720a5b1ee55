use Rattle.unl_explain.proofs.NoFloats.{explanation_plain}
use Rattle.unl_explain.proofs.line.explanation_line.Goals as goal

pub plain_text-requires : goal.plain_text-requires
plain_text-requires c = rw c.in_ok-value.ensures.written (explanation_plain c.args.reason.now)
