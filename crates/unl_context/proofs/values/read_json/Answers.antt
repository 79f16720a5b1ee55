use Rattle.std.proofs.Common.{sym}
use Rattle.serde_json.specs.View.{view}
use Rattle.unl_context.proofs.Spelled.{spelled, unspelled}
use Rattle.unl_context.proofs.values.read_json.Goals as goal

pub returns-in-Ok : goal.returns-in-Ok
returns-in-Ok c = sym (spelled c.args.bytes.now (view c.in-Ok.value) c.in-Ok.ensures.ok.0 c.in-Ok.ensures.ok.1)

pub returns-in-Err-2 : goal.returns-in-Err-2
returns-in-Err-2 c = sym (unspelled c.args.bytes.now (c.in-Err.ensures.err (λ m. let known = c.is_memory.ensures.1 m in let denied = c.if-is_memory.false in absurd cc)))
