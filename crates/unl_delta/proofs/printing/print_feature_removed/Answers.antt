use Rattle.std.proofs.lemmas.Result.{on_ok_weaker}
use Rattle.unl_documents.proofs.Tokens.{then, spelled}
use Rattle.unl_delta.proofs.EventTokens.{feature_removed_tokens}
use Rattle.unl_delta.proofs.printing.print_feature_removed.Goals as goal

pub returns : goal.returns
returns c = on_ok_weaker c.end_event.result (λ ended. spelled (feature_removed_tokens c.args.number c.args.name.now c.args.project.now) (then c.in_ok-begin_event.ensures (then c.in_ok-print_at.ensures (then c.in_ok-print_at-2.ensures ended)))) c.end_event.ensures
