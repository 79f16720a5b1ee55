use Rattle.std.proofs.lemmas.Result.{on_ok_weaker}
use Rattle.unl_documents.proofs.Tokens.{then, spelled}
use Rattle.unl_delta.proofs.EventTokens.{feature_updated_tokens}
use Rattle.unl_delta.proofs.printing.print_feature_updated.Goals as goal

pub returns : goal.returns
returns c = on_ok_weaker c.end_event.result (λ ended. spelled (feature_updated_tokens c.args.number c.args.feature.now) (then c.in_ok-begin_event.ensures (then c.in_ok-print_at.ensures ended))) c.end_event.ensures
