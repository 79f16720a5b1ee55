use Rattle.unl_documents.proofs.Tokens.{one, then, spelled, strategy_tokens}
use Rattle.unl_documents.proofs.strategy.StrategyWriteJson.print.Goals as goal

pub returns : goal.returns
returns c =
    let begun = one c.in_ok-begin_object.ensures in
    let ended = one c.in_ok-end_object.ensures in
    spelled (strategy_tokens c.args.self.now) (then begun (then c.in_ok-print_at.ensures (then c.in_ok-print_at-2.ensures (then c.in_ok-print_key.ensures (then c.in_ok-print_parameters.ensures (then c.in_ok-print_at-3.ensures (then c.in_ok-print_at-4.ensures ended)))))))
