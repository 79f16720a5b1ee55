use Rattle.unl_documents.proofs.Tokens.{one, then, spelled, feature_tokens}
use Rattle.unl_documents.proofs.feature.FeatureWriteJson.print.Goals as goal

pub returns : goal.returns
returns c =
    let begun = one c.in_ok-begin_object.ensures in
    let ended = one c.in_ok-end_object.ensures in
    spelled (feature_tokens c.args.self.now) (then begun (then c.in_ok-print_at.ensures (then c.in_ok-print_some.ensures (then c.in_ok-print_at-2.ensures (then c.in_ok-print_at-3.ensures (then c.in_ok-print_at-4.ensures (then c.in_ok-print_at-5.ensures (then c.in_ok-print_at-6.ensures (then c.in_ok-print_at-7.ensures (then c.in_ok-print_at-8.ensures (then c.in_ok-print_at-9.ensures ended)))))))))))
