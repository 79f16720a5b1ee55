use Rattle.unl_documents.proofs.Tokens.{one, then, spelled, variant_tokens}
use Rattle.unl_documents.proofs.variant.VariantWriteJson.print.Goals as goal

pub returns : goal.returns
returns c =
    let begun = one c.in_ok-begin_object.ensures in
    let ended = one c.in_ok-end_object.ensures in
    spelled (variant_tokens c.args.self.now) (then begun (then c.in_ok-print_at.ensures (then c.in_ok-print_at-2.ensures (then c.in_ok-print_some.ensures (then c.in_ok-print_some-2.ensures (then c.in_ok-print_at-3.ensures ended))))))
