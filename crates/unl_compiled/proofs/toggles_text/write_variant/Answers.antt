use Rattle.unl_compiled.proofs.Tokens.{variant_tokens}
use Rattle.unl_documents.proofs.Tokens.{one, then}
use Rattle.unl_compiled.proofs.toggles_text.write_variant.Goals as goal

pub returns : goal.returns
returns c =
    let begun = one c.in_ok-begin_object.ensures in
    let ended = one c.in_ok-end_object.ensures in
    rw (variant_tokens c.args.on c.args.variant.now) (then begun (then c.in_ok-print_at.ensures (then c.in_ok-print_at-2.ensures (then c.in_ok-print_at-3.ensures (then c.in_ok-print_some.ensures ended)))))
