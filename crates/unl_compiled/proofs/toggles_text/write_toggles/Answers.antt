use Rattle.unl_compiled.specs.Toggles.{visible}
use Rattle.unl_compiled.proofs.Tokens.{toggles_tokens}
use Rattle.unl_documents.proofs.Tokens.{one, then}
use Rattle.unl_compiled.proofs.toggles_text.write_toggles.Goals as goal

pub returns : goal.returns
returns c =
    let begun = one c.in_ok-begin_object.ensures in
    let opened = one c.in_ok-begin_array.ensures in
    let closed = one c.in_ok-end_array.ensures in
    let ended = one c.in_ok-end_object.ensures in
    let query = c.args.query.now in
    rw (toggles_tokens (visible query) query.all query.context query.moment) (then begun (then c.in_ok-print_key.ensures (then opened (then c.in_ok-collect.ensures (then closed ended)))))
