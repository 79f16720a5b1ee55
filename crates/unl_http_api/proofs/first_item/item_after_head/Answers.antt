use Rattle.std.proofs.Common.{◌∙◌, sym}
use Rattle.unl_http_api.proofs.FirstItemLemmas.{whole_request_begins}
use Rattle.unl_http_api.proofs.first_item.item_after_head.Goals as goal

pub returns-in-Body : goal.returns-in-Body
returns-in-Body c =
    let whole = whole_request_begins c.args.held.now c.args.len c.in-Body.count c.args.parts.now c.requires
    (c.in-Body.ensures c.requires.head c.requires.has_head c.requires.parts_are) in
    (whole.0, whole.1, whole.2 ∙ sym c.closes.ensures, whole.3)
