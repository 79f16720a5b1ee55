use Rattle.std.proofs.Common.{List, ℕ, subst}
use Rattle.httparse.specs.Grammar.{HasNoRequest}
use Rattle.unl_http_api.specs.Heads.{IsSeen}
use Rattle.unl_http_api.specs.Requests.{IsHopeless}
use Rattle.unl_http_api.proofs.FindLemmas.{parts_at, no_head_yet}
use Rattle.unl_http_api.proofs.first_item.first_item.Goals as goal

pub item_after_head-requires : goal.item_after_head-requires
item_after_head-requires c =
    let seen = subst (IsSeen c.window-prefix.result.now c.see.new.spans) c.in-Head.is c.in-Some.ensures.seen in
    parts_at c.args.held.now _ _ c.in-Head.head c.new.result c.window-prefix.ensures.value c.window-prefix.ensures.fits
    seen.0 seen.1 c.new.ensures

pub returns-then-held-lt-WINDOW : goal.returns-then-held-lt-WINDOW
returns-then-held-lt-WINDOW c =
    let seen = subst (IsSeen c.window-prefix.result.now c.see.new.spans) c.in-Unfinished.is c.in-Some.ensures.seen in
    no_head_yet c.args.held.now c.if-held-lt-WINDOW.true (subst HasNoRequest c.window-prefix.ensures.value seen.0)
    (subst (λ (w : List ℕ). IsHopeless w → ⊥) c.window-prefix.ensures.value seen.1)
