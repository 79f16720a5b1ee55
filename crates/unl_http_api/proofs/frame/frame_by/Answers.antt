use Rattle.std.proofs.Common.{subst}
use Rattle.unl_http_api.specs.Heads.{IsSeen}
use Rattle.unl_http_api.proofs.FindLemmas.{parts_at}
use Rattle.unl_http_api.proofs.frame.frame_by.Goals as goal

pub framed-requires : goal.framed-requires
framed-requires c =
    let seen = subst (IsSeen c.window-prefix.result.now c.see.new.spans) c.in-Head.is c.in-Some.ensures.seen in
    parts_at c.args.bytes.now _ _ c.in-Head.head c.new.result c.window-prefix.ensures.value c.window-prefix.ensures.fits
    seen.0 seen.1 c.new.ensures
