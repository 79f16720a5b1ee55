use Rattle.std.proofs.Common.{◌+◌, arith, drop, length-drop, take}
use Rattle.unl_http_api.specs.Requests.{request_of}
use Rattle.unl_http_api.proofs.FindLemmas.{whole_request}
use Rattle.unl_http_api.proofs.RequestLemmas.{BeginsWith-from_take}
use Rattle.unl_http_api.proofs.frame.framed.Goals as goal

pub returns-in-Body : goal.returns-in-Body
returns-in-Body c =
    let bytes = c.args.bytes.now in
    let len = c.args.len in
    let n = c.in-Body.count in
    let h = c.requires.head in
    let body = c.in-Body.ensures h c.requires.has_head c.requires.parts_are in
    let request = request_of h (take n (drop len bytes)) in (
      omega (arith, body.whole, c.requires.fits, length-drop len bytes),
      request,
      BeginsWith-from_take bytes (len + n) request (whole_request bytes len n h c.requires.has_head c.requires.fits body.accepted body.announces body.whole),
    )
