-- A reader's next item agrees with the frame of the bytes: a request of this length, `More` (incomplete), or a refusal with this status.
use Rattle.std.proofs.Common.{List, ℕ, drop, refl, sym}
use Rattle.unl_http_api.specs.declared.frame.Frame.{Frame}
use Rattle.unl_http_api.specs.declared.frame.Frame.TheVariants.{Whole, More, Bad}
use Rattle.unl_http_api.specs.declared.request.Next.{Next}
use Rattle.unl_http_api.specs.declared.request.Next.TheVariants as given
use Rattle.unl_http_api.specs.Frames.{IsFrame, TakesFrame}
use Rattle.unl_http_api.specs.Requests.{ReadsNext}
use Rattle.unl_http_api.proofs.RequestLemmas.{ReadsNext_unique}

-- the next item of a reader agrees with the frame, because the next item is unique
pub frame_is_taken : (bytes : List ℕ) (frame : Frame) (next : Next) (rest : List ℕ)
    → IsFrame bytes frame → ReadsNext bytes next rest → TakesFrame bytes frame next rest
frame_is_taken bytes (Whole count) next rest framed gives =
    let same = ReadsNext_unique bytes (given.Request framed.1) next (drop count bytes) rest framed.2 gives in
    ((framed.1, sym same.0), sym same.1)
frame_is_taken bytes More next rest framed gives =
    let same = ReadsNext_unique bytes given.More next bytes rest (framed, refl) gives in
    (sym same.0, sym same.1)
frame_is_taken bytes (Bad status) next rest framed gives =
    let same = ReadsNext_unique bytes (given.Bad status) next bytes rest (framed, refl) gives in
    (sym same.0, sym same.1)
