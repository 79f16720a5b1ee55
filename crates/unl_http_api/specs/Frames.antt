-- The frame of a buffer: the length of its first request, or why there is no such request.
use Rattle.std.specs.Prelude.{◌≡◌, ℕ, ◌≤◌, List, length, drop}
use Rattle.unl_http_api.specs.declared.frame.Frame.{Frame}
use Rattle.unl_http_api.specs.declared.frame.Frame.TheVariants.{Whole, More, Bad}
use Rattle.unl_http_api.specs.declared.request.Next.{Next}
use Rattle.unl_http_api.specs.declared.request.Next.TheVariants as given
use Rattle.unl_http_api.specs.declared.request.Request.{Request}
use Rattle.unl_http_api.specs.Requests.{BeginsWith, IsBad, IsUnfinished}

-- The bytes begin with a request of this length; or the request is incomplete; or the bytes are refused with this status.
abbrev pub IsFrame : List ℕ → Frame → Type 0
IsFrame bytes (Whole count) = (count ≤ length bytes) × (request : Request) × BeginsWith bytes request (drop count bytes)
IsFrame bytes More = IsUnfinished bytes
IsFrame bytes (Bad status) = IsBad bytes status

-- `next` is what a reader that holds `bytes` returns if they have this frame, and `rest` is what the reader then holds.
abbrev pub TakesFrame : List ℕ → Frame → Next → List ℕ → Type 0
TakesFrame bytes (Whole count) next rest = ((request : Request) × (next ≡ given.Request request)) × (rest ≡ drop count bytes)
TakesFrame bytes More next rest = (next ≡ given.More) × (rest ≡ bytes)
TakesFrame bytes (Bad status) next rest = (next ≡ given.Bad status) × (rest ≡ bytes)
