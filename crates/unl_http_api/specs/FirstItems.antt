-- The result of `first_item`: what a buffer begins with.
use Rattle.std.specs.Prelude.{◌≡◌, ◌≤◌, ℕ, List, length, drop}
use Rattle.unl_http_api.specs.declared.request.Request.{Request}
use Rattle.unl_http_api.specs.declared.first_item.FirstItem.{FirstItem}
use Rattle.unl_http_api.specs.declared.first_item.FirstItem.TheVariants.{Request as Whole, More, Bad}
use Rattle.unl_http_api.specs.Requests.{BeginsWith, IsUnfinished, IsBad}

-- The item is the first in the bytes `held`. `Whole`: the first `len` bytes are a request, and `close` is whether it ends the connection.
-- `More`: the request is incomplete. `Bad`: the bytes are refused with this status, whatever follows them.
abbrev pub IsFirstItem : List ℕ → FirstItem → Type 0
IsFirstItem held (Whole len close) =
    (request : Request) × BeginsWith held request (drop len held) × (request.close ≡ close) × (len ≤ length held)
IsFirstItem held More = IsUnfinished held
IsFirstItem held (Bad status) = IsBad held status
