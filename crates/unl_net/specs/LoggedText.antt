-- The part of a request that is logged.
use Rattle.std.specs.Prelude.{Bool, ℕ, zero, suc, ◌&&◌, not, List, nat_le, nat_eq, if◌then◌else◌, filter, length, take}
use Rattle.std.specs.List.{list_all}

-- whether a byte may be logged: a visible ASCII character or a space, but no question mark
abbrev pub is_loggable : ℕ → Bool
is_loggable byte = nat_le 32 byte && nat_le byte 126 && not (nat_eq byte 63)

-- how many of the bytes are spaces
abbrev pub spaces_in : List ℕ → ℕ
spaces_in bytes = length (filter (λ byte. nat_eq byte 32) bytes)

-- whether these bytes may be logged as a text: each may be logged, and at most one is a space (a method and a path have one between them)
abbrev pub may_be_logged : List ℕ → Bool
may_be_logged bytes = list_all is_loggable bytes && nat_le (spaces_in bytes) 1

-- the length of the longest prefix that may be logged, among the prefixes of at most this length
unfoldable pub longest_prefix : ℕ → List ℕ → ℕ
longest_prefix zero bytes = 0
longest_prefix (suc most) bytes = if may_be_logged (take (suc most) bytes) then suc most else longest_prefix most bytes

-- the part of a request that is logged: the longest prefix of its first 64 bytes that may be logged
abbrev pub logged_text : List ℕ → List ℕ
logged_text request = take (longest_prefix 64 request) request
