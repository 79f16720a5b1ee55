-- Text helpers: trimming, splitting, comma-separated lists and names. Whitespace is the bytes 9, 10, 12, 13 and 32.
use Rattle.std.specs.Prelude.{ℕ, ◌-◌, List, length, map, filter, take, drop, Bool, not, nat_lt, nat_le, ◌&&◌, ◌==◌}
use Rattle.std.specs.Char.{is_ascii_whitespace}
use Rattle.std.specs.List.{prefix_len, suffix_len, slice_split}

-- The text from its first byte that isn't whitespace; empty if there is no such byte.
abbrev pub without_leading_space : List ℕ → List ℕ
without_leading_space text = drop (prefix_len is_ascii_whitespace text) text

-- The text up to its last byte that isn't whitespace; empty if there is no such byte.
abbrev pub without_trailing_space : List ℕ → List ℕ
without_trailing_space text = take (length text - suffix_len is_ascii_whitespace text) text

-- The text without leading and trailing whitespace.
unfoldable pub trimmed : List ℕ → List ℕ
trimmed text = without_trailing_space (without_leading_space text)

-- The texts before, between and after the occurrences of the byte `mark`.
abbrev pub parts : ℕ → List ℕ → List (List ℕ)
parts mark text = slice_split (λ byte. byte == mark) text

-- Whether the text isn't empty.
abbrev pub has_bytes : List ℕ → Bool
has_bytes text = not (length text == 0)

-- The texts after trimming, without the empty ones.
abbrev pub items_among : List (List ℕ) → List (List ℕ)
items_among texts = filter has_bytes (map trimmed texts)

-- The items of a comma-separated list: its parts, trimmed, without the empty ones.
unfoldable pub comma_items : List ℕ → List (List ℕ)
comma_items text = items_among (parts 44 text)

-- Whether the text is a name: it has 1 to 255 bytes.
abbrev pub is_name : List ℕ → Bool
is_name text = nat_lt 0 (length text) && nat_le (length text) 255
