-- The tag of a reply (its `ETag`): `"<boot>-<generation>-<place>-<epoch>.<number>i"` with its double quotes. This format is chosen by this
-- project. `boot` (in 16 hexadecimal digits) and `generation` are fields of the board, the state that requests are answered over. `place`
-- is the position of the request's token in the board's list of tokens (its book). `epoch` and `number` are the revision of the content.
-- The epoch and the dot after it are absent if the epoch is 0. The `i` is only in the tag of a feed whose segments are inlined.
use Rattle.std.specs.Prelude.{ℕ, ◌-◌, ◌+◌, ◌^◌, ◌==◌, List, [], ◌++◌, codes, decimal, length, take, drop, false, Option, Some, None}
use Rattle.std.specs.Prelude.{option_and_then, if◌then◌else◌}
use Rattle.std.specs.Fmt.{digits, format_spec, padded_integral}
use Rattle.std.specs.Str.{bytes_eq}
use Rattle.serde_json.specs.Find.{as_number, as_u64}
use Rattle.unl_delta.specs.Revision.{Revision}
use Rattle.unl_documents.specs.Results.{json_of}
use Rattle.unl_core.specs.declared.board.Board.{Board}

-- A number in 16 lower-case hexadecimal digits with leading zeros, as the standard library formats `{:016x}`.
abbrev pub hex_16 : ℕ → List ℕ
hex_16 n = padded_integral (format_spec 32 0 4 16 (2 ^ 64 - 1)) false [] (digits 16 false n)

-- The epoch, a dot and the rest, or only the rest if the epoch is 0.
abbrev pub with_epoch : ℕ → List ℕ → List ℕ
with_epoch epoch rest = if epoch == 0 then rest else decimal epoch ++ (codes "." ++ rest)

-- The part of a tag before its number, for the token at `place` and an epoch.
unfoldable pub tag_prefix : Board → ℕ → ℕ → List ℕ
tag_prefix board place epoch =
    codes "\"" ++ (hex_16 board.boot ++ (codes "-" ++ (decimal board.generation ++
    (codes "-" ++ (decimal place ++ (codes "-" ++ with_epoch epoch []))))))

-- The tag for the token at `place`, at a revision, with a mark after the number.
abbrev pub marked_tag : List ℕ → Board → ℕ → Revision → List ℕ
marked_tag mark board place at = tag_prefix board place at.epoch ++ (decimal at.number ++ (mark ++ codes "\""))

-- The tag of any content other than a feed whose segments are inlined, for the token at `place`, at a revision.
abbrev pub tag_text : Board → ℕ → Revision → List ℕ
tag_text = marked_tag []

-- The tag of a feed whose segments are inlined, for the token at `place`, at a revision.
abbrev pub inlined_tag : Board → ℕ → Revision → List ℕ
inlined_tag = marked_tag (codes "i")

-- The bytes of a tag after its first `prefix_length` bytes and before its last byte, where the closing quote belongs.
abbrev pub number_part : ℕ → List ℕ → List ℕ
number_part prefix_length tag = take (length tag - (prefix_length + 1)) (drop prefix_length tag)

-- The number, if the bytes are JSON for a whole number below 2 ^ 64.
abbrev pub whole_in : List ℕ → Option ℕ
whole_in bytes = option_and_then as_u64 (option_and_then as_number (json_of bytes))

-- The number n, if the tag is exactly the tag of n for this token and epoch, otherwise `None`.
abbrev pub if_spelled : Board → ℕ → ℕ → List ℕ → ℕ → Option ℕ
if_spelled board place epoch tag n = if bytes_eq tag (tag_text board place (record { epoch = epoch; number = n })) then Some n else None

-- The number of a tag. `None` if the tag isn't exactly the tag of any number for this token and epoch.
unfoldable pub number_of_tag : Board → ℕ → ℕ → List ℕ → Option ℕ
number_of_tag board place epoch tag =
    option_and_then (if_spelled board place epoch tag) (whole_in (number_part (length (tag_prefix board place epoch)) tag))

-- The number in the tag of a request. `None` if there is no tag, or if the tag isn't exactly that of any number for this token and epoch.
abbrev pub since_of : Board → ℕ → ℕ → Option (List ℕ) → Option ℕ
since_of board place epoch tag = option_and_then (number_of_tag board place epoch) tag
