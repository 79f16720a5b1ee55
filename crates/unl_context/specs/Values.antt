-- JSON values: parsing, the value at a key, and conversion to strings.
use Rattle.std.specs.Prelude.{ℕ, List, Bool, Option, Some, None, option_and_then, is_some, Ok, Err, if◌then◌else◌}
use Rattle.std.specs.Str.{is_utf8}
use Rattle.serde_json.specs.Data.{Data, null, boolean, number, string, array, object}
use Rattle.serde_json.specs.Find.{get, as_object, is_float}
use Rattle.serde_json.specs.Read.{read}
use Rattle.serde_json.specs.Written.{compact_text}
use Rattle.unl_context.specs.declared.fault.BadContext.TheVariants.{WrongKind}
use Rattle.unl_context.specs.declared.fault.Part.{Part}
use Rattle.unl_context.specs.Limits.{short_text}
use Rattle.unl_context.specs.Reading.{Reading, ◌>>=◌}

-- The value that is parsed from JSON bytes (RFC 8259), or `None` if they are not UTF-8 or not JSON.
unfoldable pub json_of : List ℕ → Option Data
json_of bytes = if is_utf8 bytes then read bytes else None

-- The value is an object.
abbrev pub is_object : Data → Bool
is_object value = is_some (as_object value)

-- The value, unless it is null.
abbrev pub present : Data → Option Data
present null = None
present (boolean b) = Some (boolean b)
present (number n) = Some (number n)
present (string text) = Some (string text)
present (array values) = Some (array values)
present (object inside) = Some (object inside)

-- The value at a key of an object. `None` if the key is absent, its value is null or `value` is not an object.
unfoldable pub at : List ℕ → Data → Option Data
at key value = option_and_then present (get key value)

-- The value as a string: a string stays as it is, and an integer or a boolean becomes its JSON text. `WrongKind` for any other value. `-0`
-- and integers outside -2^63 to 2^64 - 1 are parsed as floats, so they are not integers here.
abbrev pub plain : Part → Data → Reading (List ℕ)
plain part null = Err (WrongKind part)
plain part (boolean b) = Ok (compact_text (boolean b))
plain part (number n) = if is_float n then Err (WrongKind part) else Ok (compact_text (number n))
plain part (string text) = Ok text
plain part (array values) = Err (WrongKind part)
plain part (object inside) = Err (WrongKind part)

-- The value of a part of a context as a string, as in `plain`, or `TooLarge` if the string has more than 4,096 bytes.
unfoldable pub text_in : Part → Data → Reading (List ℕ)
text_in part value = plain part value >>= short_text
