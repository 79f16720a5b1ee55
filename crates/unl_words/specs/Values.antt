-- How the values of options are read: numbers, texts and a context.
use Rattle.std.specs.Prelude.{◌&&◌, ◌==◌, not, is_ok, ℕ, Bool, true, false, length, nat_le, nat_lt, codes}
use Rattle.std.specs.Prelude.{if◌then◌else◌, Option, Some, Result}
use Rattle.std.specs.Prelude.{Ok, Err, unwrap_or}
use Rattle.std.specs.List.{list_all}
use Rattle.std.specs.Option.{option_map_or}
use Rattle.std.specs.Char.{is_ascii_digit}
use Rattle.std.specs.Path.{rsplit_once}
use Rattle.std.specs.Str.{bytes_eq}
use Rattle.std.specs.Str.Parse.{digits_value}
use Rattle.clap.specs.Words.{Text}
use Rattle.unl_context.specs.Context.{Fields}
use Rattle.unl_context.specs.Query.{query_context}
use Rattle.unl_context.specs.Reading.{Reading}
use Rattle.unl_documents.specs.Texts.{has_bytes, is_name}
use Rattle.unl_words.specs.Refusals.{refusal_by}
use Rattle.unl_words.specs.declared.refusal.WordsRefusal.{WordsRefusal}
use Rattle.unl_words.specs.declared.refusal.WordsRefusal.TheVariants.{Bad}

-- A value, or why the arguments are refused.
abbrev pub Value : Type 0 → Type 0
Value T = Result T WordsRefusal

-- The value if it passes the test, otherwise the refusal `Bad`.
abbrev pub passed : {T : Type 0} → Bool → T → Value T
passed passes value = if passes then Ok value else Err Bad

-- The value of a required option, or the refusal `Bad` if the option is absent.
abbrev pub required : {T : Type 0} → (Text → Value T) → Option Text → Value T
required reads given = option_map_or reads given (Err Bad)

-- The value of an option that defaults to the empty text.
abbrev pub or_empty : {T : Type 0} → (Text → Value T) → Option Text → Value T
or_empty reads given = reads (unwrap_or given (codes ""))

-- ---- numbers

-- The text consists of one or more ASCII digits.
abbrev pub is_number : Text → Bool
is_number text = nat_lt 0 (length text) && list_all is_ascii_digit text

-- The number, if it is at least `least` and at most `most`.
abbrev pub within : ℕ → ℕ → ℕ → Value ℕ
within least most number = passed (nat_le least number && nat_le number most) number

-- The decimal number that is written in a text, if it is within the bounds.
unfoldable pub number_within : ℕ → ℕ → Text → Value ℕ
number_within least most text = if is_number text then within least most (digits_value 10 text) else Err Bad

-- The number of an option if it is within the bounds, or the default if the option is absent.
abbrev pub number_or : ℕ → ℕ → ℕ → Option Text → Value ℕ
number_or default least most given = option_map_or (number_within least most) given (Ok default)

-- The text is a port: 1 to 65535.
abbrev pub is_port : Text → Bool
is_port text = is_ok (number_within 1 65535 text)

-- ---- texts

-- The byte is not a carriage return, line feed or NUL.
abbrev pub is_line_byte : ℕ → Bool
is_line_byte byte = not (byte == 13) && (not (byte == 10) && not (byte == 0))

-- The text contains no carriage return, line feed or NUL.
abbrev pub is_line : Text → Bool
is_line text = list_all is_line_byte text

-- The text, if it contains no carriage return, line feed or NUL.
abbrev pub line_of : Text → Value Text
line_of text = passed (is_line text) text

-- The text is a secret: it isn't empty and contains no carriage return, line feed or NUL.
abbrev pub is_secret : Text → Bool
is_secret text = has_bytes text && is_line text

-- The text, if it is a secret.
abbrev pub secret_of : Text → Value Text
secret_of text = passed (is_secret text) text

-- The text is HOST:PORT, split at its last colon. The host isn't empty and contains no carriage return, line feed or NUL.
unfoldable pub is_address : Text → Bool
is_address text = option_map_or (λ sides. is_secret sides.0 && is_port sides.1) (rsplit_once 58 text) false

-- The text, if it is HOST:PORT.
abbrev pub address_of : Text → Value Text
address_of text = passed (is_address text) text

-- The mode: true for `delta` (only changes are requested), false for `feed` (whole feeds). Other texts are refused.
abbrev pub mode_of : Text → Value Bool
mode_of text = if bytes_eq text (codes "delta") then Ok true else passed (bytes_eq text (codes "feed")) false

-- The mode of an option, `delta` by default.
abbrev pub mode_or_delta : Option Text → Value Bool
mode_or_delta given = option_map_or mode_of given (Ok true)

-- Where an upstream keeps the commands that change its features: true for `sqlite` (a database in memory), false for `memory` (a list).
-- Other texts are refused.
abbrev pub sqlite_of : Text → Value Bool
sqlite_of text = if bytes_eq text (codes "sqlite") then Ok true else passed (bytes_eq text (codes "memory")) false

-- Where an upstream keeps its commands, by the value of an option: `memory` by default.
abbrev pub sqlite_or_memory : Option Text → Value Bool
sqlite_or_memory given = option_map_or sqlite_of given (Ok false)

-- The text, if it is a name: 1 to 255 bytes.
abbrev pub name_of : Text → Value Text
name_of text = passed (is_name text) text

-- ---- contexts

-- The result of reading a context, with a fault of the context converted to a refusal of the arguments.
abbrev pub context_in : Reading Fields → Value Fields
context_in (Ok context) = Ok context
context_in (Err fault) = Err (refusal_by fault)

-- The context that is read from the query of a URL, such as `userId=7&region=eu`.
abbrev pub context_by : Text → Value Fields
context_by query = context_in (query_context query)

-- The context with its environment replaced.
abbrev pub placed : Text → Fields → Fields
placed environment context = record context { environment = Some environment }
