-- Chaining results, comparing the results of calls that can run out of memory, and parsing JSON.
use Rattle.std.specs.Prelude.{◌≡◌, ◌≢◌, ℕ, List, Option, Some, None, is_some, option_and_then, Result, Ok, Err, IsUtf8, if◌then◌else◌}
use Rattle.std.specs.Str.{is_utf8}
use Rattle.serde_json.specs.Data.{Data}
use Rattle.serde_json.specs.Find.{as_object}
use Rattle.serde_json.specs.Read.{read}

-- Passes the value of an `Ok` to the function on the right, as `Result::and_then` does.
infixl 10 ◌>>=◌
-- An error on the left is the result; the function isn't applied.
abbrev pub ◌>>=◌ : {A B E : Type 0} → Result A E → (A → Result B E) → Result B E
(Ok x) >>= f = f x
(Err e) >>= f = Err e

-- `Gives memory result reading`: the result of a call is equal to `reading`, or it is the error `memory`.
abbrev pub Gives : {T E : Type 0} → E → Result T E → Result T E → Type 0
Gives memory (Ok x) reading = reading ≡ Ok x
Gives memory (Err e) reading = e ≢ memory → reading ≡ Err e

-- `Answers memory IsReading result`: the result of a call satisfies `IsReading`, or it is the error `memory`.
abbrev pub Answers : {T E : Type 0} → E → (Result T E → Type 0) → Result T E → Type 0
Answers memory IsReading (Ok x) = IsReading (Ok x)
Answers memory IsReading (Err e) = e ≢ memory → IsReading (Err e)

-- The value of a JSON text (RFC 8259), or `None` if the bytes aren't a JSON text.
unfoldable pub json_of : List ℕ → Option Data
json_of bytes = if is_utf8 bytes then read bytes else None

-- The value if it is an object, or `None`.
abbrev pub object_alone : Data → Option Data
object_alone value = if is_some (as_object value) then Some value else None

-- The object of a JSON text, or `None` if the bytes aren't the JSON text of an object.
unfoldable pub object_in : List ℕ → Option Data
object_in bytes = option_and_then object_alone (json_of bytes)

-- The bytes are a JSON text of the value.
pub record IsJson (bytes : List ℕ) (value : Data) : Type 0 where
  pub utf8 : IsUtf8 bytes
  pub is : read bytes ≡ Some value
