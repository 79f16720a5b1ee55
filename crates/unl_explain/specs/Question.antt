-- A question asks why a feature of a state is on or off for a context, at a time and with a random word. This file defines how a
-- question is parsed: each key in order, with the kind of its value.
use Rattle.std.specs.Prelude.{ℕ, List, Ok, ok_or}
use Rattle.serde_json.specs.Data.{Data}
use Rattle.unl_documents.specs.declared.fault.BadDocument.TheVariants.{NotJson}
use Rattle.unl_documents.specs.declared.field.Field.TheVariants as field
use Rattle.unl_documents.specs.Kinds.{any_whole, defaulted, document, name, object_of, required, whole}
use Rattle.unl_documents.specs.Reading.{Reading, ◌>>=◌}
use Rattle.unl_documents.specs.Results.{json_of}
use Rattle.unl_documents.specs.States.{IsValidState, state_of}
use Rattle.unl_explain.specs.declared.question.Question.{Question}
use Rattle.unl_input.specs.Contexts.{context_in}

-- The latest time that is accepted, in milliseconds since 1970. This limit is chosen by this project.
abbrev pub last_moment : ℕ
last_moment = 100000000000000

-- The question that is parsed from a JSON object, or the first fault of its keys.
unfoldable pub question_of : Data → Reading Question
question_of value = do
  state ← required (object_of state_of) field.State value
  feature ← required name field.Feature value
  context ← context_in value
  now ← defaulted 0 (whole last_moment) field.Now value
  word ← defaulted 0 any_whole field.Word value
  Ok (record { state = state; feature = feature; context = context; now = now; word = word })

-- The question that is parsed from an input, or the input's first fault, which is `NotJson` if the input isn't a JSON object.
unfoldable pub question_in : List ℕ → Reading Question
question_in bytes = ok_or (json_of bytes) NotJson >>= document question_of

-- The state of the question is valid: features and segments are within their limits, and feature names and segment ids increase
-- strictly.
abbrev pub IsValidQuestion : Question → Type 0
IsValidQuestion question = IsValidState question.state
