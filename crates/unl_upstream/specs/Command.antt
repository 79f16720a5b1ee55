-- Commands, and how they are read: the keys of a command in order, each with the kind of its value. These JSON forms are chosen by this
-- project.
use Rattle.std.specs.Prelude.{ℕ, List, codes, Ok, Err, ok_or, if◌then◌else◌}
use Rattle.std.specs.Str.{bytes_eq}
use Rattle.serde_json.specs.Data.{Data}
use Rattle.unl_documents.specs.declared.fault.BadDocument.TheVariants.{NotJson, WrongKind}
use Rattle.unl_documents.specs.declared.field.Field.TheVariants as field
use Rattle.unl_documents.specs.Documents.{feature_of, segment_of}
use Rattle.unl_documents.specs.Kinds.{any_text, any_whole, document, name, object_of, required}
use Rattle.unl_documents.specs.Reading.{Reading, ◌>>=◌}
use Rattle.unl_documents.specs.Results.{json_of}
use Rattle.unl_documents.specs.Valid.{IsValidFeature, IsValidSegment}
use Rattle.unl_upstream.specs.declared.command.Command.{Command}
use Rattle.unl_upstream.specs.declared.command.Command.TheVariants.{PutFeature, RemoveFeature, PutSegment, RemoveSegment}

-- the name of the environment that a command changes
abbrev pub environment_of : Command → List ℕ
environment_of (PutFeature environment feature) = environment
environment_of (RemoveFeature environment name) = environment
environment_of (PutSegment environment segment) = environment
environment_of (RemoveSegment environment id) = environment

-- the feature or segment in the command, if it has one, is within the limits of documents
abbrev pub IsValidCommand : Command → Type 0
IsValidCommand (PutFeature environment feature) = IsValidFeature feature
IsValidCommand (RemoveFeature environment name) = Unit {0}
IsValidCommand (PutSegment environment segment) = IsValidSegment segment
IsValidCommand (RemoveSegment environment id) = Unit {0}

-- ---- reading a command from a JSON object

-- `put-feature`: the environment and the feature
unfoldable pub put_feature_of : Data → Reading Command
put_feature_of value = do
  environment ← required name field.Environment value
  feature ← required (object_of feature_of) field.Feature value
  Ok (PutFeature environment feature)

-- `remove-feature`: the environment and the feature's name
unfoldable pub remove_feature_of : Data → Reading Command
remove_feature_of value = do
  environment ← required name field.Environment value
  named ← required name field.Name value
  Ok (RemoveFeature environment named)

-- `put-segment`: the environment and the segment
unfoldable pub put_segment_of : Data → Reading Command
put_segment_of value = do
  environment ← required name field.Environment value
  segment ← required (object_of segment_of) field.Segment value
  Ok (PutSegment environment segment)

-- `remove-segment`: the environment and the segment's id
unfoldable pub remove_segment_of : Data → Reading Command
remove_segment_of value = do
  environment ← required name field.Environment value
  id ← required any_whole field.Id value
  Ok (RemoveSegment environment id)

-- reads the command whose `command` key has the value `word`; any other word is a `WrongKind` fault
unfoldable pub command_by : List ℕ → Data → Reading Command
command_by word value =
    if bytes_eq word (codes "put-feature") then put_feature_of value else (
    if bytes_eq word (codes "remove-feature") then remove_feature_of value else (
    if bytes_eq word (codes "put-segment") then put_segment_of value else (
    if bytes_eq word (codes "remove-segment") then remove_segment_of value else
    Err (WrongKind field.Command))))

-- reads a command from a JSON object
unfoldable pub command_of : Data → Reading Command
command_of value = do
  word ← required any_text field.Command value
  command_by word value

-- reads a command from the JSON bytes of a request body, of a kept row, or of a line of input; `NotJson` if they are not a JSON object
unfoldable pub command_in : List ℕ → Reading Command
command_in bytes = do
  value ← ok_or (json_of bytes) NotJson
  document command_of value
