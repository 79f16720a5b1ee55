-- The JSON form of a command, chosen by this project. The keys of the object are in byte order.
use Rattle.std.specs.Prelude.{ℕ, List, codes}
use Rattle.serde_json.specs.Data.{Data, Members, no_members, object, string}
use Rattle.serde_json.specs.Written.{compact_text}
use Rattle.unl_documents.specs.declared.field.Field.TheVariants as field
use Rattle.unl_documents.specs.Limits.{IsName}
use Rattle.unl_documents.specs.Writing.{count, feature_data, segment_data, with}
use Rattle.unl_upstream.specs.declared.command.Command.{Command}
use Rattle.unl_upstream.specs.declared.command.Command.TheVariants.{PutFeature, RemoveFeature, PutSegment, RemoveSegment}
use Rattle.unl_upstream.specs.Command.{environment_of}

-- the members of an object, with the keys `command` (whose value is `word`) and `environment` added
abbrev pub with_head : List ℕ → List ℕ → Members → Members
with_head word environment members = with field.Command (string word) (with field.Environment (string environment) members)

-- the JSON value of a command
unfoldable pub command_data : Command → Data
command_data (PutFeature environment feature) =
    object (with_head (codes "put-feature") environment (with field.Feature (feature_data feature) no_members))
command_data (RemoveFeature environment name) =
    object (with_head (codes "remove-feature") environment (with field.Name (string name) no_members))
command_data (PutSegment environment segment) =
    object (with_head (codes "put-segment") environment (with field.Segment (segment_data segment) no_members))
command_data (RemoveSegment environment id) =
    object (with_head (codes "remove-segment") environment (with field.Id (count id) no_members))

-- the text that a keeper stores for a command: its JSON value in compact form
unfoldable pub command_text : Command → List ℕ
command_text command = compact_text (command_data command)

-- if the command removes a feature, the feature's name is within the limits of names
abbrev pub RemovesName : Command → Type 0
RemovesName (PutFeature environment feature) = Unit {0}
RemovesName (RemoveFeature environment name) = IsName name
RemovesName (PutSegment environment segment) = Unit {0}
RemovesName (RemoveSegment environment id) = Unit {0}

-- the environment, and the name of a removed feature, are within the limits of names
abbrev pub HasNames : Command → Type 0
HasNames command = IsName (environment_of command) × RemovesName command
