-- A written command is read back as the same command.
use Rattle.std.proofs.Common.{◌≡◌, ◌≤◌, ℕ, List, false, Some, Ok, IsUtf8, refl, sym, subst, ap, ◌∙◌, arith}
use Rattle.std.specs.Prelude.{codes}
use Rattle.serde_json.specs.Data.{Data, depth, string}
use Rattle.serde_json.specs.Read.{max_depth, read}
use Rattle.serde_json.specs.Written.{compact_text, has_float}
use Rattle.unl_delta.proofs.NoFloats.{no_float_feature, no_float_segment}
use Rattle.unl_delta.proofs.WrittenBack.{one_back}
use Rattle.unl_documents.specs.declared.field.Field.TheVariants as field
use Rattle.unl_documents.specs.Kinds.{any_text, any_whole, at, document, name}
use Rattle.unl_documents.specs.Writing.{count}
use Rattle.unl_documents.proofs.RoundTrip.{any_text_back, any_whole_back, features, name_back, required_back, segments}
use Rattle.unl_documents.proofs.Spelled.{spelled}
use Rattle.unl_upstream.specs.declared.command.Command.{Command}
use Rattle.unl_upstream.specs.declared.command.Command.TheVariants.{PutFeature, RemoveFeature, PutSegment, RemoveSegment}
use Rattle.unl_upstream.specs.Command.{IsValidCommand, command_by, command_in, command_of, put_feature_of, put_segment_of, remove_feature_of, remove_segment_of}
use Rattle.unl_upstream.specs.Writing.{HasNames, command_data, command_text}
use Rattle.unl_upstream.proofs.Depths.{command_deep}

word_back : (value : Data) (word : List ℕ) → at field.Command value ≡ Some (string word) → command_of value ≡ command_by word value
unfolding command_of
word_back value word here = rw (required_back any_text field.Command value (string word) word here (any_text_back field.Command word)) refl

pub command_back : (command : Command) → IsValidCommand command → HasNames command → command_of (command_data command) ≡ Ok command
unfolding command_by put_feature_of remove_feature_of put_segment_of remove_segment_of command_data at
command_back (PutFeature environment feature) valid names =
    let value = command_data (PutFeature environment feature) in
    let word = word_back value (codes "put-feature") refl in
    let where_ = required_back name field.Environment value (string environment) environment refl (name_back field.Environment environment names.0) in
    let what = one_back features field.Feature value feature valid refl in
    rw (word, where_, what) refl
command_back (RemoveFeature environment named) valid names =
    let value = command_data (RemoveFeature environment named) in
    let word = word_back value (codes "remove-feature") refl in
    let where_ = required_back name field.Environment value (string environment) environment refl (name_back field.Environment environment names.0) in
    let what = required_back name field.Name value (string named) named refl (name_back field.Name named names.1) in
    rw (word, where_, what) refl
command_back (PutSegment environment segment) valid names =
    let value = command_data (PutSegment environment segment) in
    let word = word_back value (codes "put-segment") refl in
    let where_ = required_back name field.Environment value (string environment) environment refl (name_back field.Environment environment names.0) in
    let what = one_back segments field.Segment value segment valid refl in
    rw (word, where_, what) refl
command_back (RemoveSegment environment id) valid names =
    let value = command_data (RemoveSegment environment id) in
    let word = word_back value (codes "remove-segment") refl in
    let where_ = required_back name field.Environment value (string environment) environment refl (name_back field.Environment environment names.0) in
    let what = required_back any_whole field.Id value (count id) id refl (any_whole_back field.Id id) in
    rw (word, where_, what) refl

document_is : (command : Command) → document command_of (command_data command) ≡ command_of (command_data command)
unfolding command_data
document_is (PutFeature environment feature) = refl
document_is (RemoveFeature environment named) = refl
document_is (PutSegment environment segment) = refl
document_is (RemoveSegment environment id) = refl

-- the written value is read back as a document
pub written_back : (command : Command) → IsValidCommand command → HasNames command → document command_of (command_data command) ≡ Ok command
written_back command valid names = document_is command ∙ command_back command valid names

-- ---- as a text

no_float : (command : Command) → has_float (command_data command) ≡ false
unfolding command_data
no_float (PutFeature environment feature) = rw (no_float_feature feature) refl
no_float (RemoveFeature environment named) = refl
no_float (PutSegment environment segment) = rw (no_float_segment segment) refl
no_float (RemoveSegment environment id) = refl

-- the serialized text of the written value is `command_text`
pub text_is : (command : Command) (value : Data) (bytes : List ℕ) → value ≡ command_data command → (has_float value ≡ false → bytes ≡ compact_text value)
    → bytes ≡ command_text command
unfolding command_text
text_is command value bytes is written = written (ap has_float is ∙ no_float command) ∙ ap compact_text is

-- the text of a written command is read back as the same command
pub text_back : (command : Command) (value : Data) (bytes : List ℕ) → value ≡ command_data command → (depth value ≤ max_depth → read bytes ≡ Some value)
    → IsUtf8 bytes → document command_of value ≡ Ok command → command_in bytes ≡ Ok command
unfolding command_in
text_back command value bytes is reads utf8 back =
    let shallow : depth value ≤ max_depth = subst (λ (d : Data). depth d ≤ max_depth) (sym is) (omega (arith, command_deep command)) in
    rw (spelled bytes value utf8 (reads shallow)) back
