-- How test files in the format of the Unleash client specification are parsed: the keys of each object, in the order in which they
-- are read, with the kinds of their values.
use Rattle.std.specs.Prelude.{ℕ, List, [], ◌∷◌, Bool, Option, Ok, ok_or}
use Rattle.std.specs.Option.{option_or, option_map_or}
use Rattle.serde_json.specs.Data.{Data}
use Rattle.serde_json.specs.Find.{as_array}
use Rattle.unl_documents.specs.declared.fault.BadDocument.TheVariants.{NotJson}
use Rattle.unl_documents.specs.declared.field.Field.TheVariants as field
use Rattle.unl_documents.specs.Documents.{payload_of}
use Rattle.unl_documents.specs.Kinds.{name, any_text, text, truth, required, optional, defaulted, object_of, objects, document, each}
use Rattle.unl_documents.specs.Reading.{Reading, ◌>>=◌}
use Rattle.unl_documents.specs.Results.{json_of}
use Rattle.unl_documents.specs.States.{state_of, IsValidState}
use Rattle.unl_input.specs.Contexts.{context_in}
use Rattle.unl_spec_runner.specs.declared.expected.Expected.{Expected}
use Rattle.unl_spec_runner.specs.declared.expected.Expected.TheVariants.{Result as On, Variant}
use Rattle.unl_spec_runner.specs.declared.expected.ExpectedVariant.{ExpectedVariant}
use Rattle.unl_spec_runner.specs.declared.document.Test.{Test}
use Rattle.unl_spec_runner.specs.declared.document.TestFile.{TestFile}

-- ---- tests

-- Whether the feature is expected to be on: the value at `feature_enabled`, or else at `featureEnabled`; `None` if there is no value
-- at either key.
unfoldable pub feature_enabled_in : Data → Reading (Option Bool)
feature_enabled_in value = do
  first ← optional truth field.FeatureEnabled value
  second ← optional truth field.FeatureEnabledCamelCase value
  Ok (option_or first second)

-- The variant that a test expects.
unfoldable pub expected_variant_of : Data → Reading ExpectedVariant
expected_variant_of value = do
  named ← required name field.Name value
  enabled ← required truth field.Enabled value
  payload ← optional (object_of payload_of) field.Payload value
  feature_enabled ← feature_enabled_in value
  Ok (record { name = named; enabled = enabled; payload = payload; feature_enabled = feature_enabled })

-- The expected result of a feature test: whether the feature is on.
unfoldable pub expected_result : Data → Reading Expected
expected_result value = do
  on ← required truth field.ExpectedResult value
  Ok (On on)

-- The expected result of a variant test: a variant.
unfoldable pub expected_variant : Data → Reading Expected
expected_variant value = do
  v ← required (object_of expected_variant_of) field.ExpectedResult value
  Ok (Variant v)

-- A test. Its expected result is parsed by `expected_in`.
unfoldable pub test_of : (Data → Reading Expected) → Data → Reading Test
test_of expected_in value = do
  description ← defaulted [] (text 65536) field.Description value
  context ← context_in value
  toggle ← required name field.ToggleName value
  expected ← expected_in value
  Ok (record { description = description; context = context; toggle = toggle; expected = expected })

-- ---- files

-- The largest number of tests in each list of a file. No input can have more tests, because this is also the largest number of
-- bytes in an input.
abbrev pub most_tests : ℕ
most_tests = 16777216

-- A test file: an optional name (checked to be a string, but not kept), a state, the tests of features, and the tests of variants.
-- A list of tests is empty if its key is absent or null.
unfoldable pub file_of : Data → Reading TestFile
file_of value = do
  named ← defaulted [] any_text field.Name value
  state ← required (object_of state_of) field.State value
  tests ← defaulted [] (objects most_tests (test_of expected_result)) field.Tests value
  variant_tests ← defaulted [] (objects most_tests (test_of expected_variant)) field.VariantTests value
  Ok (record { state = state; tests = tests; variant_tests = variant_tests })

-- The state of a file is within the limits that are checked when a state is read from JSON.
abbrev pub IsValidFile : TestFile → Type 0
IsValidFile file = IsValidState file.state

-- A single file as a list.
abbrev pub alone : TestFile → Reading (List TestFile)
alone file = Ok (file ∷ [])

-- A list of one test file, which is the whole input.
unfoldable pub file_alone : Data → Reading (List TestFile)
file_alone value = document file_of value >>= alone

-- The test files that are parsed from a JSON value: an array of files, or a single file.
unfoldable pub files_of : Data → Reading (List TestFile)
files_of value = option_map_or (each (document file_of)) (as_array value) (file_alone value)

-- The test files that are parsed from an input, or its first fault.
unfoldable pub files_in : List ℕ → Reading (List TestFile)
files_in bytes = ok_or (json_of bytes) NotJson >>= files_of
