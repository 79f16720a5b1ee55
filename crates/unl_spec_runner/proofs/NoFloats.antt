-- The JSON form of a result contains no floating-point number.
use Rattle.std.proofs.Common.{◌≡◌, ℕ, List, Bool, false, Option, Some, None, refl}
use Rattle.serde_json.specs.Written.{has_float}
use Rattle.unl_documents.specs.declared.variant.Payload.{Payload}
use Rattle.unl_documents.specs.Writing.{payload_data}
use Rattle.unl_spec_runner.specs.declared.expected.Expected.{Expected}
use Rattle.unl_spec_runner.specs.declared.expected.Expected.TheVariants.{Result, Variant}
use Rattle.unl_spec_runner.specs.Expected.{variant_data, expected_data}

parts : (name : List ℕ) (enabled : Bool) (payload : Option Payload) (on : Option Bool)
    → has_float (variant_data (record { name = name; enabled = enabled; payload = payload; feature_enabled = on })) ≡ false
unfolding variant_data payload_data
parts name enabled None None = refl
parts name enabled None (Some on) = refl
parts name enabled (Some p) None = refl
parts name enabled (Some p) (Some on) = refl

pub no_float : (e : Expected) → has_float (expected_data e) ≡ false
unfolding expected_data
no_float (Result on) = refl
no_float (Variant v) = parts v.name v.enabled v.payload v.feature_enabled
