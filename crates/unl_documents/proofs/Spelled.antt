-- Parsing gives the value of a JSON text, and `None` for other bytes.
use Rattle.std.proofs.Common.{◌≡◌, ℕ, List, Some, None, refl, inl, inr}
use Rattle.std.specs.Prelude.{IsUtf8}
use Rattle.std.specs.Str.{is_utf8}
use Rattle.std.proofs.lemmas.Bool.{cases_Bool}
use Rattle.std.proofs.lemmas.Str.{IsUtf8-from_is_utf8, is_utf8-from_IsUtf8}
use Rattle.serde_json.specs.Data.{Data}
use Rattle.serde_json.specs.Read.{read}
use Rattle.unl_documents.specs.Results.{json_of}

pub spelled : (bytes : List ℕ) (d : Data) → IsUtf8 bytes → read bytes ≡ Some d → json_of bytes ≡ Some d
unfolding json_of
spelled bytes d utf8 is = rw (is_utf8-from_IsUtf8 bytes utf8) is

pub unspelled : (bytes : List ℕ) → (IsUtf8 bytes → read bytes ≡ None) → json_of bytes ≡ None
unfolding json_of
unspelled bytes none =
    elim (cases_Bool (is_utf8 bytes)) [
      | inl known ↦ rw known (none (IsUtf8-from_is_utf8 bytes known))
      | inr known ↦ rw known refl
    ]
