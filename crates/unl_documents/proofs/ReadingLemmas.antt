-- How the result of reading a value follows from the document that the value represents and from its first fault.
use Rattle.std.proofs.Common.{◌≡◌, ℕ, true, false, List, Option, Some, None, Ok, Err, refl, sym, ap, ◌∙◌}
use Rattle.std.specs.Prelude.{◌↔◌, if◌then◌else◌}
use Rattle.std.specs.Str.{is_utf8}
use Rattle.std.proofs.lemmas.Str.{IsUtf8-from_is_utf8, is_utf8-from_IsUtf8}
use Rattle.serde_json.specs.Data.{Data}
use Rattle.serde_json.specs.Read.{read}
use Rattle.unl_documents.specs.declared.fault.BadDocument.{BadDocument}
use Rattle.unl_documents.specs.declared.fault.BadDocument.TheVariants.{NotJson}
use Rattle.unl_documents.specs.Kinds.{document, is_object}
use Rattle.unl_documents.specs.Reading.{Reading}
use Rattle.unl_documents.specs.Faults.{fault_of}
use Rattle.unl_documents.specs.Results.{json_of, IsJson}
use Rattle.unl_documents.proofs.Sound.{Sound, object_at}
use Rattle.unl_documents.proofs.Unique.{One}

faultless : {T : Type 0} (r : Reading T) → fault_of r ≡ None → (x : T) × (r ≡ Ok x)
faultless (Ok x) h = (x, refl)
faultless (Err e) h = absurd cc

-- A sound reading gives a document if and only if the value represents this document and the value has no fault.
pub exactly : {T : Type 0} (reads : Data → Reading T) (Reads : Data → T → Type 0) → Sound reads Reads → One Reads → (value : Data) (d : T) (fault : Option BadDocument)
    → fault_of (document reads value) ≡ fault → (document reads value ≡ Ok d) ↔ (Reads value d × (fault ≡ None))
exactly reads Reads sound one value d fault same = (
  λ h. (sound value d (object_at (is_object value) (reads value) NotJson d h).1, sym same ∙ ap fault_of h),
  λ p. let a = faultless (document reads value) (same ∙ p.1) in
      let represents = sound value a.0 (object_at (is_object value) (reads value) NotJson a.0 a.1).1 in
      a.1 ∙ ap Ok (one value a.0 d represents p.0),
)

-- A reading fails with `e` if and only if `e` is the fault of the value.
pub faulty : {T : Type 0} (r : Reading T) (e : BadDocument) (fault : Option BadDocument) → fault_of r ≡ fault → (r ≡ Err e) ↔ (fault ≡ Some e)
faulty (Ok x) e fault same = (λ h. absurd cc, λ h. absurd cc)
faulty (Err d) e fault same = (λ h. cc, λ h. cc)

pub spelled : (bytes : List ℕ) (value : Data) → (json_of bytes ≡ Some value) ↔ IsJson bytes value
unfolding json_of
spelled bytes value =
    elim (is_utf8 bytes) as (λ t. is_utf8 bytes ≡ t → ((if t then read bytes else None) ≡ Some value) ↔ IsJson bytes value) [
      | true ↦ λ is. (λ h. record { utf8 = IsUtf8-from_is_utf8 bytes is; is = h }, λ j. j.is)
      | false ↦ λ not_utf8. (λ h. absurd cc, λ j. absurd (let yes = is_utf8-from_IsUtf8 bytes j.utf8 in cc))
    ] refl
