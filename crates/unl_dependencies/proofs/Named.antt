-- A feature that is found by its name is within its limits if all features of the list are.
use Rattle.std.proofs.Common.{◌≡◌, ℕ, Bool, true, false, cond, List, [], ◌∷◌, Option, Some, None, Bor, ap, sym, subst}
use Rattle.std.specs.Prelude.{All, IfSome, option_map, unwrap_or}
use Rattle.std.specs.Str.{bytes_eq}
use Rattle.std.proofs.lemmas.List.Elements.{All-head, All-tail}
use Rattle.unl_documents.specs.declared.feature.Feature.{Feature}
use Rattle.unl_documents.specs.Valid.{IsValidFeature}
use Rattle.unl_dependencies.specs.Evaluation.{feature_named}

either : (b : Bool) (x f : Feature) (rest : Option Feature) → cond b (Some x) rest ≡ Some f → IsValidFeature x → (rest ≡ Some f → IsValidFeature f) → IsValidFeature f
either true x f rest is valid later = subst IsValidFeature (ap (λ o. unwrap_or o x) is) valid
either false x f rest is valid later = later is

found_valid : (name : List ℕ) (features : List Feature) (f : Feature) → feature_named name features ≡ Some f → All IsValidFeature features → IsValidFeature f
found_valid name [] f is valid = absurd (cc)
found_valid name (x ∷ xs) f is valid =
    either (bytes_eq x.name name) x f (feature_named name xs) is (All-head IsValidFeature x xs valid) (λ later. found_valid name xs f later (All-tail IsValidFeature x xs valid))

-- The same for features that are represented by values of another type `F`. `document` gives the feature of a value, and `found` refers to
-- the value that was found, if any.
pub named_valid : {F : Type 0} (document : F → Feature) (name : List ℕ) (features : List Feature) (found : Option (Bor F)) → option_map (λ f. document f.now) found ≡ feature_named name features → All IsValidFeature features → IfSome found (λ f. IsValidFeature (document f.now))
named_valid document name features None is valid = tt
named_valid document name features (Some f) is valid = found_valid name features (document f.now) (sym is) valid
