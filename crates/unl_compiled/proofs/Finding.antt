-- Lookups by id, and the toggles of visible features.
use Rattle.std.proofs.Common.{◌≡◌, ℕ, ◌&&◌, ◌==◌, Bool, true, false, cond, List, [], ◌∷◌, Option, Some, None, inl, inr, refl, ap}
use Rattle.std.specs.Prelude.{filter, filter_map}
use Rattle.std.specs.List.{find, cons_option}
use Rattle.std.specs.Str.{bytes_eq}
use Rattle.std.proofs.lemmas.Bool.{cases_Bool}
use Rattle.serde_json.specs.Data.{Data}
use Rattle.unl_constraints.proofs.Searching.{has_key}
use Rattle.unl_documents.specs.Inline.{segment_with}
use Rattle.unl_documents.specs.States.{id_key}
use Rattle.unl_documents.specs.declared.feature.Feature.{Feature}
use Rattle.unl_documents.specs.declared.segment.Segment.{Segment}

and_true : (b : Bool) → (b && true) ≡ b
and_true true = refl
and_true false = refl

-- Two ids are the same exactly if their keys (the lists of just the id) are the same.
same_id : (a b : ℕ) → bytes_eq (a ∷ []) (b ∷ []) ≡ (a == b)
same_id a b = and_true (a == b)

pub segment_is : (id : ℕ) (ss : List Segment) → find (has_key id_key (id ∷ [])) ss ≡ segment_with id ss
segment_is id [] = refl
segment_is id (s ∷ ss) =
    let first = same_id s.id id in
    let others = segment_is id ss in
    λ i. cond (first i) (Some s) (others i)

-- Skipping hidden features gives the same toggles as first removing the hidden features.
pub seen_toggles : (toggle : Feature → Option Data) (seen : Feature → Bool) (fs : List Feature) → filter_map (λ f. cond (seen f) (toggle f) None) fs ≡ filter_map toggle (filter seen fs)
seen_toggles toggle seen [] = refl
seen_toggles toggle seen (f ∷ fs) =
    elim (cases_Bool (seen f)) [
      | inl is ↦ rw is (ap (cons_option (toggle f)) (seen_toggles toggle seen fs))
      | inr not ↦ rw not (seen_toggles toggle seen fs)
    ]
