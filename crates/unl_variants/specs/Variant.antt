-- Which of a list of variants is chosen, as the Unleash reference on variants describes it. The seed is that of Unleash's SDKs. One thing
-- is a choice of this project: the stickiness of the first variant selects the id.
use Rattle.std.specs.Prelude.{◌≡◌, ℕ, ◌+◌, ◌<◌, ◌≤◌, List, [], ◌∷◌, codes, length, take, Bool, true, false, ◌||◌, ◌==◌, nat_le}
use Rattle.std.specs.Prelude.{position, MatchBool, Option, Some, None, unwrap_or, decimal, if◌then◌else◌}
use Rattle.std.specs.List.{sum_by, list_any, HoldsAt, AllWithin}
use Rattle.std.specs.Option.{option_or, option_map_or}
use Rattle.std.specs.Str.{bytes_eq}
use Rattle.unl_documents.specs.declared.variant.Override.{Override}
use Rattle.unl_documents.specs.declared.variant.Variant.{Variant}
use Rattle.unl_documents.specs.Limits.{IsListOf}
use Rattle.unl_context.specs.Context.{Fields}
use Rattle.unl_context.specs.Context.{field_of}
use Rattle.unl_murmur.specs.Murmur3.{normalized_of}

-- at most 100 variants, each with a weight of at most 1,000
abbrev pub AreWithinLimits : List Variant → Type 0
AreWithinLimits variants = IsListOf 100 (λ v. v.weight ≤ 1000) variants

-- the sum of the weights
abbrev pub total_weight : List Variant → ℕ
total_weight variants = sum_by (λ v. v.weight) variants

-- the sum of the weights of the variants before an index
abbrev pub weight_before : ℕ → List Variant → ℕ
weight_before place variants = total_weight (take place variants)

-- whether the text is one of the values
abbrev pub is_among : List (List ℕ) → List ℕ → Bool
is_among values text = list_any (λ value. bytes_eq value text) values

-- whether the override matches the context: the context has the override's field, and the value of this field in the context is one of the
-- override's values
unfoldable pub is_meant : Fields → Override → Bool
is_meant context o = option_map_or (is_among o.values) (field_of context o.field) false

-- whether one of the overrides of the variant matches the context
abbrev pub is_overridden : Fields → Variant → Bool
is_overridden context variant = list_any (is_meant context) variant.overrides

-- the stickiness of the first variant, which applies to all variants; empty if there are no variants or the first has no stickiness
abbrev pub stickiness_of : List Variant → List ℕ
stickiness_of [] = []
stickiness_of (v ∷ vs) = unwrap_or v.stickiness []

-- the userId, or the sessionId if there is no userId; `None` if there is neither
abbrev pub own_id : Fields → Option (List ℕ)
own_id context = option_or (field_of context (codes "userId")) (field_of context (codes "sessionId"))

-- the text that a stickiness selects from a context: empty or `default` selects `own_id`, `random` selects nothing, and any other text
-- selects the field or property with this name; `None` if nothing is selected or the context lacks what is selected
unfoldable pub sticky_text : List ℕ → Fields → Option (List ℕ)
sticky_text name context =
    if bytes_eq name (codes "") || bytes_eq name (codes "default") then own_id context else (
    if bytes_eq name (codes "random") then None else field_of context name)

-- the id that is hashed: the text that the stickiness selects, or the random number in decimal if that is absent
unfoldable pub id_of : List Variant → Fields → ℕ → List ℕ
id_of variants context random = unwrap_or (sticky_text (stickiness_of variants) context) (decimal random)

-- the number that decides the choice by weight: from 1 to the sum of the weights, by the hash of the group and the id
unfoldable pub target_of : List ℕ → List Variant → Fields → ℕ → ℕ
target_of group variants context random = normalized_of group (id_of variants context random) (total_weight variants) 86028157

-- `place` is the index of the first item that passes the test
pub record IsFirst {T : Type 0} (passes : T → Bool) (xs : List T) (place : ℕ) : Type 0 where
  pub inside : place < length xs
  pub here : HoldsAt (λ x. passes x ≡ true) xs place
  pub not_before : AllWithin (λ x. passes x ≡ false) xs 0 place

-- the sum of the weights before the index is less than the target; together with the weight at the index it is at least the target
pub record IsReached (target : ℕ) (variants : List Variant) (place : ℕ) : Type 0 where
  pub inside : place < length variants
  pub above : weight_before place variants < target
  pub up_to : target ≤ weight_before (place + 1) variants

-- `place` is the index of the first variant with an override for the context, if there is one; otherwise that of the first variant
-- whose weight, added to the weights before it, is at least `target_of`
abbrev pub IsPicked : List ℕ → List Variant → Fields → ℕ → ℕ → Type 0
IsPicked group variants context random place =
    MatchBool (list_any (is_overridden context) variants)
    (IsFirst (is_overridden context) variants place)
    (IsReached (target_of group variants context random) variants place)

-- `Some place`: the variant at this index is chosen for the context; `None`: the weights sum to 0, and no variant is chosen
abbrev pub IsChosen : List ℕ → List Variant → Fields → ℕ → Option ℕ → Type 0
IsChosen group variants context random None = total_weight variants ≡ 0
IsChosen group variants context random (Some place) = (0 < total_weight variants) × IsPicked group variants context random place

-- for each variant, the sum of `before` and the weights up to and including its own
abbrev pub sums_from : ℕ → List Variant → List ℕ
sums_from before [] = []
sums_from before (v ∷ vs) = (before + v.weight) ∷ sums_from (before + v.weight) vs

-- the index of the first variant for which the sum of the weights up to and including its own is at least the target
unfoldable pub place_reached : ℕ → List Variant → Option ℕ
place_reached target variants = position (λ sum. nat_le target sum) (sums_from 0 variants)

-- the index of the chosen variant, as a function: computes what `IsChosen` defines
unfoldable pub choice_of : List ℕ → List Variant → Fields → ℕ → Option ℕ
choice_of group variants context random =
    if total_weight variants == 0 then None
    else option_or (position (is_overridden context) variants) (place_reached (target_of group variants context random) variants)
