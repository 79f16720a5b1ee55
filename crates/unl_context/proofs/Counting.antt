-- The pairs of a query: those with a key `properties[x]` may be applied after all others, and the number of properties never falls.
use Rattle.std.proofs.Common.{◌≡◌, ℕ, List, [], ◌∷◌, ◌≤◌, ◌<◌, fold, length, Bool, true, false, Option, Some, None, Less, Equal, Greater, nat_cmp, refl, ap, ◌∙◌, arith}
use Rattle.std.specs.Prelude.{option_to_list, is_some, ◌||◌, ◌==◌, if◌then◌else◌}
use Rattle.std.specs.Cmp.Lexicographic.{slice_cmp}
use Rattle.std.specs.Ordering.{match_ordering}
use Rattle.std.proofs.lemmas.List.Sums.{fold-append}
use Rattle.unl_context.specs.declared.known.KnownField.{KnownField}
use Rattle.unl_context.specs.declared.known.KnownField.TheVariants as field
use Rattle.unl_context.specs.declared.properties.Property.{Property}
use Rattle.unl_context.specs.declared.query.Settings.{Settings}
use Rattle.unl_context.specs.Context.{Fields, nothing, with_known}
use Rattle.unl_context.specs.Known.{known_by}
use Rattle.unl_context.specs.Limits.{is_within_limits}
use Rattle.unl_context.specs.Query.{put, inner_name, inner_of, set_plain, set_inner, set_by, set_other, with_pair, with_inner, with_property}

abbrev Pair : Type 0
Pair = List ℕ × List ℕ

abbrev named : Fields → Property → Fields
named c p = with_property p.name p.value c

-- ---- the properties with keys `properties[x]` are kept apart

plain_is : (pairs : List Pair) (s : Settings) → (fold with_pair s pairs).plain ≡ fold set_plain s.plain pairs
plain_is [] s = refl
plain_is (p ∷ pairs) s = plain_is pairs (with_pair s p)

-- Setting the property x of a pair with the key `properties[x]`, or nothing for another pair, has the effect of `set_inner`.
one_is : (c : Fields) (pair : Pair) → fold named c (option_to_list (inner_of pair)) ≡ set_inner c pair
unfolding inner_of set_inner
one_is c (key, value) = elim (inner_name key) as (λ found. fold named c (option_to_list (elim found as (λ _. Option Property) [ Some name ↦ Some (record { name = name; value = value }) | None ↦ None ])) ≡ (elim found as (λ _. Fields) [ Some name ↦ with_property name value c | None ↦ c ])) [ Some name ↦ refl | None ↦ refl ]

inner_is : (pairs : List Pair) (s : Settings) (c : Fields) → fold named c (fold with_pair s pairs).inner ≡ fold set_inner (fold named c s.inner) pairs
inner_is [] s c = refl
inner_is (p ∷ pairs) s c =
    inner_is pairs (with_pair s p) c
    ∙ ap (λ d. fold set_inner d pairs) (fold-append named c s.inner (option_to_list (inner_of p)) ∙ one_is (fold named c s.inner) p)

abbrev pub none_yet : Settings
none_yet = record { plain = nothing; inner = [] }

pub set_apart : (pairs : List Pair) → with_inner (fold with_pair none_yet pairs) ≡ set_by pairs
unfolding set_by
set_apart pairs =
    inner_is pairs none_yet (fold with_pair none_yet pairs).plain ∙ ap (λ c. fold set_inner c pairs) (plain_is pairs none_yet)

-- ---- the number of properties never falls

put_grows : (name value : List ℕ) (ps : List Property) → length ps ≤ length (put name value ps)
unfolding put
put_grows name value [] = omega arith
put_grows name value (p ∷ ps) =
    let rest = put_grows name value ps in
    elim (slice_cmp nat_cmp name p.name) as (λ o. length (p ∷ ps) ≤ length (match_ordering o (record { name = name; value = value } ∷ p ∷ ps) (record { name = name; value = value } ∷ ps) (p ∷ put name value ps))) [
      | Less ↦ omega arith
      | Equal ↦ omega arith
      | Greater ↦ omega arith
    ]

abbrev Grows : Fields → Fields → Type 0
Grows c d = length c.properties ≤ length d.properties

plain_grows : (c : Fields) (key value : List ℕ) → Grows c (set_plain c (key, value))
unfolding set_plain
plain_grows c key value = by (known_by key)
  where
    skipping : (skipped : Bool) → Grows c (if skipped then c else with_property key value c)
    skipping true = omega arith
    skipping false = put_grows key value c.properties

    known : (k : KnownField) → Grows c (with_known k value c)
    known field.UserId = omega arith
    known field.SessionId = omega arith
    known field.RemoteAddress = omega arith
    known field.Environment = omega arith
    known field.AppName = omega arith
    known field.CurrentTime = omega arith

    by : (found : Option KnownField) → Grows c (elim found as (λ _. Fields) [ Some k ↦ with_known k value c | None ↦ set_other key value c ])
    by None = skipping (is_some (inner_name key) || length key == 0)
    by (Some k) = known k

pub taken_grows : (pairs : List Pair) (s : Settings) → Grows s.plain (fold with_pair s pairs).plain
taken_grows [] s = omega arith
taken_grows ((key, value) ∷ pairs) s =
    let one = plain_grows s.plain key value in
    let rest = taken_grows pairs (with_pair s (key, value)) in
    omega arith

inner_grows : (ps : List Property) (c : Fields) → Grows c (fold named c ps)
inner_grows [] c = omega arith
inner_grows (p ∷ ps) c =
    let one = put_grows p.name p.value c.properties in
    let rest = inner_grows ps (named c p) in
    omega arith

-- A context with more than 256 properties exceeds the limits.
over : (c : Fields) → 256 < length c.properties → is_within_limits c ≡ false
unfolding is_within_limits
over c many = search arith

-- If there are more than 256 properties before the keys `properties[x]` are applied, the context exceeds the limits.
pub too_many : (pairs : List Pair) → 256 < length (fold with_pair none_yet pairs).plain.properties → is_within_limits (set_by pairs) ≡ false
too_many pairs many =
    let more = inner_grows (fold with_pair none_yet pairs).inner (fold with_pair none_yet pairs).plain in
    rw (← set_apart pairs) (over (with_inner (fold with_pair none_yet pairs)) (omega arith))

-- If `plain` has more than 256 properties, it still has more than 256 after further pairs are applied.
pub stays_over : (pairs : List Pair) (s total : Settings) → fold with_pair s pairs ≡ total → 256 < length s.plain.properties → 256 < length total.plain.properties
stays_over pairs s total is many =
    let more = taken_grows pairs s in
    rw (← is) (omega arith)
