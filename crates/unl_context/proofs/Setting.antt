-- The effect of the pairs of a query: each of the six fields is set by its last pair, and the properties are sorted by name.
use Rattle.std.proofs.Common.{◌≡◌, ℕ, List, [], ◌∷◌, fold, codes, length, Bool, true, false, Option, Some, None, is_some, ◌||◌, ◌==◌, if◌then◌else◌, refl, sym, ap, subst, ◌∙◌, inl, inr}
use Rattle.std.specs.Option.{option_or}
use Rattle.std.specs.Str.{bytes_eq}
use Rattle.std.proofs.lemmas.Bool.{cases_Bool}
use Rattle.std.proofs.lemmas.Slice.Eq.{bytes_eq-Decides}
use Rattle.unl_context.specs.declared.known.KnownField.{KnownField}
use Rattle.unl_context.specs.declared.known.KnownField.TheVariants as known
use Rattle.unl_context.specs.Context.{Fields, HasRisingNames, nothing, known_field, with_known}
use Rattle.unl_context.specs.Known.{known_by}
use Rattle.unl_context.specs.Query.{inner_name, set_plain, set_inner, set_by, set_other, with_property}
use Rattle.unl_context.specs.Laws.{last_value, is_key, LastFieldCounts, SetNamesRise}
use Rattle.unl_context.proofs.Lasting.{last_counts}
use Rattle.unl_context.proofs.Rising.{no_names, rising_put}

-- A statement holds for every field if it holds for each of the six.
each : (P : KnownField → Type 0) → P known.UserId → P known.SessionId → P known.RemoteAddress → P known.Environment → P known.AppName → P known.CurrentTime → (k : KnownField) → P k
each P a b c d e f known.UserId = a
each P a b c d e f known.SessionId = b
each P a b c d e f known.RemoteAddress = c
each P a b c d e f known.Environment = d
each P a b c d e f known.AppName = e
each P a b c d e f known.CurrentTime = f

-- Setting a property changes no field.
stays : (k : KnownField) (name value : List ℕ) (c : Fields) → known_field k (with_property name value c) ≡ known_field k c
stays k name value c = each (λ k. known_field k (with_property name value c) ≡ known_field k c) refl refl refl refl refl refl k

-- ---- the six fields

abbrev Sets : KnownField → Fields → List ℕ → List ℕ → Type 0
Sets k c value key = known_field k (set_plain c (key, value)) ≡ (if is_key k key then Some value else known_field k c)

-- Case split: the key equals the string `literal` or it does not.
decided : (P : List ℕ → Type 0) (literal key : List ℕ) → P literal → (bytes_eq key literal ≡ false → P key) → P key
decided P literal key here other =
    elim (cases_Bool (bytes_eq key literal)) [
      | inl equal ↦ subst P (sym ((bytes_eq-Decides key literal).0 equal)) here
      | inr equal ↦ other equal
    ]

-- A pair whose key is not the name of a field does not change the field `k`.
other_key : (k : KnownField) (c : Fields) (value key : List ℕ) → known_by key ≡ None → is_key k key ≡ false → Sets k c value key
unfolding set_plain
other_key k c value key unknown other = by (known_by key) unknown
  where
    skipping : (skipped : Bool) → known_field k (if skipped then c else with_property key value c) ≡ known_field k c
    skipping true = refl
    skipping false = stays k key value c

    by : (found : Option KnownField) → found ≡ None → known_field k (elim found as (λ _. Fields) [ Some j ↦ with_known j value c | None ↦ set_other key value c ]) ≡ (if is_key k key then Some value else known_field k c)
    by None is = rw other (skipping (is_some (inner_name key) || length key == 0))
    by (Some j) is = absurd cc

field_sets : (k : KnownField) (c : Fields) (key value : List ℕ) → Sets k c value key
unfolding set_plain known_by
field_sets k c key value =
    decided (Sets k c value) (codes "userId") key (each (λ k. Sets k c value (codes "userId")) refl refl refl refl refl refl k) (λ a.
    decided (Sets k c value) (codes "sessionId") key (each (λ k. Sets k c value (codes "sessionId")) refl refl refl refl refl refl k) (λ b.
    decided (Sets k c value) (codes "remoteAddress") key (each (λ k. Sets k c value (codes "remoteAddress")) refl refl refl refl refl refl k) (λ d.
    decided (Sets k c value) (codes "environment") key (each (λ k. Sets k c value (codes "environment")) refl refl refl refl refl refl k) (λ e.
    decided (Sets k c value) (codes "appName") key (each (λ k. Sets k c value (codes "appName")) refl refl refl refl refl refl k) (λ f.
    decided (Sets k c value) (codes "currentTime") key (each (λ k. Sets k c value (codes "currentTime")) refl refl refl refl refl refl k) (λ g.
    other_key k c value key (rw (a, b, d, e, f, g) refl) (each (λ k. is_key k key ≡ false) a b d e f g k)))))))

inner_stays : (k : KnownField) (pairs : List (List ℕ × List ℕ)) (c : Fields) → known_field k (fold set_inner c pairs) ≡ known_field k c
unfolding set_inner
inner_stays k [] c = refl
inner_stays k ((key, value) ∷ pairs) c = inner_stays k pairs (set_inner c (key, value)) ∙ by (inner_name key)
  where
    by : (found : Option (List ℕ)) → known_field k (elim found as (λ _. Fields) [ Some name ↦ with_property name value c | None ↦ c ]) ≡ known_field k c
    by None = refl
    by (Some name) = stays k name value c

pub last_field : LastFieldCounts
unfolding set_by
last_field pairs k =
    let plain : known_field k (fold set_plain nothing pairs) ≡ option_or (last_value (is_key k) pairs) (known_field k nothing) = last_counts set_plain (known_field k) (is_key k) (field_sets k) pairs nothing in
    inner_stays k pairs (fold set_plain nothing pairs) ∙ plain ∙ ap (option_or (last_value (is_key k) pairs)) (each (λ k. known_field k nothing ≡ None) refl refl refl refl refl refl k) ∙ or_none (last_value (is_key k) pairs)
  where
    or_none : (a : Option (List ℕ)) → option_or a None ≡ a
    or_none None = refl
    or_none (Some v) = refl

-- ---- the names of the properties

abbrev Rise : Fields → Type 0
Rise c = HasRisingNames c.properties

all_rise : (set : Fields → List ℕ × List ℕ → Fields) → ((c : Fields) (key value : List ℕ) → Rise c → Rise (set c (key, value))) → (pairs : List (List ℕ × List ℕ)) (c : Fields) → Rise c → Rise (fold set c pairs)
all_rise set one [] c up = up
all_rise set one ((key, value) ∷ pairs) c up = all_rise set one pairs (set c (key, value)) (one c key value up)

inner_rises : (c : Fields) (key value : List ℕ) → Rise c → Rise (set_inner c (key, value))
unfolding set_inner
inner_rises c key value up = by (inner_name key)
  where
    by : (found : Option (List ℕ)) → Rise (elim found as (λ _. Fields) [ Some name ↦ with_property name value c | None ↦ c ])
    by None = up
    by (Some name) = rising_put name value c.properties up

plain_rises : (c : Fields) (key value : List ℕ) → Rise c → Rise (set_plain c (key, value))
unfolding set_plain
plain_rises c key value up = by (known_by key)
  where
    skipping : (skipped : Bool) → Rise (if skipped then c else with_property key value c)
    skipping true = up
    skipping false = rising_put key value c.properties up

    by : (found : Option KnownField) → Rise (elim found as (λ _. Fields) [ Some k ↦ with_known k value c | None ↦ set_other key value c ])
    by None = skipping (is_some (inner_name key) || length key == 0)
    by (Some k) = each (λ k. Rise (with_known k value c)) up up up up up up k

pub names_rise : SetNamesRise
unfolding set_by
names_rise pairs = all_rise set_inner inner_rises pairs (fold set_plain nothing pairs) (all_rise set_plain plain_rises pairs nothing no_names)
