-- The features generated from the words.
use Rattle.std.proofs.Common.{◌≡◌, ◌∙◌, ◌<◌, ◌≤◌, ◌+◌, ◌-◌, ◌/◌, ◌%◌, ℕ, zero, suc, List, [], ◌∷◌, ◌++◌, length, map, decimal, codes, All, refl, sym, ap, arith, append-nil, append_assoc, mod-lt}
use Rattle.std.specs.List.{AllByRecursion}
use Rattle.std.specs.List.Sorted.{IsStrictlySortedBy}
use Rattle.std.specs.Cmp.Lexicographic.{slice_cmp}
use Rattle.std.specs.Ordering.{nat_cmp}
use Rattle.std.specs.declared.cmp.Ordering.TheVariants.{Less}
use Rattle.std.proofs.lemmas.Fmt.{decimal_digit, length-decimal-le}
use Rattle.std.proofs.lemmas.List.Elements.{All-cons, All-nil}
use Rattle.rand_pcg.specs.Lcg.{Lcg}
use Rattle.unl_documents.specs.declared.feature.Feature.{Feature}
use Rattle.unl_documents.specs.Limits.{Anything, IsName}
use Rattle.unl_documents.specs.Parameters.{AreParameters, AreRising, IsValidPair}
use Rattle.unl_documents.specs.States.{IsValidState, name_key}
use Rattle.unl_documents.specs.Valid.{IsValidConstraint, IsValidDependency, IsValidFeature, IsValidSegment, IsValidStrategy, IsValidVariant}
use Rattle.unl_load.specs.Input.{generated_feature, features_from, name_of, pair, state_by, generated_strategy}
use Rattle.unl_load.specs.Words.{behind, next_word, next}
use Rattle.unl_load.proofs.Names.{name_rises}

-- ---- the names

-- the printed name: `f` and each of the last four digits of the index
pub digits : (place : ℕ)
    → codes "f" ++ (decimal (place / 1000 % 10) ++ (decimal (place / 100 % 10) ++ (decimal (place / 10 % 10) ++ decimal (place % 10)))) ≡ name_of place
unfolding name_of
digits place =
    rw (
      decimal_digit (place / 1000 % 10) (mod-lt (place / 1000) (omega arith)),
      decimal_digit (place / 100 % 10) (mod-lt (place / 100) (omega arith)),
      decimal_digit (place / 10 % 10) (mod-lt (place / 10) (omega arith)),
      decimal_digit (place % 10) (mod-lt place (omega arith)),
    ) refl

-- ---- the limits

named : (place : ℕ) → length (name_of place) ≡ 5
unfolding name_of
named place = refl

name_is : (place : ℕ) → IsName (name_of place)
name_is place = (omega (arith, named place), omega (arith, named place))

rollout_fits : (word : ℕ) → length (decimal (word % 101)) ≤ 1048576
rollout_fits word =
    let few : word % 101 < 101 = mod-lt word (omega arith) in
    omega (arith, length-decimal-le 3 (word % 101) (omega arith) (omega (arith, few)) (omega (arith, few)))

pair_fits : (key value : List ℕ) → IsName key → length value ≤ 1048576 → IsValidPair (pair key value)
pair_fits key value named few = record { key = named; value = few }

pairs_fit : (place word : ℕ) → AreParameters (generated_strategy (name_of place) (word % 101)).parameters
unfolding generated_strategy IsStrictlySortedBy
pairs_fit place word =
    let group = pair (codes "groupId") (name_of place) in
    let rollout = pair (codes "rollout") (decimal (word % 101)) in
    let stickiness = pair (codes "stickiness") (codes "userId") in
    record {
      each = (
        omega arith,
        All-cons IsValidPair group (rollout ∷ stickiness ∷ [])
            (pair_fits (codes "groupId") (name_of place) (omega arith, omega arith) (omega (arith, named place)))
            (All-cons IsValidPair rollout (stickiness ∷ [])
            (pair_fits (codes "rollout") (decimal (word % 101)) (omega arith, omega arith) (rollout_fits word))
            (All-cons IsValidPair stickiness []
            (pair_fits (codes "stickiness") (codes "userId") (omega arith, omega arith) (omega arith))
            (All-nil IsValidPair))),
      );
      rising = ((refl, (refl, tt)), ((refl, tt), (tt, tt)));
    }

strategy_fits : (place word : ℕ) → IsValidStrategy (generated_strategy (name_of place) (word % 101))
unfolding generated_strategy
strategy_fits place word = record {
  name = (omega arith, omega arith);
  parameters = pairs_fit place word;
  constraints = (omega arith, All-nil IsValidConstraint);
  segments = (omega arith, All-nil Anything);
  variants = (omega arith, All-nil IsValidVariant);
}

feature_fits : (place word : ℕ) → IsValidFeature (generated_feature place word)
unfolding generated_feature
feature_fits place word = record {
  name = name_is place;
  project = (omega arith, omega arith);
  kind = (omega arith, omega arith);
  description = tt;
  strategies = (omega arith, All-cons IsValidStrategy (generated_strategy (name_of place) (word % 101)) [] (strategy_fits place word) (All-nil IsValidStrategy));
  variants = (omega arith, All-nil IsValidVariant);
  dependencies = (omega arith, All-nil IsValidDependency);
}

all_fit : (n place : ℕ) (words : Lcg) → All IsValidFeature (features_from place n words)
unfolding features_from
all_fit zero place words = All-nil IsValidFeature
all_fit (suc n) place words =
    All-cons IsValidFeature (generated_feature place (next_word words)) (features_from (place + 1) n (next words))
    (feature_fits place (next_word words)) (all_fit n (place + 1) (next words))

-- ---- the order of the names

above : (n place before : ℕ) (words : Lcg) → before < place → place + n ≤ 1000
    → AllByRecursion (λ (name : List ℕ). slice_cmp nat_cmp (name_of before) name ≡ Less) (map name_key (features_from place n words))
unfolding features_from generated_feature
above zero place before words less inside = tt
above (suc n) place before words less inside =
    (name_rises before place less (omega (arith, inside)), above n (place + 1) before (next words) (omega (arith, less)) (omega (arith, inside)))

rising : (n place : ℕ) (words : Lcg) → place + n ≤ 1000 → AreRising (map name_key (features_from place n words))
unfolding features_from generated_feature IsStrictlySortedBy
rising zero place words inside = tt
rising (suc n) place words inside =
    (above n (place + 1) place (next words) (omega arith) (omega (arith, inside)), rising n (place + 1) (next words) (omega (arith, inside)))

none_rise : AreRising []
unfolding IsStrictlySortedBy
none_rise = tt

-- the state of 1,000 features that is generated from random words is valid
pub state_valid : (words : Lcg) → IsValidState (state_by words)
state_valid words = record {
  features = all_fit 1000 0 words;
  names = rising 1000 0 words (omega arith);
  segments = All-nil IsValidSegment;
  ids = none_rise;
}

-- ---- one by one

-- the features so far, followed by the remaining ones, are all features; the remaining words follow those of the features so far
pub record Makes (words : Lcg) (place : ℕ) (made : List Feature) (left : Lcg) : Type 0 where
  pub all : made ++ features_from place (1000 - place) left ≡ features_from 0 1000 words
  pub taken : behind (1000 - place) left ≡ behind 1000 words

left_is : (place : ℕ) → place < 1000 → 1000 - place ≡ suc (1000 - (place + 1))
left_is place inside = omega (arith, inside)

unfold_features : (n place : ℕ) (words : Lcg) → features_from place (suc n) words ≡ generated_feature place (next_word words) ∷ features_from (place + 1) n (next words)
unfolding features_from
unfold_features n place words = refl

unfold_behind : (n : ℕ) (words : Lcg) → behind (suc n) words ≡ behind n (next words)
unfolding behind
unfold_behind n words = refl

pub makes_more : (words : Lcg) (place : ℕ) (made : List Feature) (left : Lcg) → place < 1000 → Makes words place made left
    → Makes words (place + 1) (made ++ generated_feature place (next_word left) ∷ []) (next left)
makes_more words place made left inside makes = record {
  all = append_assoc made (generated_feature place (next_word left) ∷ []) (features_from (place + 1) (1000 - (place + 1)) (next left))
      ∙ ap (λ rest. made ++ rest) (sym (ap (λ n. features_from place n left) (left_is place inside) ∙ unfold_features (1000 - (place + 1)) place left))
      ∙ makes.all;
  taken = sym (ap (λ n. behind n left) (left_is place inside) ∙ unfold_behind (1000 - (place + 1)) left) ∙ makes.taken;
}

-- one more feature, made from one word
pub makes_next : (words : Lcg) (place : ℕ) (made made_after : List Feature) (left left_after : Lcg) (word : ℕ) (feature : Feature)
    → place < 1000 → Makes words place made left → word ≡ next_word left → left_after ≡ next left → feature ≡ generated_feature place word
    → made_after ≡ made ++ feature ∷ [] → Makes words (place + 1) made_after left_after
makes_next words place made made_after left left_after word feature inside makes from goes is pushed =
    rw (pushed, is, from, goes) (makes_more words place made left inside makes)

none_left : (place : ℕ) (words : Lcg) → features_from place 0 words ≡ []
unfolding features_from
none_left place words = refl

behind_none : (words : Lcg) → behind 0 words ≡ words
unfolding behind
behind_none words = refl

-- after all 1,000 features were generated, they are the features of the state, and 1,000 words were taken
pub all_made : (words : Lcg) (place : ℕ) (made : List Feature) (left : Lcg) → place ≡ 1000 → Makes words place made left
    → (made ≡ features_from 0 1000 words) × (left ≡ behind 1000 words)
all_made words place made left end makes =
    let none : 1000 - place ≡ 0 = omega (arith, end) in
    let nothing : features_from place (1000 - place) left ≡ [] = ap (λ n. features_from place n left) none ∙ none_left place left in
    let here : behind (1000 - place) left ≡ left = ap (λ n. behind n left) none ∙ behind_none left in
    (sym (append-nil made) ∙ ap (λ rest. made ++ rest) (sym nothing) ∙ makes.all, sym here ∙ makes.taken)
