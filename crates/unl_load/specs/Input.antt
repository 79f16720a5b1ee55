-- The input of the command `load`, as this project defines it: 1,000 features, each generated from one random word, and then
-- `count` asks, each generated from two random words. An ask is one evaluation of a feature for a user. Where a definition has
-- an argument `words`, it is the random number generator from which the next words are taken.
use Rattle.std.specs.Prelude.{ℕ, zero, suc, ◌+◌, ◌/◌, ◌%◌, List, [], ◌∷◌, ◌++◌, codes, decimal, Bool, true, false, Some, None}
use Rattle.std.specs.Option.{option_map_or}
use Rattle.rand_pcg.specs.Lcg.{Lcg}
use Rattle.unl_context.specs.Context.{Fields, nothing}
use Rattle.unl_dependencies.specs.Evaluation.{evaluation_of}
use Rattle.unl_documents.specs.declared.feature.Feature.{Feature}
use Rattle.unl_documents.specs.declared.parameters.Pair.{Pair}
use Rattle.unl_documents.specs.declared.state.State.{State}
use Rattle.unl_documents.specs.declared.strategy.Strategy.{Strategy}
use Rattle.unl_strategies.specs.Moment.{Moment}
use Rattle.unl_load.specs.Words.{behind, next_word, generator, next}

-- ---- the features

-- the last digit of a number, in ASCII
abbrev pub digit : ℕ → ℕ
digit number = 48 + number % 10

-- the name of the feature with this index: `f` and the last four decimal digits of the index, with leading zeros
unfoldable pub name_of : ℕ → List ℕ
name_of place = codes "f" ++ digit (place / 1000) ∷ digit (place / 100) ∷ digit (place / 10) ∷ digit place ∷ []

-- a strategy parameter with this key and value
abbrev pub pair : List ℕ → List ℕ → Pair
pair key value = record { key = key; value = value }

-- the `flexibleRollout` strategy of the feature with this name, for this rollout percentage
unfoldable pub generated_strategy : List ℕ → ℕ → Strategy
generated_strategy name rollout = record {
  name = codes "flexibleRollout";
  parameters = pair (codes "groupId") name ∷ pair (codes "rollout") (decimal rollout) ∷ pair (codes "stickiness") (codes "userId") ∷ [];
  constraints = [];
  segments = [];
  variants = [];
}

-- the feature with this index, generated from this random word: its rollout percentage is `word % 101`
unfoldable pub generated_feature : ℕ → ℕ → Feature
generated_feature place word = record {
  name = name_of place;
  project = codes "default";
  kind = codes "release";
  description = None;
  enabled = true;
  stale = false;
  impression = false;
  strategies = generated_strategy (name_of place) (word % 101) ∷ [];
  variants = [];
  dependencies = [];
}

-- `n` features, generated from the next `n` words; the first has the index `place`
unfoldable pub features_from : ℕ → ℕ → Lcg → List Feature
features_from place zero words = []
features_from place (suc n) words = generated_feature place (next_word words) ∷ features_from (place + 1) n (next words)

-- the state of 1,000 features, generated from the next 1,000 words
abbrev pub state_by : Lcg → State
state_by words = record { features = features_from 0 1000 words; segments = [] }

-- ---- the asks

-- an ask: the index of the feature to evaluate, and the number of the user to evaluate it for
pub record LoadAsk : Type 0 where
  pub feature : ℕ
  pub user : ℕ

-- the ask that is generated from the next two words
abbrev pub ask_by : Lcg → LoadAsk
ask_by words = record { feature = next_word words % 1000; user = next_word (next words) }

-- `n` asks, generated from the next words, two for each
unfoldable pub asks : ℕ → Lcg → List LoadAsk
asks zero words = []
asks (suc n) words = ask_by words ∷ asks n (next (next words))

-- the context of the user with this number: its `userId` is the number in decimal, and it has nothing else
unfoldable pub user_context : ℕ → Fields
user_context user = record nothing { user_id = Some (decimal user) }

-- time 0 with random word 0, on a host without a name
abbrev pub beginning : Moment
beginning = record { now = 0; word = 0; host = [] }

-- the state has the feature of the ask, and the feature is on for the user of the ask
unfoldable pub is_on_for : State → LoadAsk → Bool
is_on_for state ask = option_map_or (λ e. e.on) (evaluation_of state (name_of ask.feature) (user_context ask.user) beginning) false

-- ---- the features and the asks, from a seed

-- the state with the features that are generated from a seed
abbrev pub generated_state : ℕ → State
generated_state seed = state_by (generator seed)

-- the `count` asks that are generated from a seed; the words of the asks follow the 1,000 words of the features
abbrev pub asks_of : ℕ → ℕ → List LoadAsk
asks_of seed count = asks count (behind 1000 (generator seed))
