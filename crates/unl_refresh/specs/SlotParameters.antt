-- The environment and the request parameters of each slot.
use Rattle.std.specs.Prelude.{ℕ, Bool, List, [], ◌∷◌, Option, None, map}
use Rattle.unl_refresh.specs.declared.slot_poller.SlotPoller.{SlotPoller}

-- the environment of a slot, the server and the token of its requests, and whether they are for events (`delta`) or whole feeds
pub record SlotParameters : Type 0 where
  pub environment : List ℕ
  pub host : List ℕ
  pub token : List ℕ
  pub delta : Bool

-- the environment and the request parameters of a slot's poller, without its tag
abbrev pub parameters_of : SlotPoller → SlotParameters
parameters_of slot_poller = record {
  environment = slot_poller.environment;
  host = slot_poller.ask.host;
  token = slot_poller.ask.token;
  delta = slot_poller.ask.delta;
}

-- the tag of the next request of a slot's poller
abbrev pub tag_of : SlotPoller → Option (List ℕ)
tag_of slot_poller = slot_poller.ask.tag

-- a list with `None` for each of these tokens: the tags before the first requests
abbrev pub no_tags : List (List ℕ) → List (Option (List ℕ))
no_tags tokens = map (λ _. None) tokens

-- the parameters of one slot for each pair of a token and the environment at the same position, all for one server
abbrev pub slot_parameters : List ℕ → Bool → List (List ℕ) → List (List ℕ) → List SlotParameters
slot_parameters host delta [] environments = []
slot_parameters host delta (token ∷ tokens) [] = []
slot_parameters host delta (token ∷ tokens) (environment ∷ environments) =
    record { environment = environment; host = host; token = token; delta = delta } ∷ slot_parameters host delta tokens environments
