-- The pollers that were created are those of the tokens: one for each token, with its parameters and without a tag.
use Rattle.std.proofs.Common.{◌≡◌, ◌<◌, ◌≤◌, ◌+◌, ◌∙◌, ℕ, Bool, List, [], ◌∷◌, ◌++◌, Option, None, length, drop, map, get_or, ap, sym, arith, append-nil, append_assoc}
use Rattle.std.proofs.lemmas.List.{drop_all, drop_more, map-append}
use Rattle.unl_refresh.specs.declared.ask.Ask.{Ask}
use Rattle.unl_refresh.specs.SlotParameters.{SlotParameters, no_tags, parameters_of, slot_parameters, tag_of}
use Rattle.unl_refresh.specs.declared.slot_poller.SlotPoller.{SlotPoller}

-- The parameters of the pollers so far and of the tokens that are left are those of all tokens, also after one more poller is created.
pub fed_next : (host : List ℕ) (delta : Bool) (tokens environments : List (List ℕ)) (place : ℕ) (token environment : List ℕ)
    (before after : List SlotPoller) (slot_poller : SlotPoller) → place < length tokens → length environments ≡ length tokens
    → slot_poller.environment ≡ environment → slot_poller.ask ≡ record { host = host; token = token; delta = delta; tag = None }
    → token ≡ get_or tokens place token → environment ≡ get_or environments place environment
    → after ≡ before ++ slot_poller ∷ []
    → map parameters_of before ++ slot_parameters host delta (drop place tokens) (drop place environments) ≡ slot_parameters host delta tokens environments
    → map parameters_of after ++ slot_parameters host delta (drop (place + 1) tokens) (drop (place + 1) environments)
    ≡ slot_parameters host delta tokens environments
fed_next host delta tokens environments place token environment before after slot_poller inside many named asked here there more made =
    ap (λ (fs : List SlotPoller). map parameters_of fs ++ rest) more
    ∙ ap (λ (fs : List SlotParameters). fs ++ rest) (map-append parameters_of before (slot_poller ∷ []))
    ∙ append_assoc (map parameters_of before) (parameters_of slot_poller ∷ []) rest
    ∙ ap (λ (fs : List SlotParameters). map parameters_of before ++ fs) (sym (split ∙ ap (λ (f : SlotParameters). f ∷ rest) (sym same)))
    ∙ made
  where
    rest : List SlotParameters
    rest = slot_parameters host delta (drop (place + 1) tokens) (drop (place + 1) environments)

    wanted : SlotParameters
    wanted = record { environment = get_or environments place environment; host = host; token = get_or tokens place token; delta = delta }

    same : parameters_of slot_poller ≡ wanted
    same = λ i. record {
      environment = (named ∙ there) i;
      host = ap (λ (a : Ask). a.host) asked i;
      token = (ap (λ (a : Ask). a.token) asked ∙ here) i;
      delta = ap (λ (a : Ask). a.delta) asked i;
    }

    within : place < length environments
    within = omega (arith, inside, many)

    split : slot_parameters host delta (drop place tokens) (drop place environments) ≡ wanted ∷ rest
    split = λ i. slot_parameters host delta (drop_more tokens place token inside i) (drop_more environments place environment within i)

-- after all tokens, the pollers have the parameters of the tokens
pub all_fed : (host : List ℕ) (delta : Bool) (tokens environments : List (List ℕ)) (place : ℕ) (made : List SlotParameters) → length tokens ≤ place
    → made ++ slot_parameters host delta (drop place tokens) (drop place environments) ≡ slot_parameters host delta tokens environments
    → made ≡ slot_parameters host delta tokens environments
all_fed host delta tokens environments place made few is =
    sym (append-nil made) ∙ ap (λ (fs : List SlotParameters). made ++ fs) (sym none) ∙ is
  where
    none : slot_parameters host delta (drop place tokens) (drop place environments) ≡ []
    none = ap (λ (ts : List (List ℕ)). slot_parameters host delta ts (drop place environments)) (drop_all place tokens few)

-- ---- their tags

-- The tags of the pollers so far, and `None` for each token that is left, are `None` for each token, also after one more poller.
pub untagged_next : (tokens : List (List ℕ)) (place : ℕ) (before after : List SlotPoller) (slot_poller : SlotPoller) → place < length tokens
    → slot_poller.ask.tag ≡ None → after ≡ before ++ slot_poller ∷ [] → map tag_of before ++ no_tags (drop place tokens) ≡ no_tags tokens
    → map tag_of after ++ no_tags (drop (place + 1) tokens) ≡ no_tags tokens
untagged_next tokens place before after slot_poller inside none more made =
    ap (λ (fs : List SlotPoller). map tag_of fs ++ rest) more
    ∙ ap (λ (ts : List (Option (List ℕ))). ts ++ rest) (map-append tag_of before (slot_poller ∷ []))
    ∙ append_assoc (map tag_of before) (tag_of slot_poller ∷ []) rest
    ∙ ap (λ (ts : List (Option (List ℕ))). map tag_of before ++ ts) (ap (λ (t : Option (List ℕ)). t ∷ rest) none ∙ sym split)
    ∙ made
  where
    rest : List (Option (List ℕ))
    rest = no_tags (drop (place + 1) tokens)

    split : no_tags (drop place tokens) ≡ None ∷ rest
    split = ap no_tags (drop_more tokens place [] inside)

-- after all tokens, no poller has a tag
pub all_untagged : (tokens : List (List ℕ)) (place : ℕ) (made : List (Option (List ℕ))) → length tokens ≤ place
    → made ++ no_tags (drop place tokens) ≡ no_tags tokens → made ≡ no_tags tokens
all_untagged tokens place made few is =
    sym (append-nil made) ∙ ap (λ (ts : List (Option (List ℕ))). made ++ ts) (sym none) ∙ is
  where
    none : no_tags (drop place tokens) ≡ []
    none = ap no_tags (drop_all place tokens few)
