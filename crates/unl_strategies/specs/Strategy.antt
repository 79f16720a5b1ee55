-- When a strategy is active, following the activation strategies of the Unleash reference.
use Rattle.std.specs.Prelude.{ℕ, List, [], ◌∷◌, Bool, true, false, ◌&&◌, Option, Some, None, codes, unwrap_or, if◌then◌else◌}
use Rattle.std.specs.List.{list_all}
use Rattle.std.specs.Option.{option_map_or, option_or}
use Rattle.std.specs.Fmt.{decimal}
use Rattle.std.specs.Str.{bytes_eq}
use Rattle.unl_documents.specs.declared.parameters.Pair.{Pair}
use Rattle.unl_documents.specs.declared.segment.Segment.{Segment}
use Rattle.unl_documents.specs.declared.strategy.Strategy.{Strategy}
use Rattle.unl_documents.specs.Inline.{segment_with}
use Rattle.unl_context.specs.Context.{Fields, field_of, filled}
use Rattle.unl_constraints.specs.Constraint.{all_hold}
use Rattle.unl_strategies.specs.declared.moment.Mark.TheVariants as mark
use Rattle.unl_strategies.specs.Moment.{Moment}
use Rattle.unl_strategies.specs.Lists.{is_listed, is_host_listed, is_in_nets}
use Rattle.unl_strategies.specs.Percent.{percent_of}
use Rattle.unl_strategies.specs.Random.{random_number, random_id}
use Rattle.unl_strategies.specs.Rollout.{is_rolled_out, is_drawn}

-- The value, possibly empty, of the first parameter with the given key. `None` if there is no such parameter.
abbrev pub value_at : List ℕ → List Pair → Option (List ℕ)
value_at key [] = None
value_at key (p ∷ ps) = if bytes_eq p.key key then Some p.value else value_at key ps

-- The value of the first parameter with the given key, or `None` if there is no such parameter or its value is empty.
unfoldable pub parameter : List ℕ → List Pair → Option (List ℕ)
parameter key parameters = filled (value_at key parameters)

-- Like `parameter`, with `other` in place of `None`.
unfoldable pub parameter_or : List ℕ → List ℕ → List Pair → List ℕ
parameter_or other key parameters = unwrap_or (parameter key parameters) other

-- The userId, or else the sessionId, or else the random id.
abbrev pub default_id : Fields → List ℕ → List ℕ
default_id context random = unwrap_or (option_or (field_of context (codes "userId")) (field_of context (codes "sessionId"))) random

-- The id that a stickiness selects: `default` selects `default_id`, and `random` the given random id. Any other text selects the field or
-- property of the context with this name, and the result is `None` if the context lacks it.
unfoldable pub id_by : List ℕ → Fields → List ℕ → Option (List ℕ)
id_by stickiness context random =
    if bytes_eq stickiness (codes "default") then Some (default_id context random) else (
    if bytes_eq stickiness (codes "random") then Some random else
    field_of context stickiness)

-- The random number of the strategy at this index in the feature, derived from the word of the evaluation's moment.
abbrev pub random_at : List ℕ → ℕ → Moment → ℕ
random_at feature index moment = random_number feature (mark.Strategy index) moment.word

-- The context has a userId that is an item of the list in the parameter `userIds`.
unfoldable pub is_user_listed : List Pair → Fields → Bool
is_user_listed parameters context =
    option_map_or (λ id. is_listed (parameter_or [] (codes "userIds") parameters) id) (field_of context (codes "userId")) false

-- The context has a remoteAddress that is an address, and an address block of the list in the parameter `IPs` contains this address.
unfoldable pub is_address_listed : List Pair → Fields → Bool
is_address_listed parameters context =
    option_map_or (λ text. is_in_nets (parameter_or [] (codes "IPs") parameters) text) (field_of context (codes "remoteAddress")) false

-- The percentage in the parameter `percentage` includes the value of the context's field. False if the context lacks the field. The group
-- (the text that is hashed with this value) is the parameter `groupId`, or empty if that is absent.
unfoldable pub is_field_rolled_out : List ℕ → List Pair → Fields → Bool
is_field_rolled_out name parameters context =
    option_map_or
    (λ id. is_rolled_out (percent_of (parameter_or [] (codes "percentage") parameters)) (parameter_or [] (codes "groupId") parameters) id)
    (field_of context name) false

-- The percentage in the parameter `percentage` includes the random number.
unfoldable pub is_randomly_rolled_out : List Pair → ℕ → Bool
is_randomly_rolled_out parameters random = is_drawn (percent_of (parameter_or [] (codes "percentage") parameters)) random

-- The percentage in the parameter `rollout` includes the id. The group is the parameter `groupId`, or the feature's name if
-- that is absent or empty.
abbrev pub is_id_rolled_out : List Pair → List ℕ → List ℕ → Bool
is_id_rolled_out parameters feature id =
    is_rolled_out (percent_of (parameter_or [] (codes "rollout") parameters)) (parameter_or feature (codes "groupId") parameters) id

-- The percentage in the parameter `rollout` includes the id that the parameter `stickiness` (`default` if absent or empty) selects.
-- False if the context lacks the selected field.
unfoldable pub is_flexibly_rolled_out : List Pair → List ℕ → ℕ → Fields → Bool
is_flexibly_rolled_out parameters feature random context =
    option_map_or
    (is_id_rolled_out parameters feature)
    (id_by (parameter_or (codes "default") (codes "stickiness") parameters) context (decimal (random_id random))) false

-- The strategy's own rule, selected by the strategy's name, holds. The rule of a strategy with an unknown name never holds.
unfoldable pub rule_holds : Strategy → List ℕ → ℕ → Fields → Moment → Bool
rule_holds s feature index context moment =
    if bytes_eq s.name (codes "default") then true else (
    if bytes_eq s.name (codes "userWithId") then is_user_listed s.parameters context else (
    if bytes_eq s.name (codes "gradualRolloutUserId") then is_field_rolled_out (codes "userId") s.parameters context else (
    if bytes_eq s.name (codes "gradualRolloutSessionId") then is_field_rolled_out (codes "sessionId") s.parameters context else (
    if bytes_eq s.name (codes "gradualRolloutRandom") then is_randomly_rolled_out s.parameters (random_at feature index moment) else (
    if bytes_eq s.name (codes "remoteAddress") then is_address_listed s.parameters context else (
    if bytes_eq s.name (codes "applicationHostname") then is_host_listed (parameter_or [] (codes "hostNames") s.parameters) moment.host
    else (
    if bytes_eq s.name (codes "flexibleRollout")
    then is_flexibly_rolled_out s.parameters feature (random_at feature index moment) context else
    false)))))))

-- The list has a segment with the id, and all constraints of the first such segment hold.
unfoldable pub is_segment_met : List Segment → Fields → ℕ → ℕ → Bool
is_segment_met segments context now id = option_map_or (λ s. all_hold s.constraints context now) (segment_with id segments) false

-- The strategy is active: all of its constraints hold, each segment that it refers to exists and holds, and its own rule holds.
unfoldable pub is_active : Strategy → List ℕ → ℕ → List Segment → Fields → Moment → Bool
is_active s feature index segments context moment =
    all_hold s.constraints context moment.now
    && (list_all (is_segment_met segments context moment.now) s.segments
    && rule_holds s feature index context moment)
