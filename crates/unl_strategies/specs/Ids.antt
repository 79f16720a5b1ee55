-- The id that decides whether a rollout includes a context.
use Rattle.std.specs.Prelude.{ℕ, List, Option, Some, None}
use Rattle.unl_strategies.specs.declared.ids.RolloutId.{RolloutId}
use Rattle.unl_strategies.specs.declared.ids.RolloutId.TheVariants.{Field, Random, Absent}

-- The text of the id, or `None` if there is no id. `random` is the text of the random id.
abbrev pub id_with : RolloutId → List ℕ → Option (List ℕ)
id_with (Field text) random = Some text.now
id_with Random random = Some random
id_with Absent random = None
