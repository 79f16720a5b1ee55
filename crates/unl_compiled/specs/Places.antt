-- Positions in a version's state: of a project's features, and of strategies.
use Rattle.std.specs.Prelude.{◌≡◌, ℕ, ◌+◌, List, [], ◌∷◌, Option, Some, None, slice_get, option_and_then, if◌then◌else◌}
use Rattle.std.specs.List.{find}
use Rattle.std.specs.Option.{option_map_or}
use Rattle.std.specs.Str.{bytes_eq}
use Rattle.unl_compiled.specs.declared.index.ProjectPlaces.{ProjectPlaces}
use Rattle.unl_documents.specs.declared.feature.Feature.{Feature}
use Rattle.unl_documents.specs.declared.state.State.{State}
use Rattle.unl_documents.specs.declared.strategy.Strategy.{Strategy}
use Rattle.unl_tokens.specs.declared.projects.Projects.{Projects}
use Rattle.unl_tokens.specs.declared.projects.Projects.TheVariants.{All, Only}

-- The positions of a project's features in ascending order, where the first feature of the list has position `place`.
abbrev pub places_from : ℕ → List ℕ → List Feature → List ℕ
places_from place project [] = []
places_from place project (f ∷ fs) =
    if bytes_eq f.project project then place ∷ places_from (place + 1) project fs else places_from (place + 1) project fs

-- The positions of a project's features, in ascending order.
abbrev pub places_of : List ℕ → List Feature → List ℕ
places_of project features = places_from 0 project features

-- The strategy at index `strategy` of the feature at index `feature`, if there is one.
abbrev pub strategy_at : State → ℕ → ℕ → Option Strategy
strategy_at state feature strategy = option_and_then (λ f. slice_get f.strategies strategy) (slice_get state.features feature)

-- The positions that the index lists for a project: none if the project isn't listed.
abbrev pub listed : List ℕ → List ProjectPlaces → List ℕ
listed project index = option_map_or (λ e. e.places) (find (λ e. bytes_eq e.project project) index) []

-- The index lists for each project the positions of its features.
abbrev pub IsIndex : List Feature → List ProjectPlaces → Type 0
IsIndex features index = (project : List ℕ) → listed project index ≡ places_of project features

-- The feature, if it has the name.
abbrev pub if_name : List ℕ → Feature → Option Feature
if_name name f = if bytes_eq f.name name then Some f else None

-- The name in a list of exactly one name.
abbrev pub only_one : List (List ℕ) → Option (List ℕ)
only_one [] = None
only_one (name ∷ []) = Some name
only_one (name ∷ other ∷ names) = None

-- The project, if the projects are exactly one named project.
abbrev pub one_project : Projects → Option (List ℕ)
one_project All = None
one_project (Only names) = only_one names
