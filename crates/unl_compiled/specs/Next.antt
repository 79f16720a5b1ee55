-- The state after the events of a batch, and the events that leave the project index unchanged.
use Rattle.std.specs.Prelude.{ℕ, List, [], ◌∷◌, Bool, true, false}
use Rattle.std.specs.Option.{option_map_or}
use Rattle.std.specs.Str.{bytes_eq}
use Rattle.unl_delta.specs.declared.event.Event.{Event}
use Rattle.unl_delta.specs.declared.event.Event.TheVariants.{Hydration, FeatureUpdated, FeatureRemoved, SegmentUpdated, SegmentRemoved}
use Rattle.unl_delta.specs.State.{number_of, fold_events, later, project_of}
use Rattle.unl_documents.specs.declared.feature.Feature.{Feature}
use Rattle.unl_documents.specs.declared.state.State.{State}

-- As `state_after`, for a first event and the list of the others.
abbrev pub state_from : ℕ → State → Event → List Event → State
state_from number s (Hydration n state) es = fold_events es state
state_from number s (FeatureUpdated n feature) es = fold_events (later number_of number (FeatureUpdated n feature ∷ es)) s
state_from number s (FeatureRemoved n name project) es = fold_events (later number_of number (FeatureRemoved n name project ∷ es)) s
state_from number s (SegmentUpdated n segment) es = fold_events (later number_of number (SegmentUpdated n segment ∷ es)) s
state_from number s (SegmentRemoved n id) es = fold_events (later number_of number (SegmentRemoved n id ∷ es)) s

-- The state after a batch's events. The state before is that of the version with the number `number`. If the first event is a hydration,
-- its state replaces the state before, and all later events apply. Otherwise only the events with a number above `number` apply.
abbrev pub state_after : ℕ → List Event → State → State
state_after number [] s = s
state_after number (e ∷ es) s = state_from number s e es

-- The event leaves each feature at its position and in its project: it updates a feature without a change of the feature's project, removes
-- a feature that isn't there, or concerns a segment.
abbrev pub keeps_place : List Feature → Event → Bool
keeps_place features (Hydration n state) = false
keeps_place features (FeatureUpdated n feature) = option_map_or (λ p. bytes_eq p feature.project) (project_of feature.name features) false
keeps_place features (FeatureRemoved n name project) = option_map_or (λ p. false) (project_of name features) true
keeps_place features (SegmentUpdated n segment) = true
keeps_place features (SegmentRemoved n id) = true
