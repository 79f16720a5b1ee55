-- An upstream, the server that holds the features and segments of up to eight environments: its initial state, and the effect of each
-- command. The limits of an environment and the reasons to refuse a command are chosen by this project.
use Rattle.std.specs.Prelude.{◌≡◌, true, false, ℕ, ◌+◌, ◌-◌, ◌^◌, ◌==◌, ◌||◌, nat_lt, List, [], ◌∷◌, length, map, Bool, if◌then◌else◌}
use Rattle.std.specs.Prelude.{All, Some, is_some, ok_or, Result, Ok, Err}
use Rattle.std.specs.List.{list_any}
use Rattle.std.specs.Str.{bytes_eq}
use Rattle.unl_core.specs.declared.board.Board.{Board}
use Rattle.unl_core.specs.declared.board.Slot.{Slot}
use Rattle.unl_core.specs.Board.{names_of, place_in, snapshot_in, with_snapshot, with_tokens}
use Rattle.unl_delta.specs.declared.batch.Batch.{Batch}
use Rattle.unl_delta.specs.declared.event.Event.{Event}
use Rattle.unl_delta.specs.declared.event.Event.TheVariants.{FeatureUpdated, FeatureRemoved, SegmentUpdated, SegmentRemoved}
use Rattle.unl_delta.specs.declared.version.EnvVersion.{EnvVersion}
use Rattle.unl_delta.specs.declared.version.Place.{Place}
use Rattle.unl_delta.specs.Batch.{empty_at, next_version}
use Rattle.unl_delta.specs.State.{is_change, number_of, project_of}
use Rattle.unl_delta.specs.Valid.{IsValidEvent}
use Rattle.unl_documents.specs.declared.feature.Feature.{Feature}
use Rattle.unl_documents.specs.declared.segment.Segment.{Segment}
use Rattle.unl_documents.specs.Limits.{IsName}
use Rattle.unl_documents.specs.Results.{◌>>=◌}
use Rattle.unl_tokens.specs.declared.token.Token.{Token}
use Rattle.unl_upstream.specs.declared.command.Command.{Command}
use Rattle.unl_upstream.specs.declared.command.Command.TheVariants.{PutFeature, RemoveFeature, PutSegment, RemoveSegment}
use Rattle.unl_upstream.specs.declared.refusal.CommandRefusal.{CommandRefusal}
use Rattle.unl_upstream.specs.declared.refusal.CommandRefusal.TheVariants.{NoSuchEnvironment, NoSuchFeature, NoSuchSegment, TooMany, Memory}
use Rattle.unl_upstream.specs.declared.refusal.KeepCommandRefusal.{KeepCommandRefusal}
use Rattle.unl_upstream.specs.declared.refusal.KeepCommandRefusal.TheVariants as keep
use Rattle.unl_upstream.specs.Command.{environment_of}

-- the board (the versions of the environments and the known tokens) that requests are answered from, and the secret that allows a request
-- to give commands
pub record UpstreamState : Type 0 where
  pub board : Board
  pub secret : List ℕ

-- the names of the slots' environments are within the limits of names
abbrev pub AreNamed : List Slot → Type 0
AreNamed slots = All IsName (names_of slots)

-- ---- the initial state

-- the initial slot of an environment: an empty version, at number 0 of the epoch
abbrev pub opening_slot : ℕ → List ℕ → Slot
opening_slot epoch environment = record { environment = environment; snapshot = Some (empty_at epoch) }

-- the initial board: one slot for each of these environments, an empty host, and this book of tokens as the first that is published
abbrev pub opening_board : ℕ → List (List ℕ) → List Token → ℕ → Board
opening_board boot environments book epoch =
    with_tokens book (record { boot = boot; host = []; generation = 0; book = []; slots = map (opening_slot epoch) environments })

-- the initial upstream, before any command
abbrev pub opening : ℕ → List ℕ → List (List ℕ) → List Token → ℕ → UpstreamState
opening boot secret environments book epoch = record { board = opening_board boot environments book epoch; secret = secret }

-- ---- the event of a command

-- the result of a command, or why it is refused
abbrev pub CommandResult : Type 0 → Type 0
CommandResult T = Result T CommandRefusal

-- the maximum number of features in an environment
abbrev pub most_features : ℕ
most_features = 10000

-- the maximum number of segments in an environment
abbrev pub most_segments : ℕ
most_segments = 1000

-- the last version number
abbrev pub last_number : ℕ
last_number = 2 ^ 64 - 1

-- whether the feature has this name
abbrev pub is_feature_named : List ℕ → Feature → Bool
is_feature_named name feature = bytes_eq feature.name name

-- whether any feature has this name
abbrev pub has_feature : List ℕ → List Feature → Bool
has_feature name features = is_some (project_of name features)

-- whether any segment has this id
abbrev pub has_segment : ℕ → List Segment → Bool
has_segment id segments = list_any (λ segment. segment.id == id) segments

-- succeeds if the item exists already, or the count is below the maximum; otherwise `TooMany` with the count
abbrev pub room_for : Bool → ℕ → ℕ → CommandResult (Unit {0})
room_for is_there most count = if is_there || nat_lt count most then Ok tt else Err (TooMany count)

-- succeeds if the item to remove exists; otherwise fails with this refusal
abbrev pub found : Bool → CommandRefusal → CommandResult (Unit {0})
found is_there refusal = if is_there then Ok tt else Err refusal

-- the next version number, or `TooMany` with the number if it is the last one
abbrev pub number_after : ℕ → CommandResult ℕ
number_after n = if n == last_number then Err (TooMany n) else Ok (n + 1)

-- the event that adds a feature, or replaces the one with the same name
unfoldable pub feature_put : Feature → EnvVersion → CommandResult Event
feature_put feature v = do
  room ← room_for (has_feature feature.name v.state.features) most_features (length v.state.features)
  number ← number_after v.number
  Ok (FeatureUpdated number feature)

-- the event that removes a feature, with the project of that feature
unfoldable pub feature_removed : List ℕ → EnvVersion → CommandResult Event
feature_removed name v = do
  project ← ok_or (project_of name v.state.features) NoSuchFeature
  number ← number_after v.number
  Ok (FeatureRemoved number name project)

-- the event that adds a segment, or replaces the one with the same id
unfoldable pub segment_put : Segment → EnvVersion → CommandResult Event
segment_put segment v = do
  room ← room_for (has_segment segment.id v.state.segments) most_segments (length v.state.segments)
  number ← number_after v.number
  Ok (SegmentUpdated number segment)

-- the event that removes a segment
unfoldable pub segment_removed : ℕ → EnvVersion → CommandResult Event
segment_removed id v = do
  is_there ← found (has_segment id v.state.segments) NoSuchSegment
  number ← number_after v.number
  Ok (SegmentRemoved number id)

-- the event of a command at a version, numbered one above the version, or why the command is refused
abbrev pub event_of : Command → EnvVersion → CommandResult Event
event_of (PutFeature environment feature) v = feature_put feature v
event_of (RemoveFeature environment name) v = feature_removed name v
event_of (PutSegment environment segment) v = segment_put segment v
event_of (RemoveSegment environment id) v = segment_removed id v

-- the event is a change within the limits, numbered one above the version
pub record IsNext (v : EnvVersion) (event : Event) : Type 0 where
  pub change : is_change event ≡ true
  pub number : number_of event ≡ v.number + 1
  pub valid : IsValidEvent event

-- ---- the effect of a command on an upstream

-- the place of a slot that has this version and is not held (it does not wait for a hydration, an event with the whole state)
abbrev pub place_with : EnvVersion → Place
place_with v = record { version = Some v; held = false }

-- the batch of one event that follows this version
abbrev pub batch_of : EnvVersion → Event → Batch
batch_of v event = record { epoch = v.epoch; after = Some v.number; events = event ∷ [] }

-- the version after one event
abbrev pub version_after : EnvVersion → Event → EnvVersion
version_after v event = next_version (place_with v) (batch_of v event)

-- a prepared command: the index of its environment's slot, the new number, the new version, and the slots that it was prepared from
pub record Prepared : Type 0 where
  pub slot : ℕ
  pub number : ℕ
  pub snapshot : EnvVersion
  pub from : List Slot

-- prepares a command: the new version of its environment, not yet published, or the first refusal that applies
unfoldable pub prepared : Command → UpstreamState → CommandResult Prepared
prepared command up = do
  slot ← ok_or (place_in (environment_of command) up.board.slots) NoSuchEnvironment
  version ← ok_or (snapshot_in (environment_of command) up.board.slots) NoSuchEnvironment
  event ← event_of command version
  Ok (record { slot = slot; number = number_of event; snapshot = version_after version event; from = up.board.slots })

-- publishes the new version in its slot; the rest of the upstream is unchanged
abbrev pub committed : Prepared → UpstreamState → UpstreamState
committed ready up = record up { board = with_snapshot ready.slot ready.snapshot up.board }

-- the upstream after a command, and the new version number of the command's environment
pub record AppliedCommand : Type 0 where
  pub up : UpstreamState
  pub number : ℕ

-- the effect of a command: the first refusal that applies, or else the upstream with the new version published
unfoldable pub apply_command : Command → UpstreamState → CommandResult AppliedCommand
apply_command command up = do
  ready ← prepared command up
  Ok (record { up = committed ready up; number = ready.number })

-- Converts a refusal to the error type of `keep`, which stores a command with a keeper before the command is applied.
abbrev pub refused_as : CommandRefusal → KeepCommandRefusal
refused_as NoSuchEnvironment = keep.NoSuchEnvironment
refused_as NoSuchFeature = keep.NoSuchFeature
refused_as NoSuchSegment = keep.NoSuchSegment
refused_as (TooMany n) = keep.TooMany n
refused_as Memory = keep.Memory
