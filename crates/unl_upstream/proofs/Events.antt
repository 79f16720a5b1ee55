-- The events of commands, and the histories that consist of these events.
use Rattle.std.proofs.Common.{◌≡◌, ℕ, ◌<◌, ◌≤◌, ◌+◌, List, [], ◌∷◌, ◌++◌, length, Bool, true, false, cond, Option, Some, None, Ok, Err, ap, refl, sym, subst, ◌∙◌, arith, length-append, inl}
use Rattle.std.specs.Prelude.{◌==◌, ◌||◌, filter, nat_lt, ok_or}
use Rattle.std.specs.List.{AllByRecursion as Every}
use Rattle.unl_delta.specs.declared.event.Event.{Event}
use Rattle.unl_delta.specs.declared.event.Event.TheVariants.{Hydration, FeatureUpdated, FeatureRemoved, SegmentUpdated, SegmentRemoved}
use Rattle.unl_delta.specs.declared.version.EnvVersion.{EnvVersion}
use Rattle.unl_delta.specs.Batch.{empty_at, go_on}
use Rattle.unl_delta.specs.History.{IsHistory, FitsState, Represents, everything, revision}
use Rattle.unl_delta.specs.State.{empty_state, fold_events, is_change, later, number_of, project_of, step, up_to}
use Rattle.unl_delta.specs.Valid.{NeverFall}
use Rattle.unl_delta.proofs.Every.{every_weaker}
use Rattle.unl_delta.proofs.Growth.{represents_after_one}
use Rattle.unl_delta.proofs.Numbers.{never_fall_lower, up_to_all}
use Rattle.unl_documents.specs.declared.feature.Feature.{Feature}
use Rattle.unl_documents.specs.declared.segment.Segment.{Segment}
use Rattle.unl_documents.specs.declared.state.State.{State}
use Rattle.unl_documents.specs.Results.{◌>>=◌}
use Rattle.unl_upstream.specs.declared.command.Command.{Command}
use Rattle.unl_upstream.specs.declared.command.Command.TheVariants.{PutFeature, RemoveFeature, PutSegment, RemoveSegment}
use Rattle.unl_upstream.specs.declared.refusal.CommandRefusal.{CommandRefusal}
use Rattle.unl_upstream.specs.declared.refusal.CommandRefusal.TheVariants.{NoSuchFeature, NoSuchSegment, TooMany}
use Rattle.unl_upstream.specs.Upstream.{CommandResult, event_of, feature_put, feature_removed, has_feature, has_segment, last_number, most_features, most_segments, number_after, segment_put, segment_removed, version_after}
use Rattle.unl_upstream.specs.History.{IsHistoryOf, event_at, events_from, history_of}
use Rattle.unl_upstream.proofs.Constructors.{err_is_no_ok, ok_same}

-- ---- one event

-- the event of an accepted command at a version
pub record IsEventOf (v : EnvVersion) (command : Command) (event : Event) : Type 0 where
  pub is : event ≡ event_at (v.number + 1) v.state command
  pub change : is_change event ≡ true
  pub number : number_of event ≡ v.number + 1
  pub is_true : FitsState v.state event

-- the event has the next number
numbered : (n : ℕ) (event : ℕ → Event) (e : Event) → (number_after n >>= λ m. Ok (event m)) ≡ Ok e → e ≡ event (n + 1)
numbered n event e is = decided (n == last_number) is
  where
    decided : (t : Bool) → ((cond t (Err (TooMany n)) (Ok (n + 1))) >>= λ (m : ℕ). Ok (event m)) ≡ Ok e → e ≡ event (n + 1)
    decided true refused = err_is_no_ok (TooMany n) e refused
    decided false is_event = sym (ok_same (event (n + 1)) e is_event)

-- if a result that depends on a test is a success, it is the result of the rest after the test
after_test : (t : Bool) (refusal : CommandRefusal) (rest : CommandResult Event) (e : Event) → (cond t (Ok tt) (Err refusal) >>= λ (u : Unit {0}). rest) ≡ Ok e → rest ≡ Ok e
after_test true refusal rest e is = is
after_test false refusal rest e is = err_is_no_ok refusal e is

put_feature_event : (environment : List ℕ) (feature : Feature) (v : EnvVersion) (e : Event) → feature_put feature v ≡ Ok e → IsEventOf v (PutFeature environment feature) e
unfolding feature_put
put_feature_event environment feature v e is =
    let is_event : e ≡ FeatureUpdated (v.number + 1) feature =
    numbered v.number (λ n. FeatureUpdated n feature) e (after_test (has_feature feature.name v.state.features || nat_lt (length v.state.features) most_features) (TooMany (length v.state.features)) _ e is) in
    subst (IsEventOf v (PutFeature environment feature)) (sym is_event) (record { is = refl; change = refl; number = refl; is_true = tt })

put_segment_event : (environment : List ℕ) (segment : Segment) (v : EnvVersion) (e : Event) → segment_put segment v ≡ Ok e → IsEventOf v (PutSegment environment segment) e
unfolding segment_put
put_segment_event environment segment v e is =
    let is_event : e ≡ SegmentUpdated (v.number + 1) segment =
    numbered v.number (λ n. SegmentUpdated n segment) e (after_test (has_segment segment.id v.state.segments || nat_lt (length v.state.segments) most_segments) (TooMany (length v.state.segments)) _ e is) in
    subst (IsEventOf v (PutSegment environment segment)) (sym is_event) (record { is = refl; change = refl; number = refl; is_true = tt })

remove_segment_event : (environment : List ℕ) (id : ℕ) (v : EnvVersion) (e : Event) → segment_removed id v ≡ Ok e → IsEventOf v (RemoveSegment environment id) e
unfolding segment_removed
remove_segment_event environment id v e is =
    let is_event : e ≡ SegmentRemoved (v.number + 1) id =
    numbered v.number (λ n. SegmentRemoved n id) e (after_test (has_segment id v.state.segments) NoSuchSegment _ e is) in
    subst (IsEventOf v (RemoveSegment environment id)) (sym is_event) (record { is = refl; change = refl; number = refl; is_true = tt })

remove_feature_event : (environment name : List ℕ) (v : EnvVersion) (e : Event) → feature_removed name v ≡ Ok e → IsEventOf v (RemoveFeature environment name) e
unfolding feature_removed
remove_feature_event environment name v e is = decided (project_of name v.state.features) refl is
  where
    decided : (o : Option (List ℕ)) → project_of name v.state.features ≡ o
        → (ok_or o NoSuchFeature >>= λ (project : List ℕ). number_after v.number >>= λ (n : ℕ). Ok (FeatureRemoved n name project)) ≡ Ok e
        → IsEventOf v (RemoveFeature environment name) e
    decided None none refused = err_is_no_ok NoSuchFeature e refused
    decided (Some project) is_there more =
        let is_event : e ≡ FeatureRemoved (v.number + 1) name project = numbered v.number (λ n. FeatureRemoved n name project) e more in
        subst (IsEventOf v (RemoveFeature environment name)) (sym is_event) (record { is = rw is_there refl; change = refl; number = refl; is_true = is_there })

pub event_is_of : (command : Command) (v : EnvVersion) (e : Event) → event_of command v ≡ Ok e → IsEventOf v command e
event_is_of (PutFeature environment feature) v e is = put_feature_event environment feature v e is
event_is_of (RemoveFeature environment name) v e is = remove_feature_event environment name v e is
event_is_of (PutSegment environment segment) v e is = put_segment_event environment segment v e is
event_is_of (RemoveSegment environment id) v e is = remove_segment_event environment id v e is

-- ---- histories

event_changes : (n : ℕ) (s : State) (command : Command) → is_change (event_at n s command) ≡ true
event_changes n s (PutFeature environment feature) = refl
event_changes n s (RemoveFeature environment name) = refl
event_changes n s (PutSegment environment segment) = refl
event_changes n s (RemoveSegment environment id) = refl

event_number : (n : ℕ) (s : State) (command : Command) → number_of (event_at n s command) ≡ n
event_number n s (PutFeature environment feature) = refl
event_number n s (RemoveFeature environment name) = refl
event_number n s (PutSegment environment segment) = refl
event_number n s (RemoveSegment environment id) = refl

all_changes : (n : ℕ) (s : State) (commands : List Command) → Every (λ e. is_change e ≡ true) (events_from n s commands)
all_changes n s [] = tt
all_changes n s (c ∷ cs) = (event_changes (n + 1) s c, all_changes (n + 1) (step (event_at (n + 1) s c) s) cs)

numbers_rise : (n : ℕ) (s : State) (commands : List Command) → NeverFall number_of (n + 1) (events_from n s commands)
numbers_rise n s [] = tt
numbers_rise n s (c ∷ cs) =
    let e : Event = event_at (n + 1) s c in
    let number : number_of e ≡ n + 1 = event_number (n + 1) s c in
    (omega (arith, number), never_fall_lower number_of (n + 1 + 1) (number_of e) (events_from (n + 1) (step e s) cs) (omega (arith, number)) (numbers_rise (n + 1) (step e s) cs))

pub is_history : (commands : List Command) → IsHistory (history_of commands)
is_history commands = record { changes = all_changes 0 empty_state commands; numbers = numbers_rise 0 empty_state commands }

numbers_within : (n : ℕ) (s : State) (commands : List Command) → Every (λ e. number_of e ≤ n + length commands) (events_from n s commands)
numbers_within n s [] = tt
numbers_within n s (c ∷ cs) =
    let e : Event = event_at (n + 1) s c in
    let number : number_of e ≡ n + 1 = event_number (n + 1) s c in (
      omega (arith, number),
      every_weaker (λ (x : Event). number_of x ≤ n + 1 + length cs) (λ (x : Event). number_of x ≤ n + length (c ∷ cs)) (events_from (n + 1) (step e s) cs) (λ x le. omega arith) (numbers_within (n + 1) (step e s) cs),
    )

-- the history with one more command
one_more : (n : ℕ) (s : State) (commands : List Command) (c : Command)
    → events_from n s (commands ++ c ∷ []) ≡ events_from n s commands ++ event_at (n + length commands + 1) (fold_events (events_from n s commands) s) c ∷ []
one_more n s [] c = ap (λ (m : ℕ). event_at (m + 1) s c ∷ []) (omega arith)
one_more n s (d ∷ ds) c =
    let e : Event = event_at (n + 1) s d in
    ap (λ (es : List Event). e ∷ es) (one_more (n + 1) (step e s) ds c
    ∙ ap (λ (m : ℕ). events_from (n + 1) (step e s) ds ++ event_at m (fold_events (events_from (n + 1) (step e s) ds) (step e s)) c ∷ []) (omega arith))

-- ---- a version that represents the history of accepted commands

pub empty_is_history : (epoch : ℕ) → IsHistoryOf epoch [] (empty_at epoch)
unfolding later up_to
empty_is_history epoch = record { era = refl; represents = record { moment = inl refl; state = refl; base = omega arith; entries = refl }; number = refl }

-- no event of the version's history has a higher number than the version
none_later : (epoch : ℕ) (commands : List Command) (v : EnvVersion) → IsHistoryOf epoch commands v → Every (λ x. number_of x ≤ v.number) (history_of commands)
none_later epoch commands v is =
    subst (λ (n : ℕ). Every (λ (x : Event). number_of x ≤ n) (history_of commands)) (omega (arith, is.number)) (numbers_within 0 empty_state commands)

all_seen : (features : List Feature) → filter (λ feature. everything feature.project) features ≡ features
all_seen [] = refl
all_seen (feature ∷ features) = ap (λ (fs : List Feature). feature ∷ fs) (all_seen features)

-- the version's state is the state after all events of its history
state_is : (epoch : ℕ) (commands : List Command) (v : EnvVersion) → IsHistoryOf epoch commands v → v.state ≡ fold_events (history_of commands) empty_state
state_is epoch commands v is =
    let whole : State = revision (history_of commands) v.number in
    is.represents.state
    ∙ ap (λ (fs : List Feature). record { features = fs; segments = whole.segments }) (all_seen whole.features)
    ∙ ap (λ (es : List Event). fold_events es empty_state) (up_to_all number_of v.number (history_of commands) (none_later epoch commands v is))

version_after_change : (v : EnvVersion) (e : Event) → is_change e ≡ true → version_after v e ≡ go_on v (e ∷ [])
version_after_change v (Hydration n state) change = absurd cc
version_after_change v (FeatureUpdated n feature) change = refl
version_after_change v (FeatureRemoved n name project) change = refl
version_after_change v (SegmentUpdated n segment) change = refl
version_after_change v (SegmentRemoved n id) change = refl

pub one_more_is_history : (epoch : ℕ) (commands : List Command) (c : Command) (v : EnvVersion) (e : Event) → IsHistoryOf epoch commands v → event_of c v ≡ Ok e
    → IsHistoryOf epoch (commands ++ c ∷ []) (version_after v e)
one_more_is_history epoch commands c v e is is_event =
    let comes : IsEventOf v c e = event_is_of c v e is_event in
    let count : v.number ≡ length commands = is.number in
    let grown : history_of (commands ++ c ∷ []) ≡ history_of commands ++ e ∷ [] =
    one_more 0 empty_state commands c ∙ ap (λ (x : Event). history_of commands ++ x ∷ []) (
    ap (λ (n : ℕ). event_at n (fold_events (history_of commands) empty_state) c) (omega arith)
    ∙ ap (λ (s : State). event_at (v.number + 1) s c) (sym (state_is epoch commands v is)) ∙ sym comes.is) in
    let news : v.number < number_of e = omega (arith, comes.number) in
    let whole : IsHistory (history_of commands ++ e ∷ []) = subst IsHistory grown (is_history (commands ++ c ∷ [])) in
    let represents : Represents (history_of commands ++ e ∷ []) everything (go_on v (e ∷ [])) =
    represents_after_one (history_of commands) v e whole is.represents (none_later epoch commands v is) news comes.is_true in
    subst (IsHistoryOf epoch (commands ++ c ∷ [])) (sym (version_after_change v e comes.change)) (record {
      era = is.era;
      represents = subst (λ (h : List Event). Represents h everything (go_on v (e ∷ []))) (sym grown) represents;
      number = comes.number ∙ omega (arith, length-append commands (c ∷ []));
    })
