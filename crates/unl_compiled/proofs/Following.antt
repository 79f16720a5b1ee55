-- Events keep the order of features and segments.
use Rattle.std.proofs.Common.{◌≡◌, ◌<◌, ◌+◌, ℕ, List, ◌∷◌, length, drop, cond, get_or, nat_lt, inl, inr, refl, sym, subst, ap, ◌∙◌}
use Rattle.std.proofs.lemmas.Bool.{cases_Bool}
use Rattle.std.proofs.lemmas.List.{drop_more}
use Rattle.std.specs.Prelude.{filter}
use Rattle.std.specs.List.{AllByRecursion as Every}
use Rattle.unl_delta.specs.declared.event.Event.{Event}
use Rattle.unl_delta.specs.declared.event.Event.TheVariants.{Hydration, FeatureUpdated, FeatureRemoved, SegmentUpdated, SegmentRemoved}
use Rattle.unl_delta.specs.State.{IsInOrder, fold_events, later, number_of, step}
use Rattle.unl_delta.specs.Valid.{IsValidEvent}
use Rattle.unl_delta.proofs.Every.{filter_in, filter_out}
use Rattle.unl_delta.proofs.InPlace.{each_at}
use Rattle.unl_delta.proofs.Order.{rising_again}
use Rattle.unl_delta.proofs.Steps.{InOrder, in_order, step_in_order}
use Rattle.unl_documents.specs.declared.state.State.{State}
use Rattle.unl_documents.specs.States.{id_key, name_key}

ordered_again : (s : State) → InOrder s → IsInOrder s
ordered_again s h = record { names = rising_again name_key s.features h.names; ids = rising_again id_key s.segments h.ids }

-- One event keeps the order.
pub step_ordered : (e : Event) (s : State) → IsValidEvent e → IsInOrder s → IsInOrder (step e s)
step_ordered (Hydration n state) s valid h = record { names = valid.names; ids = valid.ids }
step_ordered (FeatureUpdated n feature) s valid h = ordered_again _ (step_in_order (FeatureUpdated n feature) s refl (in_order s h))
step_ordered (FeatureRemoved n name project) s valid h = ordered_again _ (step_in_order (FeatureRemoved n name project) s refl (in_order s h))
step_ordered (SegmentUpdated n segment) s valid h = ordered_again _ (step_in_order (SegmentUpdated n segment) s refl (in_order s h))
step_ordered (SegmentRemoved n id) s valid h = ordered_again _ (step_in_order (SegmentRemoved n id) s refl (in_order s h))

valid_at : (events : List Event) (i : ℕ) (e : Event) → i < length events → e ≡ get_or events i e → Every IsValidEvent events → IsValidEvent e
valid_at events i e inside is h = subst IsValidEvent (sym is) (each_at IsValidEvent events i e inside h)

left_at : (events : List Event) (i : ℕ) (e : Event) → i < length events → e ≡ get_or events i e → drop i events ≡ e ∷ drop (i + 1) events
left_at events i e inside is = drop_more events i e inside ∙ ap (λ (first : Event). first ∷ drop (i + 1) events) (sym is)

-- One step of the loop of `fold_all`, which applies each event: the order is kept, and the remaining events still lead to `start`, the
-- state after all events.
pub step_more : (events : List Event) (start now after : State) (i : ℕ) (e : Event) → i < length events → e ≡ get_or events i e
    → Every IsValidEvent events → IsInOrder now → after ≡ step e now → fold_events (drop i events) now ≡ start
    → IsInOrder after × (fold_events (drop (i + 1) events) after ≡ start)
step_more events start now after i e inside is valid order goes so_far =
    let left = left_at events i e inside is in
    rw goes (step_ordered e now (valid_at events i e inside is valid) order, sym (ap (λ es. fold_events es now) left) ∙ so_far)

-- One step of the loop of `fold_later`, which applies the events with a number greater than `above`: the order is kept, and
-- the remaining ones of these events still lead to `start`, the state after all of them.
pub step_above_more : (above : ℕ) (events : List Event) (start now after : State) (i : ℕ) (e : Event) → i < length events
    → e ≡ get_or events i e → Every IsValidEvent events → IsInOrder now → after ≡ cond (nat_lt above (number_of e)) (step e now) now
    → fold_events (later number_of above (drop i events)) now ≡ start
    → IsInOrder after × (fold_events (later number_of above (drop (i + 1) events)) after ≡ start)
unfolding later
step_above_more above events start now after i e inside is valid order goes so_far =
    let left = left_at events i e inside is in
    let rest = filter (λ x. nat_lt above (number_of x)) (drop (i + 1) events) in
    let more : fold_events (filter (λ x. nat_lt above (number_of x)) (e ∷ drop (i + 1) events)) now ≡ start =
    sym (ap (λ es. fold_events (filter (λ x. nat_lt above (number_of x)) es) now) left) ∙ so_far in
    let here = step_ordered e now (valid_at events i e inside is valid) order in
    elim (cases_Bool (nat_lt above (number_of e))) [
      | inl counts ↦
          let goes_on : after ≡ step e now = goes ∙ ap (λ b. cond b (step e now) now) counts in
          let listed = filter_in (λ x. nat_lt above (number_of x)) e (drop (i + 1) events) counts in
          rw goes_on (here, sym (ap (λ es. fold_events es now) listed) ∙ more)
      | inr not ↦
          let stays : after ≡ now = goes ∙ ap (λ b. cond b (step e now) now) not in
          let listed = filter_out (λ x. nat_lt above (number_of x)) e (drop (i + 1) events) not in
          rw stays (order, sym (ap (λ es. fold_events es now) listed) ∙ more)
    ]
