-- The entries of a history (its events, each with the project that its feature had before), and the visible history: the events that a
-- requester gets for these entries.
use Rattle.std.proofs.Common.{◌≡◌, ℕ, ◌<◌, ◌≤◌, Bool, true, false, cond, List, [], ◌∷◌, ◌++◌, Option, Some, None, refl, sym, ap, subst, ◌∙◌, inl, inr}
use Rattle.std.specs.Prelude.{option_map, ◌⊎◌}
use Rattle.std.specs.List.{AllByRecursion as Every}
use Rattle.std.proofs.lemmas.Bool.{cases_lt, le-leb}
use Rattle.std.proofs.lemmas.List.{append_cancel_left}
use Rattle.unl_documents.specs.declared.state.State.{State}
use Rattle.unl_delta.specs.declared.event.Event.{Event}
use Rattle.unl_delta.specs.declared.event.Event.TheVariants.{Hydration, FeatureUpdated, FeatureRemoved, SegmentUpdated, SegmentRemoved}
use Rattle.unl_delta.specs.declared.event.Entry.{Entry}
use Rattle.unl_delta.specs.State.{number_of, entry_number, is_change, empty_state, step, fold_events, was_in, entries_on, up_to, between}
use Rattle.unl_delta.specs.View.{Sees, view_of, if_seen, removed, shown, visible_events, visible_entry, visible_entries}
use Rattle.unl_delta.specs.Valid.{NeverFall}
use Rattle.unl_delta.specs.History.{IsHistory, revision, entries_of, IsNumberOf}
use Rattle.unl_delta.proofs.Every.{every_weaker}
use Rattle.unl_delta.proofs.Numbers.{split, above_from, up_to_none, each_up_to, mapped_up_to, mapped_between, mapped_never_fall, mapped_each}
use Rattle.unl_delta.proofs.Steps.{empty_in_order, shown_folds, shown_entries}

-- ---- entries

pub fold_append : (xs ys : List Event) (s : State) → fold_events (xs ++ ys) s ≡ fold_events ys (fold_events xs s)
fold_append [] ys s = refl
fold_append (e ∷ xs) ys s = fold_append xs ys (step e s)

pub entries_append : (xs ys : List Event) (s : State) → entries_on s (xs ++ ys) ≡ entries_on s xs ++ entries_on (fold_events xs s) ys
entries_append [] ys s = refl
entries_append (e ∷ xs) ys s = ap (λ (rest : List Entry). record { event = e; was = was_in s e } ∷ rest) (entries_append xs ys (step e s))

pub each_entry : (P : Event → Type 0) (es : List Event) (s : State) → Every P es → Every (λ (entry : Entry). P entry.event) (entries_on s es)
each_entry P [] s h = tt
each_entry P (e ∷ es) s h = (h.0, each_entry P es (step e s) h.1)

pub entries_never_fall : (low : ℕ) (es : List Event) (s : State) → NeverFall number_of low es → NeverFall entry_number low (entries_on s es)
entries_never_fall low [] s h = tt
entries_never_fall low (e ∷ es) s h = (h.0, entries_never_fall (number_of e) es (step e s) h.1)

entries_up_to : (low n : ℕ) (es : List Event) (s : State) → NeverFall number_of low es → up_to entry_number n (entries_on s es) ≡ entries_on s (up_to number_of n es)
unfolding up_to
entries_up_to low n [] s h = refl
entries_up_to low n (e ∷ es) s h = decided (cases_lt n (number_of e)) (entries_up_to (number_of e) n es (step e s) h.1)
  where
    decided : (n < number_of e) ⊎ (number_of e ≤ n) → up_to entry_number n (entries_on (step e s) es) ≡ entries_on (step e s) (up_to number_of n es)
        → up_to entry_number n (entries_on s (e ∷ es)) ≡ entries_on s (up_to number_of n (e ∷ es))
    decided (inl lt) more =
        let all : Every (λ (x : Event). n < number_of x) (e ∷ es) = above_from number_of n e es lt h.1 in
        up_to_none entry_number n (entries_on s (e ∷ es)) (each_entry (λ (x : Event). n < number_of x) (e ∷ es) s all) ∙ sym (ap (entries_on s) (up_to_none number_of n (e ∷ es) all))
    decided (inr ge) more = simp (le-leb (number_of e) n ge) (ap (λ (rest : List Entry). record { event = e; was = was_in s e } ∷ rest) more)

-- the entries with numbers between a and m are those of the events between a and m, applied to the state at a
pub entries_between : (low a m : ℕ) (es : List Event) (s : State) → a ≤ m → NeverFall number_of low es → between entry_number a m (entries_on s es) ≡ entries_on (fold_events (up_to number_of a es) s) (between number_of a m es)
entries_between low a m es s le h =
    append_cancel_left (entries_on s (up_to number_of a es)) _ _ (
    ap (λ (prefix : List Entry). prefix ++ between entry_number a m (entries_on s es)) (sym (entries_up_to low a es s h)) ∙ sym (split entry_number low a m (entries_on s es) le (entries_never_fall low es s h)) ∙ entries_up_to low m es s h
    ∙ ap (entries_on s) (split number_of low a m es le h) ∙ entries_append (up_to number_of a es) (between number_of a m es) s
    )

pub revision_goes_on : (low a m : ℕ) (es : List Event) (s : State) → a ≤ m → NeverFall number_of low es → fold_events (up_to number_of m es) s ≡ fold_events (between number_of a m es) (fold_events (up_to number_of a es) s)
revision_goes_on low a m es s le h = ap (λ (xs : List Event). fold_events xs s) (split number_of low a m es le h) ∙ fold_append (up_to number_of a es) (between number_of a m es) s

-- ---- a visible event keeps its number

removed_kind : (sees : Sees) (n : ℕ) (name : List ℕ) (was : Option (List ℕ)) (x : Event) → removed sees n name was ≡ Some x → (number_of x ≡ n) × (is_change x ≡ true)
removed_kind sees n name was x is = decided (if_seen sees was) is
  where
    decided : (o : Option (List ℕ)) → option_map (λ project. FeatureRemoved n name project) o ≡ Some x → (number_of x ≡ n) × (is_change x ≡ true)
    decided None here = absurd cc
    decided (Some project) here = let same : FeatureRemoved n name project ≡ x = cc in subst (λ (y : Event). (number_of y ≡ n) × (is_change y ≡ true)) same (refl, refl)

pub shown_kind : (sees : Sees) (e : Event) (was : Option (List ℕ)) (x : Event) → shown sees e was ≡ Some x → (number_of x ≡ number_of e) × (is_change x ≡ is_change e)
shown_kind sees (Hydration n state) was x is = let same : Hydration n (view_of sees state) ≡ x = cc in subst (λ (y : Event). (number_of y ≡ n) × (is_change y ≡ false)) same (refl, refl)
shown_kind sees (FeatureRemoved n name project) was x is = removed_kind sees n name was x is
shown_kind sees (SegmentUpdated n segment) was x is = let same : SegmentUpdated n segment ≡ x = cc in subst (λ (y : Event). (number_of y ≡ n) × (is_change y ≡ true)) same (refl, refl)
shown_kind sees (SegmentRemoved n id) was x is = let same : SegmentRemoved n id ≡ x = cc in subst (λ (y : Event). (number_of y ≡ n) × (is_change y ≡ true)) same (refl, refl)
shown_kind sees (FeatureUpdated n feature) was x is = decided (sees feature.project) is
  where
    decided : (t : Bool) → cond t (Some (FeatureUpdated n feature)) (removed sees n feature.name was) ≡ Some x → (number_of x ≡ n) × (is_change x ≡ true)
    decided true here = let same : FeatureUpdated n feature ≡ x = cc in subst (λ (y : Event). (number_of y ≡ n) × (is_change y ≡ true)) same (refl, refl)
    decided false here = removed_kind sees n feature.name was x here

abbrev pub show : Sees → Entry → Option Event
show sees entry = shown sees entry.event entry.was

pub show_number : (sees : Sees) (entry : Entry) (x : Event) → show sees entry ≡ Some x → number_of x ≡ entry_number entry
show_number sees entry x is = (shown_kind sees entry.event entry.was x is).0

pub seen_number : (sees : Sees) (entry x : Entry) → visible_entry sees entry ≡ Some x → entry_number x ≡ entry_number entry
seen_number sees entry x is = decided (show sees entry) refl is
  where
    decided : (o : Option Event) → show sees entry ≡ o → option_map (λ event. record { event = event; was = if_seen sees entry.was }) o ≡ Some x → entry_number x ≡ entry_number entry
    decided None here same = absurd cc
    decided (Some event) here same =
        let e : record { event = event; was = if_seen sees entry.was } ≡ x = cc in
        ap entry_number (sym e) ∙ show_number sees entry event here

-- ---- the visible history

abbrev pub kept : Sees → List Event → List Event
kept sees history = visible_events sees (entries_of history)

pub kept_is_history : (sees : Sees) (history : List Event) → IsHistory history → IsHistory (kept sees history)
kept_is_history sees history h = record {
  changes = mapped_each (show sees) (λ (entry : Entry). is_change entry.event ≡ true) (λ (x : Event). is_change x ≡ true) (entries_of history) (λ entry x change is. (shown_kind sees entry.event entry.was x is).1 ∙ change) (each_entry (λ (e : Event). is_change e ≡ true) history empty_state h.changes);
  numbers = mapped_never_fall (show sees) entry_number number_of 1 (entries_of history) (show_number sees) (entries_never_fall 1 history empty_state h.numbers);
}

pub kept_revision : (sees : Sees) (history : List Event) (n : ℕ) → IsHistory history → revision (kept sees history) n ≡ view_of sees (revision history n)
kept_revision sees history n h =
    let cut : up_to number_of n (kept sees history) ≡ visible_events sees (entries_on empty_state (up_to number_of n history)) =
    sym (mapped_up_to (show sees) entry_number number_of n (entries_of history) (show_number sees)) ∙ ap (visible_events sees) (entries_up_to 1 n history empty_state h.numbers) in
    ap (λ (es : List Event). fold_events es empty_state) cut ∙ shown_folds sees (up_to number_of n history) empty_state empty_in_order (each_up_to number_of (λ (e : Event). is_change e ≡ true) n history h.changes)

pub kept_entries : (sees : Sees) (history : List Event) → IsHistory history → entries_of (kept sees history) ≡ visible_entries sees (entries_of history)
kept_entries sees history h = shown_entries sees history empty_state empty_in_order h.changes

pub kept_between : (sees : Sees) (history : List Event) (a m : ℕ) → visible_events sees (between entry_number a m (entries_of history)) ≡ between number_of a m (kept sees history)
kept_between sees history a m = mapped_between (show sees) entry_number number_of a m (entries_of history) (show_number sees)

pub seen_between : (sees : Sees) (history : List Event) (a m : ℕ) → IsHistory history → visible_entries sees (between entry_number a m (entries_of history)) ≡ between entry_number a m (entries_of (kept sees history))
seen_between sees history a m h =
    mapped_between (visible_entry sees) entry_number entry_number a m (entries_of history) (seen_number sees) ∙ ap (between entry_number a m) (sym (kept_entries sees history h))

-- applying the visible events between a and m to the view of the revision at a gives the view of the revision at m
pub kept_goes_on : (sees : Sees) (history : List Event) (a m : ℕ) → IsHistory history → a ≤ m → fold_events (visible_events sees (between entry_number a m (entries_of history))) (view_of sees (revision history a)) ≡ view_of sees (revision history m)
kept_goes_on sees history a m h le =
    ap (λ (s : State). fold_events (visible_events sees (between entry_number a m (entries_of history))) s) (sym (kept_revision sees history a h)) ∙ ap (λ (es : List Event). fold_events es (revision (kept sees history) a)) (kept_between sees history a m)
    ∙ sym (revision_goes_on 1 a m (kept sees history) empty_state le (kept_is_history sees history h).numbers) ∙ kept_revision sees history m h

-- ---- the numbers of a history

numbers_of : (es : List Event) → Every (λ (e : Event). IsNumberOf (number_of e) es) es
numbers_of [] = tt
numbers_of (e ∷ es) = (inl refl, every_weaker (λ (x : Event). IsNumberOf (number_of x) es) (λ (x : Event). IsNumberOf (number_of x) (e ∷ es)) es (λ x is. inr is) (numbers_of es))

pub kept_numbers : (sees : Sees) (history : List Event) → Every (λ (x : Event). IsNumberOf (number_of x) history) (kept sees history)
kept_numbers sees history =
    mapped_each (show sees) (λ (entry : Entry). IsNumberOf (number_of entry.event) history) (λ (x : Event). IsNumberOf (number_of x) history) (entries_of history) (
    λ entry x known is. subst (λ (n : ℕ). IsNumberOf n history) (sym (show_number sees entry x is)) known
    ) (each_entry (λ (e : Event). IsNumberOf (number_of e) history) history empty_state (numbers_of history))
