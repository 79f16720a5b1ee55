-- The project index after a feature is added, removed or moved to another project.
use Rattle.std.proofs.Common.{◌≡◌, ℕ, zero, suc, ◌+◌, ◌<◌, ◌≤◌, Bool, true, false, List, [], ◌∷◌, ◌++◌, length, map, take, drop, get_or, Option, Some, None, inl, inr, refl, sym, ap, subst, ◌∙◌, arith}
use Rattle.std.specs.Prelude.{nat_lt, option_and_then, option_map, slice_get, slice_set}
use Rattle.std.specs.List.{prefix_len}
use Rattle.std.specs.Option.{option_map_or}
use Rattle.std.specs.Str.{bytes_eq}
use Rattle.std.proofs.lemmas.Bool.{cases_Bool, le-ltb, lt-ltb, ltb-true}
use Rattle.std.proofs.lemmas.List.{append-nil, take_more}
use Rattle.std.proofs.lemmas.List.Folds.{length-prefix_len}
use Rattle.std.proofs.lemmas.Slice.Eq.{bytes_eq-Decides}
use Rattle.std.proofs.Math.Seq.{drop-append_seam, take-append_seam}
use Rattle.unl_compiled.specs.Moving.{AllMoved, Change, IsMoved, IsParted, count_if, count_of, count_below, is_of, moved, place_if, shifted, unlisted}
use Rattle.unl_compiled.specs.Next.{state_after}
use Rattle.unl_compiled.specs.Places.{IsIndex, listed, places_from, places_of}
use Rattle.unl_compiled.specs.declared.index.ProjectPlaces.{ProjectPlaces}
use Rattle.unl_compiled.proofs.Alike.{none_named}
use Rattle.unl_compiled.proofs.InChunks.{places_join}
use Rattle.unl_compiled.proofs.Projects.{differs}
use Rattle.unl_constraints.proofs.Searching.{if_key, decided_by_search}
use Rattle.unl_delta.specs.Keyed.{above, below, is_before, put, without}
use Rattle.unl_delta.specs.State.{fold_events, later, number_of, project_of}
use Rattle.unl_delta.specs.declared.event.Event.{Event}
use Rattle.unl_delta.specs.declared.event.Event.TheVariants.{FeatureRemoved, FeatureUpdated}
use Rattle.unl_delta.proofs.Every.{filter_in}
use Rattle.unl_delta.proofs.InPlace.{Parts, parts_at, represents}
use Rattle.unl_delta.proofs.Order.{less_apart, less_from_test, rises_from_rising, without_none}
use Rattle.unl_delta.proofs.Steps.{project_found}
use Rattle.unl_documents.specs.declared.feature.Feature.{Feature}
use Rattle.unl_documents.specs.declared.state.State.{State}
use Rattle.unl_documents.specs.Parameters.{AreRising}
use Rattle.unl_documents.specs.States.{name_key}

-- ---- the listed positions

none_left : (so : Bool) (f : ℕ → ℕ) → map f (drop (count_if so) []) ≡ []
none_left true f = refl
none_left false f = refl

unlisted_is : (inserted : Option (List ℕ)) (place : ℕ) (p : List ℕ) (index : List ProjectPlaces) → length index ≡ prefix_len (differs p) index → listed p (unlisted inserted place index) ≡ place_if (is_of p inserted) place
unlisted_is None place p index none = refl
unlisted_is (Some project) place p index none =
    elim (cases_Bool (bytes_eq project p)) [
      | inl same ↦
          let is : project ≡ p = (bytes_eq-Decides project p).0 same in
          let all : prefix_len (differs project) index ≡ length index = ap (λ (q : List ℕ). prefix_len (differs q) index) is ∙ sym none in
          let test : nat_lt (prefix_len (differs project) index) (length index) ≡ false = le-ltb _ _ (omega (arith, all)) in
          rw (test, same) refl
      | inr apart ↦
          elim (cases_Bool (nat_lt (prefix_len (differs project) index) (length index))) [
            | inl within ↦ rw (within, apart) refl
            | inr missing ↦ rw (missing, apart) refl
          ]
    ]

moved_behind : (c : Change) (p : List ℕ) (es news tail : List ProjectPlaces) → AllMoved c es news → IsParted c.place (listed p es) → (length es ≡ prefix_len (differs p) es → listed p tail ≡ moved c p [])
    → listed p (news ++ tail) ≡ moved c p (listed p es)
moved_behind c p [] [] tail all parted h = h refl
moved_behind c p [] (new ∷ news) tail all parted h = absurd all
moved_behind c p (e ∷ es) [] tail all parted h = absurd all
moved_behind c p (e ∷ es) (new ∷ news) tail all parted h =
    let project : new.project ≡ e.project = all.0.project in
    elim (cases_Bool (bytes_eq e.project p)) [
      | inl same ↦
          let there : bytes_eq new.project p ≡ true = ap (λ (q : List ℕ). bytes_eq q p) project ∙ same in
          rw (there, same) (all.0.places (rw same at parted) ∙ ap (λ (q : List ℕ). moved c q e.places) ((bytes_eq-Decides e.project p).0 same))
      | inr apart ↦
          let elsewhere : bytes_eq new.project p ≡ false = ap (λ (q : List ℕ). bytes_eq q p) project ∙ apart in
          let count : prefix_len (differs p) (e ∷ es) ≡ 1 + prefix_len (differs p) es = rw apart refl in
          rw (elsewhere, apart) (moved_behind c p es news tail all.1 (rw apart at parted) (λ every. h (omega (arith, every, count))))
    ]

-- The new entries list each project's positions after the change.
pub moved_listed : (c : Change) (index news : List ProjectPlaces) (p : List ℕ) → AllMoved c index news → IsParted c.place (listed p index) → listed p (news ++ unlisted c.inserted c.place index) ≡ moved c p (listed p index)
moved_listed c index news p all parted =
    moved_behind c p index news (unlisted c.inserted c.place index) all parted (λ none.
    unlisted_is c.inserted c.place p index none
    ∙ sym (ap (λ (ns : List ℕ). place_if (is_of p c.inserted) c.place ++ ns) (none_left (is_of p c.removed) (shifted (count_of c.removed) (count_of c.inserted))) ∙ append-nil (place_if (is_of p c.inserted) c.place)))

moved_and : (c : Change) (es news : List ProjectPlaces) (e new : ProjectPlaces) → AllMoved c es news → IsMoved c e new → AllMoved c (es ++ e ∷ []) (news ++ new ∷ [])
moved_and c [] [] e new all is = (is, tt)
moved_and c [] (first ∷ news) e new all is = absurd all
moved_and c (first ∷ es) [] e new all is = absurd all
moved_and c (first ∷ es) (second ∷ news) e new all is = (all.0, moved_and c es news e new all.1 is)

-- If the first `i` entries of an index are moved, and the next entry is too, then the first `i + 1` entries are moved.
pub moved_more : (c : Change) (index news : List ProjectPlaces) (i : ℕ) (e new : ProjectPlaces) → i < length index → e ≡ get_or index i e → AllMoved c (take i index) news → IsMoved c e new → AllMoved c (take (i + 1) index) (news ++ new ∷ [])
moved_more c index news i e new lt at all is =
    let taken : take (i + 1) index ≡ take i index ++ e ∷ [] = take_more index i e lt ∙ ap (λ (other : ProjectPlaces). take i index ++ other ∷ []) (sym at) in
    subst (λ (es : List ProjectPlaces). AllMoved c es (news ++ new ∷ [])) (sym taken) (moved_and c (take i index) news e new all is)

-- ---- the positions ascend

least_and : (n : ℕ) (ns : List ℕ) → ((j d : ℕ) → j < length ns → n + 1 ≤ get_or ns j d) → (j d : ℕ) → j < length (n ∷ ns) → n ≤ get_or (n ∷ ns) j d
least_and n ns h zero d lt = omega arith
least_and n ns h (suc j) d lt = let more : n + 1 ≤ get_or ns j d = h j d (omega (arith, lt)) in omega (arith, more)

at_least : (p : List ℕ) (place : ℕ) (fs : List Feature) (j d : ℕ) → j < length (places_from place p fs) → place ≤ get_or (places_from place p fs) j d
at_least p place [] j d lt = absurd (omega (arith, lt))
at_least p place (f ∷ fs) j d lt =
    let rest = at_least p (place + 1) fs in
    elim (cases_Bool (bytes_eq f.project p)) [
      | inl is ↦ rw is (least_and place (places_from (place + 1) p fs) rest j d (rw is at lt))
      | inr other ↦ let more : place + 1 ≤ get_or (places_from (place + 1) p fs) j d = rest j d (rw other at lt) in rw other (omega (arith, more))
    ]

parted_and : (k n : ℕ) (ns : List ℕ) → ((j d : ℕ) → j < length ns → n ≤ get_or ns j d) → IsParted k ns → IsParted k (n ∷ ns)
parted_and k n ns least h zero zero d le lt below = below
parted_and k n ns least h zero (suc j) d le lt below =
    let one : get_or ns j d < k = ltb-true _ _ below in
    let other : n ≤ get_or ns j d = least j d (omega (arith, lt)) in lt-ltb _ _ (omega (arith, one, other))
parted_and k n ns least h (suc i) zero d le lt below = absurd (omega (arith, le))
parted_and k n ns least h (suc i) (suc j) d le lt below = h i j d (omega (arith, le)) (omega (arith, lt)) below

parted_places : (k : ℕ) (p : List ℕ) (place : ℕ) (fs : List Feature) → IsParted k (places_from place p fs)
parted_places k p place [] = λ i j d le lt below. absurd (omega (arith, lt))
parted_places k p place (f ∷ fs) =
    elim (cases_Bool (bytes_eq f.project p)) [
      | inl is ↦ rw is (parted_and k place (places_from (place + 1) p fs) (λ j d lt. let more : place + 1 ≤ get_or (places_from (place + 1) p fs) j d = at_least p (place + 1) fs j d lt in omega (arith, more)) (parted_places k p (place + 1) fs))
      | inr other ↦ rw other (parted_places k p (place + 1) fs)
    ]

-- ---- the positions of features in three parts

none_low : (p : List ℕ) (k place : ℕ) (fs : List Feature) → k ≤ place → count_below k (places_from place p fs) ≡ 0
none_low p k place [] le = refl
none_low p k place (f ∷ fs) le =
    elim (cases_Bool (bytes_eq f.project p)) [
      | inl is ↦ let high : nat_lt place k ≡ false = le-ltb _ _ (omega (arith, le)) in rw (is, high) refl
      | inr other ↦ rw other (none_low p k (place + 1) fs (omega (arith, le)))
    ]

cut_is : (p : List ℕ) (k place : ℕ) (prefix more : List Feature) → place + length prefix ≡ k → count_below k (places_from place p (prefix ++ more)) ≡ length (places_from place p prefix)
cut_is p k place [] more at = none_low p k place more (omega (arith, at))
cut_is p k place (f ∷ prefix) more at =
    let rest : count_below k (places_from (place + 1) p (prefix ++ more)) ≡ length (places_from (place + 1) p prefix) = cut_is p k (place + 1) prefix more (omega (arith, at)) in
    elim (cases_Bool (bytes_eq f.project p)) [
      | inl is ↦ let low : nat_lt place k ≡ true = lt-ltb _ _ (omega (arith, at)) in rw (is, low) (omega (arith, rest))
      | inr other ↦ rw other rest
    ]

shift_is : (p : List ℕ) (less more place : ℕ) (fs : List Feature) → map (shifted less more) (places_from (place + less) p fs) ≡ places_from (place + more) p fs
shift_is p less more place [] = refl
shift_is p less more place (f ∷ fs) =
    let here : shifted less more (place + less) ≡ place + more = omega arith in
    let before : place + less + 1 ≡ place + 1 + less = omega arith in
    let after : place + 1 + more ≡ place + more + 1 = omega arith in
    let rest : map (shifted less more) (places_from (place + less + 1) p fs) ≡ places_from (place + more + 1) p fs =
    ap (λ (n : ℕ). map (shifted less more) (places_from n p fs)) before ∙ shift_is p less more (place + 1) fs ∙ ap (λ (n : ℕ). places_from n p fs) after in
    elim (cases_Bool (bytes_eq f.project p)) [
      | inl is ↦ rw is (λ i. here i ∷ rest i)
      | inr other ↦ rw other rest
    ]

-- One step of the loop of `shift_all`: after it, one more position is shifted.
pub one_more : (f : ℕ → ℕ) (places : List ℕ) (i : ℕ) → i < length places → slice_set (map f (take i places) ++ drop i places) i (f (get_or (map f (take i places) ++ drop i places) i 0)) ≡ map f (take (i + 1) places) ++ drop (i + 1) places
one_more f [] i lt = absurd (omega (arith, lt))
one_more f (n ∷ ns) zero lt = refl
one_more f (n ∷ ns) (suc i) lt =
    let next : suc (i + 1) ≡ suc i + 1 = omega arith in
    ap (λ (ms : List ℕ). f n ∷ ms) (one_more f ns i (omega (arith, lt))) ∙ ap (λ (k : ℕ). map f (take k (n ∷ ns)) ++ drop k (n ∷ ns)) next

length_if : (so : Bool) (place : ℕ) → count_if so ≡ length (place_if so place)
length_if true place = refl
length_if false place = refl

-- `moved` of a list in three parts: positions before the change, the removed position if there is one, and later positions.
moved_parts : (c : Change) (p ns low high : List ℕ) → ns ≡ low ++ (place_if (is_of p c.removed) c.place ++ high) → count_below c.place ns ≡ length low
    → moved c p ns ≡ low ++ (place_if (is_of p c.inserted) c.place ++ map (shifted (count_of c.removed) (count_of c.inserted)) high)
moved_parts c p ns low high is at =
    let removed : List ℕ = place_if (is_of p c.removed) c.place in
    let prefix : take (count_below c.place ns) ns ≡ low = ap (λ (n : ℕ). take n ns) at ∙ ap (take (length low)) is ∙ take-append_seam low (removed ++ high) in
    let back : drop (count_below c.place ns) ns ≡ removed ++ high = ap (λ (n : ℕ). drop n ns) at ∙ ap (drop (length low)) is ∙ drop-append_seam low (removed ++ high) in
    let rest : drop (count_if (is_of p c.removed)) (drop (count_below c.place ns) ns) ≡ high =
    ap (drop (count_if (is_of p c.removed))) back ∙ ap (λ (n : ℕ). drop n (removed ++ high)) (length_if (is_of p c.removed) c.place) ∙ drop-append_seam removed high in
    λ i. prefix i ++ (place_if (is_of p c.inserted) c.place ++ map (shifted (count_of c.removed) (count_of c.inserted)) (rest i))

-- If there is a project, the list is one feature of that project, at position `place`; otherwise the list is empty.
pub record IsAt (place : ℕ) (project : Option (List ℕ)) (fs : List Feature) : Type 0 where
  pub count : length fs ≡ count_of project
  pub places : (p : List ℕ) → places_from place p fs ≡ place_if (is_of p project) place

nothing_there : (place : ℕ) → IsAt place None []
nothing_there place = record { count = refl; places = λ p. refl }

one_there : (place : ℕ) (f : Feature) → IsAt place (Some f.project) (f ∷ [])
one_there place f = record { count = refl; places = λ p. refl }

three_parts : (p : List ℕ) (place : ℕ) (there : Option (List ℕ)) (prefix here back : List Feature) → length prefix ≡ place → IsAt place there here
    → places_from 0 p (prefix ++ (here ++ back)) ≡ places_from 0 p prefix ++ (place_if (is_of p there) place ++ places_from (place + count_of there) p back)
three_parts p place there prefix here back at located =
    let first : 0 + length prefix ≡ place = omega (arith, at) in
    places_join p 0 prefix (here ++ back)
    ∙ ap (λ (ns : List ℕ). places_from 0 p prefix ++ ns) (
    ap (λ (n : ℕ). places_from n p (here ++ back)) first ∙ places_join p place here back
    ∙ (λ i. located.places p i ++ places_from (place + located.count i) p back)
    )

moved_places : (c : Change) (p : List ℕ) (prefix old new back : List Feature) → length prefix ≡ c.place → IsAt c.place c.removed old → IsAt c.place c.inserted new
    → moved c p (places_of p (prefix ++ (old ++ back))) ≡ places_of p (prefix ++ (new ++ back))
moved_places c p prefix old new back at removed inserted =
    let low : List ℕ = places_from 0 p prefix in
    let first : 0 + length prefix ≡ c.place = omega (arith, at) in
    moved_parts c p (places_of p (prefix ++ (old ++ back))) low (places_from (c.place + count_of c.removed) p back) (three_parts p c.place c.removed prefix old back at removed) (cut_is p c.place 0 prefix (old ++ back) first)
    ∙ ap (λ (ns : List ℕ). low ++ (place_if (is_of p c.inserted) c.place ++ ns)) (shift_is p (count_of c.removed) (count_of c.inserted) c.place back)
    ∙ sym (three_parts p c.place c.inserted prefix new back at inserted)

-- ---- the features split by a name

-- The features in three parts: those with a lesser name, the feature with the name if there is one, and the others.
record Named (name : List ℕ) (fs : List Feature) (place : ℕ) (project : Option (List ℕ)) (old : List Feature) : Type 0 where
  parts : fs ≡ below name_key name fs ++ (old ++ above name_key name fs)
  low : length (below name_key name fs) ≡ place
  located : IsAt place project old

at_place : (fs : List Feature) (place : ℕ) (g : Feature) → slice_get fs place ≡ Some g → fs ≡ take place fs ++ g ∷ drop (suc place) fs
at_place [] place g at = absurd cc
at_place (x ∷ xs) zero g at = let same : x ≡ g = cc in ap (λ (y : Feature). y ∷ xs) same
at_place (x ∷ xs) (suc place) g at = ap (λ (ys : List Feature). x ∷ ys) (at_place xs place g at)

by_name : (name : List ℕ) (fs : List Feature) (place : ℕ) → place ≡ prefix_len (λ y. is_before (name_key y) name) fs → AreRising (map name_key fs) → (old : List Feature) × Named name fs place (project_of name fs) old
by_name name fs place is rising = decided (project_of name fs) refl
  where
    parted : Parts name_key name fs place (represents name_key name fs place)
    parted = parts_at name_key name fs place (rises_from_rising name_key fs rising) is

    low : length (below name_key name fs) ≡ place
    low =
        ap (λ (ys : List Feature). length ys) (sym parted.low) ∙ ap (λ (n : ℕ). length (take n fs)) is
        ∙ length-prefix_len (λ (y : Feature). is_before (name_key y) name) fs ∙ sym is

    known : option_map (λ g. g.project) (option_and_then (if_key name_key name) (slice_get fs place)) ≡ project_of name fs
    known =
        ap (λ (n : ℕ). option_map (λ (g : Feature). g.project) (option_and_then (if_key name_key name) (slice_get fs n))) is
        ∙ ap (λ (o : Option Feature). option_map (λ (g : Feature). g.project) o) (decided_by_search name_key name fs rising).0 ∙ project_found name fs

    -- The feature at the position has the name.
    named : (g : Feature) (project : List ℕ) → slice_get fs place ≡ Some g → bytes_eq g.name name ≡ true → g.project ≡ project → Named name fs place (Some project) (g ∷ [])
    named g project at same within =
        let before : is_before name g.name ≡ false =
        elim (cases_Bool (is_before name g.name)) [
          | inl less ↦ let apart : bytes_eq g.name name ≡ false = less_apart name g.name (less_from_test _ less) in absurd cc
          | inr other ↦ other
        ] in
        let represented : represents name_key name fs place ≡ true = rw (at, before) refl in
        let whole : Parts name_key name fs place true = subst (λ (t : Bool). Parts name_key name fs place t) represented parted in
        record {
          parts = at_place fs place g at ∙ ap (λ (ys : List Feature). ys ++ g ∷ drop (suc place) fs) whole.low ∙ ap (λ (ys : List Feature). below name_key name fs ++ g ∷ ys) whole.high;
          low = low;
          located = subst (λ (q : List ℕ). IsAt place (Some q) (g ∷ [])) within (one_there place g);
        }

    found : (o : Option Feature) (project : List ℕ) → slice_get fs place ≡ o → project_of name fs ≡ Some project → (old : List Feature) × Named name fs place (Some project) old
    found None project at there = let none : None ≡ Some project = rw at at (known ∙ there) in absurd cc
    found (Some g) project at there =
        elim (cases_Bool (bytes_eq g.name name)) [
          | inl same ↦ let some : Some g.project ≡ Some project = rw (at, same) at (known ∙ there) in (g ∷ [], named g project at same cc)
          | inr other ↦ let none : None ≡ Some project = rw (at, other) at (known ∙ there) in absurd cc
        ]

    decided : (o : Option (List ℕ)) → project_of name fs ≡ o → (old : List Feature) × Named name fs place o old
    decided None there =
        let none : option_map_or (λ p. false) (project_of name fs) true ≡ true = rw there refl in (
          [],
          record {
            parts = sym (without_none name_key name fs (rises_from_rising name_key fs rising) (none_named name fs none));
            low = low;
            located = nothing_there place;
          },
        )
    decided (Some project) there = found (slice_get fs place) project refl there

-- The index after the feature with a name, if there is one, is replaced by at most one other feature.
replaced : (name : List ℕ) (fs others : List Feature) (c : Change) (index new : List ProjectPlaces) → AreRising (map name_key fs) → c.place ≡ prefix_len (λ y. is_before (name_key y) name) fs
    → c.removed ≡ project_of name fs → IsAt c.place c.inserted others → IsIndex fs index → ((p : List ℕ) → IsParted c.place (listed p index) → listed p new ≡ moved c p (listed p index))
    → IsIndex (below name_key name fs ++ (others ++ above name_key name fs)) new
replaced name fs others c index new rising at removed inserted is goes p =
    let s = by_name name fs c.place at rising in
    let located : IsAt c.place c.removed s.0 = subst (λ (o : Option (List ℕ)). IsAt c.place o s.0) (sym removed) s.1.located in
    let parted : IsParted c.place (listed p index) = subst (λ (ns : List ℕ). IsParted c.place ns) (sym (is p)) (parted_places c.place p 0 fs) in
    goes p parted ∙ ap (moved c p) (is p ∙ ap (places_of p) s.1.parts) ∙ moved_places c p (below name_key name fs) s.0 others (above name_key name fs) s.1.low located inserted

-- The index after a feature is added or replaced.
pub index_with : (f : Feature) (fs : List Feature) (c : Change) (index new : List ProjectPlaces) → AreRising (map name_key fs) → c.place ≡ prefix_len (λ y. is_before (name_key y) f.name) fs
    → c.removed ≡ project_of f.name fs → c.inserted ≡ Some f.project → IsIndex fs index → ((p : List ℕ) → IsParted c.place (listed p index) → listed p new ≡ moved c p (listed p index)) → IsIndex (put name_key f fs) new
index_with f fs c index new rising at removed inserted is goes =
    replaced f.name fs (f ∷ []) c index new rising at removed (subst (λ (o : Option (List ℕ)). IsAt c.place o (f ∷ [])) (sym inserted) (one_there c.place f)) is goes

-- The index after the feature with a name is removed.
pub index_without : (name : List ℕ) (fs : List Feature) (c : Change) (index new : List ProjectPlaces) → AreRising (map name_key fs) → c.place ≡ prefix_len (λ y. is_before (name_key y) name) fs
    → c.removed ≡ project_of name fs → c.inserted ≡ None → IsIndex fs index → ((p : List ℕ) → IsParted c.place (listed p index) → listed p new ≡ moved c p (listed p index)) → IsIndex (without name_key name fs) new
index_without name fs c index new rising at removed inserted is goes =
    replaced name fs [] c index new rising at removed (subst (λ (o : Option (List ℕ)). IsAt c.place o []) (sym inserted) (nothing_there c.place)) is goes

-- ---- one event

left_later : (number : ℕ) (e : Event) → number < number_of e → later number_of number (e ∷ []) ≡ e ∷ []
unfolding later
left_later number e above = filter_in (λ x. nat_lt number (number_of x)) e [] (lt-ltb _ _ above)

pub put_by_one : (number n : ℕ) (f : Feature) (s after : State) → number < n → after ≡ state_after number (FeatureUpdated n f ∷ []) s → after.features ≡ put name_key f s.features
put_by_one number n f s after above is =
    ap (λ (t : State). t.features) (is ∙ ap (λ (es : List Event). fold_events es s) (left_later number (FeatureUpdated n f) above))

pub removed_by_one : (number n : ℕ) (name project : List ℕ) (s after : State) → number < n → after ≡ state_after number (FeatureRemoved n name project ∷ []) s → after.features ≡ without name_key name s.features
removed_by_one number n name project s after above is =
    ap (λ (t : State). t.features) (is ∙ ap (λ (es : List Event). fold_events es s) (left_later number (FeatureRemoved n name project) above))
