-- The places of a writer (each has a slot's version, and whether the slot is held) agree with what the writer published.
use Rattle.std.proofs.Common.{◌≡◌, ℕ, ◌<◌, ◌+◌, List, [], ◌∷◌, ◌++◌, length, Bool, true, false, Some, None, Option, IfSome, Result, Ok, Err, OnOk, OnErr, is_some, refl, sym, ap, ◌∙◌, subst, length-append, get_or, map, All, unwrap_or}
use Rattle.std.proofs.Math.ListN.{set}
use Rattle.std.specs.Prelude.{option_map, slice_set}
use Rattle.std.proofs.lemmas.List.{map-append}
use Rattle.std.proofs.lemmas.Option.{slice_get-get_or}
use Rattle.unl_core.specs.declared.board.Board.{Board}
use Rattle.unl_core.specs.declared.board.Install.{Install}
use Rattle.unl_core.specs.declared.board.Install.TheVariants.{Tokens, Env}
use Rattle.unl_core.specs.Board.{AreSlots, board_after, with_tokens}
use Rattle.unl_core.specs.DeskStates.{PlacesMatch, place_at, snapshot_at}
use Rattle.unl_core.proofs.DeskStateLemmas.{places_match_begun, places_match_held, places_match_taking}
use Rattle.unl_delta.specs.declared.batch.Batch.{Batch}
use Rattle.unl_delta.specs.declared.batch.Verdict.TheVariants.{Apply}
use Rattle.unl_delta.specs.declared.version.EnvVersion.{EnvVersion}
use Rattle.unl_delta.specs.declared.version.Place.{Place}
use Rattle.unl_delta.specs.Batch.{empty_place, next_version, verdict_of}
use Rattle.unl_delta.specs.Installing.{after_install, place_of, with_book}
use Rattle.unl_delta.specs.Valid.{IsValidPlace, IsValidVersion}
use Rattle.unl_edge_state.specs.Editions.{BoardAt, board_known, no_board, opening_of}
use Rattle.unl_edge_state.specs.Orderly.{KnowsOrderly}
use Rattle.unl_edge_state.specs.Writing.{Writing, IsWriting, LeadsTo, Stays, writer_after_batch, writer_after_hold, installed_by, publication_of, with_install, with_version}
use Rattle.unl_edge_state.proofs.Boards.{known_more, knows_more}
use Rattle.unl_publication.specs.declared.knowledge.Knowledge.{Knowledge}
use Rattle.unl_publication.specs.Rule.{knows_opening, with_installs}
use Rattle.unl_tokens.specs.declared.token.Token.{Token}

places_match_tokens : (board : Board) (places : List Place) (book : List Token) → PlacesMatch board places → PlacesMatch (with_tokens book board) places
places_match_tokens board places book s = record { slots = s.slots; versions = s.versions; valid = s.valid }

-- The invariant of a writer holds of an opening board and the places of its slots.
pub writing_begun : (orderly : Bool) (board : Board) (known : Knowledge BoardAt Install) (table : ℕ) (places : List Place) → AreSlots board.slots → known ≡ knows_opening table (opening_of orderly board)
    → places ≡ map place_at board.slots → All IsValidPlace places → IsWriting known places
writing_begun orderly board known table places slots is made valid = subst (λ (k : Knowledge BoardAt Install). IsWriting k places) (sym is) (record {
  begun = refl;
  represents = places_match_begun board places slots made valid;
})

-- The invariant is kept if a token book is published.
pub writing_tokens : (known new : Knowledge BoardAt Install) (places : List Place) (book : List Token) → IsWriting known places
    → new ≡ with_installs (Tokens book ∷ []) known → IsWriting new places
writing_tokens known new places book w is = subst (λ (k : Knowledge BoardAt Install). IsWriting k places) (sym is) (record {
  begun = w.begun;
  represents = subst (λ (b : Board). PlacesMatch b places) (sym (known_more known (Tokens book) w.begun)) (places_match_tokens (board_known known) places book w.represents);
})

-- The invariant is kept if a version is published and put at its place.
pub writing_version : (known new : Knowledge BoardAt Install) (places : List Place) (slot : ℕ) (v kept : EnvVersion) (held : Bool) → IsWriting known places
    → new ≡ with_installs (Env slot v ∷ []) known → kept ≡ v → IsValidVersion v → IsWriting new (set places slot (record { version = Some kept; held = held }))
writing_version known new places slot v kept held w is kept_is valid =
    subst (λ (k : Knowledge BoardAt Install). IsWriting k (set places slot (record { version = Some kept; held = held }))) (sym is) (record {
      begun = w.begun;
      represents =
          subst (λ (b : Board). PlacesMatch b (set places slot (record { version = Some kept; held = held }))) (sym (known_more known (Env slot v) w.begun))
          (places_match_taking (board_known known) places slot v (record { version = Some kept; held = held }) w.represents (ap Some kept_is) valid);
    })

-- The invariant is kept if a place is held or released and keeps its version.
pub writing_held : (known : Knowledge BoardAt Install) (places : List Place) (slot : ℕ) (place d : Place) → IsWriting known places → slot < length places
    → place.version ≡ (get_or places slot d).version → IsWriting known (set places slot place)
writing_held known places slot place d w low same = record {
  begun = w.begun;
  represents = places_match_held (board_known known) places slot place d w.represents low same;
}

-- The place of a slot is the one at its index.
pub place_is : (known : Knowledge BoardAt Install) (places : List Place) (closed : Bool) (slot : ℕ) (p : Place) (w : Writing)
    → record { known = known; places = places; closed = closed } ≡ w → slot < length places → p ≡ get_or places slot p → place_of (installed_by w) slot ≡ p
place_is known places closed slot p w same low is =
    ap (λ (x : Writing). place_of (installed_by x) slot) (sym same) ∙ ap (λ (o : Option Place). unwrap_or o empty_place) (slice_get-get_or places slot p low) ∙ sym is

-- Setting the place of a slot to held results in `writer_after_hold`.
pub hold_is : (known : Knowledge BoardAt Install) (places : List Place) (closed : Bool) (slot : ℕ) (p : Place) (w : Writing)
    → record { known = known; places = places; closed = closed } ≡ w → slot < length places → p ≡ get_or places slot p
    → record { known = known; places = set places slot (record { version = p.version; held = true }); closed = closed } ≡ writer_after_hold slot w
hold_is known places closed slot p w same low is =
    let old : Writing = record { known = known; places = places; closed = closed } in
    let here : place_of (installed_by old) slot ≡ p = place_is known places closed slot p old refl low is in
    ap (λ (v : Option EnvVersion). writing known (set places slot (record { version = v; held = true })) closed) (ap (λ (q : Place). q.version) (sym here))
    ∙ ap (writer_after_hold slot) same
  where
    writing : Knowledge BoardAt Install → List Place → Bool → Writing
    writing k ps c = record { known = k; places = ps; closed = c }

-- Publishing the next version at a slot, which is then not held, results in `writer_after_batch`.
pub batch_is : {E : Type 0} (r : Result ℕ E) (old new w : Writing) (slot : ℕ) (batch : Batch) (p : Place) (v shown : EnvVersion) → old ≡ w
    → place_of (installed_by w) slot ≡ p → v ≡ next_version p batch → shown ≡ v → OnOk r (new ≡ record (with_version slot shown false old) { closed = new.closed })
    → OnOk r (new ≡ record (writer_after_batch slot batch w) { closed = new.closed })
batch_is (Err e) old new w slot batch p v shown same here next shown_is published = tt
batch_is (Ok front) old new w slot batch p v shown same here next shown_is published =
    let is : shown ≡ next_version (place_of (installed_by w) slot) batch = shown_is ∙ next ∙ ap (λ (q : Place). next_version q batch) (sym here) in
    published ∙ (λ i. record (with_version slot (is i) false (same i)) { closed = new.closed })

-- ---- the writer as an installer

-- If a writer published a batch, its state as an `Installer` is the one after the batch.
pub batch_installed : (w new : Writing) (slot : ℕ) (batch : Batch) → is_some w.known.opening ≡ true → new ≡ record (writer_after_batch slot batch w) { closed = new.closed }
    → installed_by new ≡ after_install slot batch (installed_by w)
batch_installed w new slot batch begun is =
    let v : EnvVersion = next_version (place_of (installed_by w) slot) batch in
    let front : length (w.known.installs ++ Env slot v ∷ []) ≡ length w.known.installs + 1 = length-append w.known.installs (Env slot v ∷ []) in
    let book : (board_known (with_installs (Env slot v ∷ []) w.known)).book ≡ (board_known w.known).book = ap (λ (b : Board). b.book) (known_more w.known (Env slot v) begun) in
    let publications = map-append publication_of w.known.installs (Env slot v ∷ []) in
    ap installed_by is
    ∙ (λ i. record {
      places = slice_set w.places slot (record { version = Some v; held = false });
      front = front i;
      book = book i;
      publications = Some (publications i);
    })

-- If a writer published a token book, its state as an `Installer` has that book and a front that is larger by 1.
pub book_installed : (w new : Writing) (tokens : List Token) → is_some w.known.opening ≡ true → new ≡ record (with_install (Tokens tokens) w) { closed = new.closed }
    → installed_by new ≡ with_book tokens (installed_by w)
book_installed w new tokens begun is =
    let front : length (w.known.installs ++ Tokens tokens ∷ []) ≡ length w.known.installs + 1 = length-append w.known.installs (Tokens tokens ∷ []) in
    let book : (board_known (with_installs (Tokens tokens ∷ []) w.known)).book ≡ tokens = ap (λ (b : Board). b.book) (known_more w.known (Tokens tokens) begun) in
    let publications = map-append publication_of w.known.installs (Tokens tokens ∷ []) in
    ap installed_by is ∙ (λ i. record { places = w.places; front = front i; book = book i; publications = Some (publications i) })

-- As `batch_installed`, for a call that may fail.
pub batch_result_installed : {E : Type 0} (r : Result ℕ E) (w new : Writing) (slot : ℕ) (batch : Batch) → is_some w.known.opening ≡ true
    → OnOk r (new ≡ record (writer_after_batch slot batch w) { closed = new.closed }) → OnOk r (installed_by new ≡ after_install slot batch (installed_by w))
batch_result_installed (Err e) w new slot batch begun published = tt
batch_result_installed (Ok front) w new slot batch begun published = batch_installed w new slot batch begun published

-- ---- orderly lists

-- The list stays orderly if a batch that applies was published, or if the call failed.
pub batch_orderly : {E : Type 0} (r : Result ℕ E) (w new : Writing) (slot : ℕ) (batch : Batch) → (place_of (installed_by w) slot).version ≡ snapshot_at (board_known w.known).slots slot
    → verdict_of (place_of (installed_by w) slot) batch ≡ Apply → OnOk r (new ≡ record (writer_after_batch slot batch w) { closed = new.closed }) → OnErr r (Stays w new)
    → KnowsOrderly w.known → KnowsOrderly new.known
batch_orderly (Ok front) w new slot batch represents applies published stays orderly =
    let v : EnvVersion = next_version (place_of (installed_by w) slot) batch in
    subst (λ (x : Writing). KnowsOrderly x.known) (sym published)
    (knows_more w.known (Env slot v) orderly (record { place = place_of (installed_by w) slot; represents = represents; batch = batch; applies = applies; next = refl }))
batch_orderly (Err e) w new slot batch represents applies published stays orderly = subst (λ (x : Writing). KnowsOrderly x.known) (sym stays) orderly

-- The list stays orderly if a token book was published.
pub book_orderly : (w new : Writing) (tokens : List Token) → new ≡ record (with_install (Tokens tokens) w) { closed = new.closed } → KnowsOrderly w.known → KnowsOrderly new.known
book_orderly w new tokens published orderly = subst (λ (x : Writing). KnowsOrderly x.known) (sym published) (knows_more w.known (Tokens tokens) orderly tt)

-- The writer after a token book is published; `closed` says whether every later publication fails.
abbrev pub with_published_book : Writing → List Token → Bool → Writing
with_published_book w tokens closed = record (with_install (Tokens tokens) w) { closed = closed }

-- ---- the installs that led there

book_led : (opening : Option BoardAt) (list : List Install)
    → IfSome opening (λ o. (unwrap_or (option_map (λ (b : BoardAt). board_after b.board list) opening) no_board).book ≡ (board_after o.board list).book)
book_led None list = tt
book_led (Some o) list = refl

places_led : (opening : Option BoardAt) (list : List Install) (places : List Place)
    → PlacesMatch (unwrap_or (option_map (λ (b : BoardAt). board_after b.board list) opening) no_board) places
    → IfSome opening (λ o. PlacesMatch (board_after o.board list) places)
places_led None list places represents = tt
places_led (Some o) list places represents = represents

-- The published installs lead from the opening board to the writer's places and token book (`LeadsTo`).
pub leads_to : (w : Writing) → IsWriting w.known w.places → LeadsTo w.known.opening w.known.installs (installed_by w)
leads_to w h = record {
  front = refl;
  publications = refl;
  book = book_led w.known.opening w.known.installs;
  places = places_led w.known.opening w.known.installs w.places h.represents;
}
