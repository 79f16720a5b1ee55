-- The places of a desk agree with the slots of its board: each place has the version of its slot.
use Rattle.std.proofs.Common.{◌≡◌, ℕ, zero, suc, ◌<◌, ◌+◌, List, [], ◌∷◌, ◌++◌, length, map, Some, None, Option, ap, refl, sym, ◌∙◌, All, IfSome, subst, get_or, unwrap_or, true, false}
use Rattle.std.proofs.Math.ListN.{set}
use Rattle.std.proofs.Math.Seq.{map-set_same}
use Rattle.std.proofs.lemmas.List.{map-set, map-append}
use Rattle.std.proofs.lemmas.List.Elements.{All-set, All-append, All-cons, All-nil, All-get_or}
use Rattle.unl_delta.specs.declared.version.EnvVersion.{EnvVersion}
use Rattle.unl_delta.specs.declared.version.Place.{Place}
use Rattle.unl_delta.specs.Batch.{empty_place, next_version}
use Rattle.unl_delta.specs.Valid.{IsValidPlace, IsValidVersion}
use Rattle.unl_core.specs.declared.board.Board.{Board}
use Rattle.unl_core.specs.declared.board.Slot.{Slot}
use Rattle.unl_core.specs.Board.{AreSlots, empty_slot, place_in, taking, with_snapshot}
use Rattle.unl_core.specs.DeskStates.{DeskState, PlacesMatch, place_at, snapshot_at, installed_by, with_hold, with_batch}
use Rattle.unl_delta.specs.declared.batch.Batch.{Batch}
use Rattle.unl_delta.specs.Installing.{place_of}
use Rattle.std.specs.Prelude.{option_and_then, option_map, slice_get}
use Rattle.std.proofs.lemmas.Option.{slice_get-get_or, slice_get-map}
use Rattle.unl_core.proofs.Slots.{slots_kept, slots_more}

abbrev versions : List Place → List (Option EnvVersion)
versions places = map (λ place. place.version) places

abbrev snapshots : List Slot → List (Option EnvVersion)
snapshots slots = map (λ slot. slot.snapshot) slots

versions_at : (slots : List Slot) → versions (map place_at slots) ≡ snapshots slots
versions_at [] = refl
versions_at (slot ∷ slots) = ap (λ vs. slot.snapshot ∷ vs) (versions_at slots)

abbrev state_of_desk : Board → List Place → ℕ → DeskState
state_of_desk board places front = record { board = board; places = places; front = front }

-- The initial places of a board's slots agree with the slots.
pub places_match_begun : (board : Board) (places : List Place) → AreSlots board.slots → places ≡ map place_at board.slots → All IsValidPlace places → PlacesMatch board places
places_match_begun board places slots made valid = record { slots = slots; versions = ap versions made ∙ versions_at board.slots; valid = valid }

snapshots_taking : (slot : ℕ) (version : EnvVersion) (slots : List Slot) → snapshots (taking slot version slots) ≡ set (snapshots slots) slot (Some version)
snapshots_taking slot version [] = refl
snapshots_taking zero version (x ∷ xs) = refl
snapshots_taking (suc slot) version (x ∷ xs) = ap (λ vs. x.snapshot ∷ vs) (snapshots_taking slot version xs)

-- If a version is put at a slot and at its place, places and slots still agree.
pub places_match_taking : (board : Board) (places : List Place) (slot : ℕ) (version : EnvVersion) (place : Place) → PlacesMatch board places → place.version ≡ Some version → IsValidVersion version
    → PlacesMatch (with_snapshot slot version board) (set places slot place)
places_match_taking board places slot version place matched there valid =
    let sound : IsValidPlace place = subst (λ (v : Option EnvVersion). IfSome v IsValidVersion) (sym there) valid in
    record {
      slots = slots_kept slot version board.slots matched.slots;
      versions =
          map-set (λ p. p.version) places slot place ∙ ap (λ v. set (versions places) slot v) there
          ∙ ap (λ vs. set vs slot (Some version)) matched.versions ∙ sym (snapshots_taking slot version board.slots);
      valid = All-set IsValidPlace places slot place sound matched.valid;
    }

joined : {T V : Type 0} (f : T → Option V) (o : Option T) → unwrap_or (option_map f o) None ≡ option_and_then f o
joined f None = refl
joined f (Some x) = refl

-- The version of a place is that of its slot.
pub place_version : (board : Board) (places : List Place) (slot : ℕ) (p : Place) → PlacesMatch board places → slot < length places → p ≡ get_or places slot p
    → p.version ≡ snapshot_at board.slots slot
place_version board places slot p matched low is =
    ap (λ (q : Place). q.version) is
    ∙ ap (λ (o : Option Place). unwrap_or (option_map (λ q. q.version) o) None) (sym (slice_get-get_or places slot p low))
    ∙ ap (λ (o : Option (Option EnvVersion)). unwrap_or o None) (sym (slice_get-map (λ q. q.version) places slot))
    ∙ ap (λ (vs : List (Option EnvVersion)). unwrap_or (slice_get vs slot) None) matched.versions
    ∙ ap (λ (o : Option (Option EnvVersion)). unwrap_or o None) (slice_get-map (λ s. s.snapshot) board.slots slot)
    ∙ joined (λ (s : Slot). s.snapshot) (slice_get board.slots slot)

-- If a place is replaced by another with the same version, places and slots still agree.
pub places_match_held : (board : Board) (places : List Place) (slot : ℕ) (place : Place) (d : Place) → PlacesMatch board places → slot < length places
    → place.version ≡ (get_or places slot d).version → PlacesMatch board (set places slot place)
places_match_held board places slot place d matched low same =
    let sound : IsValidPlace place =
    subst (λ (v : Option EnvVersion). IfSome v IsValidVersion) (sym same) (All-get_or IsValidPlace places slot d low matched.valid) in
    record {
      slots = matched.slots;
      versions = map-set_same (λ p. p.version) places slot place d same ∙ matched.versions;
      valid = All-set IsValidPlace places slot place sound matched.valid;
    }

-- If an empty slot and an empty place are added for a new environment, places and slots still agree.
pub places_match_more : (board grown : Board) (places : List Place) (environment : List ℕ) (slot : Slot) → PlacesMatch board places → length board.slots < 8
    → None ≡ place_in environment board.slots → slot ≡ empty_slot environment → grown.slots ≡ board.slots ++ slot ∷ []
    → PlacesMatch grown (places ++ empty_place ∷ [])
places_match_more board grown places environment slot matched room none made pushed = record {
  slots = slots_more environment board.slots grown.slots slot matched.slots room none (ap (λ (x : Slot). x.environment) made) pushed;
  versions =
      map-append (λ p. p.version) places (empty_place ∷ [])
      ∙ ap (λ vs. vs ++ None ∷ []) matched.versions
      ∙ ap (λ v. snapshots board.slots ++ v ∷ []) (sym (ap (λ (x : Slot). x.snapshot) made))
      ∙ sym (map-append (λ (x : Slot). x.snapshot) board.slots (slot ∷ []))
      ∙ ap snapshots (sym pushed);
  valid = All-append IsValidPlace places (empty_place ∷ []) matched.valid (All-cons IsValidPlace empty_place [] tt (All-nil IsValidPlace));
}

-- `place_of` of a desk and the index of a slot is the place at this index.
place_is : (board : Board) (places : List Place) (front slot : ℕ) (p : Place) → slot < length places → p ≡ get_or places slot p
    → place_of (installed_by (record { board = board; places = places; front = front })) slot ≡ p
place_is board places front slot p low is = ap (λ o. unwrap_or o empty_place) (slice_get-get_or places slot p low) ∙ sym is

-- If the code marks a slot as held, the desk is then as `with_hold` defines it.
pub hold_is : (board : Board) (places : List Place) (front slot : ℕ) (p : Place) (s : DeskState) → record { board = board; places = places; front = front } ≡ s → slot < length places
    → p ≡ get_or places slot p → record { board = board; places = set places slot (record { version = p.version; held = true }); front = front } ≡ with_hold slot s
hold_is board places front slot p s same low is =
    ap (λ (v : Option EnvVersion). state_of_desk board (set places slot (record { version = v; held = true })) front) (ap (λ (q : Place). q.version) (sym (place_is board places front slot p low is)))
    ∙ ap (with_hold slot) same

-- If the code installs a batch, the desk is then as `with_batch` defines it.
pub install_is : (board new : Board) (places : List Place) (front slot : ℕ) (batch : Batch) (p : Place) (v kept shared : EnvVersion) (s : DeskState)
    → record { board = board; places = places; front = front } ≡ s → slot < length places → p ≡ get_or places slot p
    → v ≡ next_version p batch → shared ≡ v → kept ≡ v → new ≡ with_snapshot slot shared board
    → record { board = new; places = set places slot (record { version = Some kept; held = false }); front = front + 1 } ≡ with_batch slot batch s
install_is board new places front slot batch p v kept shared s same low is next shared_is kept_is changed =
    let made : v ≡ next_version (place_of (installed_by (state_of_desk board places front)) slot) batch =
    next ∙ ap (λ (q : Place). next_version q batch) (sym (place_is board places front slot p low is)) in
    let represents : new ≡ with_snapshot slot (next_version (place_of (installed_by (state_of_desk board places front)) slot) batch) board =
    changed ∙ ap (λ (w : EnvVersion). with_snapshot slot w board) (shared_is ∙ made) in
    ap (λ (b : Board). state_of_desk b (set places slot (record { version = Some kept; held = false })) (front + 1)) represents
    ∙ ap (λ (w : EnvVersion). state_of_desk (with_snapshot slot (next_version (place_of (installed_by (state_of_desk board places front)) slot) batch) board)
    (set places slot (record { version = Some w; held = false })) (front + 1)) (kept_is ∙ made)
    ∙ ap (with_batch slot batch) same

-- After a batch is installed, places and slots still agree.
pub places_match_install : (board new : Board) (places : List Place) (slot : ℕ) (v kept shared : EnvVersion) → PlacesMatch board places → new ≡ with_snapshot slot shared board
    → shared ≡ v → kept ≡ v → IsValidVersion v → PlacesMatch new (set places slot (record { version = Some kept; held = false }))
places_match_install board new places slot v kept shared before changed shared_is kept_is valid =
    subst (λ (b : Board). PlacesMatch b (set places slot (record { version = Some kept; held = false }))) (sym changed)
    (places_match_taking board places slot shared (record { version = Some kept; held = false }) before (ap Some (kept_is ∙ sym shared_is)) (subst IsValidVersion (sym shared_is) valid))
