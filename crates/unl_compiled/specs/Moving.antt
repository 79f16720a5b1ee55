-- The project index after a feature is added, removed or moved to another project.
use Rattle.std.specs.Prelude.{◌≡◌, ℕ, ◌+◌, ◌-◌, List, [], ◌∷◌, ◌++◌, map, take, drop, length}
use Rattle.std.specs.Prelude.{nat_lt, Bool, false, not, Option, Some, None, if◌then◌else◌}
use Rattle.std.specs.List.{prefix_len}
use Rattle.std.specs.List.Sorted.{IsPartitionedBy}
use Rattle.std.specs.Option.{option_map_or}
use Rattle.std.specs.Str.{bytes_eq}
use Rattle.unl_compiled.specs.declared.index.ProjectPlaces.{ProjectPlaces}

-- A change at one position: a feature of project `removed` is removed there, and then one of project `inserted` is inserted. Either may be
-- left out.
pub record Change : Type 0 where
  pub place : ℕ
  pub removed : Option (List ℕ)
  pub inserted : Option (List ℕ)

-- The number of features that a change removes or inserts: 1 if there is a project, otherwise 0.
abbrev pub count_of : Option (List ℕ) → ℕ
count_of None = 0
count_of (Some project) = 1

-- The optional project is present, and equals the given one.
abbrev pub is_of : List ℕ → Option (List ℕ) → Bool
is_of project other = option_map_or (λ p. bytes_eq p project) other false

-- 1 for true, 0 for false.
abbrev pub count_if : Bool → ℕ
count_if so = if so then 1 else 0

-- The list of one position if the flag is set, otherwise the empty list.
abbrev pub place_if : Bool → ℕ → List ℕ
place_if so place = if so then place ∷ [] else []

-- The position after `less` features before it are removed and `more` features are inserted before it.
abbrev pub shifted : ℕ → ℕ → ℕ → ℕ
shifted less more place = place - less + more

-- The positions less than `place` all come before the other positions.
abbrev pub IsParted : ℕ → List ℕ → Type 0
IsParted place places = IsPartitionedBy (λ n. nat_lt n place) places

-- The length of the longest prefix of positions that are less than `place`.
abbrev pub count_below : ℕ → List ℕ → ℕ
count_below place places = prefix_len (λ n. nat_lt n place) places

-- The positions of a project's features after a change: first the positions less than `c.place`, then the position of the
-- inserted feature if it has this project, then the other positions, shifted and without that of the removed feature.
abbrev pub moved : Change → List ℕ → List ℕ → List ℕ
moved c project places =
    take (count_below c.place places) places
    ++ (place_if (is_of project c.inserted) c.place
    ++ map (shifted (count_of c.removed) (count_of c.inserted))
    (drop (count_if (is_of project c.removed)) (drop (count_below c.place places) places)))

-- The entry `new` has the project of `e`. If `IsParted` holds for the positions of `e`, the positions of
-- `new` are those of `e` after the change.
pub record IsMoved (c : Change) (e new : ProjectPlaces) : Type 0 where
  pub project : new.project ≡ e.project
  pub places : IsParted c.place e.places → new.places ≡ moved c e.project e.places

-- `IsMoved` for each pair of entries; the lists have the same length.
abbrev pub AllMoved : Change → List ProjectPlaces → List ProjectPlaces → Type 0
AllMoved c [] [] = Unit {0}
AllMoved c (e ∷ es) (new ∷ news) = IsMoved c e new × AllMoved c es news
AllMoved c [] (new ∷ news) = ⊥
AllMoved c (e ∷ es) [] = ⊥

-- The entry to append to the index, as a list: the inserted feature's project, with that feature's position. Empty if no feature is
-- inserted or the project is listed.
abbrev pub unlisted : Option (List ℕ) → ℕ → List ProjectPlaces → List ProjectPlaces
unlisted None place index = []
unlisted (Some project) place index =
    if nat_lt (prefix_len (λ e. not (bytes_eq e.project project)) index) (length index) then []
    else record { project = project; places = place ∷ [] } ∷ []
