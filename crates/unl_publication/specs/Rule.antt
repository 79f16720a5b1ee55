-- The invariant of a published value, and what each step adds to the `Knowledge` of the writer and of the readers. An install is one
-- change of the value. The front of a value is the number of installs that it has absorbed.
use Rattle.std.specs.Prelude.{◌≡◌, ℕ, ◌≤◌, ⊤, List, [], ◌∷◌, ◌++◌, length, fold, Option, Some, None, IfSome}
use mathlib.Core.Option.{some}
use lib.ListN.{get_elem?}
use Rattle.unl_publication.specs.declared.knowledge.Knowledge.{Knowledge}

-- The numbers never fall, from `first` through the list to `last`.
abbrev pub Rise : ℕ → List ℕ → ℕ → Type 0
Rise first [] last = first ≤ last
Rise first (n ∷ ns) last = (first ≤ n) × Rise n ns last

module _ {I : Type 0} where
  -- The first list starts with the second.
  abbrev pub StartsWith : List I → List I → Type 0
  StartsWith whole front = (rest : List I) × (whole ≡ front ++ rest)

module _ {S I : Type 0} where
  -- Nothing is known.
  abbrev pub knows_nothing : Knowledge S I
  knows_nothing = record { table = None; opening = None; installs = []; before = []; fronts = [] }

  -- Only the table, which identifies the publication, and the opening value are known. The opening value is the one published first.
  abbrev pub knows_opening : ℕ → S → Knowledge S I
  knows_opening table opening = record { table = Some table; opening = Some opening; installs = []; before = []; fronts = [] }

  -- The same knowledge with installs appended to its list.
  abbrev pub with_installs : List I → Knowledge S I → Knowledge S I
  with_installs given v = record {
    table = v.table;
    opening = v.opening;
    installs = v.installs ++ given;
    before = v.before;
    fronts = v.fronts;
  }

  -- The part of its knowledge that the writer shares with a reader: the table, the opening value and the list.
  abbrev pub shared_knowledge : Knowledge S I → Knowledge S I
  shared_knowledge v = record { table = v.table; opening = v.opening; installs = v.installs; before = []; fronts = [] }

  -- ---- which installs may come next

  -- Each install of the list is allowed by the value before it, the first one by the given value.
  abbrev pub AreAllowed : (S → I → S) → (S → I → Type 0) → S → List I → Type 0
  AreAllowed installed allows value [] = ⊤
  AreAllowed installed allows value (what ∷ more) = allows value what × AreAllowed installed allows (installed value what) more

  -- If the opening value is known, each known install is allowed by the value before it.
  abbrev pub KnowsAllowed : (S → I → S) → (S → I → Type 0) → Knowledge S I → Type 0
  KnowsAllowed installed allows v = IfSome v.opening (λ opening. AreAllowed installed allows opening v.installs)

  -- If the opening value is known, the value after the known installs allows this install.
  abbrev pub MayPublish : (S → I → S) → (S → I → Type 0) → Knowledge S I → I → Type 0
  MayPublish installed allows v what = (opening : S) → v.opening ≡ Some opening → allows (fold installed opening v.installs) what

  -- ---- the invariant

  -- The knowledge agrees with the opening value and the list of installs: it has this opening value or none, and a prefix of the list. The
  -- fronts of its looks never fall, and none is above the length of that prefix.
  pub record Fits (opening : S) (list : List I) (v : Knowledge S I) : Type 0 where
    pub opened : (o : S) → v.opening ≡ Some o → o ≡ opening
    pub seen : StartsWith list v.installs
    pub fronts : Rise 0 v.fronts (length v.installs)

  -- There is one opening value, with front 0, and one list of installs, each allowed by the value before it. The published
  -- value is the opening value after the list, its front is the list's length, and all knowledge in `views`, of the writer and of
  -- the readers, agrees with the opening value and the list.
  pub record IsKept (installed : S → I → S) (front_of : S → ℕ) (allows : S → I → Type 0) (value : S) (views : List (Knowledge S I))
      : Type 0 where
    pub opening : S
    pub list : List I
    pub begins : front_of opening ≡ 0
    pub allowed : AreAllowed installed allows opening list
    pub value_is : value ≡ fold installed opening list
    pub front_is : front_of value ≡ length list
    pub fits : (seat : ℕ) (v : Knowledge S I) → get_elem? views seat ≡ some v → Fits opening list v

  -- ---- what the steps make known

  -- The writer's table and the opening value become known to the writer.
  abbrev pub Opens : ℕ → S → Knowledge S I → Knowledge S I → Type 0
  Opens table value v w = w ≡ record {
    table = Some table;
    opening = Some value;
    installs = v.installs;
    before = v.before;
    fronts = v.fronts;
  }

  -- Installs were appended to the list, each allowed by the value before it.
  pub record Publishes (installed : S → I → S) (allows : S → I → Type 0) (given : List I) (v w : Knowledge S I) : Type 0 where
    pub same : w ≡ with_installs given v
    pub allowed : KnowsAllowed installed allows w

  -- A reader looks at the value. `v` is its knowledge before the look, `w` its knowledge afterwards. The installs of `w` start with
  -- those of `v`. Each is allowed by the value before it. `w` has the values `before`, and the fronts `fronts` with the number of its
  -- installs appended. This number is the front of `value`. If the opening value is known, `value` is the opening value after the installs
  -- of `w`.
  pub record Enters (installed : S → I → S) (front_of : S → ℕ) (allows : S → I → Type 0) (before : List (Option S)) (fronts : List ℕ)
      (value : S) (v w : Knowledge S I) : Type 0 where
    pub same : w ≡ record {
      table = v.table;
      opening = v.opening;
      installs = w.installs;
      before = before;
      fronts = fronts ++ length w.installs ∷ [];
    }
    pub seen : StartsWith w.installs v.installs
    pub allowed : KnowsAllowed installed allows w
    pub value_is : (o : S) → v.opening ≡ Some o → value ≡ fold installed o w.installs
    pub front_is : front_of value ≡ length w.installs
