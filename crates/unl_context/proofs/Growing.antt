-- The names of an object's members, and that they are strictly ascending.
use Rattle.std.proofs.Common.{◌≡◌, ℕ, List, [], ◌∷◌, ◌++◌, map, Option, Some, None, String, Global, string_bytes, sym, ap, subst, ◌∙◌, append_assoc, nat_cmp, Less}
use Rattle.std.specs.Prelude.{option_to_list, IfSome}
use Rattle.std.specs.Cmp.Lexicographic.{slice_cmp}
use Rattle.std.specs.List.{AllByRecursion}
use Rattle.std.specs.List.Sorted.{IsStrictlySortedBy}
use Rattle.std.specs.Map.{keys_of}
use Rattle.std.specs.String.{string_cmp}
use Rattle.std.proofs.lemmas.List.{append-nil, map_push}
use Rattle.serde_json.proofs.Views.{Entry}
use Rattle.unl_context.specs.declared.properties.Property.{Property}
use Rattle.unl_context.specs.Context.{AreRising, HasRisingNames}
use Rattle.unl_context.proofs.Rising.{names}

abbrev pub names_of : List Entry → List (List ℕ)
names_of entries = map (λ e. string_bytes e.0) entries

drop_name : (P : List ℕ → Type 0) (before : List (List ℕ)) (name : List ℕ) (after : List (List ℕ)) → AllByRecursion P (before ++ name ∷ after) → AllByRecursion P (before ++ after)
drop_name P [] name after h = h.1
drop_name P (k ∷ before) name after h = (h.0, drop_name P before name after h.1)

-- Strictly ascending names stay so if one of them is removed.
rising_without : (before : List (List ℕ)) (name : List ℕ) (after : List (List ℕ)) → AreRising (before ++ name ∷ after) → AreRising (before ++ after)
unfolding IsStrictlySortedBy
rising_without [] name after h = h.1
rising_without (k ∷ before) name after h = (drop_name _ before name after h.0, rising_without before name after h.1)

all_above : (first : String Global) (es : List Entry) → AllByRecursion (λ k. string_cmp first k ≡ Less) (keys_of es) → AllByRecursion (λ name. slice_cmp nat_cmp (string_bytes first) name ≡ Less) (names_of es)
all_above first [] h = tt
all_above first (e ∷ es) h = (h.0, all_above first es h.1)

-- If the keys of an object's members are strictly ascending as strings, the names (their bytes) are strictly ascending in byte order.
pub rising_names : (es : List Entry) → IsStrictlySortedBy string_cmp (keys_of es) → AreRising (names_of es)
unfolding IsStrictlySortedBy
rising_names [] h = tt
rising_names (e ∷ es) h = (all_above e.0 es h.0, rising_names es h.1)

pub rising_goes_on : (ps : List Property) (found : Option Property) (name : List ℕ) (after : List (List ℕ)) → IfSome found (λ p. p.name ≡ name) → AreRising (names ps ++ name ∷ after) → AreRising (names (ps ++ option_to_list found) ++ after)
rising_goes_on ps None name after same h = rw (append-nil ps) (rising_without (names ps) name after h)
rising_goes_on ps (Some p) name after same h =
    let moved : names (ps ++ p ∷ []) ++ after ≡ names ps ++ name ∷ after =
    ap (λ ns. ns ++ after) (map_push (λ q. q.name) ps p) ∙ append_assoc (names ps) (p.name ∷ []) after ∙ ap (λ k. names ps ++ k ∷ after) same in
    subst AreRising (sym moved) h

pub rising_at_end : (ps : List Property) → AreRising (names ps ++ []) → HasRisingNames ps
rising_at_end ps h = subst AreRising (append-nil (names ps)) h
