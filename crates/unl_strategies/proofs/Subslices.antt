-- A text that is an item of a list is a substring of the list.
use Rattle.std.proofs.Common.{◌≡◌, ℕ, ◌-◌, List, [], ◌∷◌, ◌++◌, length, take, drop, Bool, true, false, ◌||◌, cond}
use Rattle.std.proofs.Common.{inl, inr, refl, sym, ap, subst, ◌∙◌, append_assoc, take-append-drop}
use Rattle.std.specs.Prelude.{◌⊎◌, ◌↔◌}
use Rattle.std.specs.List.{list_any, join_with_byte, prefix_len, suffix_len}
use Rattle.std.specs.Char.{is_ascii_whitespace}
use Rattle.std.specs.Str.{bytes_eq}
use Rattle.std.specs.Str.Iter.{HasSubslice}
use Rattle.std.proofs.lemmas.List.Splits.{join_with_byte-slice_split}
use Rattle.std.proofs.lemmas.Slice.Eq.{bytes_eq-Decides}
use Rattle.unl_documents.specs.Texts.{trimmed, has_bytes, parts, items_among, comma_items}
use Rattle.unl_strategies.specs.Lists.{is_listed}

-- The text is one of the items.
abbrev IsItem : List ℕ → List (List ℕ) → Type 0
IsItem x items = list_any (λ item. bytes_eq item x) items ≡ true

-- A substring of a part of a text is a substring of the text.
within : (prefix part back x : List ℕ) → HasSubslice part x → HasSubslice (prefix ++ (part ++ back)) x
within prefix part back x (a, b, is) =
    let inside : (a ++ (x ++ b)) ++ back ≡ a ++ (x ++ (b ++ back)) = append_assoc a (x ++ b) back ∙ ap (λ (p : List ℕ). a ++ p) (append_assoc x b back) in
    let whole : prefix ++ (part ++ back) ≡ prefix ++ (a ++ (x ++ (b ++ back))) =
    ap (λ (p : List ℕ). prefix ++ (p ++ back)) is ∙ ap (λ (p : List ℕ). prefix ++ p) inside in
    (prefix ++ a, b ++ back, whole ∙ sym (append_assoc prefix a (x ++ (b ++ back))))

-- A trimmed part is a substring of the part.
trimmed_is_subslice : (part : List ℕ) → HasSubslice part (trimmed part)
unfolding trimmed
trimmed_is_subslice part =
    let before : ℕ = prefix_len is_ascii_whitespace part in
    let rest : List ℕ = drop before part in
    let kept : ℕ = length rest - suffix_len is_ascii_whitespace rest in
    let split : rest ≡ take kept rest ++ drop kept rest = sym (take-append-drop kept rest) in
    (take before part, drop kept rest, sym (take-append-drop before part) ∙ ap (λ (r : List ℕ). take before part ++ r) split)

-- A substring of the first part is a substring of the joined parts.
in_first : (part : List ℕ) (others : List (List ℕ)) (x : List ℕ) → HasSubslice part x → HasSubslice (join_with_byte 44 (part ∷ others)) x
in_first part [] x has = has
in_first part (other ∷ more) x has = within [] part (44 ∷ join_with_byte 44 (other ∷ more)) x has

in_later : (part other : List ℕ) (more : List (List ℕ)) (x : List ℕ)
    → HasSubslice (join_with_byte 44 (other ∷ more)) x → HasSubslice (join_with_byte 44 (part ∷ other ∷ more)) x
in_later part other more x (a, b, is) =
    (part ++ (44 ∷ a), b, ap (λ (j : List ℕ). part ++ (44 ∷ j)) is ∙ sym (append_assoc part (44 ∷ a) (x ++ b)))

-- The text equals the first item or is one of the others.
either : (kept : Bool) (item x : List ℕ) (items : List (List ℕ)) → IsItem x (cond kept (item ∷ items) items) → (item ≡ x) ⊎ IsItem x items
either false item x items listed = inr listed
either true item x items listed =
    elim (bytes_eq item x) as (λ b. bytes_eq item x ≡ b → (b || list_any (λ i. bytes_eq i x) items) ≡ true → (item ≡ x) ⊎ IsItem x items) [
      | true ↦ λ same any. inl ((bytes_eq-Decides item x).0 same)
      | false ↦ λ other any. inr any
    ] refl listed

later : (p : List ℕ) (ps : List (List ℕ)) (x : List ℕ) → (IsItem x (items_among ps) → HasSubslice (join_with_byte 44 ps) x)
    → IsItem x (items_among ps) → HasSubslice (join_with_byte 44 (p ∷ ps)) x
later p [] x has listed = absurd (cc)
later p (other ∷ more) x has listed = in_later p other more x (has listed)

-- An item of the parts is a substring of the joined parts.
item_is_subslice : (ps : List (List ℕ)) (x : List ℕ) → IsItem x (items_among ps) → HasSubslice (join_with_byte 44 ps) x
item_is_subslice [] x listed = absurd (cc)
item_is_subslice (p ∷ ps) x listed =
    elim (either (has_bytes (trimmed p)) (trimmed p) x (items_among ps) listed) [
      | inl same ↦ in_first p ps x (subst (λ (t : List ℕ). HasSubslice p t) same (trimmed_is_subslice p))
      | inr more ↦ later p ps x (λ item. item_is_subslice ps x item) more
    ]

listed_is_subslice : (list x : List ℕ) → is_listed list x ≡ true → HasSubslice list x
unfolding is_listed comma_items
listed_is_subslice list x listed =
    subst (λ (t : List ℕ). HasSubslice t x) (join_with_byte-slice_split 44 list) (item_is_subslice (parts 44 list) x listed)

-- A text that is not a substring of the list is not an item of it.
pub not_listed : (found : Bool) (list x : List ℕ) → (found ≡ true) ↔ HasSubslice list x → found ≡ false → is_listed list x ≡ false
not_listed found list x has none =
    elim (is_listed list x) as (λ b. is_listed list x ≡ b → b ≡ false) [
      | true ↦ λ listed. let there : found ≡ true = has.1 (listed_is_subslice list x listed) in absurd (cc)
      | false ↦ λ listed. refl
    ] refl
