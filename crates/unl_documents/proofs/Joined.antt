-- Joined lists: the position of an item, and mapping over all items.
use Rattle.std.proofs.Common.{◌≡◌, ℕ, zero, suc, ◌+◌, ◌-◌, ◌<◌, ◌≤◌, List, [], ◌∷◌, ◌++◌, length, get_or, drop, take, map, refl, sym, ap, subst, ◌∙◌, arith, append-nil, append_assoc}
use Rattle.std.specs.Prelude.{All, Option, slice_get, flat_map}
use Rattle.std.proofs.lemmas.Grind.{flat_map-append}
use Rattle.std.proofs.lemmas.List.{drop_more, take_more, map-append, length-map}
use Rattle.std.proofs.lemmas.List.Concat.{get_or-flat_map}
use Rattle.std.proofs.lemmas.List.Elements.{All-get_or, All-push}
use Rattle.std.proofs.lemmas.List.Folds.{length-flat_map-take}
use Rattle.unl_documents.specs.Chunks.{joined, NoneIsEmpty}

-- At an index within `xs`, the list `xs ++ ys` has the item of `xs`.
slice_get_prefix : {T : Type 0} (xs ys : List T) (k : ℕ) → k < length xs → slice_get (xs ++ ys) k ≡ slice_get xs k
slice_get_prefix [] ys k lt = absurd (omega arith)
slice_get_prefix (x ∷ xs) ys zero lt = refl
slice_get_prefix (x ∷ xs) ys (suc k) lt = slice_get_prefix xs ys k (omega arith)

-- At an index past `xs`, the list `xs ++ ys` has an item of `ys`.
slice_get_behind : {T : Type 0} (xs ys : List T) (k : ℕ) → length xs ≤ k → slice_get (xs ++ ys) k ≡ slice_get ys (k - length xs)
slice_get_behind [] ys k le = ap (slice_get ys) (omega arith)
slice_get_behind (x ∷ xs) ys zero le = absurd (omega arith)
slice_get_behind (x ∷ xs) ys (suc k) le = slice_get_behind xs ys k (omega arith) ∙ ap (slice_get ys) (omega arith)

-- If an index is within the next list, its item is in that list.
pub in_current_list : {T : Type 0} (lists : List (List T)) (i : ℕ) (here : List T) (k : ℕ) (total : Option T) → i < length lists → here ≡ get_or lists i here → k < length here
    → slice_get (joined (drop i lists)) k ≡ total → slice_get here k ≡ total
in_current_list lists i here k total lt is inside so_far =
    let parts : drop i lists ≡ here ∷ drop (i + 1) lists = drop_more lists i here lt ∙ ap (λ list. list ∷ drop (i + 1) lists) (sym is) in
    sym (slice_get_prefix here (joined (drop (i + 1) lists)) k inside) ∙ ap (λ left. slice_get (joined left) k) (sym parts) ∙ so_far

-- If an index is past the next list, its item is in the lists after that one.
pub in_later_list : {T : Type 0} (lists : List (List T)) (i : ℕ) (here : List T) (k : ℕ) (total : Option T) → i < length lists → here ≡ get_or lists i here → length here ≤ k
    → slice_get (joined (drop i lists)) k ≡ total → slice_get (joined (drop (i + 1) lists)) (k - length here) ≡ total
in_later_list lists i here k total lt is past so_far =
    let parts : drop i lists ≡ here ∷ drop (i + 1) lists = drop_more lists i here lt ∙ ap (λ list. list ∷ drop (i + 1) lists) (sym is) in
    sym (slice_get_behind here (joined (drop (i + 1) lists)) k past) ∙ ap (λ left. slice_get (joined left) k) (sym parts) ∙ so_far

-- Mapping over the joined list, list by list.
pub flat_map_joined : {T U : Type 0} (f : T → List U) (lists : List (List T)) → flat_map f (joined lists) ≡ flat_map (λ list. flat_map f list) lists
flat_map_joined f [] = refl
flat_map_joined f (list ∷ lists) = flat_map-append f list (joined lists) ∙ ap (λ rest. flat_map f list ++ rest) (flat_map_joined f lists)

-- Appending one more list appends its items.
pub joined-push : {T : Type 0} (lists : List (List T)) (list : List T) → joined (lists ++ list ∷ []) ≡ joined lists ++ list
joined-push lists list = flat_map-append (λ l. l) lists (list ∷ []) ∙ ap (λ l. joined lists ++ l) (append-nil list)

-- If the first part of the items that remain becomes one more list, the lists and what then remains still have all items in order.
pub part_more : {T : Type 0} (lists made : List (List T)) (list part left rest total : List T) → made ≡ lists ++ list ∷ [] → list ≡ part → rest ≡ part ++ left → joined lists ++ rest ≡ total → joined made ++ left ≡ total
part_more lists made list part left rest total is same parts so_far =
    ap (λ l. joined l ++ left) is ∙ ap (λ l. l ++ left) (joined-push lists list) ∙ append_assoc (joined lists) list left
    ∙ ap (λ l. joined lists ++ l) (ap (λ l. l ++ left) same ∙ sym parts) ∙ so_far

-- After a list that isn't empty is appended, still no list is empty.
pub full_more : {T : Type 0} (lists made : List (List T)) (list part : List T) → made ≡ lists ++ list ∷ [] → list ≡ part → 1 ≤ length part → NoneIsEmpty lists → NoneIsEmpty made
full_more lists made list part is same inside full = rw is (All-push (λ l. 1 ≤ length l) lists list full (rw same inside))

-- If all items of the first lists are mapped, mapping the next list extends the result by one list.
pub map_more : {T U : Type 0} (f : T → U) (lists : List (List T)) (i : ℕ) (here : List T) (before after : List U) → i < length lists → here ≡ get_or lists i here
    → before ≡ map f (joined (take i lists)) → after ≡ before ++ map f here → after ≡ map f (joined (take (i + 1) lists))
map_more f lists i here before after lt is so_far next =
    let taken : take (i + 1) lists ≡ take i lists ++ here ∷ [] = take_more lists i here lt ∙ ap (λ l. take i lists ++ l ∷ []) (sym is) in
    next ∙ ap (λ l. l ++ map f here) so_far ∙ sym (ap (λ l. map f (joined l)) taken ∙ ap (map f) (joined-push (take i lists) here) ∙ map-append f (joined (take i lists)) here)

-- As `map_more`, with the results in lists of the same lengths, none of which is empty.
pub maps_next : {T U : Type 0} (f : T → U) (lists : List (List T)) (i : ℕ) (here : List T) (made : List (List U)) (next : List U) → i < length lists → here ≡ get_or lists i here → NoneIsEmpty lists → next ≡ map f here
    → (joined made ≡ map f (joined (take i lists))) × NoneIsEmpty made → (joined (made ++ next ∷ []) ≡ map f (joined (take (i + 1) lists))) × NoneIsEmpty (made ++ next ∷ [])
maps_next f lists i here made next lt is full same so_far =
    let all : joined (made ++ next ∷ []) ≡ map f (joined (take i lists)) ++ map f here = joined-push made next ∙ ap (λ l. l ++ next) so_far.0 ∙ ap (λ l. map f (joined (take i lists)) ++ l) same in
    let inside : 1 ≤ length here = subst (λ l. 1 ≤ length l) (sym is) (All-get_or (λ l. 1 ≤ length l) lists i here lt full) in
    let long : length next ≡ length here = ap length same ∙ length-map here f in
    (map_more f lists i here _ _ lt is refl all, All-push (λ l. 1 ≤ length l) made next so_far.1 (rw long inside))

-- What holds for each item of all lists holds for each item of any one of them.
pub each_in_list : {T : Type 0} (P : T → Type 0) (lists : List (List T)) (i : ℕ) (here : List T) → i < length lists → here ≡ get_or lists i here → All P (joined lists) → All P here
each_in_list P lists i here lt is each = λ k d below.
    let inside : k < length (get_or lists i here) = subst (λ l. k < length l) is below in
    let room = length-flat_map-take (λ l. l) lists i here lt in
    let same : get_or (joined lists) (length (joined (take i lists)) + k) d ≡ get_or here k d = get_or-flat_map (λ l. l) lists i k here d lt inside ∙ ap (λ l. get_or l k d) (sym is) in
    subst P same (each (length (joined (take i lists)) + k) d (omega arith))
