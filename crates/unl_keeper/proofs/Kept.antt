-- Lemmas about the rows of a keeper, for the proofs of code that calls a keeper.
use Rattle.std.proofs.Common.{◌≡◌, ◌≤◌, ◌⊎◌, inl, inr, ◌+◌, ℕ, List, [], ◌∷◌, ◌++◌, take, drop, length, length-append, Option, Some, None, option_map, IfSome, arith, refl, ap, sym, ◌∙◌, subst}
use Rattle.std.proofs.lemmas.List.{drop_all, take-append-le, take_all, length-take-le}
use Rattle.std.proofs.Math.Seq.{drop-append_seam}
use Rattle.unl_keeper.specs.Rows.{kept, with_row}
use Rattle.unl_keeper.specs.State.{HasKept, IsFailed, IsWritten, KeeperState, kept_rows}

-- ---- rows, with one written after the first `count`

-- if there are at least `count` rows, taking the first `count` of them gives `count` rows
prefix_length : (count : ℕ) (list : List (List ℕ)) → count ≤ length list → length (take count list) ≡ count
prefix_length count list has = length-take-le count list has

-- with one row written after these, there are `count + 1` rows
longer : (count : ℕ) (text : List ℕ) (list : List (List ℕ)) → count ≤ length list → length (take count list ++ text ∷ []) ≡ count + 1
longer count text list has =
    let here : length (take count list) ≡ count = prefix_length count list has in
    let all : length (take count list ++ text ∷ []) ≡ length (take count list) + 1 = length-append (take count list) (text ∷ []) in
    omega (arith, here, all)

kept_more : (count : ℕ) (text : List ℕ) (rows : Option (List (List ℕ))) → IfSome rows (λ list. count ≤ length list)
    → kept (count + 1) (with_row count text rows) ≡ option_map (λ list. list ++ text ∷ []) (kept count rows)
kept_more count text None has = refl
kept_more count text (Some list) has =
    let all : length (take count list ++ text ∷ []) ≡ count + 1 = longer count text list has in
    ap Some (take_all (count + 1) (take count list ++ text ∷ []) (omega (arith, all)))

kept_same : (count : ℕ) (text : List ℕ) (rows : Option (List (List ℕ))) → IfSome rows (λ list. count ≤ length list)
    → kept count (with_row count text rows) ≡ kept count rows
kept_same count text None has = refl
kept_same count text (Some list) has =
    let here : length (take count list) ≡ count = prefix_length count list has in
    ap Some (take-append-le count (take count list) (text ∷ []) (omega (arith, here)) ∙ take_all count (take count list) (omega (arith, here)))

past_is : (count : ℕ) (text : List ℕ) (rows : Option (List (List ℕ))) → IfSome rows (λ list. count ≤ length list)
    → option_map (λ list. drop count list) (with_row count text rows) ≡ option_map (λ _. text ∷ []) rows
past_is count text None has = refl
past_is count text (Some list) has =
    let here : length (take count list) ≡ count = prefix_length count list has in
    ap Some (ap (λ n. drop n (take count list ++ text ∷ [])) (sym here) ∙ drop-append_seam (take count list) (text ∷ []))

past_none : (count : ℕ) (text : List ℕ) (rows : Option (List (List ℕ))) → IfSome rows (λ list. count ≤ length list)
    → option_map (λ list. drop (count + 1) list) (with_row count text rows) ≡ option_map (λ _. []) rows
past_none count text None has = refl
past_none count text (Some list) has =
    let all : length (take count list ++ text ∷ []) ≡ count + 1 = longer count text list has in
    ap Some (drop_all (count + 1) (take count list ++ text ∷ []) (omega (arith, all)))

has_more : (count : ℕ) (text : List ℕ) (rows : Option (List (List ℕ))) → IfSome rows (λ list. count ≤ length list)
    → IfSome (with_row count text rows) (λ list. count + 1 ≤ length list)
has_more count text None has = tt
has_more count text (Some list) has = let all : length (take count list ++ text ∷ []) ≡ count + 1 = longer count text list has in omega (arith, all)

fewer : (count : ℕ) (rows : Option (List (List ℕ))) → IfSome rows (λ list. count + 1 ≤ length list) → IfSome rows (λ list. count ≤ length list)
fewer count None has = tt
fewer count (Some list) has = omega (arith, has)

-- ---- the rows after a put

-- after a successful put, the text follows the earlier kept rows
pub rows_written : (text : List ℕ) (before after : KeeperState) → HasKept before → IsWritten text before after
    → kept_rows after ≡ option_map (λ list. list ++ text ∷ []) (kept_rows before)
rows_written text before after has row = (λ i. kept (row.counted i) (row.rows i)) ∙ kept_more before.count text before.rows has

-- after a failed put, the kept rows are unchanged
pub rows_failed : (text : List ℕ) (before after : KeeperState) → HasKept before → IsFailed text before after → kept_rows after ≡ kept_rows before
rows_failed text before after has row = by_rows row.rows
  where
    by_rows : (after.rows ≡ before.rows) ⊎ (after.rows ≡ with_row before.count text before.rows) → kept_rows after ≡ kept_rows before
    by_rows (inl same) = λ i. kept (row.counted i) (same i)
    by_rows (inr left) = (λ i. kept (row.counted i) (left i)) ∙ kept_same before.count text before.rows has

-- no row follows a row just written
pub past_written : (text : List ℕ) (before after : KeeperState) → HasKept before → IsWritten text before after
    → option_map (λ list. drop after.count list) after.rows ≡ option_map (λ _. []) before.rows
past_written text before after has row =
    (λ i. option_map (λ list. drop (row.counted i) list) (row.rows i)) ∙ past_none before.count text before.rows has

-- a failed put that wrote its text left just this text after the kept rows
pub past_failed : (text : List ℕ) (before after : KeeperState) → HasKept before → IsFailed text before after
    → after.rows ≡ with_row before.count text before.rows
    → option_map (λ list. drop after.count list) after.rows ≡ option_map (λ _. text ∷ []) before.rows
past_failed text before after has row wrote =
    (λ i. option_map (λ list. drop (row.counted i) list) (wrote i)) ∙ past_is before.count text before.rows has

-- after any put there are still at least as many rows as are kept
pub has_written : (text : List ℕ) (before after : KeeperState) → HasKept before → IsWritten text before after → HasKept after
has_written text before after has row =
    subst (λ (rows : Option (List (List ℕ))). IfSome rows (λ list. after.count ≤ length list)) (sym row.rows)
    (subst (λ n. IfSome (with_row before.count text before.rows) (λ list. n ≤ length list)) (sym row.counted)
    (has_more before.count text before.rows has))

pub has_failed : (text : List ℕ) (before after : KeeperState) → HasKept before → IsFailed text before after → HasKept after
has_failed text before after has row =
    subst (λ n. IfSome after.rows (λ list. n ≤ length list)) (sym row.counted) (by_rows row.rows)
  where
    by_rows : (after.rows ≡ before.rows) ⊎ (after.rows ≡ with_row before.count text before.rows) → IfSome after.rows (λ list. before.count ≤ length list)
    by_rows (inl same) = subst (λ (rows : Option (List (List ℕ))). IfSome rows (λ list. before.count ≤ length list)) (sym same) has
    by_rows (inr left) =
        subst (λ (rows : Option (List (List ℕ))). IfSome rows (λ list. before.count ≤ length list)) (sym left)
        (fewer before.count (with_row before.count text before.rows) (has_more before.count text before.rows has))
