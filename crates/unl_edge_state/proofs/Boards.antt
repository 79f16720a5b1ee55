-- Lemmas on the published board, and on the boards that a reader knows at each front (the number of installs that led to the board).
use Rattle.std.proofs.Common.{◌≡◌, ℕ, zero, suc, ◌≤◌, ◌+◌, ◌⊎◌, inl, inr, List, [], ◌∷◌, ◌++◌, length, take, fold, Bool, true, leb, Option, Some, None, is_some, refl, sym, ap, ◌∙◌, subst, arith, IfSome, unwrap_or}
use Rattle.std.specs.Option.{option_map}
use Rattle.std.proofs.lemmas.Bool.Decides.{nat_tests}
use Rattle.unl_core.specs.declared.board.Board.{Board}
use Rattle.unl_core.specs.declared.board.Install.{Install}
use Rattle.unl_core.specs.Board.{board_after, installed}
use Rattle.unl_edge_state.specs.Editions.{BoardAt, board_known, edited, no_board}
use Rattle.unl_edge_state.specs.Orderly.{MayComeNext, IsOrderly, KnowsOrderly}
use Rattle.unl_edge_state.specs.Reading.{ContinuedFromOpening, board_of}
use Rattle.unl_edge_state.proofs.GoingOn.{orderly_more}
use Rattle.unl_publication.specs.declared.knowledge.Knowledge.{Knowledge}
use Rattle.unl_publication.specs.Meaning.{item_or, known, value_at, some_if}
use Rattle.unl_publication.specs.Looking.{Follows}
use Rattle.unl_publication.specs.Rule.{with_installs}

-- Applying `edited` for each install of a list, in order, leads to the board after the list.
pub board_of_fold : (opening : BoardAt) (list : List Install) → (fold edited opening list).board ≡ board_after opening.board list
board_of_fold opening [] = refl
board_of_fold opening (what ∷ list) = board_of_fold (edited opening what) list

pub board_after_more : (board : Board) (list : List Install) (what : Install) → board_after board (list ++ what ∷ []) ≡ installed what (board_after board list)
board_after_more board [] what = refl
board_after_more board (first ∷ list) what = board_after_more (installed first board) list what

after_more : (opening : Option BoardAt) (list : List Install) (what : Install) → is_some opening ≡ true
    → unwrap_or (option_map (λ o. board_after o.board (list ++ what ∷ [])) opening) no_board ≡ installed what (unwrap_or (option_map (λ o. board_after o.board list) opening) no_board)
after_more None list what there = absurd cc
after_more (Some opening) list what there = board_after_more opening.board list what

-- If one more install becomes known, the known board changes by that install.
pub known_more : (known : Knowledge BoardAt Install) (what : Install) → is_some known.opening ≡ true → board_known (with_installs (what ∷ []) known) ≡ installed what (board_known known)
known_more known what there = after_more known.opening known.installs what there

shown : (opening : Option BoardAt) (list : List Install) (value : BoardAt) → is_some opening ≡ true → ((o : BoardAt) → opening ≡ Some o → value ≡ fold edited o list)
    → value.board ≡ unwrap_or (option_map (λ o. board_after o.board list) opening) no_board
shown None list value there is = absurd cc
shown (Some opening) list value there is = ap (λ (e : BoardAt). e.board) (is opening refl) ∙ board_of_fold opening list

-- If the known installs lead from the known opening board to a value, the board of that value is the known board.
pub shown_known : (known : Knowledge BoardAt Install) (value : BoardAt) → is_some known.opening ≡ true → ((o : BoardAt) → known.opening ≡ Some o → value ≡ fold edited o known.installs)
    → value.board ≡ board_known known
shown_known known value there is = shown known.opening known.installs value there is

keeps_mapped : (old new : Option BoardAt) (board : Board) → ((edition : BoardAt) → old ≡ Some edition → new ≡ Some edition) → option_map (λ e. e.board) old ≡ Some board → option_map (λ e. e.board) new ≡ Some board
keeps_mapped None new board keeps is = absurd cc
keeps_mapped (Some edition) new board keeps is = ap (option_map (λ (e : BoardAt). e.board)) (keeps edition refl) ∙ is

-- If the editions known at each front stay known, so do their boards. An edition is a board with its front.
pub keeps_boards : (old new : Knowledge BoardAt Install) → ((k : ℕ) (edition : BoardAt) → value_at edited old k ≡ Some edition → value_at edited new k ≡ Some edition)
    → (k : ℕ) (board : Board) → board_of old k ≡ Some board → board_of new k ≡ Some board
keeps_boards old new keeps k board is = keeps_mapped (value_at edited old k) (value_at edited new k) board (keeps k) is

-- After a look, what the reader has seen is the knowledge that it took in that look.
pub seen_left : (late : Option (Knowledge BoardAt Install)) (now taken : Knowledge BoardAt Install) → late ≡ None → now ≡ taken → known late now ≡ taken
seen_left late now taken none is = ap (λ (o : Option (Knowledge BoardAt Install)). known o now) none ∙ is

-- A board that is known at a front stays known after a look.
pub keeps_left : (old new before taken : Knowledge BoardAt Install) → old ≡ before → new ≡ taken → Follows edited before taken
    → (k : ℕ) (board : Board) → board_of old k ≡ Some board → board_of new k ≡ Some board
keeps_left old new before taken old_is new_is follows k board is =
    keeps_boards old new (λ j e h. subst (λ (v : Knowledge BoardAt Install). value_at edited v j ≡ Some e) (sym new_is)
    (follows.keeps j e (subst (λ (v : Knowledge BoardAt Install). value_at edited v j ≡ Some e) old_is h))) k board is

true_here : {A : Type 0} (p : Bool) (x : Option A) → p ≡ true → some_if p x ≡ x
true_here p x is = ap (λ (z : Bool). some_if z x) is

-- If `before` is empty or has only the opening edition, the edition at each front is the one that the list leads to.
item_same : (k : ℕ) (opening : BoardAt) (before : List (Option BoardAt)) (list : List Install) → (before ≡ []) ⊎ (before ≡ Some opening ∷ [])
    → item_or before k (Some (fold edited opening (take k list))) ≡ Some (fold edited opening (take k list))
item_same k opening before list (inl none) = ap (λ (xs : List (Option BoardAt)). item_or xs k (Some (fold edited opening (take k list)))) none
item_same zero opening before [] (inr one) = ap (λ (xs : List (Option BoardAt)). item_or xs 0 (Some opening)) one
item_same zero opening before (what ∷ list) (inr one) = ap (λ (xs : List (Option BoardAt)). item_or xs 0 (Some opening)) one
item_same (suc k) opening before list (inr one) =
    ap (λ (xs : List (Option BoardAt)). item_or xs (suc k) (Some (fold edited opening (take (suc k) list)))) one

-- The board at front `k` is the opening board after the first `k` installs, for a reader that never continued from a learned list, or only
-- when it knew no board but the opening board.
pub boards_are : (known : Knowledge BoardAt Install) (opening : BoardAt) (k : ℕ) → known.opening ≡ Some opening → ContinuedFromOpening opening known
    → k ≤ length known.installs
    → board_of known k ≡ Some (board_after opening.board (take k known.installs))
boards_are known opening k is start low =
    let within : leb k (length known.installs) ≡ true = grind (arith, nat_tests) in
    ap (option_map (λ (e : BoardAt). e.board)) (
    true_here (leb k (length known.installs)) _ within
    ∙ ap (λ (o : Option BoardAt). item_or known.before k (option_map (λ b. fold edited b (take k known.installs)) o)) is
    ∙ item_same k opening known.before known.installs start)
    ∙ ap (λ (b : Board). Some b) (board_of_fold opening (take k known.installs))

more_orderly : (opening : Option BoardAt) (list : List Install) (what : Install) → IfSome opening (λ o. IsOrderly o.board list)
    → MayComeNext (unwrap_or (option_map (λ o. board_after o.board list) opening) no_board) what → IfSome opening (λ o. IsOrderly o.board (list ++ what ∷ []))
more_orderly None list what orderly goes = orderly
more_orderly (Some opening) list what orderly goes = orderly_more opening.board list what orderly goes

-- An orderly list stays orderly if an install that may come next is appended.
pub knows_more : (known : Knowledge BoardAt Install) (what : Install) → KnowsOrderly known → MayComeNext (board_known known) what → KnowsOrderly (with_installs (what ∷ []) known)
knows_more known what orderly goes = more_orderly known.opening known.installs what orderly goes
