-- Lemmas on orderly lists of installs: each version in such a list results from the slot's previous version, if there is one, by one
-- batch that applies.
use Rattle.std.proofs.Common.{ℕ, zero, suc, ◌≤◌, List, [], ◌∷◌, ◌++◌, take, Option, Some, sym, subst, arith}
use Rattle.unl_core.specs.declared.board.Board.{Board}
use Rattle.unl_core.specs.declared.board.Slot.{Slot}
use Rattle.unl_core.specs.declared.board.Install.{Install}
use Rattle.unl_core.specs.declared.board.Install.TheVariants.{Tokens, Env}
use Rattle.unl_core.specs.Board.{board_after, installed, taking}
use Rattle.unl_core.specs.DeskStates.{snapshot_at}
use Rattle.unl_delta.specs.declared.version.EnvVersion.{EnvVersion}
use Rattle.unl_delta.specs.Batch.{next_version}
use Rattle.unl_delta.specs.History.{IsNotBelow}
use Rattle.unl_delta.proofs.NotBelow.{next_not_below, not_below_both, not_below_itself}
use Rattle.unl_edge_state.specs.Orderly.{MayComeNext, IsOrderly}

-- ---- what an install does to a slot

at_slot : (slots : List Slot) (i slot : ℕ) (v : EnvVersion) → IsNotBelow (snapshot_at slots i) (Some v) → IsNotBelow (snapshot_at slots slot) (snapshot_at (taking i v slots) slot)
at_slot [] i slot v up = tt
at_slot (s ∷ slots) zero zero v up = up
at_slot (s ∷ slots) zero (suc slot) v up = not_below_itself (snapshot_at slots slot)
at_slot (s ∷ slots) (suc i) zero v up = not_below_itself s.snapshot
at_slot (s ∷ slots) (suc i) (suc slot) v up = at_slot slots i slot v up

one : (board : Board) (what : Install) (slot : ℕ) → MayComeNext board what → IsNotBelow (snapshot_at board.slots slot) (snapshot_at (installed what board).slots slot)
one board (Tokens book) slot goes = not_below_itself (snapshot_at board.slots slot)
one board (Env i version) slot goes =
    let up : IsNotBelow goes.place.version (Some (next_version goes.place goes.batch)) = next_not_below goes.place goes.batch goes.applies in
    let here : IsNotBelow (snapshot_at board.slots i) (Some version) = subst (λ (v : EnvVersion). IsNotBelow (snapshot_at board.slots i) (Some v)) (sym goes.next)
    (subst (λ (v : Option EnvVersion). IsNotBelow v (Some (next_version goes.place goes.batch))) goes.represents up) in
    at_slot board.slots i slot version here

many : (board : Board) (list : List Install) (slot : ℕ) → IsOrderly board list → IsNotBelow (snapshot_at board.slots slot) (snapshot_at (board_after board list).slots slot)
many board [] slot orderly = not_below_itself (snapshot_at board.slots slot)
many board (what ∷ more) slot orderly =
    not_below_both (snapshot_at board.slots slot) (snapshot_at (installed what board).slots slot) (snapshot_at (board_after (installed what board) more).slots slot)
    (one board what slot orderly.0) (many (installed what board) more slot orderly.1)

orderly_take : (board : Board) (k : ℕ) (list : List Install) → IsOrderly board list → IsOrderly board (take k list)
orderly_take board zero list orderly = tt
orderly_take board (suc k) [] orderly = tt
orderly_take board (suc k) (what ∷ more) orderly = (orderly.0, orderly_take (installed what board) k more orderly.1)

pub fronts_go_on : (board : Board) (list : List Install) (j k slot : ℕ) → IsOrderly board list → j ≤ k
    → IsNotBelow (snapshot_at (board_after board (take j list)).slots slot) (snapshot_at (board_after board (take k list)).slots slot)
fronts_go_on board list zero k slot orderly up = many board (take k list) slot (orderly_take board k list orderly)
fronts_go_on board list (suc j) zero slot orderly up = absurd (omega (arith, up))
fronts_go_on board [] (suc j) (suc k) slot orderly up = not_below_itself (snapshot_at board.slots slot)
fronts_go_on board (what ∷ more) (suc j) (suc k) slot orderly up = fronts_go_on (installed what board) more j k slot orderly.1 (omega (arith, up))

-- ---- an orderly list with one more install

pub orderly_more : (board : Board) (list : List Install) (what : Install) → IsOrderly board list → MayComeNext (board_after board list) what → IsOrderly board (list ++ what ∷ [])
orderly_more board [] what orderly goes = (goes, tt)
orderly_more board (first ∷ more) what orderly goes = (orderly.0, orderly_more (installed first board) more what orderly.1 goes)
