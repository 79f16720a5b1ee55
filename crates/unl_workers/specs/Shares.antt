-- Which links of a door each worker slot served. `Serves` is the effect of serving one link: it relates a server, its coming draws and
-- the link before, to the link, the server and its coming draws after. `coming_of` returns the coming draws of a supply of draws.
-- `state_of` returns the view of a link: its bytes left, its bytes sent and its fault count.
use Rattle.std.specs.Prelude.{◌≡◌, ℕ, List, [], ◌∷◌, Option, flat_map, length, map, sum_by}
use Rattle.unl_base.specs.Doors.{DoorState}
use Rattle.unl_server.specs.Handling.{Coming}
use Rattle.unl_server.specs.Links.{LinkView, link_view}
use Rattle.unl_workers.specs.Queueing.{HandsOutEach}
use Rattle.unl_workers.specs.Serving.{serving}
use Rattle.unl_workers.specs.Taking.{ServesEach, with_draws}
use Rattle.unl_workers.specs.Tallies.{SameLinks}
use Rattle.unl_workers.specs.declared.worker.WorkerSlot.{WorkerSlot}

-- a slot served these links, one after another, and its count of links is their number
pub record ServedAt
    {S R L : Type 0} (Serves : S → Coming → LinkView → LinkView → S → Coming → Type 0) (coming_of : R → Coming) (state_of : L → LinkView)
    (links : List L) (before after : WorkerSlot S R) : Type 0 where
  pub served : ServesEach (with_draws Serves) (map state_of links) (serving before.server (coming_of before.draws))
      (serving after.server (coming_of after.draws))
  pub counted : length links ≡ after.links

-- each slot served its share, a list of links; there are as many shares as slots before and slots after
abbrev pub ServedAtEach :
    {S R L : Type 0} → (S → Coming → LinkView → LinkView → S → Coming → Type 0) → (R → Coming) → (L → LinkView)
    → List (List L) → List (WorkerSlot S R) → List (WorkerSlot S R) → Type 0
ServedAtEach Serves coming_of state_of [] [] [] = Unit {0}
ServedAtEach Serves coming_of state_of (links ∷ shares) (before ∷ slots) (after ∷ done) =
    ServedAt Serves coming_of state_of links before after × ServedAtEach Serves coming_of state_of shares slots done
ServedAtEach Serves coming_of state_of [] [] (after ∷ done) = ⊥
ServedAtEach Serves coming_of state_of [] (before ∷ slots) done = ⊥
ServedAtEach Serves coming_of state_of (links ∷ shares) [] done = ⊥
ServedAtEach Serves coming_of state_of (links ∷ shares) (before ∷ slots) [] = ⊥

-- The door handed out `count` links. Each was served once, at one of the slots, from the state in which it was handed out, and
-- no other link was served. So the counts of the slots add up to `count`.
pub record EachLinkServedOnce
    {S R L : Type 0} (Serves : S → Coming → LinkView → LinkView → S → Coming → Type 0) (coming_of : R → Coming)
    (left sent : L → Option (List ℕ)) (faults : L → ℕ)
    (door door_after : DoorState) (count : ℕ) (slots done : List (WorkerSlot S R)) : Type 0 where
  pub given : List L
  pub shares : List (List L)
  pub handed : HandsOutEach left sent faults given door door_after
  pub counted : length given ≡ count
  pub served : ServedAtEach Serves coming_of (λ link. link_view (left link) (sent link) (faults link)) shares slots done
  pub same : SameLinks given (flat_map (λ share. share) shares)
  pub total : sum_by (λ (slot : WorkerSlot S R). slot.links) done ≡ count
