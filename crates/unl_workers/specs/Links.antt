-- The state of a queue of links that wait for a worker (`LinkState`), and its operations.
use Rattle.std.specs.Prelude.{◌≡◌, ◌==◌, ◌&&◌, not, Bool, true, false, List, [], ◌∷◌, ◌++◌, Option, Some, None, length, MatchBool}
use Rattle.unl_workers.specs.declared.state.Popped.{Popped}
use Rattle.unl_workers.specs.declared.state.Popped.TheVariants.{Taken, Closed, Empty}

-- the queued links, oldest first, and whether the queue is closed
pub record Links (L : Type 0) : Type 0 where
  pub links : List L
  pub closed : Bool

-- whether 64 links are queued
abbrev pub is_full : {L : Type 0} → Links L → Bool
is_full links = length links.links == 64

-- The effect of a push: the link is returned if 64 links are queued, otherwise it is appended.
abbrev pub Pushes : {L : Type 0} → Links L → L → Option L → Links L → Type 0
Pushes old link result new =
    MatchBool (is_full old) ((result ≡ Some link) × (new ≡ old)) ((result ≡ None) × (new ≡ record old { links = old.links ++ link ∷ [] }))

-- The effect of a pop: the oldest link is taken; or the queue is empty and closed; or it is empty, and a link may still come.
abbrev pub Pops : {L : Type 0} → Links L → Popped L → Links L → Type 0
Pops old (Taken link) new = old ≡ record new { links = link ∷ new.links }
Pops old Closed new = (old.links ≡ []) × (old.closed ≡ true) × (new ≡ old)
Pops old Empty new = (old.links ≡ []) × (old.closed ≡ false) × (new ≡ old)

-- whether the queue is empty and not closed
abbrev pub is_waiting : {L : Type 0} → Links L → Bool
is_waiting links = (length links.links == 0) && not links.closed
