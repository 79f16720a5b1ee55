-- Links that were taken from a queue and served, one after another. `Serves before link link_after after` is the effect of
-- serving one link: the server before, the link before and after, the server after. `state_of` returns the state of a link.
use Rattle.std.specs.Prelude.{◌≡◌, ℕ, List, [], ◌∷◌, ◌++◌, length, map}
use Rattle.unl_server.specs.Handling.{Coming}
use Rattle.unl_server.specs.Links.{LinkView}
use Rattle.unl_workers.specs.Serving.{ServerAndDraws, serving}
use Rattle.unl_workers.specs.Tallies.{tally}
use Rattle.unl_workers.specs.declared.tally.QueueTally.{QueueTally}
use Rattle.unl_workers.specs.declared.worker.WorkerSlot.{WorkerSlot}

-- a link in this state was served
pub record ServesLink {S : Type 0} (Serves : S → LinkView → LinkView → S → Type 0) (link : LinkView) (before after : S) : Type 0 where
  pub link_after : LinkView
  pub served : Serves before link link_after after

-- links in these states were served, one after another
abbrev pub ServesEach : {S : Type 0} → (S → LinkView → LinkView → S → Type 0) → List LinkView → S → S → Type 0
ServesEach Serves [] before after = after ≡ before
ServesEach {S} Serves (link ∷ links) before after =
    (middle : S) × ServesLink Serves link before middle × ServesEach Serves links middle after

-- `count` links were taken from the queue, and each was served, in the same order. `ends_seen` is 1 if the entry that marks the end of the
-- queue was taken.
pub record TakesAndServes
    {S L : Type 0} (Serves : S → LinkView → LinkView → S → Type 0) (state_of : L → LinkView) (count ends_seen : ℕ)
    (view_before : QueueTally L) (before : S) (view_after : QueueTally L) (after : S) : Type 0 where
  pub links : List L
  pub taken : view_after ≡ tally view_before.parts view_before.put (view_before.taken ++ links) view_before.may_put ends_seen
  pub served : ServesEach Serves (map state_of links) before after
  pub counted : length links ≡ count

-- the effect of serving a link, with the server and its coming draws as one record
abbrev pub with_draws : {S : Type 0} → (S → Coming → LinkView → LinkView → S → Coming → Type 0)
    → ServerAndDraws S → LinkView → LinkView → ServerAndDraws S → Type 0
with_draws Serves before link link_after after = Serves before.server before.coming link link_after after.server after.coming

-- the worker with this slot took and served as many links as the count `after.links` says, and then took the entry that marks the end of
-- the queue
abbrev pub TakesAndServesAt :
    {S R L : Type 0} → (S → Coming → LinkView → LinkView → S → Coming → Type 0) → (R → Coming) → (L → LinkView)
    → QueueTally L → WorkerSlot S R → QueueTally L → WorkerSlot S R → Type 0
TakesAndServesAt Serves coming_of state_of view_before before view_after after =
    TakesAndServes (with_draws Serves) state_of after.links 1 view_before (serving before.server (coming_of before.draws))
    view_after (serving after.server (coming_of after.draws))
