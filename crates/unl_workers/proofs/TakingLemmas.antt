-- Lemmas about links that were taken and served, or handed out and put: one more link.
use Rattle.std.proofs.Common.{◌≡◌, ℕ, ◌+◌, List, [], ◌∷◌, ◌++◌, Option, map, refl, sym, ap, ◌∙◌, subst}
use Rattle.std.proofs.Common.{append_assoc, append-nil}
use Rattle.std.proofs.lemmas.List.{length-append, map-append}
use Rattle.unl_base.specs.Doors.{DoorState, IsOpenDoor, IsFresh, handing_out}
use Rattle.unl_workers.specs.declared.tally.QueueTally.{QueueTally}
use Rattle.unl_workers.specs.Tallies.{tally}
use Rattle.unl_workers.specs.Queueing.{HandsOutEach, QueuesLinks}
use Rattle.unl_server.specs.Links.{LinkView}
use Rattle.unl_workers.specs.Taking.{ServesEach, TakesAndServes, ServesLink}

serves_each_more : {S : Type 0} (Serves : S → LinkView → LinkView → S → Type 0) (links : List LinkView) (link : LinkView)
    (before middle after : S) → ServesEach Serves links before middle → ServesLink Serves link middle after
    → ServesEach Serves (links ++ link ∷ []) before after
serves_each_more {S} Serves [] link before middle after none one =
    (after, subst (λ (s : S). ServesLink Serves link s after) none one, refl)
serves_each_more Serves (first ∷ links) link before middle after many one =
    (many.0, many.1, serves_each_more Serves links link many.0 middle after many.2 one)

-- one more link was taken and served
pub takes_more : {S L : Type 0} (Serves : S → LinkView → LinkView → S → Type 0) (state_of : L → LinkView) (n : ℕ)
    (v : QueueTally L) (before : S) (w : QueueTally L) (middle : S) (x : QueueTally L) (after : S) (link : L)
    → TakesAndServes Serves state_of n v.ends_seen v before w middle
    → x ≡ tally w.parts w.put (w.taken ++ link ∷ []) w.may_put w.ends_seen
    → ServesLink Serves (state_of link) middle after
    → TakesAndServes Serves state_of (n + 1) v.ends_seen v before x after
takes_more {S} {L} Serves state_of n v before w middle x after link many taken one = record {
  links = many.links ++ link ∷ [];
  taken = taken ∙ ap (λ (u : QueueTally L). tally u.parts u.put (u.taken ++ link ∷ []) u.may_put u.ends_seen) many.taken
      ∙ ap (λ (links : List L). tally v.parts v.put links v.may_put v.ends_seen) (append_assoc v.taken many.links (link ∷ []));
  served = subst (λ (links : List LinkView). ServesEach Serves links before after) (sym (map-append state_of many.links (link ∷ [])))
      (serves_each_more Serves (map state_of many.links) (state_of link) before middle after many.served one);
  counted = length-append many.links (link ∷ []) ∙ ap (λ (k : ℕ). k + 1) many.counted;
}

module _ {L : Type 0} (left sent : L → Option (List ℕ)) (faults : L → ℕ) where
  hands_out_more : (links : List L) (link : L) (before middle after : DoorState) → HandsOutEach left sent faults links before middle
      → IsOpenDoor middle → after ≡ handing_out after.closed middle → IsFresh middle (left link) (sent link) (faults link)
      → HandsOutEach left sent faults (links ++ link ∷ []) before after
  hands_out_more [] link before middle after none is_open handed fresh =
      subst (λ (door : DoorState). HandsOutEach left sent faults (link ∷ []) door after) none (after, is_open, handed, fresh, refl)
  hands_out_more (first ∷ links) link before middle after many is_open handed fresh =
      (many.0, many.1, many.2, many.3, hands_out_more links link many.0 middle after many.4 is_open handed fresh)

  -- no link was put yet
  pub queues_none : (v : QueueTally L) (door : DoorState) → QueuesLinks left sent faults v.may_put [] v door v door
  queues_none v door = record { put = λ i. record v { put = sym (append-nil v.put) i }; handed = refl }

  -- one more link was handed out and put
  pub queues_more : (links : List L) (link : L) (v : QueueTally L) (before : DoorState) (w : QueueTally L) (middle : DoorState) (x : QueueTally L)
      (after : DoorState)
      → QueuesLinks left sent faults v.may_put links v before w middle
      → x ≡ tally w.parts (w.put ++ link ∷ []) w.taken w.may_put w.ends_seen
      → IsOpenDoor middle → after ≡ handing_out after.closed middle → IsFresh middle (left link) (sent link) (faults link)
      → QueuesLinks left sent faults v.may_put (links ++ link ∷ []) v before x after
  queues_more links link v before w middle x after many put is_open handed fresh = record {
    put = put ∙ ap (λ (u : QueueTally L). tally u.parts (u.put ++ link ∷ []) u.taken u.may_put u.ends_seen) many.put
        ∙ ap (λ (list : List L). tally v.parts list v.taken v.may_put v.ends_seen) (append_assoc v.put links (link ∷ []));
    handed = hands_out_more links link before middle after many.handed is_open handed fresh;
  }
