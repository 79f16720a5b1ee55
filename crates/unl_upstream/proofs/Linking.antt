-- The links that were served on a door whose links are observable.
use Rattle.std.proofs.Common.{ℕ, zero, suc, List, [], Option, Some, Result, Ok, Err, refl, ap, subst}
use Rattle.unl_base.specs.declared.Failed.{Failed}
use Rattle.unl_server.specs.Handling.{Coming, handler_state}
use Rattle.unl_server.specs.Conversation.{Concludes, GivesUp}
use Rattle.unl_server.specs.ServingDoor.{ServerAndDoor, ServesDoor, ServesDoorLink, ServesDoorLinks, server_and_door}
use Rattle.unl_server.specs.Linked.{HandsBack, linking}
use Rattle.unl_server.specs.Links.{LinkView}
use Rattle.unl_server.proofs.DoorLemmas.{Observable, hands_back, sent_observable}
use Rattle.unl_upstream.specs.Served.{Changing, ServesAllLinksBy, LinkServedBy, RunsOut, ServesLinkBy, Steps}

-- if a link was served, what the door observes of it (the bytes received and sent, and the fault count) is as `LinkServedBy` states
link_observable : {S : Type 0} (Step : Steps S) (RunsOutAtRequest : RunsOut S) (Changes : Changing S) → Observable (ServesLinkBy Step RunsOutAtRequest Changes) (LinkServedBy Step RunsOutAtRequest Changes)
link_observable Step RunsOutAtRequest Changes before coming bytes link_after after coming_after served =
    let sent = sent_observable bytes link_after served.conversation in record {
      text = sent.0;
      sent = sent.1;
      served = record {
        count = served.count;
        end = served.end;
        left_after = link_after.left;
        conversation = subst (λ (text : Option (List ℕ)). Concludes Step bytes (Some []) (handler_state before 0 coming) served.end
            (handler_state after served.count coming_after) link_after.left text) sent.1 (served.conversation.session bytes refl);
        memory = λ is. subst (λ (text : Option (List ℕ)). GivesUp Step RunsOutAtRequest bytes (Some []) 0 (handler_state before 0 coming)
            (handler_state after served.count coming_after) text link_after.faults) sent.1 (served.conversation.memory bytes refl is);
        changes = served.changes;
        read_cause = served.conversation.read_cause;
        write_cause = served.conversation.write_cause;
      };
    }

-- ---- from the server's parts to its model

-- `Serves`, for a server whose model is what `seen` returns
abbrev pub ServesOver : {S T : Type 0} → (T → Coming → LinkView → LinkView → T → Coming → Type 0) → (S → T) → S → Coming → LinkView → LinkView → S → Coming → Type 0
ServesOver Serves seen server coming link link_after after coming_after = Serves (seen server) coming link link_after (seen after) coming_after

abbrev pub server_seen : {S T : Type 0} → (S → T) → ServerAndDoor S → ServerAndDoor T
server_seen seen h = server_and_door (seen h.server) h.coming h.door

link_seen : {S T : Type 0} (Serves : T → Coming → LinkView → LinkView → T → Coming → Type 0) (seen : S → T) (before after : ServerAndDoor S)
    → ServesDoorLink (ServesOver Serves seen) before after → ServesDoorLink Serves (server_seen seen before) (server_seen seen after)
link_seen Serves seen before after one = record {
  link = one.link;
  link_after = one.link_after;
  closed = one.closed;
  is_open = one.is_open;
  fresh = one.fresh;
  served = one.served;
  door = one.door;
}

door_links_seen : {S T : Type 0} (Serves : T → Coming → LinkView → LinkView → T → Coming → Type 0) (seen : S → T) (n : ℕ) (before after : ServerAndDoor S)
    → ServesDoorLinks (ServesOver Serves seen) n before after → ServesDoorLinks Serves n (server_seen seen before) (server_seen seen after)
door_links_seen Serves seen zero before after links = ap (server_seen seen) links
door_links_seen Serves seen (suc n) before after links =
    (server_seen seen links.0, door_links_seen Serves seen n before links.0 links.1, link_seen Serves seen links.0 after links.2)

-- the links of a door were served, each as `LinkServedBy` states if the door's links are observable
pub door_links_served : {S T : Type 0} (Step : Steps T) (RunsOutAtRequest : RunsOut T) (Changes : Changing T) (seen : S → T) (result : Result ℕ Failed) (before after : ServerAndDoor S)
    → ServesDoor (ServesOver (ServesLinkBy Step RunsOutAtRequest Changes) seen) result before after
    → ServesAllLinksBy (LinkServedBy Step RunsOutAtRequest Changes) result (linking (seen before.server) before.coming before.door) (linking (seen after.server) after.coming after.door)
door_links_served {S} {T} Step RunsOutAtRequest Changes seen result before after = by_result result
  where
    served_many : (n : ℕ) → ServesDoorLinks (ServesOver (ServesLinkBy Step RunsOutAtRequest Changes) seen) n before after
        → HandsBack (LinkServedBy Step RunsOutAtRequest Changes) (linking (seen before.server) before.coming before.door) (linking (seen after.server) after.coming after.door) n
    served_many n links =
        hands_back (ServesLinkBy Step RunsOutAtRequest Changes) (LinkServedBy Step RunsOutAtRequest Changes) (link_observable Step RunsOutAtRequest Changes) n (server_seen seen before) (server_seen seen after)
        (door_links_seen (ServesLinkBy Step RunsOutAtRequest Changes) seen n before after links)

    by_result : (result : Result ℕ Failed) → ServesDoor (ServesOver (ServesLinkBy Step RunsOutAtRequest Changes) seen) result before after
        → ServesAllLinksBy (LinkServedBy Step RunsOutAtRequest Changes) result (linking (seen before.server) before.coming before.door) (linking (seen after.server) after.coming after.door)
    by_result (Ok served) links = served_many served links
    by_result (Err failed) links = (links.0, served_many links.0 links.1)
