-- Lemmas about links that are served one after another, and about a door whose links are observable.
use Rattle.std.proofs.Common.{◌≡◌, ℕ, zero, suc, ◌+◌, List, [], ◌∷◌, ◌++◌, Option, Some, refl, sym, ap, ◌∙◌, subst, arith, append_assoc, append-nil, length-append, ◌⊎◌, inl, inr}
use Rattle.std.specs.Prelude.{drop, option_map}
use Rattle.unl_base.specs.Doors.{DoorState, with_returned, next_of, handing_out}
use Rattle.unl_http_api.specs.declared.end.End.{End}
use Rattle.unl_http_api.specs.declared.end.End.TheVariants as ends
use Rattle.unl_http_api.specs.declared.reply.Reply.{Reply}
use Rattle.unl_http_api.specs.declared.request.Request.{Request}
use Rattle.unl_server.specs.Handling.{Coming}
use Rattle.unl_server.specs.Conversation.{Concludes, Converses, GivesUp, Serves}
use Rattle.unl_server.specs.ServingDoor.{ServerAndDoor, ServesDoorLinks, ServesDoorLink}
use Rattle.unl_server.specs.Linked.{HandsBack, AreServed, ServesLinks, linking}
use Rattle.unl_server.specs.Links.{LinkView, link_view}

-- ---- a chain

-- after n links, one more was served: n + 1 links
pub door_links_more : {S : Type 0} (Serves : S → Coming → LinkView → LinkView → S → Coming → Type 0) (n : ℕ)
    (before middle after : ServerAndDoor S)
    → ServesDoorLinks Serves n before middle → ServesDoorLink Serves middle after → ServesDoorLinks Serves (n + 1) before after
door_links_more {S} Serves n before middle after links link =
    let longer : suc n ≡ n + 1 = omega arith in subst (λ (m : ℕ). ServesDoorLinks Serves m before after) longer both
  where
    both : ServesDoorLinks Serves (suc n) before after
    both = (middle, links, link)

-- if nothing changed after n links, n links were served
pub door_links_same : {S : Type 0} (Serves : S → Coming → LinkView → LinkView → S → Coming → Type 0) (n : ℕ)
    (before middle after : ServerAndDoor S)
    → ServesDoorLinks Serves n before middle → after ≡ middle → ServesDoorLinks Serves n before after
door_links_same Serves n before middle after links same = subst (ServesDoorLinks Serves n before) (sym same) links

-- a property that holds before the first link, and that each link preserves, holds after any number of links
pub door_links_all : {S : Type 0} (Serves : S → Coming → LinkView → LinkView → S → Coming → Type 0)
    (P : ℕ → ServerAndDoor S → Type 0) (before : ServerAndDoor S)
    → P 0 before → ((n : ℕ) (middle after : ServerAndDoor S) → P n middle → ServesDoorLink Serves middle after → P (suc n) after)
    → (n : ℕ) (after : ServerAndDoor S) → ServesDoorLinks Serves n before after → P n after
door_links_all Serves P before none more zero after links = subst (P 0) (sym links) none
door_links_all Serves P before none more (suc n) after links =
    more n links.0 after (door_links_all Serves P before none more n links.0 links.1) links.2

-- ---- a door whose links are observable

-- what a link sends stays observable if it was at first
sent_at : {S : Type 0} {Step : S → Request → Reply → S → Type 0} {RunsOut : S → Request → S → Type 0} (bytes : List ℕ)
    (before after : S) (end : End) (left_after sent_after : Option (List ℕ)) (faults_after : ℕ)
    → Concludes Step bytes (Some []) before end after left_after sent_after
    → (end ≡ ends.Memory → GivesUp Step RunsOut bytes (Some []) 0 before after sent_after faults_after)
    → (text : List ℕ) × (sent_after ≡ Some text)
sent_at bytes before after ends.Closed left_after sent_after faults_after c memory = (_, c.sends)
sent_at bytes before after ends.Asked left_after sent_after faults_after c memory = (_, c.sends)
sent_at bytes before after ends.Limit left_after sent_after faults_after c memory = (_, c.sends)
sent_at bytes before after (ends.Refused status) left_after sent_after faults_after c memory = (_, c.sends)
sent_at bytes before after ends.CutOff left_after sent_after faults_after c memory = (_, c.sends)
sent_at {S} {Step} bytes before after ends.ReadFault left_after sent_after faults_after c memory = by_prefix c.serves
  where
    by_prefix : Serves Step c.read (Some []) before ends.Closed after sent_after
        ⊎ Serves Step c.read (Some []) before ends.CutOff after sent_after
        → (text : List ℕ) × (sent_after ≡ Some text)
    by_prefix (inl serves) = (_, serves.sends)
    by_prefix (inr serves) = (_, serves.sends)
sent_at bytes before after ends.WriteFault left_after sent_after faults_after (inl c) memory = (_, c.sends.sends)
sent_at bytes before after ends.WriteFault left_after sent_after faults_after (inr c) memory = (_, c.sends.sends)
sent_at {S} {Step} {RunsOut} bytes before after ends.Memory left_after sent_after faults_after c memory =
    let gives : GivesUp Step RunsOut bytes (Some []) 0 before after sent_after faults_after = memory refl in
    (_, gives.sent_500.sends ∙ ap (λ (sent : Option (List ℕ)). option_map (λ text. text ++ gives.sent_500.part) sent) gives.sends)

-- what a link sends is observable if its bytes are
pub sent_observable : {S : Type 0} {Step : S → Request → Reply → S → Type 0} {RunsOut : S → Request → S → Type 0}
    {before after : S} {end : End} {count : ℕ} (bytes : List ℕ) (link_after : LinkView)
    → Converses Step RunsOut (link_view (Some bytes) (Some []) 0) before end after count link_after
    → (text : List ℕ) × (link_after.sent ≡ Some text)
sent_observable {before} {after} {end} bytes link_after said =
    sent_at bytes before after end link_after.left link_after.sent link_after.faults (said.session bytes refl) (said.memory bytes refl)

-- A link with these bytes, on which nothing was sent and nothing failed before, was served, and what it sent is observable.
pub record ServedObservably
    {S : Type 0} (LinkServed : S → Coming → List ℕ → List ℕ × ℕ → S → Coming → Type 0) (before : S) (coming : Coming)
    (bytes : List ℕ) (link_after : LinkView) (after : S) (coming_after : Coming) : Type 0 where
  pub text : List ℕ
  pub sent : link_after.sent ≡ Some text
  pub served : LinkServed before coming bytes (text, link_after.faults) after coming_after

-- serving implies `LinkServed` for each link whose bytes are observable
abbrev pub Observable :
    {S : Type 0} → (S → Coming → LinkView → LinkView → S → Coming → Type 0)
    → (S → Coming → List ℕ → List ℕ × ℕ → S → Coming → Type 0) → Type 0
Observable {S} Serves LinkServed =
    (before : S) (coming : Coming) (bytes : List ℕ) (link_after : LinkView) (after : S) (coming_after : Coming)
    → Serves before coming (link_view (Some bytes) (Some []) 0) link_after after coming_after
    → ServedObservably LinkServed before coming bytes link_after after coming_after

linked_more : {S : Type 0} (LinkServed : S → Coming → List ℕ → List ℕ × ℕ → S → Coming → Type 0) (server : S) (coming : Coming)
    (links : List (List ℕ)) (backs : List (List ℕ × ℕ)) (middle : S) (coming_middle : Coming) (bytes : List ℕ)
    (back : List ℕ × ℕ) (after : S) (coming_after : Coming)
    → AreServed LinkServed server coming links backs middle coming_middle
    → LinkServed middle coming_middle bytes back after coming_after
    → AreServed LinkServed server coming (links ++ bytes ∷ []) (backs ++ back ∷ []) after coming_after
linked_more {S} LinkServed server coming [] [] middle coming_middle bytes back after coming_after linked one = (
  after,
  coming_after,
  subst (λ (s : S). LinkServed s coming bytes back after coming_after) linked.0
      (subst (λ (c : Coming). LinkServed middle c bytes back after coming_after) linked.1 one),
  (refl, refl),
)
linked_more LinkServed server coming [] (b ∷ backs) middle coming_middle bytes back after coming_after linked one = absurd linked
linked_more LinkServed server coming (l ∷ links) [] middle coming_middle bytes back after coming_after linked one = absurd linked
linked_more LinkServed server coming (l ∷ links) (b ∷ backs) middle coming_middle bytes back after coming_after linked one = (
  linked.0,
  linked.1,
  linked.2,
  linked_more LinkServed linked.0 linked.1 links backs middle coming_middle bytes back after coming_after linked.3 one,
)

-- if the returned links of a door are observable, their list grows by the pair of the next one's sent bytes and fault count
returns_one : (backs : List (List ℕ × ℕ)) (sent : Option (List ℕ)) (text : List ℕ) (faults : ℕ) (returned : Option (List (List ℕ × ℕ)))
    → sent ≡ Some text → returned ≡ Some backs → with_returned sent faults returned ≡ Some (backs ++ (text, faults) ∷ [])
returns_one backs sent text faults returned known known_back =
    ap (λ (r : Option (List (List ℕ × ℕ))). with_returned sent faults r) known_back
    ∙ ap (λ (s : Option (List ℕ)). option_map (λ bytes. backs ++ (bytes, faults) ∷ []) s) known

-- a list of coming links that isn't empty is its first link and then the others
first_of : (links : List (List ℕ)) → ¬ (links ≡ []) → links ≡ next_of links ∷ drop 1 links
first_of [] some = absurd (some refl)
first_of (bytes ∷ links) some = refl

-- `ServesLinks` still holds after one more link is served
serves_more : {S : Type 0} (Serves : S → Coming → LinkView → LinkView → S → Coming → Type 0)
    (LinkServed : S → Coming → List ℕ → List ℕ × ℕ → S → Coming → Type 0) → Observable Serves LinkServed
    → (before middle after : ServerAndDoor S) (n : ℕ) (links : List (List ℕ)) (returned : List (List ℕ × ℕ))
    → ServesLinks LinkServed (linking before.server before.coming before.door) (linking middle.server middle.coming middle.door)
    n links returned
    → ServesDoorLink Serves middle after
    → ServesLinks LinkServed (linking before.server before.coming before.door) (linking after.server after.coming after.door)
    (suc n) links returned
serves_more {S} Serves LinkServed observable before middle after n links returned ones one =
    let some : ¬ (ones.rest ≡ []) = rw (ones.left) at one.is_open.some_left in
    let bytes : List ℕ = next_of ones.rest in
    let same : one.link ≡ link_view (Some bytes) (Some []) 0 =
    (λ i. link_view
    ((one.fresh.gives ∙ ap (λ (list : Option (List (List ℕ))). option_map next_of list) ones.left) i)
    ((one.fresh.silent ∙ ap (λ (list : Option (List (List ℕ × ℕ))). option_map (λ _. []) list) ones.returned_after) i)
    (one.fresh.faultless i)) in
    let seen : ServedObservably LinkServed middle.server middle.coming bytes one.link_after after.server after.coming =
    observable middle.server middle.coming bytes one.link_after after.server after.coming
    (subst (λ (link : LinkView). Serves middle.server middle.coming link one.link_after after.server after.coming) same one.served) in
    let back : List ℕ × ℕ = (seen.text, one.link_after.faults) in
    let handed : middle.door.returned ≡ (handing_out one.closed middle.door).returned = refl in
    record {
      given_links = ones.given_links ++ bytes ∷ [];
      rest = drop 1 ones.rest;
      backs = ones.backs ++ back ∷ [];
      are = ones.are ∙ ap (λ (r : List (List ℕ)). ones.given_links ++ r) (first_of ones.rest some)
          ∙ sym (append_assoc ones.given_links (bytes ∷ []) (drop 1 ones.rest));
      left = ap (λ (d : DoorState). d.links) one.door ∙ ap (λ (l : Option (List (List ℕ))). option_map (λ list. drop 1 list) l) ones.left;
      returned_after = ap (λ (d : DoorState). d.returned) one.door
          ∙ returns_one (returned ++ ones.backs) one.link_after.sent seen.text one.link_after.faults middle.door.returned
          seen.sent ones.returned_after
          ∙ ap Some (append_assoc returned ones.backs (back ∷ []));
      counted = length-append ones.given_links (bytes ∷ []) ∙ ap (λ m. m + 1) ones.counted ∙ omega arith;
      linked = linked_more LinkServed before.server before.coming ones.given_links ones.backs middle.server middle.coming bytes back
          after.server after.coming ones.linked seen.served;
    }

-- serving `n` links of a door has the effect `HandsBack`, which describes each link if the links of the door are observable
pub hands_back : {S : Type 0} (Serves : S → Coming → LinkView → LinkView → S → Coming → Type 0)
    (LinkServed : S → Coming → List ℕ → List ℕ × ℕ → S → Coming → Type 0) → Observable Serves LinkServed
    → (n : ℕ) (before after : ServerAndDoor S) → ServesDoorLinks Serves n before after
    → HandsBack LinkServed (linking before.server before.coming before.door) (linking after.server after.coming after.door) n
hands_back {S} Serves LinkServed observable n before after links = door_links_all Serves Handed before begun more n after links
  where
    Handed : ℕ → ServerAndDoor S → Type 0
    Handed m now = HandsBack LinkServed (linking before.server before.coming before.door) (linking now.server now.coming now.door) m

    begun : Handed 0 before
    begun = record {
      given = omega arith;
      back = omega arith;
      linked = λ links returned known known_back. record {
        given_links = [];
        rest = links;
        backs = [];
        are = refl;
        left = known;
        returned_after = known_back ∙ ap Some (sym (append-nil returned));
        counted = refl;
        linked = (refl, refl);
      };
    }

    more : (m : ℕ) (middle next : ServerAndDoor S) → Handed m middle → ServesDoorLink Serves middle next → Handed (suc m) next
    more m middle next handed one = record {
      given = ap (λ (d : DoorState). d.given) one.door ∙ ap (λ k. k + 1) handed.given ∙ omega arith;
      back = ap (λ (d : DoorState). d.back) one.door ∙ ap (λ k. k + 1) handed.back ∙ omega arith;
      linked = λ links returned known known_back.
          serves_more Serves LinkServed observable before middle next m links returned
          (handed.linked links returned known known_back) one;
    }
