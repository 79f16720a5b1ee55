-- Lemmas for the contract of a run: what holds of the turns so far also holds with one more turn, and then of the whole run.
use Rattle.std.proofs.Common.{◌≡◌, ◌<◌, ◌≤◌, ◌+◌, ◌-◌, ◌++◌, ◌∙◌, ℕ, List, [], ◌∷◌, drop, length, Option, Some, None, Result, Err, true, false, true≢false, zero, suc, nat_lt, ap, append_assoc, append-nil, arith, inl, inr, ⊎_elim, refl, subst, sym}
use Rattle.std.proofs.lemmas.Bool.Decides.{nat_tests}
use Rattle.std.proofs.lemmas.List.{drop-drop}
use Rattle.std.specs.Prelude.{IfNone, IfSome}
use Rattle.std.specs.Option.{option_map}
use Rattle.unl_base.specs.declared.draws.Draw.{Draw}
use Rattle.unl_base.specs.Doors.{next_of}
use Rattle.unl_base.specs.Draws.{TakesDraw}
use Rattle.unl_base.specs.Faults.{Rose}
use Rattle.unl_base.specs.Peers.{PeerState, history_of}
use Rattle.unl_base.specs.Streams.{Sends, SendsPrefix}
use Rattle.unl_refresh.specs.declared.ask.Ask.{Ask}
use Rattle.unl_refresh.specs.Exchange.{IsParsedFrom, ReplyOrFault}
use Rattle.unl_refresh.specs.Refresh.{with_tag}
use Rattle.unl_follow.specs.Replica.{Subject}
use Rattle.unl_follow.specs.declared.fault.FollowFault.{FollowFault}
use Rattle.unl_follow.specs.declared.fault.FollowFault.TheVariants.{WriteFault, Memory}
use Rattle.unl_refresh.specs.declared.outcome.Outcome.{Outcome}
use Rattle.unl_follow.specs.Run.{AreAsMany, AsksOnce, Endpoints, Follows, MeetsPeer, RoseBy, Runs, TakesTurn}
use Rattle.unl_follow.specs.Turns.{IsReceived, IsAsked, TurnState, Turn, TurnEffect, first_state, follow_text, reply_at, request_at, state_after, turn_line, turned_to}

-- ---- what is sent

Sends_nothing : (sent : Option (List ℕ)) → Sends sent [] sent
Sends_nothing None = refl
Sends_nothing (Some bytes) = ap Some (sym (append-nil bytes))

Sends_more : (old mid new : Option (List ℕ)) (a b : List ℕ) → Sends old a mid → Sends mid b new → Sends old (a ++ b) new
Sends_more None mid new a b first next = next ∙ ap (λ (o : Option (List ℕ)). option_map (λ sent. sent ++ b) o) first
Sends_more (Some bytes) mid new a b first next =
    next ∙ ap (λ (o : Option (List ℕ)). option_map (λ sent. sent ++ b) o) first ∙ ap Some (append_assoc bytes a b)

prefix_more : (old mid new : Option (List ℕ)) (a b : List ℕ) → Sends old a mid → SendsPrefix mid b new → SendsPrefix old (a ++ b) new
prefix_more old mid new a b first next = record {
  part = a ++ next.part;
  after = next.after;
  split = ap (λ (bytes : List ℕ). a ++ bytes) next.split ∙ sym (append_assoc a next.part next.after);
  sends = Sends_more old mid new a next.part first next.sends;
}

-- ---- replies that are used up

taken_more : (replies : Option (List (List ℕ))) (j : ℕ)
    → option_map (λ list. drop 1 list) (option_map (λ list. drop j list) replies) ≡ option_map (λ list. drop (j + 1) list) replies
taken_more None j = refl
taken_more (Some list) j = ap Some (drop_one list j)
  where
    drop_one : (list : List (List ℕ)) (j : ℕ) → drop 1 (drop j list) ≡ drop (j + 1) list
    drop_one list j = drop-drop 1 j list

next_is : (replies : Option (List (List ℕ))) (j : ℕ) → option_map next_of (option_map (λ list. drop j list) replies) ≡ reply_at replies j
next_is None j = refl
next_is (Some list) j = refl

-- ---- one more turn

-- A turn received `received`, after turns that used up `i` of `replies` and had `k` faults. With it, `taken` replies are used up and there
-- were `failed` faults. The fault count was `before` at the start of the run, and is `after` now.
record ReceivedOn (received : ReplyOrFault) (replies : Option (List (List ℕ))) (i k before : ℕ) (replies_after : Option (List (List ℕ))) (after : ℕ) : Type 0 where
  taken : ℕ
  failed : ℕ
  comes : IsReceived replies received i k taken failed
  left : replies_after ≡ option_map (λ list. drop taken list) replies
  counted : RoseBy failed before after

later_still : (k before mid after : ℕ) → RoseBy k before mid → mid ≤ after → RoseBy k before after
later_still k before mid after rose later = omega (arith, rose, later)

one_more : (k before mid after : ℕ) → RoseBy k before mid → Rose mid after → RoseBy (k + 1) before after
one_more k before mid after rose more = omega (arith, rose, more)

received_on : (received : ReplyOrFault) (request : List ℕ) (replies : Option (List (List ℕ))) (between peer_after : PeerState) (i k before mid after : ℕ)
    → between.replies ≡ option_map (λ list. drop i list) replies → RoseBy k before mid
    → MeetsPeer received request between mid peer_after after → ReceivedOn received replies i k before peer_after.replies after
received_on (Some reading) request replies between peer_after i k before mid after left counted meets = record {
  taken = i + 1;
  failed = k;
  comes = (subst (λ (o : Option (List ℕ)). IsParsedFrom o reading) (ap (option_map next_of) left ∙ next_is replies i) meets.0, refl, refl);
  left = meets.1.one_reply ∙ ap (option_map (λ list. drop 1 list)) left ∙ taken_more replies i;
  counted = later_still k before mid after counted (omega (arith, meets.2));
}
received_on None request replies between peer_after i k before mid after left counted (inl kept, rose) = record {
  taken = i;
  failed = k + 1;
  comes = (inl refl, refl);
  left = kept.0 ∙ left;
  counted = one_more k before mid after counted rose;
}
received_on None request replies between peer_after i k before mid after left counted (inr part, rose) = record {
  taken = i + 1;
  failed = k + 1;
  comes = (inr refl, refl);
  left = part.one_reply ∙ ap (option_map (λ list. drop 1 list)) left ∙ taken_more replies i;
  counted = one_more k before mid after counted rose;
}

-- what the peer was sent in a turn
asked_on : (received : ReplyOrFault) (request : List ℕ) (peer peer_after : PeerState) (faults faults_after : ℕ)
    → MeetsPeer received request peer faults peer_after faults_after → IsAsked received request (history_of peer) (history_of peer_after)
asked_on (Some reading) request peer peer_after faults faults_after meets = meets.1.sends
asked_on None request peer peer_after faults faults_after meets = ⊎_elim (λ kept. inl kept.1) (λ part. inr part.sends) meets.0

-- ---- the run so far

-- `count` turns were made; after them the replica is in `turn_state`, and the endpoints are in the state `now`
pub record Reached (ask : Ask) (subject : Subject) (start : Endpoints) (count : ℕ) (turn_state : TurnState) (now : Endpoints) : Type 0 where
  pub turns : List Turn
  pub many : length turns ≡ count
  pub represents : turn_state ≡ state_after ask.delta turns
  pub follows : Follows Sends ask subject start turns now

pub Reached_begin : (ask : Ask) (subject : Subject) (start : Endpoints) (turn_state : TurnState) → turn_state ≡ first_state
    → Reached ask subject start 0 turn_state start
unfolding state_after follow_text
Reached_begin ask subject start turn_state first = record {
  turns = [];
  many = refl;
  represents = first;
  follows = record {
    taken = 0;
    failed = 0;
    turned = (refl, refl);
    left = same_replies start.peer.replies;
    asked = refl;
    counted = omega arith;
    drawn = refl;
    sends = Sends_nothing start.sent;
  };
}
  where
    same_replies : (replies : Option (List (List ℕ))) → replies ≡ option_map (λ list. drop 0 list) replies
    same_replies None = refl
    same_replies (Some list) = refl

-- one more turn, after turns whose text was sent in full; `Sent` relates what was sent before and after this turn
turns_more : (Sent : Option (List ℕ) → List ℕ → Option (List ℕ) → Type 0)
    → ((old mid new : Option (List ℕ)) (a b : List ℕ) → Sends old a mid → Sent mid b new → Sent old (a ++ b) new)
    → (ask : Ask) (subject : Subject) (start mid now : Endpoints) (count : ℕ) (turn_state next : TurnState) (reached : Reached ask subject start count turn_state mid)
    → (takes : TakesTurn Sent ask subject (count + 1) turn_state mid next now) → Follows Sent ask subject start (takes.turn ∷ reached.turns) now
unfolding follow_text
turns_more Sent has_next_turn ask subject start mid now count turn_state next reached takes =
    let on = received_on takes.turn.received (request_at ask turn_state) start.peer.replies mid.peer now.peer reached.follows.taken reached.follows.failed
    start.faults mid.faults now.faults reached.follows.left reached.follows.counted takes.meets in
    let asks = asked_on takes.turn.received (request_at ask turn_state) mid.peer now.peer mid.faults now.faults takes.meets in
    record {
      taken = on.taken;
      failed = on.failed;
      turned = (reached.follows.taken, reached.follows.failed, reached.follows.turned, on.comes);
      left = on.left;
      asked = (
        history_of mid.peer,
        reached.follows.asked,
        subst (λ (s : TurnState). IsAsked takes.turn.received (request_at ask s) (history_of mid.peer) (history_of now.peer)) reached.represents asks,
      );
      counted = on.counted;
      drawn = (mid.coming, reached.follows.drawn, takes.drawn);
      sends = has_next_turn start.sent mid.sent now.sent (follow_text ask.delta subject reached.turns) _ reached.follows.sends
          (subst (λ (k : ℕ). Sent mid.sent (turn_line subject (k + 1) takes.turn.draw (turned_to ask.delta (state_after ask.delta reached.turns) takes.turn.received)) now.sent) (sym reached.many)
          (subst (λ (s : TurnState). Sent mid.sent (turn_line subject (count + 1) takes.turn.draw (turned_to ask.delta s takes.turn.received)) now.sent) reached.represents takes.sends));
    }

-- one more turn, whose line was sent in full
pub Reached_more : (ask : Ask) (subject : Subject) (start mid now : Endpoints) (count : ℕ) (turn_state next : TurnState) → Reached ask subject start count turn_state mid
    → TakesTurn Sends ask subject (count + 1) turn_state mid next now → Reached ask subject start (count + 1) next now
unfolding state_after
Reached_more ask subject start mid now count turn_state next reached takes = record {
  turns = takes.turn ∷ reached.turns;
  many = omega (arith, reached.many);
  represents = takes.represents ∙ ap (λ (s : TurnState). (turned_to ask.delta s takes.turn.received).turn_state) reached.represents;
  follows = turns_more Sends Sends_more ask subject start mid now count turn_state next reached takes;
}

-- one more turn, with a prefix of its line sent
pub Reached_cut : (ask : Ask) (subject : Subject) (start mid now : Endpoints) (count : ℕ) (turn_state next : TurnState) → Reached ask subject start count turn_state mid
    → TakesTurn SendsPrefix ask subject (count + 1) turn_state mid next now → (turns : List Turn) × Follows SendsPrefix ask subject start turns now
Reached_cut ask subject start mid now count turn_state next reached takes =
    (takes.turn ∷ reached.turns, turns_more SendsPrefix prefix_more ask subject start mid now count turn_state next reached takes)

-- ---- the pace

-- `made` turns were made, and each but the first used up one turn of the pace
pub record Paced (start now : Option ℕ) (made : ℕ) : Type 0 where
  pub left : now ≡ option_map (λ n. n - (made - 1)) start
  pub most : IfSome start (λ n. made ≤ n + 1)

pub Paced_begin : (start : Option ℕ) → Paced start start 0
Paced_begin None = record { left = refl; most = tt }
Paced_begin (Some n) = let number : n ≡ n - (0 - 1) = omega arith in record { left = ap Some number; most = omega arith }

pub Paced_first : (start mid now : Option ℕ) (made : ℕ) → Paced start mid made → made ≡ 0 → now ≡ mid → Paced start now (made + 1)
Paced_first None mid now made paced first same = record { left = same ∙ paced.left; most = tt }
Paced_first (Some n) mid now made paced first same =
    let number : n - (made - 1) ≡ n - (made + 1 - 1) = omega (arith, first) in
    record { left = same ∙ paced.left ∙ ap Some number; most = omega (arith, first) }

pub Paced_more : (start mid now : Option ℕ) (made : ℕ) → Paced start mid made → 0 < made
    → now ≡ option_map (λ n. n - 1) mid → IfSome mid (λ n. true ≡ nat_lt 0 n) → Paced start now (made + 1)
Paced_more None mid now made paced later takes known = record { left = takes ∙ ap (option_map (λ n. n - 1)) paced.left; most = tt }
Paced_more (Some n) mid now made paced later takes known =
    let number : n - (made - 1) - 1 ≡ n - (made + 1 - 1) = omega (arith, later) in
    let more : true ≡ nat_lt 0 (n - (made - 1)) = subst (λ (o : Option ℕ). IfSome o (λ n. true ≡ nat_lt 0 n)) paced.left known in
    let few : made + 1 ≤ n + 1 = grind (arith, nat_tests) in
    record { left = takes ∙ ap (option_map (λ n. n - 1)) paced.left ∙ ap Some number; most = few }

-- all turns that were asked for were made
pub all_made : (asked made : ℕ) (start now : Option ℕ) (turns : List Turn) → Paced start now made → length turns ≡ made → made ≡ asked
    → AreAsMany asked start turns
all_made asked made None now turns paced many all = omega (arith, many, all)
all_made asked made (Some n) now turns paced many all = omega (arith, many, all, paced.most)

-- the pace had no more turns
pub pace_ended : (asked made : ℕ) (start mid : Option ℕ) (turns : List Turn) → Paced start mid made → length turns ≡ made → made < asked
    → 0 < made → IfSome mid (λ n. false ≡ nat_lt 0 n) → IfNone mid (false ≡ true) → AreAsMany asked start turns
pace_ended asked made None mid turns paced many few later known unobservable =
    absurd (true≢false (sym (subst (λ (o : Option ℕ). IfNone o (false ≡ true)) paced.left unobservable)))
pace_ended asked made (Some n) mid turns paced many few later known unobservable =
    let none : false ≡ nat_lt 0 (n - (made - 1)) = subst (λ (o : Option ℕ). IfSome o (λ n. false ≡ nat_lt 0 n)) paced.left known in
    let most : made ≤ n + 1 = paced.most in
    let over : n + 1 ≤ made = grind (arith, nat_tests) in
    omega (arith, many, few, most, over)

-- one more turn was made, which used up one turn of the pace unless it is the first
pub went_on : (start mid now : Option ℕ) (made : ℕ) → Paced start mid made → (made ≡ 0 → (true ≡ true) × (now ≡ mid))
    → (0 < made → now ≡ option_map (λ n. n - 1) mid) → (0 < made → IfSome mid (λ n. true ≡ nat_lt 0 n)) → Paced start now (made + 1)
went_on start mid now zero paced first takes known = Paced_first start mid now zero paced refl (first refl).1
went_on start mid now (suc made) paced first takes known =
    let later : 0 < suc made = omega arith in Paced_more start mid now (suc made) paced later (takes later) (known later)

-- the run stopped because the pace had no more turns
pub stopped : (asked made : ℕ) (start mid now : Option ℕ) (turns : List Turn) → Paced start mid made → length turns ≡ made → made < asked
    → (made ≡ 0 → (false ≡ true) × (now ≡ mid)) → (0 < made → IfSome mid (λ n. false ≡ nat_lt 0 n)) → (0 < made → IfNone mid (false ≡ true))
    → AreAsMany asked start turns
stopped asked zero start mid now turns paced many few first known unobservable = absurd (true≢false (sym (first refl).0))
stopped asked (suc made) start mid now turns paced many few first known unobservable =
    let later : 0 < suc made = omega arith in
    pace_ended asked (suc made) start mid turns paced many few later (known later) (unobservable later)

-- ---- one turn of the code

pub turn_taken : (Sent : Option (List ℕ) → List ℕ → Option (List ℕ) → Type 0) (ask : Ask) (subject : Subject) (number : ℕ)
    (turn_state next : TurnState) (before after : Endpoints) (draw : Draw) (outcome : Option Outcome) (line : List ℕ)
    → TakesDraw before.coming draw after.coming
    → AsksOnce ask turn_state before.peer before.faults (record { outcome = outcome; turn_state = next }) after.peer after.faults
    → line ≡ turn_line subject number draw (record { outcome = outcome; turn_state = next })
    → Sent before.sent line after.sent → TakesTurn Sent ask subject number turn_state before next after
turn_taken Sent ask subject number turn_state next before after draw outcome line drawn asks same sends = record {
  turn = record { draw = draw; received = asks.received };
  drawn = drawn;
  meets = asks.meets;
  represents = ap (λ (t : TurnEffect). t.turn_state) asks.turned_so;
  sends = subst (λ (bytes : List ℕ). Sent before.sent bytes after.sent)
      (same ∙ ap (λ (t : TurnEffect). turn_line subject number draw t) asks.turned_so) sends;
}

-- The ask of a turn differs from the ask of the run only in its tag. It makes the request that the run's ask makes with the
-- current tag.
of_the_run : (Sent : Option (List ℕ) → List ℕ → Option (List ℕ) → Type 0) (ask asked : Ask) → asked ≡ with_tag asked.tag ask
    → (subject : Subject) (number : ℕ) (turn_state next : TurnState) (before after : Endpoints)
    → TakesTurn Sent asked subject number turn_state before next after → TakesTurn Sent ask subject number turn_state before next after
of_the_run Sent ask asked same subject number turn_state next before after takes =
    at_tag asked.tag (subst (λ (a : Ask). TakesTurn Sent a subject number turn_state before next after) same takes)
  where
    at_tag : (tag : Option (List ℕ)) → TakesTurn Sent (with_tag tag ask) subject number turn_state before next after
        → TakesTurn Sent ask subject number turn_state before next after
    at_tag tag turn =
        record { turn = turn.turn; drawn = turn.drawn; meets = turn.meets; represents = turn.represents; sends = turn.sends }

-- one more turn, with an ask that differs from the run's ask only in its tag
pub Reached_next : (ask asked : Ask) → asked ≡ with_tag asked.tag ask → (subject : Subject) (start mid now : Endpoints) (count : ℕ)
    (turn_state next : TurnState) → Reached ask subject start count turn_state mid → TakesTurn Sends asked subject (count + 1) turn_state mid next now
    → Reached ask subject start (count + 1) next now
Reached_next ask asked same subject start mid now count turn_state next reached takes =
    Reached_more ask subject start mid now count turn_state next reached
    (of_the_run Sends ask asked same subject (count + 1) turn_state next mid now takes)

-- the result of a run whose next turn fails: the fault of that turn, with the effect that `Runs` states for it
pub cut_runs : {T : Type 0} (ask asked : Ask) → asked ≡ with_tag asked.tag ask → (subject : Subject) (start mid now : Endpoints) (count : ℕ)
    (turn_state next : TurnState) (most : ℕ) (pace : Option ℕ) (result : Result T FollowFault) (fault : FollowFault)
    → Reached ask subject start count turn_state mid → result ≡ Err fault
    → (result ≡ Err WriteFault → TakesTurn SendsPrefix asked subject (count + 1) turn_state mid next now)
    → (result ≡ Err Memory → now.sent ≡ mid.sent) → Runs {T = T} most pace ask subject start (Err fault) now
cut_runs ask asked same subject start mid now count turn_state next most pace result WriteFault reached is cut silent =
    Reached_cut ask subject start mid now count turn_state next reached
    (of_the_run SendsPrefix ask asked same subject (count + 1) turn_state next mid now (cut is))
cut_runs ask asked same subject start mid now count turn_state next most pace result Memory reached is cut silent =
    (reached.turns, silent is ∙ reached.follows.sends)

-- how a run ends if memory runs out before the first turn: nothing was sent
pub none_made : {T : Type 0} (most : ℕ) (pace : Option ℕ) (ask : Ask) (subject : Subject) (ends : Endpoints) (result : Result T FollowFault)
    → result ≡ Err Memory → Runs {T = T} most pace ask subject ends result ends
unfolding follow_text
none_made {T} most pace ask subject ends result is =
    subst (λ (r : Result T FollowFault). Runs {T = T} most pace ask subject ends r ends) (sym is) ([], Sends_nothing ends.sent)
