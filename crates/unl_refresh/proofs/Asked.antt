-- The text that one exchange adds to the history of a peer, and the reply that it uses up.
use Rattle.std.proofs.Common.{◌≡◌, ◌∙◌, ℕ, List, [], ◌++◌, drop, Option, ap, append-nil, inr, subst, sym}
use Rattle.std.specs.Option.{option_map}
use Rattle.unl_base.proofs.Histories.{one_more_text}
use Rattle.unl_base.specs.Peers.{PeerState, after_connect, history_of}
use Rattle.unl_base.specs.Streams.{Sends}
use Rattle.unl_refresh.specs.Exchange.{AddsText, Asks, AsksAtMostOnce}

-- A peer was connected and then written to: its states, what a write leaves unchanged, and the bytes sent.
pub record Written (before connected written other_parts other_parts_after : PeerState) (sent sent_after : Option (List ℕ)) : Type 0 where
  pub connects : connected ≡ after_connect before
  pub begun : connected ≡ record other_parts { sent = sent }
  pub same : other_parts_after ≡ other_parts
  pub ended : written ≡ record other_parts_after { sent = sent_after }

-- Nothing is sent on the new connection at first; the texts sent before are kept; and one reply is used up.
sent_first : {before connected written other_parts other_parts_after : PeerState} {sent sent_after : Option (List ℕ)}
    → Written before connected written other_parts other_parts_after sent sent_after → sent ≡ option_map (λ _. []) before.sent
sent_first w = sym (ap (λ (s : PeerState). s.sent) w.begun) ∙ ap (λ (s : PeerState). s.sent) w.connects

kept : {before connected written other_parts other_parts_after : PeerState} {sent sent_after : Option (List ℕ)}
    → Written before connected written other_parts other_parts_after sent sent_after → written.earlier ≡ history_of before
kept w =
    ap (λ (s : PeerState). s.earlier) w.ended ∙ ap (λ (s : PeerState). s.earlier) w.same ∙ sym (ap (λ (s : PeerState). s.earlier) w.begun)
    ∙ ap (λ (s : PeerState). s.earlier) w.connects

used : {before connected written other_parts other_parts_after : PeerState} {sent sent_after : Option (List ℕ)}
    → Written before connected written other_parts other_parts_after sent sent_after
    → written.replies ≡ option_map (λ list. drop 1 list) before.replies
used w =
    ap (λ (s : PeerState). s.replies) w.ended ∙ ap (λ (s : PeerState). s.replies) w.same ∙ sym (ap (λ (s : PeerState). s.replies) w.begun)
    ∙ ap (λ (s : PeerState). s.replies) w.connects

-- What was sent on the new connection is one more text of the history.
added : (before connected written other_parts other_parts_after : PeerState) (sent sent_after : Option (List ℕ)) (text : List ℕ)
    → Written before connected written other_parts other_parts_after sent sent_after → Sends sent text sent_after
    → AddsText (history_of before) text (history_of written)
added before connected written other_parts other_parts_after sent sent_after text w sends =
    one_more_text before written text (kept w)
    (ap (λ (s : PeerState). s.sent) w.ended
    ∙ subst (λ (o : Option (List ℕ)). sent_after ≡ option_map (λ begun. begun ++ text) o) (sent_first w) sends)

-- A peer was read from: its states, what a read leaves unchanged, and the bytes to come.
pub record Read (before after other_parts other_parts_after : PeerState) (left left_after : Option (List ℕ)) : Type 0 where
  pub begun : before ≡ record other_parts { left = left }
  pub same : other_parts_after ≡ other_parts
  pub ended : after ≡ record other_parts_after { left = left_after }

-- A read changes neither the history nor the replies to come.
read_history : {before after other_parts other_parts_after : PeerState} {left left_after : Option (List ℕ)}
    → Read before after other_parts other_parts_after left left_after → history_of after ≡ history_of before
read_history r = ap history_of r.ended ∙ ap history_of r.same ∙ sym (ap history_of r.begun)

read_replies : {before after other_parts other_parts_after : PeerState} {left left_after : Option (List ℕ)}
    → Read before after other_parts other_parts_after left left_after → after.replies ≡ before.replies
read_replies r =
    ap (λ (s : PeerState). s.replies) r.ended ∙ ap (λ (s : PeerState). s.replies) r.same ∙ sym (ap (λ (s : PeerState). s.replies) r.begun)

-- The request was sent in full, and a reply was read.
pub asked_whole : (before connected written after : PeerState) (other_parts other_parts_after reads reads_after : PeerState)
    (sent sent_after left left_after : Option (List ℕ)) (request : List ℕ)
    → Written before connected written other_parts other_parts_after sent sent_after → Sends sent request sent_after
    → Read written after reads reads_after left left_after
    → Asks request before.replies (history_of before) after.replies (history_of after)
asked_whole before connected written after other_parts other_parts_after reads reads_after sent sent_after left left_after request w sends r = record {
  one_reply = read_replies r ∙ used w;
  sends = read_history r ∙ added before connected written other_parts other_parts_after sent sent_after request w sends;
}

-- A request that was sent in full was sent at most once: all of it is one of its prefixes.
pub at_most_once : {request : List ℕ} {replies history replies_after history_after : Option (List (List ℕ))}
    → Asks request replies history replies_after history_after → AsksAtMostOnce request replies history replies_after history_after
at_most_once {request} asks = inr (record {
  one_reply = asks.one_reply;
  sends = record { part = request; after = []; split = sym (append-nil request); adds = asks.sends };
})
