-- A lemma about the history of a peer: the texts sent to it on each connection.
use Rattle.std.proofs.Common.{◌≡◌, ◌∙◌, ℕ, List, [], ◌∷◌, ◌++◌, Option, Some, None, refl}
use Rattle.std.specs.Option.{option_and_then, option_map}
use Rattle.unl_base.specs.Peers.{PeerState, history_of}
use Rattle.unl_base.specs.Streams.{Sends}

-- The texts sent on earlier connections, followed by the text sent since the last connect.
abbrev joined : Option (List (List ℕ)) → Option (List ℕ) → Option (List (List ℕ))
joined earlier sent = option_and_then (λ list. option_map (λ text. list ++ text ∷ []) sent) earlier

one_more : (earlier : Option (List (List ℕ))) (sent : Option (List ℕ)) (text : List ℕ)
    → joined (joined earlier sent) (option_map (λ _. text) sent) ≡ option_map (λ texts. texts ++ text ∷ []) (joined earlier sent)
one_more None sent text = refl
one_more (Some list) None text = refl
one_more (Some list) (Some first) text = refl

nothing_first : (sent : Option (List ℕ)) (text : List ℕ)
    → option_map (λ begun. begun ++ text) (option_map (λ _. []) sent) ≡ option_map (λ _. text) sent
nothing_first None text = refl
nothing_first (Some first) text = refl

-- A text sent on a new connection is one more text of the history.
pub one_more_text : (peer after : PeerState) (text : List ℕ) → after.earlier ≡ history_of peer
    → Sends (option_map (λ _. []) peer.sent) text after.sent
    → history_of after ≡ option_map (λ texts. texts ++ text ∷ []) (history_of peer)
one_more_text peer after text kept sends =
    (λ i. joined (kept i) ((sends ∙ nothing_first peer.sent text) i)) ∙ one_more peer.earlier peer.sent text
