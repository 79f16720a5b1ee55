-- Lemmas about bytes that move between a stream and a buffer.
use Rattle.std.proofs.Common.{◌≡◌, ◌∙◌, ◌≤◌, ℕ, List, [], ◌++◌, Option, None, Some, Result}
use Rattle.std.proofs.Common.{Ok, Err, IfOk, OnErr, MatchResult, take, drop, sym, ap, refl, subst}
use Rattle.std.proofs.Common.{append_assoc, append-nil, take-append-drop, length, min, arith}
use Rattle.std.proofs.KnownBytes.{Appends-trans, Keeps-trans}
use Rattle.std.proofs.Math.Seq.{take-append_seam, take-length}
use Rattle.std.proofs.lemmas.List.{length-take, take-take}
use Rattle.std.specs.Io.KnownBytes.{Appends, Consumes, Keeps, WriteAppends, append_known, prepend_known}
use Rattle.unl_net.proofs.Trying.{appended_then, consumed_then, none_consumed, stays, stays_on}
use Rattle.unl_net.specs.Buffers.{HasPrefix, ConsumesReturned}

-- bytes that a read moves from the stream to the received ones stay among those to come
pub received_keeps : (a b : Option (List ℕ)) (held bytes : List ℕ) → Consumes a b bytes
    → Keeps (prepend_known held a) (prepend_known (held ++ bytes) b)
received_keeps None b held bytes read = tt
received_keeps (Some x) None held bytes read = absurd read
received_keeps (Some x) (Some y) held bytes read = append_assoc held bytes y ∙ ap (λ (l : List ℕ). held ++ l) (sym read)

-- a read that removes nothing leaves the bytes to come as they are
pub waited_keeps : (a b : Option (List ℕ)) (held : List ℕ) → Keeps a b → Keeps (prepend_known held a) (prepend_known held b)
waited_keeps None b held kept = tt
waited_keeps (Some x) None held kept = absurd kept
waited_keeps (Some x) (Some y) held kept = ap (λ (l : List ℕ). held ++ l) kept

-- bytes that a write moves from those to be sent to the stream stay among those written
pub sent_keeps : (a b : Option (List ℕ)) (held : List ℕ) (n : ℕ) → Appends a b (take n held)
    → Keeps (append_known a held) (append_known b (drop n held))
sent_keeps None b held n sent = tt
sent_keeps (Some x) None held n sent = absurd sent
sent_keeps (Some x) (Some y) held n sent =
    ap (λ (l : List ℕ). l ++ drop n held) sent ∙ append_assoc x (take n held) (drop n held)
    ∙ ap (λ (l : List ℕ). x ++ l) (take-append-drop n held)

-- a link that reads received bytes removes them from the start of those to come
pub link_takes : (a : Option (List ℕ)) (old new bytes : List ℕ) → old ≡ bytes ++ new
    → Consumes (prepend_known old a) (prepend_known new a) bytes
link_takes None old new bytes same = tt
link_takes (Some x) old new bytes same = ap (λ (l : List ℕ). l ++ x) same ∙ append_assoc bytes new x

-- a read of no bytes changes nothing
pub none_read : (a : Option (List ℕ)) → Consumes a a []
none_read None = tt
none_read (Some x) = refl

-- a step that reads nothing, then a read that removes what it returns
pub then_consumed : {E : Type 0} (a b c : Option (List ℕ)) (r : Result ℕ E) (room : List ℕ) → Keeps a b
    → ConsumesReturned b c r room → ConsumesReturned a c r room
then_consumed a b c (Ok n) room kept given = consumed_then a b c (take n room) kept given
then_consumed a b c (Err e) room kept given = Keeps-trans a b c kept given

-- a read of the stream if no received byte is left
pub read_behind : {E : Type 0} (a b : Option (List ℕ)) (held : List ℕ) (r : Result ℕ E) (room : List ℕ) → held ≡ []
    → ConsumesReturned a b r room → ConsumesReturned (prepend_known held a) (prepend_known held b) r room
read_behind a b held (Ok n) room none given = by a b given
  where
    by : (a b : Option (List ℕ)) → Consumes a b (take n room) → Consumes (prepend_known held a) (prepend_known held b) (take n room)
    by None b read = tt
    by (Some x) None read = absurd read
    by (Some x) (Some y) read = ap (λ (l : List ℕ). l ++ x) none ∙ read ∙ ap (λ (l : List ℕ). take n room ++ (l ++ y)) (sym none)
read_behind a b held (Err e) room none given = waited_keeps a b held given

-- a write of no bytes appends nothing
pub none_written : (a : Option (List ℕ)) → Appends a a []
none_written None = tt
none_written (Some x) = sym (append-nil x)

-- a step that writes nothing is a write of no bytes
pub kept_appends : (a b : Option (List ℕ)) → Keeps a b → Appends a b []
kept_appends None b kept = tt
kept_appends (Some x) None kept = absurd kept
kept_appends (Some x) (Some y) kept = kept ∙ sym (append-nil x)

-- a write of no bytes changes nothing
pub appends_kept : (a b : Option (List ℕ)) → Appends a b [] → Keeps a b
appends_kept None b grew = tt
appends_kept (Some x) None grew = absurd grew
appends_kept (Some x) (Some y) grew = grew ∙ append-nil x

-- a write to the stream if no other bytes are to be sent first
pub write_first : {E : Type 0} (a b : Option (List ℕ)) (held : List ℕ) (r : Result ℕ E) (piece : List ℕ) → held ≡ []
    → WriteAppends a b r piece
    → WriteAppends (append_known a held) (append_known b held) r piece
write_first a b held (Ok n) piece none wrote = by a b wrote
  where
    by : (a b : Option (List ℕ)) → Appends a b (take n piece) → Appends (append_known a held) (append_known b held) (take n piece)
    by None b grew = tt
    by (Some x) None grew = absurd grew
    by (Some x) (Some y) grew =
        ap (λ (l : List ℕ). y ++ l) none ∙ append-nil y ∙ grew
        ∙ ap (λ (l : List ℕ). l ++ take n piece) (sym (append-nil x) ∙ ap (λ (l : List ℕ). x ++ l) (sym none))
write_first a b held (Err e) piece none wrote = by a b wrote
  where
    by : (a b : Option (List ℕ)) → Keeps a b → Keeps (append_known a held) (append_known b held)
    by None b kept = tt
    by (Some x) None kept = absurd kept
    by (Some x) (Some y) kept = ap (λ (l : List ℕ). l ++ held) kept

-- bytes are appended to those to be sent
pub held_behind : (a : Option (List ℕ)) (old new bytes : List ℕ) → new ≡ old ++ bytes
    → Appends (append_known a old) (append_known a new) bytes
held_behind None old new bytes same = tt
held_behind (Some x) old new bytes same = ap (λ (l : List ℕ). x ++ l) same ∙ sym (append_assoc x old bytes)

-- the first bytes of a piece are written, and then the rest of it
pub rest_then : (a b c : Option (List ℕ)) (piece : List ℕ) (sent n : ℕ) → sent ≤ n → Appends a b (take sent piece)
    → Appends b c (drop sent (take n piece)) → Appends a c (take n piece)
rest_then a b c piece sent n within first rest =
    subst (λ (bytes : List ℕ). Appends a c bytes) whole (Appends-trans a b c (take sent piece) (drop sent (take n piece)) first rest)
  where
    whole : take sent piece ++ drop sent (take n piece) ≡ take n piece
    whole = ap (λ (l : List ℕ). l ++ drop sent (take n piece)) (sym (take-take sent n piece within)) ∙ take-append-drop sent (take n piece)

-- the same for a write of the rest that may fail, which it does only if nothing was written before
pub rest_after : {E : Type 0} (a b c : Option (List ℕ)) (r : Result ℕ E) (piece : List ℕ) (sent : ℕ)
    → IfOk r (λ n. sent ≤ n) → OnErr r (sent ≡ 0) → Appends a b (take sent piece)
    → MatchResult r (λ n. Appends b c (drop sent (take n piece))) (λ _. Keeps b c) → WriteAppends a c r piece
rest_after a b c (Ok n) piece sent more failed first rest = rest_then a b c piece sent n more first rest
rest_after a b c (Err e) piece sent more failed first rest =
    Keeps-trans a b c (appends_kept a b (subst (λ (k : ℕ). Appends a b (take k piece)) failed first)) rest

-- bytes are a prefix of themselves
pub begins_same : (prefix bytes : List ℕ) → bytes ≡ prefix → HasPrefix prefix bytes
unfolding HasPrefix
begins_same prefix bytes same = ap (take (length prefix)) same ∙ take-length prefix

-- bytes are a prefix of themselves with more appended
pub begins_more : (prefix more bytes : List ℕ) → bytes ≡ prefix ++ more → HasPrefix prefix bytes
unfolding HasPrefix
begins_more prefix more bytes same = ap (take (length prefix)) same ∙ take-append_seam prefix more

-- a prefix of bytes is a prefix of equal bytes
pub begins_kept : (prefix bytes same : List ℕ) → same ≡ bytes → HasPrefix prefix bytes → HasPrefix prefix same
unfolding HasPrefix
begins_kept prefix bytes same still begins = ap (take (length prefix)) still ∙ begins

-- a prefix of a prefix is a prefix
pub begins_then : (a b c : List ℕ) → HasPrefix a b → HasPrefix b c → HasPrefix a c
unfolding HasPrefix
begins_then a b c first second =
    sym (take-take (length a) (length b) c within) ∙ ap (take (length a)) second ∙ first
  where
    size : min (length a) (length b) ≡ length a
    size = sym (length-take (length a) b) ∙ ap length first

    within : length a ≤ length b
    within = omega (arith, size)

-- the lemmas for a piece that is received
pub ruleset receive_rules = (received_keeps, begins_same, begins_more)

-- the lemmas for pieces that are received one after another
pub ruleset pieces_rules = (stays, stays_on, begins_same, begins_then)

-- the lemmas for a read of the stream that waits
pub ruleset read_rules = (stays, stays_on, none_read, none_consumed, consumed_then)

-- the lemmas for a write to the stream that waits
pub ruleset write_rules = (stays, stays_on, appended_then, appends_kept)
