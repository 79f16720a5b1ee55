-- The bytes held decide how all bytes of the stream are parsed.
use Rattle.std.proofs.Common.{◌≡◌, ◌≤◌, ◌⊎◌, inl, inr, ℕ, List, [], ◌++◌, length, sym, ap, ◌∙◌, subst, append-nil, Option, Some, None, Result, Ok, Err, arith}
use Rattle.std.proofs.lemmas.Option.{none-some, same_Some}
use Rattle.std.specs.Option.{option_map}
use Rattle.unl_base.specs.Doors.{next_of}
use Rattle.unl_base.specs.Streams.{Takes}
use Rattle.unl_http_api.specs.declared.got.Got.{Got}
use Rattle.unl_http_api.specs.declared.got.BadReply.{BadReply}
use Rattle.unl_http_api.specs.Received.{IsReply}
use Rattle.unl_http_api.proofs.ReceivedLemmas.{IsReply-append, IsReply_unique}
use Rattle.unl_refresh.specs.Exchange.{HasPeerCause, HoldsEnough, IsParsedFrom}
use Rattle.unl_refresh.specs.declared.outcome.RefreshFault.{RefreshFault}

-- The bytes held were taken from the bytes to come.
pub record Taking (start : Option (List ℕ)) (held : List ℕ) (left : Option (List ℕ)) : Type 0 where
  pub took : Takes start held left

-- All bytes are parsed to the same result as the bytes held, if these are all of them or at least 16785409.
reads_enough : (bytes held more : List ℕ) (reading : Result Got BadReply) → bytes ≡ held ++ more
    → (more ≡ []) ⊎ (16785409 ≤ length held) → IsReply held reading → IsReply bytes reading
reads_enough bytes held more reading split (inl none) is =
    subst (λ (b : List ℕ). IsReply b reading)
    (sym (split ∙ ap (λ (m : List ℕ). held ++ m) none ∙ append-nil held)) is
reads_enough bytes held more reading split (inr long) is =
    subst (λ (b : List ℕ). IsReply b reading) (sym split) (IsReply-append held more reading long is)

pub IsRead-from_enough : (left : Option (List ℕ)) (held : List ℕ) (reading : Result Got BadReply)
    → HoldsEnough left held → IsReply held reading → IsParsedFrom left reading
IsRead-from_enough None held reading enough is = (held, is)
IsRead-from_enough (Some bytes) held reading enough is =
    reads_enough bytes held enough.more reading enough.split enough.decides is

-- The next reply can be parsed in only one way.
pub same_reading : (replies : Option (List (List ℕ))) (list : List (List ℕ)) (read reading : Result Got BadReply)
    → IsParsedFrom (option_map next_of replies) read → replies ≡ Some list → IsReply (next_of list) reading → read ≡ reading
same_reading None list read reading is known one = absurd (none-some list known)
same_reading (Some other) list read reading is known one =
    IsReply_unique (next_of list) read reading
    (subst (λ (l : List (List ℕ)). IsReply (next_of l) read) (same_Some other list known) is) one

-- ---- causes

-- the error of a result, or `other` if the result is `Ok`
abbrev err_of : {T : Type 0} → RefreshFault → Result T RefreshFault → RefreshFault
err_of other (Ok x) = other
err_of other (Err fault) = fault

-- `HasPeerCause` for a call that returns the error of an inner call, if the fault count before both was the same
pub causes_on : {A B : Type 0} (fault : RefreshFault) (before mid after : ℕ) → mid ≡ before → HasPeerCause {T = A} (Err fault) mid after
    → HasPeerCause {T = B} (Err fault) before after
causes_on {A} {B} fault before mid after same causes = record {
  later = omega (arith, same, causes.later);
  cause = λ is. omega (arith, same, causes.cause (ap (λ (f : RefreshFault). Err f) (ap (err_of fault) is)));
  still = tt;
  untouched = λ is. causes.untouched (ap (λ (f : RefreshFault). Err f) (ap (err_of fault) is)) ∙ same;
}
