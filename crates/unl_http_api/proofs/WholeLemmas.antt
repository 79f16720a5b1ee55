-- Complete requests form a session.
use Rattle.std.proofs.Common.{◌≡◌, ℕ, ◌≤◌, suc, zero, Bool, true, false, List, [], ◌∷◌, length, refl, ap, arith}
use Rattle.unl_http_api.specs.declared.request.Request.{Request}
use Rattle.unl_http_api.specs.declared.end.End.{End}
use Rattle.unl_http_api.specs.declared.end.End.TheVariants.{Closed, Asked, Limit, Refused, CutOff, ReadFault, WriteFault, Memory}
use Rattle.unl_http_api.specs.Session.{IsOpen, EndsSo, Session, HasOneSession, OnlyLastCloses, AreWhole, IsRegular, IsRegularSession}
use Rattle.unl_http_api.proofs.SessionLemmas.{Session_unique}

-- bytes that have a session have exactly one
pub has_one_of : (bytes : List ℕ) → (asked : List Request) × (end : End) × Session bytes asked end → HasOneSession bytes
has_one_of bytes (asked, end, session) = record {
  requests = asked;
  end = end;
  session = session;
  only = λ other ending it. Session_unique bytes asked other end ending session it;
}

open_longer : (n : ℕ) (q : Request) (qs : List Request) → q.close ≡ false → IsOpen n qs → IsOpen (suc n) (q ∷ qs)
open_longer n q qs stays x = record { few = omega (arith, x.few); open_all = (stays, x.open_all) }

-- if the limit is raised by one, a request that does not end the connection can be prepended
ends_longer : (n : ℕ) (q : Request) (qs : List Request) (rest : List ℕ) (e : End) → q.close ≡ false → EndsSo n qs rest e
    → EndsSo (suc n) (q ∷ qs) rest e
ends_longer n q qs rest Asked stays x = (
  record {
    before = q ∷ x.0.before;
    last = x.0.last;
    are = ap (λ (r : List Request). q ∷ r) x.0.are;
    open_before = (stays, x.0.open_before);
    closes = x.0.closes;
  },
  omega (arith, x.1),
)
ends_longer n q qs rest Limit stays x = ((stays, x.0), omega (arith, x.1))
ends_longer n q qs rest Closed stays x = (open_longer n q qs stays x.0, x.1)
ends_longer n q qs rest (Refused s) stays x = (open_longer n q qs stays x.0, x.1)
ends_longer n q qs rest CutOff stays x = (open_longer n q qs stays x.0, x.1, x.2)
ends_longer n q qs rest ReadFault stays x = absurd x
ends_longer n q qs rest WriteFault stays x = absurd x
ends_longer n q qs rest Memory stays x = absurd x

EndsRegularly : ℕ → List Request → Type 0
EndsRegularly n qs = (end : End) × IsRegular end × EndsSo n qs [] end

-- an empty list of requests ends by `Closed`, or by `Limit` if the limit is 0
none_left : (n : ℕ) → EndsRegularly n []
unfolding EndsRegularly
none_left zero = (Limit, tt, (tt, refl))
none_left (suc n) = (Closed, tt, (record { few = omega arith; open_all = tt }, refl))

more_left : (n : ℕ) (q : Request) (qs : List Request) → q.close ≡ false → EndsRegularly n qs → EndsRegularly (suc n) (q ∷ qs)
unfolding EndsRegularly
more_left n q qs stays (end, regular, ends) = (end, regular, ends_longer n q qs [] end stays ends)

-- a session of one request has a regular end, whether or not the request ends the connection
last_left : (n : ℕ) (q : Request) (close : Bool) → q.close ≡ close → EndsRegularly (suc n) (q ∷ [])
unfolding EndsRegularly
last_left n q true is = (
  Asked,
  tt,
  (record { before = []; last = q; are = refl; open_before = tt; closes = is }, omega arith),
)
last_left n q false is = more_left n q [] is (none_left n)

ends_regularly : (n : ℕ) (qs : List Request) → OnlyLastCloses qs → length qs ≤ n → EndsRegularly n qs
ends_regularly n [] order few = none_left n
ends_regularly zero (q ∷ qs) order few = absurd (omega (arith, few))
ends_regularly (suc n) (q ∷ []) order few = last_left n q q.close refl
ends_regularly (suc n) (q ∷ (p ∷ qs)) order few =
    more_left n q (p ∷ qs) order.0 (ends_regularly n (p ∷ qs) order.1 (omega (arith, few)))

-- at most 1,000 complete requests, of which only the last may end the connection, form a session that ends after the last of them
pub whole_session : (bytes : List ℕ) (asked : List Request) → AreWhole bytes asked → IsRegularSession bytes asked
unfolding EndsRegularly
whole_session bytes asked whole =
    let ends = ends_regularly 1000 asked whole.order whole.few in record {
      end = ends.0;
      regular = ends.1;
      session = record { rest = []; reads = whole.reads; ends = ends.2 };
    }
