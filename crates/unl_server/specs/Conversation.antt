-- A whole connection: its requests, the reply to each, and how it ended. `Step before request reply after` is the effect of one answer on
-- the handler's state, and `RunsOut before request after` is the effect of running out of memory at a request.
use Rattle.std.specs.Prelude.{◌≡◌, ◌≢◌, ◌≤◌, ℕ, ◌+◌, ◌⊎◌, ◌==◌, ◌||◌, List, [], ◌∷◌, ◌++◌, length, Option, Some, ⊤}
use Rattle.unl_base.specs.Faults.{Rose}
use Rattle.unl_base.specs.Streams.{Sends, SendsPrefix}
use Rattle.unl_http_api.specs.declared.end.End.{End}
use Rattle.unl_http_api.specs.declared.end.End.TheVariants.{Closed, Asked, Limit, Refused, CutOff, ReadFault, WriteFault, Memory}
use Rattle.unl_http_api.specs.declared.reply.Reply.{Reply}
use Rattle.unl_http_api.specs.declared.request.Request.{Request}
use Rattle.unl_http_api.specs.Reply.{reply_text, refusal_text}
use Rattle.unl_http_api.specs.Requests.{BeginsWith}
use Rattle.unl_http_api.specs.Session.{AreWhole, IsOpen, IsRegular, ReadsRequests, Session}
use Rattle.unl_server.specs.Exchange.{Unreplied, Sends500}
use Rattle.unl_server.specs.Links.{LinkView}

-- `text` is the replies to these requests, in order; each reply is one step of the handler's state. `count` requests were answered before.
-- A reply closes the connection if its request asks for that, or if it is the 1,000th on the connection.
abbrev pub AreAnswered : {S : Type 0} → (S → Request → Reply → S → Type 0) → ℕ → S → List Request → List ℕ → S → Type 0
AreAnswered {S} Step count before [] text after = (text ≡ []) × (after ≡ before)
AreAnswered {S} Step count before (q ∷ qs) text after =
    (reply : Reply) × (middle : S) × (more : List ℕ) × Step before q reply middle
    × (text ≡ reply_text reply (q.close || count == 999) ++ more)
    × AreAnswered Step (count + 1) middle qs more after

-- the bytes that are sent after the replies if the connection ends for this reason: a refusal, or nothing. The 500 reply that is sent at
-- the end `Memory` isn't included; see `GivesUp`.
abbrev pub farewell : End → List ℕ
farewell Closed = []
farewell Asked = []
farewell Limit = []
farewell (Refused status) = refusal_text status
farewell CutOff = []
farewell ReadFault = []
farewell WriteFault = []
farewell Memory = []

-- The bytes are a session (`Session`: some requests and an end) with this end. Each of its requests was answered, and all replies were
-- sent.
pub record Serves
    {S : Type 0} (Step : S → Request → Reply → S → Type 0) (bytes : List ℕ) (sent : Option (List ℕ)) (before : S)
    (end : End) (after : S) (sent_after : Option (List ℕ)) : Type 0 where
  pub requests : List Request
  pub text : List ℕ
  pub session : Session bytes requests end
  pub answered : AreAnswered Step 0 before requests text after
  pub sends : Sends sent (text ++ farewell end) sent_after

-- A read failed. The bytes read until then, which are all but the bytes left, form a session of their own: its requests were answered, and
-- its end is `Closed` or `CutOff`.
pub record ServesPrefix
    {S : Type 0} (Step : S → Request → Reply → S → Type 0) (bytes : List ℕ) (sent : Option (List ℕ)) (before after : S)
    (left_after sent_after : Option (List ℕ)) : Type 0 where
  pub read : List ℕ
  pub rest : List ℕ
  pub split : bytes ≡ read ++ rest
  pub left : left_after ≡ Some rest
  pub serves : Serves Step read sent before Closed after sent_after ⊎ Serves Step read sent before CutOff after sent_after

-- A write failed in a reply. These requests were read and answered, and only a prefix of the replies was sent. The last
-- request may be one that ends the connection.
pub record CutInReply
    {S : Type 0} (Step : S → Request → Reply → S → Type 0) (bytes : List ℕ) (sent : Option (List ℕ)) (before after : S)
    (sent_after : Option (List ℕ)) : Type 0 where
  pub earlier : List Request
  pub request : Request
  pub rest : List ℕ
  pub text : List ℕ
  pub reads : ReadsRequests bytes (earlier ++ request ∷ []) rest
  pub first : IsOpen 1000 earlier
  pub answered : AreAnswered Step 0 before (earlier ++ request ∷ []) text after
  pub sends : SendsPrefix sent text sent_after

-- a write failed in a refusal: the session ends with the refusal, and only a prefix of the replies and the refusal was sent
pub record CutInRefusal
    {S : Type 0} (Step : S → Request → Reply → S → Type 0) (bytes : List ℕ) (sent : Option (List ℕ)) (before after : S)
    (sent_after : Option (List ℕ)) : Type 0 where
  pub requests : List Request
  pub status : ℕ
  pub text : List ℕ
  pub session : Session bytes requests (Refused status)
  pub answered : AreAnswered Step 0 before requests text after
  pub sends : SendsPrefix sent (text ++ refusal_text status) sent_after

-- the bytes begin with a request, and memory ran out while the handler answered it (`RunsOut`) or after it had answered (`Step`)
pub record IsUnreplied
    {S : Type 0} (Step : S → Request → Reply → S → Type 0) (RunsOut : S → Request → S → Type 0) (bytes : List ℕ)
    (before after : S) : Type 0 where
  pub request : Request
  pub rest : List ℕ
  pub begins : BeginsWith bytes request rest
  pub unreplied : Unreplied Step RunsOut before request after

-- Memory ran out after these requests were read and answered, and then the 500 reply was sent, as far as the link allowed.
-- One more request may have been read; its reply was not sent.
pub record GivesUp
    {S : Type 0} (Step : S → Request → Reply → S → Type 0) (RunsOut : S → Request → S → Type 0) (bytes : List ℕ)
    (sent : Option (List ℕ)) (faults : ℕ) (before after : S) (sent_after : Option (List ℕ)) (faults_after : ℕ) : Type 0 where
  pub requests : List Request
  pub rest : List ℕ
  pub reads : ReadsRequests bytes requests rest
  pub first : IsOpen 1000 requests
  pub text : List ℕ
  pub replied : S
  pub answered : AreAnswered Step 0 before requests text replied
  pub next : (after ≡ replied) ⊎ IsUnreplied Step RunsOut rest replied after
  pub sent_before : Option (List ℕ)
  pub sends : Sends sent text sent_before
  pub sent_500 : Sends500 sent_before faults sent_after faults_after

-- What was answered and sent, for each end of a connection. For the end `Memory` see `GivesUp`.
abbrev pub Concludes :
    {S : Type 0} → (S → Request → Reply → S → Type 0) → List ℕ → Option (List ℕ) → S → End → S → Option (List ℕ)
    → Option (List ℕ) → Type 0
Concludes Step bytes sent before Closed after left_after sent_after = Serves Step bytes sent before Closed after sent_after
Concludes Step bytes sent before Asked after left_after sent_after = Serves Step bytes sent before Asked after sent_after
Concludes Step bytes sent before Limit after left_after sent_after = Serves Step bytes sent before Limit after sent_after
Concludes Step bytes sent before (Refused status) after left_after sent_after =
    Serves Step bytes sent before (Refused status) after sent_after
Concludes Step bytes sent before CutOff after left_after sent_after = Serves Step bytes sent before CutOff after sent_after
Concludes Step bytes sent before ReadFault after left_after sent_after =
    ServesPrefix Step bytes sent before after left_after sent_after
Concludes Step bytes sent before WriteFault after left_after sent_after =
    CutInReply Step bytes sent before after sent_after ⊎ CutInRefusal Step bytes sent before after sent_after
Concludes Step bytes sent before Memory after left_after sent_after = ⊤

-- each of these requests was answered, and the replies were sent, followed by the bytes for this end (`farewell`)
pub record AnswersAll
    {S : Type 0} (Step : S → Request → Reply → S → Type 0) (requests : List Request) (sent : Option (List ℕ)) (before : S)
    (end : End) (after : S) (sent_after : Option (List ℕ)) : Type 0 where
  pub text : List ℕ
  pub answered : AreAnswered Step 0 before requests text after
  pub sends : Sends sent (text ++ farewell end) sent_after

-- `count` requests were answered one after another, whether or not the bytes are observable. If memory ran out, one more
-- may have been read, and it was not answered.
pub record Reaches
    {S : Type 0} (Step : S → Request → Reply → S → Type 0) (RunsOut : S → Request → S → Type 0) (before : S) (end : End)
    (after : S) (count : ℕ) : Type 0 where
  pub requests : List Request
  pub text : List ℕ
  pub reached : S
  pub answered : AreAnswered Step 0 before requests text reached
  pub counted : length requests ≡ count
  pub next : (after ≡ reached) ⊎ ((end ≡ Memory) × (request : Request) × RunsOut reached request after)

-- A conversation on a link, from beginning to end, with `count` answered requests.
pub record Converses
    {S : Type 0} (Step : S → Request → Reply → S → Type 0) (RunsOut : S → Request → S → Type 0) (link : LinkView) (before : S)
    (end : End) (after : S) (count : ℕ) (link_after : LinkView) : Type 0 where
  -- if the bytes to come are observable, what was answered and sent agrees with the end
  pub session : (bytes : List ℕ) → link.left ≡ Some bytes
      → Concludes Step bytes link.sent before end after link_after.left link_after.sent
  -- if no call of the link failed and memory didn't run out, the end is the session's, and each request was answered
  pub complete : (bytes : List ℕ) (asked : List Request) (ending : End) → link.left ≡ Some bytes → Session bytes asked ending
      → ¬ (Rose link.faults link_after.faults) → end ≢ Memory
      → (end ≡ ending) × AnswersAll Step asked link.sent before ending after link_after.sent
  -- in particular, if the bytes are complete requests, of which only the last may end the connection, exactly their replies are sent
  pub whole : (bytes : List ℕ) (asked : List Request) → link.left ≡ Some bytes → AreWhole bytes asked
      → ¬ (Rose link.faults link_after.faults) → end ≢ Memory
      → IsRegular end × AnswersAll Step asked link.sent before end after link_after.sent
  -- if memory ran out, a 500 reply is sent after complete replies, as far as the link allows
  pub memory : (bytes : List ℕ) → link.left ≡ Some bytes → end ≡ Memory
      → GivesUp Step RunsOut bytes link.sent link.faults before after link_after.sent link_after.faults
  -- in every case, `count` requests were answered one after another
  pub answered : Reaches Step RunsOut before end after count
  -- the link's fault count never falls, and a fault is reported only if the count rose
  pub later : link.faults ≤ link_after.faults
  pub read_cause : end ≡ ReadFault → Rose link.faults link_after.faults
  pub write_cause : end ≡ WriteFault → Rose link.faults link_after.faults
