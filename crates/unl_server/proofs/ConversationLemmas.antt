-- Lemmas: a conversation grows by one request and its reply, and ends as the session of its bytes does.
use Rattle.std.proofs.Common.{◌≡◌, ℕ, ◌+◌, ◌<◌, Bool, true, ◌||◌, List, [], ◌∷◌, ◌++◌, length, refl, sym, ap, ◌∙◌, subst, arith, append_assoc, append-nil, Option, Some, None, ◌⊎◌, inl, inr}
use Rattle.std.specs.Prelude.{◌==◌}
use Rattle.std.proofs.lemmas.Bool.Decides.{nat_tests}
use Rattle.unl_base.specs.Streams.{Takes, HasEnded, Sends, SendsPrefix}
use Rattle.unl_http_api.specs.declared.end.End.{End}
use Rattle.unl_http_api.specs.declared.end.End.TheVariants.{Closed, Asked, Limit, Refused, CutOff, ReadFault, WriteFault, Memory}
use Rattle.unl_http_api.specs.declared.reply.Reply.{Reply}
use Rattle.unl_http_api.specs.declared.request.Request.{Request}
use Rattle.unl_http_api.specs.Reply.{reply_text, refusal_text}
use Rattle.unl_http_api.specs.Requests.{IsBad, IsUnfinished}
use Rattle.unl_http_api.specs.Session.{ReadsRequests, StayOpen, Session}
use Rattle.unl_base.proofs.Sending.{Sends_nothing, Sends_more}
use Rattle.unl_http_api.proofs.SessionLemmas.{Reads_more, Reads-append, Session-asked, Session-limit, Session-refused, Session-closed, Session-cut_off}
use Rattle.unl_server.specs.Conversation.{AreAnswered, farewell, Serves, CutInReply, CutInRefusal, Concludes}
use Rattle.unl_server.specs.Exchange.{ConnectionState, Exchanges, Stops, ServesTurn}
use Rattle.unl_server.proofs.ReceiveLemmas.{Takes_nothing, Takes_more}

-- ---- the text of the replies

-- `AreAnswered` still holds after one more request and its reply
pub Answered_more : {S : Type 0} (Step : S → Request → Reply → S → Type 0) (count : ℕ) (before middle after : S)
    (qs : List Request) (text : List ℕ) (q : Request) (reply : Reply) (last : Bool)
    → AreAnswered Step count before qs text middle → Step middle q reply after → last ≡ (count + length qs == 999)
    → AreAnswered Step count before (qs ++ q ∷ []) (text ++ reply_text reply (q.close || last)) after
Answered_more {S} Step count before middle after [] text q reply last answered step is = (
  reply,
  after,
  [],
  subst (λ (s : S). Step s q reply after) answered.1 step,
  ap (λ (t : List ℕ). t ++ reply_text reply (q.close || last)) answered.0
      ∙ sym (append-nil (reply_text reply (q.close || last)))
      ∙ ap (λ (l : Bool). reply_text reply (q.close || l) ++ []) (is ∙ ap (λ (n : ℕ). n == 999) (omega arith)),
  (refl, refl),
)
Answered_more {S} Step count before middle after (p ∷ qs) text q reply last (first, next, more, steps, split, rest) step is = (
  first,
  next,
  more ++ reply_text reply (q.close || last),
  steps,
  ap (λ (t : List ℕ). t ++ reply_text reply (q.close || last)) split
      ∙ append_assoc (reply_text first (p.close || count == 999)) more (reply_text reply (q.close || last)),
  Answered_more Step (count + 1) next middle after qs more q reply last rest step
      (is ∙ ap (λ (n : ℕ). n == 999) (omega arith)),
)

-- ---- a conversation so far

-- these requests were read and answered
pub record Talk {S : Type 0} (Step : S → Request → Reply → S → Type 0) (start now : ConnectionState S) (requests : List Request) : Type 0 where
  pub read : List ℕ
  pub took : Takes start.left read now.left
  pub reads : ReadsRequests read requests now.held
  pub text : List ℕ
  pub answered : AreAnswered Step 0 start.state requests text now.state
  pub sends : Sends start.sent text now.sent

-- one more request was read
turn_reads : {S : Type 0} (Sent : Option (List ℕ) → List ℕ → Option (List ℕ) → Type 0) (Step : S → Request → Reply → S → Type 0)
    (start now new : ConnectionState S) (requests : List Request) (last close : Bool) (talk : Talk Step start now requests)
    → (turn : Exchanges Sent Step last close now new)
    → ReadsRequests (talk.read ++ turn.read) (requests ++ turn.request ∷ []) new.held
turn_reads Sent Step start now new requests last close talk turn =
    Reads_more (talk.read ++ turn.read) requests turn.request (now.held ++ turn.read) new.held
    (Reads-append talk.read requests now.held turn.read talk.reads) turn.begins

-- all requests, including the one that this turn read, were answered
turn_answered : {S : Type 0} (Sent : Option (List ℕ) → List ℕ → Option (List ℕ) → Type 0)
    (Step : S → Request → Reply → S → Type 0) (start now new : ConnectionState S) (requests : List Request) (last close : Bool)
    (talk : Talk Step start now requests) → last ≡ (length requests == 999) → (turn : Exchanges Sent Step last close now new)
    → AreAnswered Step 0 start.state (requests ++ turn.request ∷ [])
    (talk.text ++ reply_text turn.replies.reply (turn.request.close || last)) new.state
turn_answered Sent Step start now new requests last close talk is turn =
    Answered_more Step 0 start.state now.state new.state requests talk.text turn.request turn.replies.reply last
    talk.answered turn.replies.steps (is ∙ ap (λ (n : ℕ). n == 999) (omega arith))

-- one more request was read and answered
pub Talk_more : {S : Type 0} (Step : S → Request → Reply → S → Type 0) (start now new : ConnectionState S)
    (requests : List Request) (last close : Bool) → Talk Step start now requests → last ≡ (length requests == 999)
    → (turn : Exchanges Sends Step last close now new) → Talk Step start new (requests ++ turn.request ∷ [])
Talk_more Step start now new requests last close talk is turn = record {
  read = talk.read ++ turn.read;
  took = Takes_more start.left now.left new.left talk.read turn.read talk.took turn.took;
  reads = turn_reads Sends Step start now new requests last close talk turn;
  text = talk.text ++ reply_text turn.replies.reply (turn.request.close || last);
  answered = turn_answered Sends Step start now new requests last close talk is turn;
  sends = Sends_more start.sent now.sent new.sent talk.text
      (reply_text turn.replies.reply (turn.request.close || last)) talk.sends turn.replies.sends;
}

-- the bytes read from observable bytes are a prefix of them
pub Takes_known : (bytes read : List ℕ) (left : Option (List ℕ)) → Takes (Some bytes) read left
    → (rest : List ℕ) × (left ≡ Some rest) × (bytes ≡ read ++ rest)
Takes_known bytes read None took = absurd (cc)
Takes_known bytes read (Some rest) took = (rest, refl, cc)

-- ---- how it ends

-- at the beginning, no bytes are held, and no requests were read or answered
pub Talk_begin : {S : Type 0} (Step : S → Request → Reply → S → Type 0) (left sent : Option (List ℕ)) (state : S)
    → Talk Step (record { held = []; left = left; state = state; sent = sent })
    (record { held = []; left = left; state = state; sent = sent }) []
Talk_begin Step left sent state = record {
  read = [];
  took = Takes_nothing left;
  reads = refl;
  text = [];
  answered = (refl, refl);
  sends = Sends_nothing sent;
}

-- a conversation with these requests and this end serves the session of the bytes
concluded : {S : Type 0} (Step : S → Request → Reply → S → Type 0) (start now : ConnectionState S) (requests : List Request)
    (bytes : List ℕ) (end : End) → Talk Step start now requests → Session bytes requests end
    → (sent_after : Option (List ℕ)) → Sends now.sent (farewell end) sent_after
    → Serves Step bytes start.sent start.state end now.state sent_after
concluded Step start now requests bytes end talk session sent_after goodbye = record {
  requests = requests;
  text = talk.text;
  session = session;
  answered = talk.answered;
  sends = Sends_more start.sent now.sent sent_after talk.text (farewell end) talk.sends goodbye;
}

-- if the last request asked to close the connection, a session with the end `Asked` was served
concludes_asked : {S : Type 0} (Step : S → Request → Reply → S → Type 0) (start now new : ConnectionState S)
    (requests : List Request) (last : Bool) (bytes : List ℕ) → Talk Step start now requests
    → last ≡ (length requests == 999) → StayOpen requests → length requests < 1000 → start.left ≡ Some bytes
    → Exchanges Sends Step last true now new → Serves Step bytes start.sent start.state Asked new.state new.sent
concludes_asked Step start now new requests last bytes talk is stay few known turn =
    let more = Talk_more Step start now new requests last true talk is turn in
    let prefix = Takes_known bytes more.read new.left (subst (λ (l : Option (List ℕ)). Takes l more.read new.left) known more.took) in
    concluded Step start new (requests ++ turn.request ∷ []) bytes Asked more
    (subst (λ (b : List ℕ). Session b (requests ++ turn.request ∷ []) Asked) (sym prefix.2)
    (Session-asked more.read prefix.0 requests turn.request new.held more.reads stay turn.closes few))
    new.sent (Sends_nothing new.sent)

-- if the limit of 1,000 requests was reached, a session with the end `Limit` was served
pub concludes_limit : {S : Type 0} (Step : S → Request → Reply → S → Type 0) (start now : ConnectionState S)
    (requests : List Request) (bytes : List ℕ) → Talk Step start now requests → StayOpen requests
    → length requests ≡ 1000 → start.left ≡ Some bytes → Serves Step bytes start.sent start.state Limit now.state now.sent
concludes_limit Step start now requests bytes talk stay full known =
    let prefix = Takes_known bytes talk.read now.left (subst (λ (l : Option (List ℕ)). Takes l talk.read now.left) known talk.took) in
    concluded Step start now requests bytes Limit talk
    (subst (λ (b : List ℕ). Session b requests Limit) (sym prefix.2)
    (Session-limit talk.read prefix.0 requests now.held talk.reads stay full))
    now.sent (Sends_nothing now.sent)

-- the bytes that were read until the connection stopped are a prefix of all bytes, and begin with the requests
stopped : {S : Type 0} (Sent : Option (List ℕ) → List ℕ → Option (List ℕ) → Type 0)
    (P : List ℕ → Option (List ℕ) → Type 0) (goodbye : List ℕ) (Step : S → Request → Reply → S → Type 0)
    (start now new : ConnectionState S) (requests : List Request) (bytes : List ℕ) → (talk : Talk Step start now requests)
    → (stop : Stops Sent P goodbye now new) → start.left ≡ Some bytes
    → (rest : List ℕ) × (new.left ≡ Some rest) × (bytes ≡ (talk.read ++ stop.read) ++ rest)
    × ReadsRequests (talk.read ++ stop.read) requests (now.held ++ stop.read)
stopped Sent P goodbye Step start now new requests bytes talk stop known =
    let took = Takes_more start.left now.left new.left talk.read stop.read talk.took stop.took in
    let prefix = Takes_known bytes (talk.read ++ stop.read) new.left
    (subst (λ (l : Option (List ℕ)). Takes l (talk.read ++ stop.read) new.left) known took) in
    (prefix.0, prefix.1, prefix.2, Reads-append talk.read requests now.held stop.read talk.reads)

-- if the input has ended, all bytes were read
all_read : (bytes read rest : List ℕ) (left : Option (List ℕ)) → left ≡ Some rest → bytes ≡ read ++ rest → HasEnded left
    → read ≡ bytes
all_read bytes read rest left known split ended =
    let empty : rest ≡ [] = subst HasEnded known ended in
    sym (split ∙ ap (λ (r : List ℕ). read ++ r) empty ∙ append-nil read)

-- if the connection stopped and the bytes are a session with these requests and this end, that session was served
stops_serves : {S : Type 0} (P : List ℕ → Option (List ℕ) → Type 0) (goodbye : List ℕ)
    (Step : S → Request → Reply → S → Type 0) (start now new : ConnectionState S) (requests : List Request) (bytes : List ℕ)
    (end : End) → Talk Step start now requests → Stops Sends P goodbye now new → goodbye ≡ farewell end
    → Session bytes requests end → Serves Step bytes start.sent start.state end new.state new.sent
stops_serves {S} P goodbye Step start now new requests bytes end talk stop is session =
    subst (λ (s : S). Serves Step bytes start.sent start.state end s new.sent) (sym stop.same)
    (concluded Step start now requests bytes end talk session new.sent
    (subst (λ (t : List ℕ). Sends now.sent t new.sent) is stop.sends))

-- unfinished bytes end as closed or as cut off
either_end : {P Q : Type 0} (read : List ℕ) (requests : List Request) (rest : List ℕ) → ReadsRequests read requests rest
    → StayOpen requests → length requests < 1000 → IsUnfinished rest → (Session read requests Closed → P)
    → (Session read requests CutOff → Q) → P ⊎ Q
either_end read requests [] reads stay few unfinished closed cut_off =
    inl (closed (Session-closed read requests [] reads stay few refl))
either_end read requests (b ∷ rest) reads stay few unfinished closed cut_off =
    inr (cut_off (Session-cut_off read requests (b ∷ rest) reads stay few (λ h. cc) unfinished))

-- after a text, a prefix of another was sent
SendsPrefix_after : (old mid new : Option (List ℕ)) (a b : List ℕ) → Sends old a mid → SendsPrefix mid b new
    → SendsPrefix old (a ++ b) new
SendsPrefix_after old mid new a b sends prefix = record {
  part = a ++ prefix.part;
  after = prefix.after;
  split = ap (λ (t : List ℕ). a ++ t) prefix.split ∙ sym (append_assoc a prefix.part prefix.after);
  sends = Sends_more old mid new a prefix.part sends prefix.sends;
}

-- a write failed in the middle of a reply
cut_in_reply : {S : Type 0} (Step : S → Request → Reply → S → Type 0) (start now new : ConnectionState S)
    (requests : List Request) (last close : Bool) (bytes : List ℕ) → Talk Step start now requests
    → last ≡ (length requests == 999) → StayOpen requests → length requests < 1000 → start.left ≡ Some bytes
    → Exchanges SendsPrefix Step last close now new → CutInReply Step bytes start.sent start.state new.state new.sent
cut_in_reply Step start now new requests last close bytes talk is stay few known turn =
    let took = Takes_more start.left now.left new.left talk.read turn.read talk.took turn.took in
    let prefix = Takes_known bytes (talk.read ++ turn.read) new.left
    (subst (λ (l : Option (List ℕ)). Takes l (talk.read ++ turn.read) new.left) known took) in
    let reads = turn_reads SendsPrefix Step start now new requests last close talk turn in record {
      earlier = requests;
      request = turn.request;
      rest = new.held ++ prefix.0;
      text = talk.text ++ reply_text turn.replies.reply (turn.request.close || last);
      reads = subst (λ (b : List ℕ). ReadsRequests b (requests ++ turn.request ∷ []) (new.held ++ prefix.0)) (sym prefix.2)
          (Reads-append (talk.read ++ turn.read) (requests ++ turn.request ∷ []) new.held prefix.0 reads);
      first = record { few = few; open_all = stay };
      answered = turn_answered SendsPrefix Step start now new requests last close talk is turn;
      sends = SendsPrefix_after start.sent now.sent new.sent talk.text
          (reply_text turn.replies.reply (turn.request.close || last)) talk.sends turn.replies.sends;
    }

-- a write failed in the middle of a refusal
cut_in_refusal : {S : Type 0} (Step : S → Request → Reply → S → Type 0) (start now new : ConnectionState S)
    (requests : List Request) (bytes : List ℕ) (status : ℕ) → Talk Step start now requests → StayOpen requests
    → length requests < 1000 → start.left ≡ Some bytes
    → Stops SendsPrefix (λ bytes left. IsBad bytes status) (refusal_text status) now new
    → CutInRefusal Step bytes start.sent start.state new.state new.sent
cut_in_refusal {S} Step start now new requests bytes status talk stay few known stop =
    let prefix = stopped SendsPrefix _ (refusal_text status) Step start now new requests bytes talk stop known in record {
      requests = requests;
      status = status;
      text = talk.text;
      session = subst (λ (b : List ℕ). Session b requests (Refused status)) (sym prefix.2)
          (Session-refused (talk.read ++ stop.read) prefix.0 requests (now.held ++ stop.read) status prefix.3 stay few stop.found);
      answered = subst (λ (s : S). AreAnswered Step 0 start.state requests talk.text s) (sym stop.same) talk.answered;
      sends = SendsPrefix_after start.sent now.sent new.sent talk.text (refusal_text status) talk.sends stop.sends;
    }

-- whatever the end of the connection, what was answered and sent agrees with it (`Concludes`)
pub concludes : {S : Type 0} (Step : S → Request → Reply → S → Type 0) (RunsOut : S → Request → S → Type 0)
    (start now new : ConnectionState S) (requests : List Request) (last : Bool) (bytes : List ℕ) (end : End)
    → Talk Step start now requests → last ≡ (length requests == 999) → StayOpen requests → length requests < 1000
    → start.left ≡ Some bytes → ServesTurn Step RunsOut last now (Some end) new
    → Concludes Step bytes start.sent start.state end new.state new.left new.sent
concludes Step RunsOut start now new requests last bytes Asked talk is stay few known turn =
    concludes_asked Step start now new requests last bytes talk is stay few known turn
concludes Step RunsOut start now new requests last bytes Closed talk is stay few known stop =
    let prefix = stopped Sends _ [] Step start now new requests bytes talk stop known in
    let all = all_read bytes (talk.read ++ stop.read) prefix.0 new.left prefix.1 prefix.2 stop.found.1 in
    stops_serves _ [] Step start now new requests bytes Closed talk stop refl
    (subst (λ (b : List ℕ). Session b requests Closed) all
    (Session-closed (talk.read ++ stop.read) requests (now.held ++ stop.read) prefix.3 stay few stop.found.0))
concludes Step RunsOut start now new requests last bytes CutOff talk is stay few known stop =
    let prefix = stopped Sends _ [] Step start now new requests bytes talk stop known in
    let all = all_read bytes (talk.read ++ stop.read) prefix.0 new.left prefix.1 prefix.2 stop.found.2 in
    stops_serves _ [] Step start now new requests bytes CutOff talk stop refl
    (subst (λ (b : List ℕ). Session b requests CutOff) all
    (Session-cut_off (talk.read ++ stop.read) requests (now.held ++ stop.read) prefix.3 stay few stop.found.0 stop.found.1))
concludes Step RunsOut start now new requests last bytes (Refused status) talk is stay few known stop =
    let prefix = stopped Sends _ (refusal_text status) Step start now new requests bytes talk stop known in
    stops_serves _ (refusal_text status) Step start now new requests bytes (Refused status) talk stop refl
    (subst (λ (b : List ℕ). Session b requests (Refused status)) (sym prefix.2)
    (Session-refused (talk.read ++ stop.read) prefix.0 requests (now.held ++ stop.read) status prefix.3 stay few stop.found))
concludes Step RunsOut start now new requests last bytes Limit talk is stay few known turn = absurd turn
concludes Step RunsOut start now new requests last bytes ReadFault talk is stay few known stop =
    let prefix = stopped Sends _ [] Step start now new requests bytes talk stop known in record {
      read = talk.read ++ stop.read;
      rest = prefix.0;
      split = prefix.2;
      left = prefix.1;
      serves = either_end (talk.read ++ stop.read) requests (now.held ++ stop.read) prefix.3 stay few stop.found
          (λ session. stops_serves _ [] Step start now new requests (talk.read ++ stop.read) Closed talk stop refl session)
          (λ session. stops_serves _ [] Step start now new requests (talk.read ++ stop.read) CutOff talk stop refl session);
    }
concludes Step RunsOut start now new requests last bytes WriteFault talk is stay few known (inl (close, turn)) =
    inl (cut_in_reply Step start now new requests last close bytes talk is stay few known turn)
concludes Step RunsOut start now new requests last bytes WriteFault talk is stay few known (inr (status, stop)) =
    inr (cut_in_refusal Step start now new requests bytes status talk stay few known stop)
concludes Step RunsOut start now new requests last bytes Memory talk is stay few known turn = tt

-- the 1,000th turn comes after 999 requests
pub last_turn : (n m : ℕ) → m ≡ n → (n + 1 == 1000) ≡ (m == 999)
last_turn n m is = grind (arith, nat_tests)
