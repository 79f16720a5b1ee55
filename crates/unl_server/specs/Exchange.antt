-- One turn of a connection: a request and its reply, or the end of the connection.
use Rattle.std.specs.Prelude.{◌≡◌, ◌≢◌, ℕ, ◌⊎◌, ◌||◌, Bool, true, false, List, [], ◌++◌, Option, Some, None, ⊤}
use Rattle.unl_base.specs.Faults.{Rose}
use Rattle.unl_base.specs.Streams.{Takes, HasEnded, Sends, SendsPrefix}
use Rattle.unl_http_api.specs.declared.end.End.{End}
use Rattle.unl_http_api.specs.declared.end.End.TheVariants.{Closed, Asked, Limit, Refused, CutOff, ReadFault, WriteFault, Memory}
use Rattle.unl_http_api.specs.declared.reply.Reply.{Reply}
use Rattle.unl_http_api.specs.declared.request.Request.{Request}
use Rattle.unl_http_api.specs.Reply.{reply_text, refusal_text}
use Rattle.unl_http_api.specs.Requests.{BeginsWith, IsBad, IsUnfinished}

-- The handler answered the request, and the reply was sent: in full if `Sent` is `Sends`, in part if it is `SendsPrefix`. `Step before
-- request reply after` says that the reply answers the request, and that the handler's state changes from `before` to `after`. `close`
-- says whether the reply closes the connection.
pub record Replies
    {S : Type 0} (Sent : Option (List ℕ) → List ℕ → Option (List ℕ) → Type 0)
    (Step : S → Request → Reply → S → Type 0) (request : Request) (close : Bool) (before after : S)
    (sent sent_after : Option (List ℕ)) : Type 0 where
  pub reply : Reply
  pub steps : Step before request reply after
  pub sends : Sent sent (reply_text reply close) sent_after

-- The reply to the request was not sent in full, since memory ran out: while the handler answered the request (`RunsOut`), or after it
-- had answered (`Step`).
abbrev pub Unreplied :
    {S : Type 0} → (S → Request → Reply → S → Type 0) → (S → Request → S → Type 0) → S → Request → S → Type 0
Unreplied Step RunsOut before request after =
    RunsOut before request after ⊎ ((reply : Reply) × Step before request reply after)

-- the state of a connection: the bytes received and not consumed, the bytes to come, the handler's state, and the bytes
-- sent
pub record ConnectionState (S : Type 0) : Type 0 where
  pub held : List ℕ
  pub left : Option (List ℕ)
  pub state : S
  pub sent : Option (List ℕ)

-- A request was read, and its reply was sent, in full or in part as `Sent` says. `close` says whether the request closes the connection,
-- and `last` whether it is the last one that the connection may serve. If either is true, the reply closes the connection.
pub record Exchanges
    {S : Type 0} (Sent : Option (List ℕ) → List ℕ → Option (List ℕ) → Type 0)
    (Step : S → Request → Reply → S → Type 0) (last close : Bool) (old new : ConnectionState S) : Type 0 where
  pub request : Request
  pub read : List ℕ
  pub took : Takes old.left read new.left
  pub begins : BeginsWith (old.held ++ read) request new.held
  pub closes : request.close ≡ close
  pub replies : Replies Sent Step request (request.close || last) old.state new.state old.sent new.sent

-- Bytes for which `P` holds were found, and they end the connection. The handler's state is unchanged, and only `farewell` was sent, in
-- full or in part as `Sent` says.
pub record Stops
    {S : Type 0} (Sent : Option (List ℕ) → List ℕ → Option (List ℕ) → Type 0)
    (P : List ℕ → Option (List ℕ) → Type 0) (farewell : List ℕ) (old new : ConnectionState S) : Type 0 where
  pub read : List ℕ
  pub took : Takes old.left read new.left
  pub found : P (old.held ++ read) new.left
  pub same : new.state ≡ old.state
  pub sends : Sent old.sent farewell new.sent

-- a request was read, and its reply was not sent in full, since memory ran out
pub record Breaks
    {S : Type 0} (Step : S → Request → Reply → S → Type 0) (RunsOut : S → Request → S → Type 0)
    (old new : ConnectionState S) : Type 0 where
  pub request : Request
  pub read : List ℕ
  pub took : Takes old.left read new.left
  pub begins : BeginsWith (old.held ++ read) request new.held
  pub unreplied : Unreplied Step RunsOut old.state request new.state

-- The effect of one turn. `None`: the connection stays open after a request that does not close it. `Some end`: the connection ended.
-- If memory ran out, the handler's state is unchanged, or a request was read whose reply was not sent in full.
abbrev pub ServesTurn :
    {S : Type 0} → (S → Request → Reply → S → Type 0) → (S → Request → S → Type 0) → Bool → ConnectionState S → Option End
    → ConnectionState S → Type 0
ServesTurn Step RunsOut last old None new = Exchanges Sends Step last false old new
ServesTurn Step RunsOut last old (Some Asked) new = Exchanges Sends Step last true old new
ServesTurn Step RunsOut last old (Some Closed) new = Stops Sends (λ bytes left. (bytes ≡ []) × HasEnded left) [] old new
ServesTurn Step RunsOut last old (Some CutOff) new =
    Stops Sends (λ bytes left. (bytes ≢ []) × IsUnfinished bytes × HasEnded left) [] old new
ServesTurn Step RunsOut last old (Some (Refused status)) new =
    Stops Sends (λ bytes left. IsBad bytes status) (refusal_text status) old new
ServesTurn Step RunsOut last old (Some Limit) new = ⊥
ServesTurn Step RunsOut last old (Some ReadFault) new = Stops Sends (λ bytes left. IsUnfinished bytes) [] old new
ServesTurn Step RunsOut last old (Some WriteFault) new =
    ((close : Bool) × Exchanges SendsPrefix Step last close old new)
    ⊎ ((status : ℕ) × Stops SendsPrefix (λ bytes left. IsBad bytes status) (refusal_text status) old new)
ServesTurn Step RunsOut last old (Some Memory) new = (new.state ≡ old.state) ⊎ Breaks Step RunsOut old new

-- The effect of sending a text: `None` if all of it was sent, otherwise the end of the connection. Nothing is said here of what was sent if
-- memory ran out; see `Sends500`.
abbrev pub Writes : List ℕ → Option (List ℕ) → Option End → Option (List ℕ) → Type 0
Writes text sent None sent_after = Sends sent text sent_after
Writes text sent (Some WriteFault) sent_after = SendsPrefix sent text sent_after
Writes text sent (Some Memory) sent_after = ⊤
Writes text sent (Some end) sent_after = ⊥

-- the effect of answering a request and sending the reply; `None` if the reply was sent in full, otherwise the end of the connection
abbrev pub Replied :
    {S : Type 0} → (S → Request → Reply → S → Type 0) → (S → Request → S → Type 0) → Request → Bool → S → S
    → Option (List ℕ) → Option End → Option (List ℕ) → Type 0
Replied Step RunsOut request close before after sent None sent_after =
    Replies Sends Step request close before after sent sent_after
Replied Step RunsOut request close before after sent (Some WriteFault) sent_after =
    Replies SendsPrefix Step request close before after sent sent_after
Replied Step RunsOut request close before after sent (Some Memory) sent_after = Unreplied Step RunsOut before request after
Replied Step RunsOut request close before after sent (Some end) sent_after = ⊥

-- The effect of refusing bytes with this status: the refusal was sent, or a prefix of it if a write failed. Nothing is said here of what
-- was sent if memory ran out; see `Sends500`.
abbrev pub SendsRefusal : ℕ → Option (List ℕ) → End → Option (List ℕ) → Type 0
SendsRefusal status sent (Refused reported) sent_after = (reported ≡ status) × Sends sent (refusal_text status) sent_after
SendsRefusal status sent WriteFault sent_after = SendsPrefix sent (refusal_text status) sent_after
SendsRefusal status sent Memory sent_after = ⊤
SendsRefusal status sent end sent_after = ⊥

-- after memory ran out, the 500 reply was sent in full, or a prefix of it and the link's fault count rose
pub record Sends500 (sent : Option (List ℕ)) (faults : ℕ) (sent_after : Option (List ℕ)) (faults_after : ℕ) : Type 0 where
  pub part : List ℕ
  pub after : List ℕ
  pub split : refusal_text 500 ≡ part ++ after
  pub sends : Sends sent part sent_after
  pub whole : (after ≡ []) ⊎ Rose faults faults_after
