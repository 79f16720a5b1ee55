-- The batches of changes that the input lines of a replay deliver to environments, and a statement about the asks (requests) among
-- these lines.
use Rattle.std.specs.Prelude.{◌≡◌, ⊤, ℕ, ◌+◌, List, [], ◌∷◌, codes, IfOk, Ok, Err, ok_or, if◌then◌else◌}
use Rattle.std.specs.Str.{bytes_eq}
use Rattle.serde_json.specs.Data.{Data}
use Rattle.unl_core.specs.Histories.{AllRepresented, AreLines, Histories, ShowsRevisions}
use Rattle.unl_core.specs.DeskStates.{DeskState}
use Rattle.unl_delta.specs.declared.batch.Batch.{Batch}
use Rattle.unl_delta.specs.History.{IsSent}
use Rattle.unl_documents.specs.declared.fault.BadDocument.TheVariants.{NotJson, WrongKind}
use Rattle.unl_documents.specs.declared.field.Field.TheVariants as field
use Rattle.unl_documents.specs.Kinds.{any_text, required}
use Rattle.unl_documents.specs.Results.{object_in}
use Rattle.unl_input.specs.Lines.{lines}
use Rattle.unl_input.specs.Taken.{take_line}
use Rattle.unl_replay.specs.declared.ask.LineAsk.{LineAsk}
use Rattle.unl_replay.specs.declared.replay_state.ReplayState.{ReplayState}
use Rattle.unl_replay.specs.declared.refusal.Refusal.TheVariants.{Document}
use Rattle.unl_replay.specs.Forms.{ask_of, batch_in, feed_in}
use Rattle.unl_replay.specs.Refusals.{LineReading, and_then, documented}
use Rattle.unl_replay.specs.Replay.{answer_read, environment_in, line_answer, number_in, empty_replay, put_ask}

-- ---- the delivery of a line

-- a batch for an environment
pub record Delivery : Type 0 where
  pub environment : List ℕ
  pub batch : Batch

-- a delivery to this environment of the batch that was read, or the refusal if reading it failed
abbrev pub for_environment : List ℕ → LineReading Batch → LineReading Delivery
for_environment environment reading = and_then reading (λ batch. Ok (record { environment = environment; batch = batch }))

-- the delivery of a line with a batch; a batch without the key `after` is read as if `after` were the number of the environment's version
abbrev pub batch_brought : DeskState → Data → LineReading Delivery
batch_brought d line = and_then (environment_in d line) (λ environment.
    for_environment environment (batch_in (number_in environment d.board) line))

-- the delivery of a line with a feed, whose batch is one hydration (an event with the whole state)
abbrev pub feed_brought : DeskState → Data → LineReading Delivery
feed_brought d line = and_then (environment_in d line) (λ environment. for_environment environment (feed_in line))

-- the delivery of a line with this op; ops other than `batch` and `feed` deliver nothing, which is an error here
abbrev pub brought_by : DeskState → Data → List ℕ → LineReading Delivery
brought_by d line op =
    if bytes_eq op (codes "tokens") then Err (Document (WrongKind field.Op))
    else (if bytes_eq op (codes "batch") then batch_brought d line
    else (if bytes_eq op (codes "feed") then feed_brought d line else Err (Document (WrongKind field.Op))))

-- the ask of a line with this op; there is none for ops other than `ask`, which is an error here
abbrev pub asked_by : Data → List ℕ → LineReading LineAsk
asked_by line op =
    if bytes_eq op (codes "tokens") then Err (Document (WrongKind field.Op))
    else (if bytes_eq op (codes "batch") then Err (Document (WrongKind field.Op))
    else (if bytes_eq op (codes "feed") then Err (Document (WrongKind field.Op))
    else (if bytes_eq op (codes "ask") then documented (ask_of line) else Err (Document (WrongKind field.Op)))))

-- reads an object with `read`, which also takes the text at the object's key `op`; an object without such a text is refused
abbrev pub by_op : {T : Type 0} → (Data → List ℕ → LineReading T) → Data → LineReading T
by_op read line = and_then (documented (required any_text field.Op line)) (read line)

-- reads the bytes of a line as `by_op` does; bytes that are not a JSON object are refused with `NotJson`
abbrev pub by_object : {T : Type 0} → (Data → List ℕ → LineReading T) → List ℕ → LineReading T
by_object read bytes = and_then (ok_or (object_in bytes) (Document NotJson)) (by_op read)

-- the delivery of a line; `b` is the state before the line
unfoldable pub brought : ReplayState → List ℕ → LineReading Delivery
brought b bytes = by_object (brought_by b.desk) bytes

-- the ask of a line
unfoldable pub asked : List ℕ → LineReading LineAsk
asked bytes = by_object asked_by bytes

-- ---- all lines

-- The delivery's batch was sent from the line of histories of its environment, restricted to the projects that the recipient of
-- the batches sees. A line of histories is not an input line: it has, for each of several rising epochs, the list of the
-- environment's events.
abbrev pub IsSentFromHistory : Histories → Delivery → Type 0
IsSentFromHistory histories delivery = IsSent (histories.line delivery.environment) (histories.sees delivery.environment) delivery.batch

-- The batch of each delivery from input line `k` on was sent from the line of histories of its environment, up to the first input
-- line that is refused.
abbrev pub AllSent : Histories → ℕ → ReplayState → List (List ℕ) → Type 0
AllSent histories k b [] = ⊤
AllSent histories k b (line ∷ more) =
    IfOk (brought b line) (IsSentFromHistory histories)
    × IfOk (take_line line_answer k b line) (λ taken. AllSent histories (k + 1) taken.desk more)

-- The ask is answered from a board on which each version is a revision of its environment's line of histories, restricted to the
-- projects that the recipient of the batches sees. A revision is the state after the events of one epoch up to some number. What a
-- token sees on this board is from one revision.
pub record AnswersFromHistories (histories : Histories) (k : ℕ) (b : ReplayState) (line : List ℕ) (ask : LineAsk) : Type 0 where
  pub answers : answer_read k b line ≡ Ok (put_ask k b ask)
  pub represented : AllRepresented histories b.desk.board.slots
  pub shows : ShowsRevisions histories b.desk.board

-- `AnswersFromHistories` for each ask from line `k` on, up to the first line that is refused.
abbrev pub AsksFromHistories : Histories → ℕ → ReplayState → List (List ℕ) → Type 0
AsksFromHistories histories k b [] = ⊤
AsksFromHistories histories k b (line ∷ more) =
    IfOk (asked line) (AnswersFromHistories histories k b line)
    × IfOk (take_line line_answer k b line) (λ taken. AsksFromHistories histories (k + 1) taken.desk more)

-- Suppose that there is one valid line of histories for each environment (epochs rise, and event numbers never fall within an epoch),
-- and that the batches of the input lines, up to the first that is refused, were sent from these. Then each ask among those input lines
-- is answered from these histories. Batches may be lost, duplicated or out of order.
abbrev pub DeliversRevisions : List ℕ → Type 0
DeliversRevisions bytes =
    (histories : Histories) → AreLines histories → AllSent histories 1 empty_replay (lines bytes)
    → AsksFromHistories histories 1 empty_replay (lines bytes)
