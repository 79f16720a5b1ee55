-- The effect of each line of a replay: the text that it prints, and the state after it. `k` is the number of the line. The desk
-- has the current board and the number of changes published so far (its front).
use Rattle.std.specs.Prelude.{ℕ, List, [], ◌++◌, codes, decimal, if◌then◌else◌, Option, Some, None, option_map, ok_or, Ok, Err}
use Rattle.std.specs.Str.{bytes_eq}
use Rattle.serde_json.specs.Data.{Data}
use Rattle.serde_json.specs.Written.{compact_text}
use Rattle.unl_core.specs.declared.board.Board.{Board}
use Rattle.unl_core.specs.Answer.{answer_of}
use Rattle.unl_core.specs.Board.{place_in, snapshot_in}
use Rattle.unl_core.specs.Same.{same_book}
use Rattle.unl_core.specs.declared.desk.Answer.{Answer}
use Rattle.unl_core.specs.Recording.{final_book, final_reply}
use Rattle.unl_core.specs.Tag.{with_epoch}
use Rattle.unl_core.specs.DeskStates.{DeskState, has_room, installed_by, with_name, with_batch, with_hold, with_book}
use Rattle.unl_delta.specs.declared.batch.Batch.{Batch}
use Rattle.unl_delta.specs.declared.batch.Verdict.{Verdict}
use Rattle.unl_delta.specs.declared.batch.Verdict.TheVariants.{Apply, Repeat, Old, Gap, Held}
use Rattle.unl_delta.specs.Batch.{verdict_of}
use Rattle.unl_delta.specs.Installing.{place_of}
use Rattle.unl_delta.specs.Revision.{Revision, revision_of}
use Rattle.unl_documents.specs.declared.fault.BadDocument.TheVariants.{NotJson, WrongKind}
use Rattle.unl_documents.specs.declared.field.Field.TheVariants as field
use Rattle.unl_documents.specs.Kinds.{any_text, name, required}
use Rattle.unl_documents.specs.Results.{object_in}
use Rattle.unl_http_api.specs.declared.reply.Reply.{Reply}
use Rattle.unl_input.specs.Taken.{Taken, LineResult, LinesOutcome, lines_outcome}
use Rattle.unl_metrics.specs.Book.{Book, acknowledge}
use Rattle.unl_metrics.specs.Bulk.{bulk}
use Rattle.unl_tokens.specs.declared.token.Token.{Token}
use Rattle.unl_tokens.specs.Books.{book_of}
use Rattle.unl_replay.specs.declared.ask.LineAsk.{LineAsk}
use Rattle.unl_replay.specs.declared.replay_state.ReplayState.{ReplayState}
use Rattle.unl_replay.specs.declared.refusal.Refusal.TheVariants.{Document, TooManyEnvironments}
use Rattle.unl_replay.specs.Forms.{batch_in, feed_in, ask_of}
use Rattle.unl_replay.specs.Refusals.{LineReading, and_then, documented, refusing, refusal_for_book, refusal_text}

-- ---- the printed lines

-- the line printed for a book of tokens that equals the current one
abbrev pub same_line : ℕ → List ℕ
same_line k = decimal k ++ codes ": same\n"

-- the line printed for a book of tokens that is published; `front` is the number of changes published so far
abbrev pub tokens_line : ℕ → ℕ → ℕ → List ℕ
tokens_line k generation front =
    decimal k ++ (codes ": tokens generation " ++ (decimal generation ++ (codes " front " ++ (decimal front ++ codes "\n"))))

-- the number of a revision, preceded by its epoch and a dot unless the epoch is 0; a dash if there is no revision
abbrev pub revision_text : Option Revision → List ℕ
revision_text None = codes "-"
revision_text (Some now) = with_epoch now.epoch (decimal now.number)

-- the line for the verdict on a batch, with the environment's revision and the front after the batch
abbrev pub verdict_line : ℕ → List ℕ → List ℕ → ℕ → List ℕ
verdict_line k word revision front =
    decimal k ++ (codes ": " ++ (word ++ (codes " number " ++ (revision ++ (codes " front " ++ (decimal front ++ codes "\n"))))))

-- a tag, or a dash if there is none
abbrev pub tag_or_dash : Option (List ℕ) → List ℕ
tag_or_dash None = codes "-"
tag_or_dash (Some tag) = tag

-- the line for an ask, up to its body
abbrev pub ask_start : ℕ → ℕ → ℕ → List ℕ → List ℕ
ask_start k front status tag =
    decimal k ++ (codes ": front "
    ++ (decimal front ++ (codes " status " ++ (decimal status ++ (codes " tag " ++ (tag ++ codes " body "))))))

-- the line for an ask
abbrev pub ask_line : ℕ → ℕ → Reply → List ℕ
ask_line k front reply = ask_start k front reply.status (tag_or_dash reply.tag) ++ reply.body ++ codes "\n"

-- ---- one line

-- the text that a line prints, and the desk after it
abbrev pub DeskEffect : Type 0
DeskEffect = Taken DeskState

-- the effect of a token book, which is published unless it equals the current one
abbrev pub put_tokens : ℕ → List Token → DeskState → DeskEffect
put_tokens k tokens d =
    if same_book tokens d.board.book then record { text = same_line k; desk = d }
    else record { text = tokens_line k (with_book tokens d).board.generation (with_book tokens d).front; desk = with_book tokens d }

-- the number of an environment's version, if it has one
abbrev pub number_in : List ℕ → Board → Option ℕ
number_in environment board = option_map (λ version. version.number) (snapshot_in environment board.slots)

-- the revision of a slot, if it has a version
abbrev pub revision_at : ℕ → DeskState → Option Revision
revision_at slot d = option_map revision_of (place_of (installed_by d) slot).version

-- the line for the verdict on a batch, and the desk after it
abbrev pub with_verdict_line : ℕ → List ℕ → ℕ → DeskState → DeskEffect
with_verdict_line k word slot after =
    record { text = verdict_line k word (revision_text (revision_at slot after)) after.front; desk = after }

-- the word for a verdict
abbrev pub word_of : Verdict → List ℕ
word_of Apply = codes "apply"
word_of Repeat = codes "repeat"
word_of Old = codes "old"
word_of Gap = codes "gap"
word_of Held = codes "held"

-- the desk after a batch, by its verdict
abbrev pub after_verdict : Verdict → ℕ → Batch → DeskState → DeskState
after_verdict Apply slot batch d = with_batch slot batch d
after_verdict Gap slot batch d = with_hold slot d
after_verdict Repeat slot batch d = d
after_verdict Old slot batch d = d
after_verdict Held slot batch d = d

-- the line and the desk for a batch, by its verdict
abbrev pub effect_of_verdict : ℕ → ℕ → Batch → DeskState → Verdict → DeskEffect
effect_of_verdict k slot batch d v = with_verdict_line k (word_of v) slot (after_verdict v slot batch d)

-- the effect of a batch on a slot; the error `TooManyEnvironments` if there is no slot
abbrev pub put_batch_at : ℕ → Batch → DeskState → Option ℕ → LineReading DeskEffect
put_batch_at k batch d None = Err TooManyEnvironments
put_batch_at k batch d (Some slot) = Ok (effect_of_verdict k slot batch d (verdict_of (place_of (installed_by d) slot) batch))

-- the effect of a batch on an environment; a new environment gets a slot, if there is room, even if the batch does not apply
abbrev pub put_batch : ℕ → List ℕ → DeskState → Batch → LineReading DeskEffect
put_batch k environment d batch =
    put_batch_at k batch (with_name environment d) (place_in environment (with_name environment d).board.slots)

-- the effect of a line of tokens
abbrev pub tokens_of_line : ℕ → DeskState → Data → LineReading DeskEffect
tokens_of_line k d line = and_then (refusing refusal_for_book (book_of line)) (λ tokens. Ok (put_tokens k tokens d))

-- the environment of a line, or TooManyEnvironments if it is new and there is no room for it
abbrev pub environment_in : DeskState → Data → LineReading (List ℕ)
environment_in d line = and_then (documented (required name field.Environment line)) (λ environment.
    if has_room environment d.board.slots then Ok environment else Err TooManyEnvironments)

-- the effect of a line with a batch
abbrev pub batch_of_line : ℕ → DeskState → Data → LineReading DeskEffect
batch_of_line k d line = and_then (environment_in d line) (λ environment.
    and_then (batch_in (number_in environment d.board) line) (put_batch k environment d))

-- the effect of a line with a feed
abbrev pub feed_of_line : ℕ → DeskState → Data → LineReading DeskEffect
feed_of_line k d line = and_then (environment_in d line) (λ environment.
    and_then (feed_in line) (put_batch k environment d))

-- ---- one line, with the metrics book

-- the text that a line prints, and the desk and metrics book after it
abbrev pub LineEffect : Type 0
LineEffect = Taken ReplayState

-- an effect on the desk that leaves the metrics book unchanged
abbrev pub leaving_book : Book → LineReading DeskEffect → LineReading LineEffect
leaving_book book (Ok answered) = Ok (record { text = answered.text; desk = record { desk = answered.desk; book = book } })
leaving_book book (Err cause) = Err cause

-- an effect on the metrics book that leaves the desk unchanged
abbrev pub at_desk : DeskState → Taken Book → LineEffect
at_desk d taken = record { text = taken.text; desk = record { desk = d; book = taken.desk } }

-- the line of an answer, and the metrics book with the answer's report added; if the book has no room for it, the reply is a 503
abbrev pub print_and_record : ℕ → ℕ → Book → Answer → Taken Book
print_and_record k front book answer = record { text = ask_line k front (final_reply book answer); desk = final_book book answer }

-- the effect of an ask: the line with its reply, and the state after the answer's report, if there is one, is added to the metrics book
abbrev pub put_ask : ℕ → ReplayState → LineAsk → LineEffect
put_ask k b ask = at_desk b.desk (print_and_record k b.desk.front b.book (answer_of b.desk.board ask.request ask.draw))

-- the effect of a line with an ask
abbrev pub ask_of_line : ℕ → ReplayState → Data → LineReading LineEffect
ask_of_line k b line = and_then (documented (ask_of line)) (λ ask. Ok (put_ask k b ask))

-- the line for the metrics of an environment; `body` is a bulk report (the environment's counts as JSON) or a dash
abbrev pub metrics_line : ℕ → List ℕ → List ℕ
metrics_line k body = decimal k ++ (codes ": metrics " ++ (body ++ codes "\n"))

-- prints a bulk report and removes its `count` keys from the metrics book; prints a dash if there is no report
abbrev pub sent_bulk : ℕ → List ℕ → Book → Option (Data × ℕ) → Taken Book
sent_bulk k environment book None = record { text = metrics_line k (codes "-"); desk = book }
sent_bulk k environment book (Some (report, count)) =
    record { text = metrics_line k (compact_text report); desk = acknowledge environment count book }

-- prints the bulk report of an environment, or a dash, and removes what was printed from the metrics book
abbrev pub put_metrics : ℕ → List ℕ → Book → Taken Book
put_metrics k environment book = sent_bulk k environment book (bulk environment book)

-- the effect of a line that asks for metrics
abbrev pub metrics_of_line : ℕ → ReplayState → Data → LineReading LineEffect
metrics_of_line k b line =
    and_then (documented (required name field.Environment line)) (λ environment. Ok (at_desk b.desk (put_metrics k environment b.book)))

-- the effect of an object with this op; an op other than these five is refused
abbrev pub answer_op : ℕ → ReplayState → Data → List ℕ → LineReading LineEffect
answer_op k b line op =
    if bytes_eq op (codes "tokens") then leaving_book b.book (tokens_of_line k b.desk line)
    else (if bytes_eq op (codes "batch") then leaving_book b.book (batch_of_line k b.desk line)
    else (if bytes_eq op (codes "feed") then leaving_book b.book (feed_of_line k b.desk line)
    else (if bytes_eq op (codes "ask") then ask_of_line k b line
    else (if bytes_eq op (codes "metrics") then metrics_of_line k b line else Err (Document (WrongKind field.Op))))))

-- the effect of an object, which must name its op
abbrev pub answer_object : ℕ → ReplayState → Data → LineReading LineEffect
answer_object k b line = and_then (documented (required any_text field.Op line)) (answer_op k b line)

-- the effect of the bytes of a line, which must be a JSON object
unfoldable pub answer_read : ℕ → ReplayState → List ℕ → LineReading LineEffect
answer_read k b bytes = and_then (ok_or (object_in bytes) (Document NotJson)) (answer_object k b)

-- the effect of a line, with the text of the cause if it is refused
abbrev pub line_answer : ℕ → ReplayState → List ℕ → LineResult ReplayState
line_answer k b bytes = refusing refusal_text (answer_read k b bytes)

-- ---- all lines

-- the state before the first line: no environments, no tokens, no publications, and no metrics
abbrev pub empty_replay : ReplayState
empty_replay = record {
  desk = record { board = record { boot = 0; host = []; generation = 0; book = []; slots = [] }; places = []; front = 0 };
  book = [];
}

-- the replay of a whole input: the text, the state after it, and whether a line is refused
abbrev pub replay_of : List ℕ → LinesOutcome ReplayState
replay_of bytes = lines_outcome line_answer empty_replay bytes
