-- Lemmas: the effect of an input line on the desk (the board of versions, and the place kept for each of its slots), by the line's `op`.
use Rattle.std.proofs.Common.{◌≡◌, ℕ, Bool, true, false, cond, List, Option, Some, None, Ok, Err, IfOk, refl, length, ltb}
use Rattle.std.specs.Prelude.{codes, ok_or}
use Rattle.std.specs.Str.{bytes_eq}
use Rattle.serde_json.specs.Data.{Data}
use Rattle.unl_core.specs.Board.{place_in}
use Rattle.unl_core.specs.DeskStates.{DeskState, installed_by, with_book, with_name}
use Rattle.unl_core.specs.Same.{same_book}
use Rattle.unl_delta.specs.Batch.{verdict_of}
use Rattle.unl_delta.specs.Installing.{place_of}
use Rattle.unl_delta.specs.declared.batch.Batch.{Batch}
use Rattle.unl_delta.specs.declared.batch.Verdict.{Verdict}
use Rattle.unl_documents.specs.declared.fault.BadDocument.TheVariants.{NotJson, WrongKind}
use Rattle.unl_documents.specs.declared.field.Field.TheVariants as field
use Rattle.unl_documents.specs.Kinds.{any_text, name, required}
use Rattle.unl_documents.specs.Results.{object_in}
use Rattle.unl_input.specs.Reading.{longest_line}
use Rattle.unl_input.specs.Taken.{Taken, most_lines, take_line}
use Rattle.unl_metrics.specs.Book.{Book}
use Rattle.unl_tokens.specs.declared.token.Token.{Token}
use Rattle.unl_tokens.specs.Books.{book_of}
use Rattle.unl_replay.specs.declared.replay_state.ReplayState.{ReplayState}
use Rattle.unl_replay.specs.declared.refusal.Refusal.TheVariants.{Document}
use Rattle.unl_replay.specs.Delivery.{Delivery, batch_brought, brought, brought_by, by_op, feed_brought, for_environment}
use Rattle.unl_replay.specs.Forms.{ask_of, batch_in, feed_in}
use Rattle.unl_replay.specs.Refusals.{LineReading, and_then, documented, refusing, refusal_for_book, refusal_text}
use Rattle.unl_replay.specs.Replay.{DeskEffect, LineEffect, after_verdict, answer_object, answer_op, answer_read, put_batch_at, ask_of_line, at_desk, batch_of_line, environment_in, feed_of_line, leaving_book, line_answer, metrics_of_line, number_in, put_ask, put_batch, put_metrics, put_tokens, same_line, tokens_line, tokens_of_line}

-- The changes that a line may make to a desk `d`: none, a published book, or an environment that gets a slot and a batch at
-- that slot. `Brings` holds for the batch, and `Holds` holds for the desk after each change.
pub record Leads (d : DeskState) (Brings : Delivery → Type 0) (Holds : DeskState → Type 0) : Type 0 where
  pub same : Holds d
  pub book : (tokens : List Token) → Holds (with_book tokens d)
  pub batch : (environment : List ℕ) (batch : Batch) → Brings (record { environment = environment; batch = batch })
      → (slot : ℕ) → place_in environment (with_name environment d).board.slots ≡ Some slot
      → (verdict : Verdict) → verdict_of (place_of (installed_by (with_name environment d)) slot) batch ≡ verdict
      → Holds (after_verdict verdict slot batch (with_name environment d))

-- `f` and `g` both continue the reading `r`. If, for each value of `r`, `Q` of the result of `g` implies `P` of the result of `f`, the same
-- implication holds for `r` continued by `g` and by `f`.
and_both : {A B C : Type 0} (r : LineReading A) (f : A → LineReading B) (g : A → LineReading C) (P : B → Type 0) (Q : C → Type 0)
    → ((x : A) → IfOk (g x) Q → IfOk (f x) P) → IfOk (and_then r g) Q → IfOk (and_then r f) P
and_both (Ok x) f g P Q step premise = step x premise
and_both (Err e) f g P Q step premise = tt

-- if `P` holds for the result of `f` for each value of `r`, it holds for the result of `r` continued by `f`
and_more : {A B : Type 0} (r : LineReading A) (f : A → LineReading B) (P : B → Type 0) → ((x : A) → IfOk (f x) P) → IfOk (and_then r f) P
and_more (Ok x) f P step = step x
and_more (Err e) f P step = tt

-- `Holds` holds for the desk after a line that is not refused
abbrev Leaves : (DeskState → Type 0) → LineReading DeskEffect → Type 0
Leaves Holds r = IfOk r (λ answered. Holds answered.desk)

abbrev LeavesState : (DeskState → Type 0) → LineReading LineEffect → Type 0
LeavesState Holds r = IfOk r (λ effect. Holds effect.desk.desk)

-- ---- batches and feeds

arrives : (Brings : Delivery → Type 0) (Holds : DeskState → Type 0) (environment : List ℕ) (k : ℕ) (batch : Batch) (d : DeskState) (slot : Option ℕ)
    → Leads d Brings Holds → Brings (record { environment = environment; batch = batch })
    → place_in environment (with_name environment d).board.slots ≡ slot → Leaves Holds (put_batch_at k batch (with_name environment d) slot)
arrives Brings Holds environment k batch d None leads brings named = tt
arrives Brings Holds environment k batch d (Some slot) leads brings named =
    leads.batch environment batch brings slot named (verdict_of (place_of (installed_by (with_name environment d)) slot) batch) refl

puts_read : (Brings : Delivery → Type 0) (Holds : DeskState → Type 0) (environment : List ℕ) (k : ℕ) (d : DeskState) (reading : LineReading Batch)
    → Leads d Brings Holds → IfOk (for_environment environment reading) Brings → Leaves Holds (and_then reading (put_batch k environment d))
puts_read Brings Holds environment k d (Ok batch) leads brings =
    arrives Brings Holds environment k batch d (place_in environment (with_name environment d).board.slots) leads brings refl
puts_read Brings Holds environment k d (Err e) leads brings = tt

batch_leaves : (Brings : Delivery → Type 0) (Holds : DeskState → Type 0) (k : ℕ) (d : DeskState) (line : Data) → Leads d Brings Holds
    → IfOk (batch_brought d line) Brings → Leaves Holds (batch_of_line k d line)
batch_leaves Brings Holds k d line leads brings =
    and_both (environment_in d line) (λ environment. and_then (batch_in (number_in environment d.board) line) (put_batch k environment d))
    (λ environment. for_environment environment (batch_in (number_in environment d.board) line)) (λ (answered : DeskEffect). Holds answered.desk) Brings
    (λ environment here. puts_read Brings Holds environment k d (batch_in (number_in environment d.board) line) leads here) brings

feed_leaves : (Brings : Delivery → Type 0) (Holds : DeskState → Type 0) (k : ℕ) (d : DeskState) (line : Data) → Leads d Brings Holds
    → IfOk (feed_brought d line) Brings → Leaves Holds (feed_of_line k d line)
feed_leaves Brings Holds k d line leads brings =
    and_both (environment_in d line) (λ environment. and_then (feed_in line) (put_batch k environment d))
    (λ environment. for_environment environment (feed_in line)) (λ (answered : DeskEffect). Holds answered.desk) Brings
    (λ environment here. puts_read Brings Holds environment k d (feed_in line) leads here) brings

-- ---- the other lines

abbrev either_put : List ℕ → DeskState → DeskEffect
either_put text d = record { text = text; desk = d }

tokens_put : (Brings : Delivery → Type 0) (Holds : DeskState → Type 0) (k : ℕ) (d : DeskState) (tokens : List Token) → Leads d Brings Holds
    → Holds (put_tokens k tokens d).desk
tokens_put Brings Holds k d tokens leads = decided (same_book tokens d.board.book)
  where
    decided : (t : Bool) → Holds (cond t (either_put (same_line k) d) (either_put (tokens_line k (with_book tokens d).board.generation (with_book tokens d).front) (with_book tokens d))).desk
    decided true = leads.same
    decided false = leads.book tokens

tokens_leave : (Brings : Delivery → Type 0) (Holds : DeskState → Type 0) (k : ℕ) (d : DeskState) (line : Data) → Leads d Brings Holds
    → Leaves Holds (tokens_of_line k d line)
tokens_leave Brings Holds k d line leads =
    and_more (refusing refusal_for_book (book_of line)) (λ tokens. Ok (put_tokens k tokens d)) (λ (answered : DeskEffect). Holds answered.desk)
    (λ tokens. tokens_put Brings Holds k d tokens leads)

ask_leaves : (Holds : DeskState → Type 0) (k : ℕ) (b : ReplayState) (line : Data) → Holds b.desk → LeavesState Holds (ask_of_line k b line)
ask_leaves Holds k b line same =
    and_more (documented (ask_of line)) (λ ask. Ok (put_ask k b ask)) (λ (effect : LineEffect). Holds effect.desk.desk) (λ ask. same)

metrics_leave : (Holds : DeskState → Type 0) (k : ℕ) (b : ReplayState) (line : Data) → Holds b.desk → LeavesState Holds (metrics_of_line k b line)
metrics_leave Holds k b line same =
    and_more (documented (required name field.Environment line)) (λ environment. Ok (at_desk b.desk (put_metrics k environment b.book)))
    (λ (effect : LineEffect). Holds effect.desk.desk) (λ environment. same)

leaving_book_leaves : (Holds : DeskState → Type 0) (book : Book) (r : LineReading DeskEffect) → Leaves Holds r → LeavesState Holds (leaving_book book r)
leaving_book_leaves Holds book (Ok answered) leaves = leaves
leaving_book_leaves Holds book (Err e) leaves = tt

-- ---- one line

op_leaves : (Brings : Delivery → Type 0) (Holds : DeskState → Type 0) (k : ℕ) (b : ReplayState) (line : Data) (op : List ℕ) → Leads b.desk Brings Holds
    → IfOk (brought_by b.desk line op) Brings → LeavesState Holds (answer_op k b line op)
op_leaves Brings Holds k b line op leads brings =
    decided (bytes_eq op (codes "tokens")) (bytes_eq op (codes "batch")) (bytes_eq op (codes "feed")) (bytes_eq op (codes "ask")) (bytes_eq op (codes "metrics")) brings
  where
    decided : (tokens batch feed ask metrics : Bool)
        → IfOk (cond tokens (Err (Document (WrongKind field.Op))) (cond batch (batch_brought b.desk line) (cond feed (feed_brought b.desk line) (Err (Document (WrongKind field.Op)))))) Brings
        → LeavesState Holds (cond tokens (leaving_book b.book (tokens_of_line k b.desk line)) (cond batch (leaving_book b.book (batch_of_line k b.desk line)) (cond feed (leaving_book b.book (feed_of_line k b.desk line))
        (cond ask (ask_of_line k b line) (cond metrics (metrics_of_line k b line) (Err (Document (WrongKind field.Op))))))))
    decided true batch feed ask metrics here = leaving_book_leaves Holds b.book (tokens_of_line k b.desk line) (tokens_leave Brings Holds k b.desk line leads)
    decided false true feed ask metrics here = leaving_book_leaves Holds b.book (batch_of_line k b.desk line) (batch_leaves Brings Holds k b.desk line leads here)
    decided false false true ask metrics here = leaving_book_leaves Holds b.book (feed_of_line k b.desk line) (feed_leaves Brings Holds k b.desk line leads here)
    decided false false false true metrics here = ask_leaves Holds k b line leads.same
    decided false false false false true here = metrics_leave Holds k b line leads.same
    decided false false false false false here = tt

object_leaves : (Brings : Delivery → Type 0) (Holds : DeskState → Type 0) (k : ℕ) (b : ReplayState) (line : Data) → Leads b.desk Brings Holds
    → IfOk (by_op (brought_by b.desk) line) Brings → LeavesState Holds (answer_object k b line)
object_leaves Brings Holds k b line leads brings =
    and_both (documented (required any_text field.Op line)) (answer_op k b line) (brought_by b.desk line) (λ (effect : LineEffect). Holds effect.desk.desk) Brings
    (λ op here. op_leaves Brings Holds k b line op leads here) brings

read_leaves : (Brings : Delivery → Type 0) (Holds : DeskState → Type 0) (k : ℕ) (b : ReplayState) (bytes : List ℕ) → Leads b.desk Brings Holds
    → IfOk (brought b bytes) Brings → LeavesState Holds (answer_read k b bytes)
unfolding brought answer_read
read_leaves Brings Holds k b bytes leads brings =
    and_both (ok_or (object_in bytes) (Document NotJson)) (answer_object k b) (by_op (brought_by b.desk)) (λ (effect : LineEffect). Holds effect.desk.desk) Brings
    (λ line here. object_leaves Brings Holds k b line leads here) brings

refused_leaves : (Holds : DeskState → Type 0) (r : LineReading LineEffect) → LeavesState Holds r → IfOk (refusing refusal_text r) (λ taken. Holds taken.desk.desk)
refused_leaves Holds (Ok effect) leaves = leaves
refused_leaves Holds (Err e) leaves = tt

-- if each change that a line may make keeps `Holds`, it holds for the desk after the line
pub line_leaves : (Brings : Delivery → Type 0) (Holds : DeskState → Type 0) (k : ℕ) (b : ReplayState) (line : List ℕ) → Leads b.desk Brings Holds
    → IfOk (brought b line) Brings → IfOk (take_line line_answer k b line) (λ taken. Holds taken.desk.desk)
line_leaves Brings Holds k b line leads brings = decided (ltb most_lines k) (ltb longest_line (length line))
  where
    decided : (many long : Bool)
        → IfOk (cond many (Err (codes "TooManyLines")) (cond long (Err (codes "LineTooLong")) (line_answer k b line))) (λ (taken : Taken ReplayState). Holds taken.desk.desk)
    decided true long = tt
    decided false true = tt
    decided false false = refused_leaves Holds (answer_read k b line) (read_leaves Brings Holds k b line leads brings)
