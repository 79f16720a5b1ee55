-- Lemmas about the answered lines of a replay (the input lines before the first refused line). No line replaces an environment's version by
-- an older one. If all batches were sent from histories of the environments, each request is answered from revisions in these histories.
use Rattle.std.proofs.Common.{◌≡◌, ℕ, ◌+◌, ◌≤◌, Bool, true, false, cond, List, [], ◌∷◌, ◌++◌, length, take, Option, Result, Ok, Err, IfOk, refl, sym, ap, ◌∙◌, subst, arith, append-nil}
use Rattle.std.specs.List.{AllByRecursion, count_by}
use Rattle.std.specs.Prelude.{codes, ok_or}
use Rattle.std.specs.Str.{bytes_eq}
use Rattle.serde_json.specs.Data.{Data}
use Rattle.unl_base.specs.Streams.{Sends, SendsPrefix}
use Rattle.unl_core.specs.DeskStates.{with_name}
use Rattle.unl_core.specs.Histories.{AreLines, Histories, RepresentedAt}
use Rattle.unl_core.proofs.Showing.{shows_revision}
use Rattle.unl_delta.specs.History.{IsNotBelow}
use Rattle.unl_documents.specs.declared.fault.BadDocument.TheVariants.{NotJson, WrongKind}
use Rattle.unl_documents.specs.declared.field.Field.TheVariants as field
use Rattle.unl_documents.specs.Kinds.{any_text, required}
use Rattle.unl_documents.specs.Results.{object_in}
use Rattle.unl_input.specs.Lines.{ended_lines, is_end, lines}
use Rattle.unl_input.specs.Taken.{Ending, IsRefused, LineResult, LinesOutcome, Taken, done, ending_text, followed, refused, refused_text, take_from, take_line, whole_text}
use Rattle.unl_input.specs.Whole.{AnswersFirst, HoldsOfRead, IsRefusing, TakesLines}
use Rattle.unl_input.specs.declared.taking.LinesFault.{LinesFault}
use Rattle.unl_input.specs.declared.taking.LinesFault.TheVariants.{Bad, ReadFault, WriteFault, Memory}
use Rattle.unl_input.proofs.Lines.{take_of_first}
use Rattle.unl_input.proofs.Silent.{within_limits_of}
use Rattle.unl_replay.specs.declared.ask.LineAsk.{LineAsk}
use Rattle.unl_replay.specs.declared.replay_state.ReplayState.{ReplayState}
use Rattle.unl_replay.specs.declared.refusal.Refusal.TheVariants.{Document}
use Rattle.unl_replay.specs.Delivery.{AllSent, AnswersFromHistories, AsksFromHistories, DeliversRevisions, IsSentFromHistory, asked, asked_by, brought, by_op}
use Rattle.unl_replay.specs.Forms.{ask_of}
use Rattle.unl_replay.specs.Refusals.{LineReading, and_then, documented, refusing, refusal_text}
use Rattle.unl_replay.specs.Replay.{LineEffect, answer_object, answer_op, answer_read, ask_of_line, batch_of_line, feed_of_line, leaving_book, line_answer, metrics_of_line, empty_replay, put_ask, replay_of, tokens_of_line}
use Rattle.unl_replay.specs.Replayed.{AllAnswerRevisions, AllSentFrom, AnswersLines, AnswersRevision, AreReplayed, ReplayedLine, Replays, SendsAnswers, bytes_of, text_of, version_in}
use Rattle.unl_replay.proofs.LineSteps.{Leads, line_leaves}
use Rattle.unl_replay.proofs.Rising.{Agrees, Rises, leads_up}
use Rattle.unl_replay.proofs.Slots.{DeskRepresents, all_represented, desk_named, verdict_represents}

-- ---- one ask

ask_answered : (k : ℕ) (b : ReplayState) (r : LineReading LineAsk) → IfOk r (λ ask. and_then r (λ ask. Ok (put_ask k b ask)) ≡ Ok (put_ask k b ask))
ask_answered k b (Ok ask) = refl
ask_answered k b (Err e) = tt

op_answered : (k : ℕ) (b : ReplayState) (line : Data) (op : List ℕ) → IfOk (asked_by line op) (λ ask. answer_op k b line op ≡ Ok (put_ask k b ask))
op_answered k b line op =
    decided (bytes_eq op (codes "tokens")) (bytes_eq op (codes "batch")) (bytes_eq op (codes "feed")) (bytes_eq op (codes "ask"))
  where
    decided : (tokens batch feed ask : Bool)
        → IfOk (cond tokens (Err (Document (WrongKind field.Op))) (cond batch (Err (Document (WrongKind field.Op))) (cond feed (Err (Document (WrongKind field.Op)))
        (cond ask (documented (ask_of line)) (Err (Document (WrongKind field.Op)))))))
        (λ (asks : LineAsk). cond tokens (leaving_book b.book (tokens_of_line k b.desk line)) (cond batch (leaving_book b.book (batch_of_line k b.desk line)) (cond feed (leaving_book b.book (feed_of_line k b.desk line))
        (cond ask (ask_of_line k b line) (cond (bytes_eq op (codes "metrics")) (metrics_of_line k b line) (Err (Document (WrongKind field.Op))))))) ≡ Ok (put_ask k b asks))
    decided true batch feed ask = tt
    decided false true feed ask = tt
    decided false false true ask = tt
    decided false false false true = ask_answered k b (documented (ask_of line))
    decided false false false false = tt

object_answered : (k : ℕ) (b : ReplayState) (line : Data) (r : LineReading (List ℕ)) → IfOk (and_then r (asked_by line)) (λ ask. and_then r (answer_op k b line) ≡ Ok (put_ask k b ask))
object_answered k b line (Ok op) = op_answered k b line op
object_answered k b line (Err e) = tt

read_answered : (k : ℕ) (b : ReplayState) (r : LineReading Data) → IfOk (and_then r (by_op asked_by)) (λ ask. and_then r (answer_object k b) ≡ Ok (put_ask k b ask))
read_answered k b (Ok line) = object_answered k b line (documented (required any_text field.Op line))
read_answered k b (Err e) = tt

-- the effect of a line with an ask (a request, and the draw to answer it with) is the answer to that request
answered : (k : ℕ) (b : ReplayState) (line : List ℕ) → IfOk (asked line) (λ ask. answer_read k b line ≡ Ok (put_ask k b ask))
unfolding asked answer_read
answered k b line = read_answered k b (ok_or (object_in line) (Document NotJson))

-- ---- the laws of all lines

if_ok : {A E : Type 0} (r : Result A E) (P Q : A → Type 0) → ((x : A) → P x → Q x) → IfOk r P → IfOk r Q
if_ok (Ok x) P Q step here = step x here
if_ok (Err e) P Q step here = tt

if_both : {A E : Type 0} (r : Result A E) (O P Q : A → Type 0) → ((x : A) → O x → P x → Q x) → IfOk r O → IfOk r P → IfOk r Q
if_both (Ok x) O P Q step one two = step x one two
if_both (Err e) O P Q step one two = tt

-- after a line with a batch that was sent from the histories, each version on the desk represents the history of its
-- environment
leads_on : (histories : Histories) (b : ReplayState) → AreLines histories → DeskRepresents histories b.desk
    → Leads b.desk (IsSentFromHistory histories) (DeskRepresents histories)
leads_on histories b are all = record {
  same = all;
  book = λ tokens. all;
  batch = λ environment batch sent slot named verdict is.
      verdict_represents histories environment slot batch (with_name environment b.desk) verdict are
      (desk_named (RepresentedAt histories) environment b.desk all tt) named sent is;
}

from_histories : (histories : Histories) (k : ℕ) (b : ReplayState) (line : List ℕ) → DeskRepresents histories b.desk → IfOk (asked line) (AnswersFromHistories histories k b line)
from_histories histories k b line all =
    if_ok (asked line) (λ (ask : LineAsk). answer_read k b line ≡ Ok (put_ask k b ask)) (AnswersFromHistories histories k b line)
    (λ ask is. record {
      answers = is;
      represented = all_represented histories b.desk.board.slots b.desk.places all;
      shows = λ q kind ready shown. shows_revision histories b.desk.board q kind ready (all_represented histories b.desk.board.slots b.desk.places all) shown;
    }) (answered k b line)

pub asks_from : (histories : Histories) (k : ℕ) (b : ReplayState) (lines : List (List ℕ)) → AreLines histories → DeskRepresents histories b.desk → AllSent histories k b lines → AsksFromHistories histories k b lines
asks_from histories k b [] are all sent = tt
asks_from histories k b (line ∷ more) are all sent = (
  from_histories histories k b line all,
  if_both (take_line line_answer k b line) (λ (taken : Taken ReplayState). DeskRepresents histories taken.desk.desk) (λ (taken : Taken ReplayState). AllSent histories (k + 1) taken.desk more)
      (λ (taken : Taken ReplayState). AsksFromHistories histories (k + 1) taken.desk more) (λ taken here next. asks_from histories (k + 1) taken.desk more are here next)
      (line_leaves (IsSentFromHistory histories) (DeskRepresents histories) k b line (leads_on histories b are all) sent.0) sent.1,
)

pub delivered : (bytes : List ℕ) → DeliversRevisions bytes
delivered bytes histories are sent = asks_from histories 1 empty_replay (lines bytes) are tt sent

-- ---- answered lines

-- if `P` holds for the state after the line unless the line is refused, it holds for the state after a line that was answered
after_line : (P : ReplayState → Type 0) (k : ℕ) (b after : ReplayState) (line text : List ℕ)
    → IfOk (take_line line_answer k b line) (λ (taken : Taken ReplayState). P taken.desk)
    → take_line line_answer k b line ≡ Ok (record { text = text; desk = after }) → P after
after_line P k b after line text holds is =
    subst (λ (r : LineResult ReplayState). IfOk r (λ (taken : Taken ReplayState). P taken.desk)) is holds

-- the effect of a line, if it isn't refused
abbrev effect_or : LineEffect → LineResult ReplayState → LineEffect
effect_or other (Ok effect) = effect
effect_or other (Err cause) = other

-- two effects of the same line, which isn't refused, are equal
same_effect : (x y : LineEffect) (r : LineReading LineEffect) → r ≡ Ok x → refusing refusal_text r ≡ Ok y → x ≡ y
same_effect x y r one two =
    ap (effect_or x) (subst (λ (o : LineReading LineEffect). refusing refusal_text o ≡ Ok y) one two)

-- the answer to an ask meets `AnswersRevision`: it is computed from a board on which each version is a revision in the histories
answers_revision : (histories : Histories) (one : ReplayedLine) → DeskRepresents histories one.before.desk
    → take_line line_answer one.number one.before one.line ≡ Ok (record { text = one.text; desk = one.after })
    → IfOk (asked one.line) (AnswersRevision histories one)
answers_revision histories one all is =
    if_ok (asked one.line) (λ (ask : LineAsk). answer_read one.number one.before one.line ≡ Ok (put_ask one.number one.before ask)) (AnswersRevision histories one)
    (λ ask reads. record {
      answers = same_effect (put_ask one.number one.before ask) (record { text = one.text; desk = one.after }) (answer_read one.number one.before one.line) reads
          (within_limits_of line_answer one.before one.line one.number (record { text = one.text; desk = one.after }) is);
      represented = all_represented histories one.before.desk.board.slots one.before.desk.places all;
      shows = λ q kind ready shown. shows_revision histories one.before.desk.board q kind ready
          (all_represented histories one.before.desk.board.slots one.before.desk.places all) shown;
    }) (answered one.number one.before one.line)

-- the answer to each ask among the lines meets `AnswersRevision`
revisions_from : (histories : Histories) (k : ℕ) (b : ReplayState) (ones : List ReplayedLine) → AreLines histories → DeskRepresents histories b.desk
    → AreReplayed k b ones → AllSentFrom histories ones → AllAnswerRevisions histories ones
revisions_from histories k b [] are all replayed sent = tt
revisions_from histories k b (one ∷ more) are all replayed sent =
    let here : DeskRepresents histories one.before.desk = subst (λ (s : ReplayState). DeskRepresents histories s.desk) (sym replayed.1) all in
    let next : DeskRepresents histories one.after.desk =
    after_line (λ s. DeskRepresents histories s.desk) one.number one.before one.after one.line one.text
    (line_leaves (IsSentFromHistory histories) (DeskRepresents histories) one.number one.before one.line (leads_on histories one.before are here) sent.0)
    replayed.2 in (
      answers_revision histories one here replayed.2,
      revisions_from histories (k + 1) one.after more are next replayed.3 sent.1,
    )

anything : {A E : Type 0} (r : Result A E) → IfOk r (λ x. Unit {0})
anything (Ok x) = tt
anything (Err e) = tt

-- no line replaces an environment's version by an older one
never_falls_from : (environment : List ℕ) (k : ℕ) (b : ReplayState) (ones : List ReplayedLine) → Agrees b.desk → AreReplayed k b ones
    → AllByRecursion (λ one. IsNotBelow (version_in environment one.before) (version_in environment one.after)) ones
never_falls_from environment k b [] agrees replayed = tt
never_falls_from environment k b (one ∷ more) agrees replayed =
    let here : Agrees one.before.desk = subst (λ (s : ReplayState). Agrees s.desk) (sym replayed.1) agrees in
    let next : Rises one.before.desk one.after.desk =
    after_line (λ s. Rises one.before.desk s.desk) one.number one.before one.after one.line one.text
    (line_leaves (λ delivery. Unit {0}) (Rises one.before.desk) one.number one.before one.line (leads_up one.before.desk here) (anything (brought one.before one.line)))
    replayed.2 in
    (next.1 environment, never_falls_from environment (k + 1) one.after more next.0 replayed.3)

-- ---- the answered lines of an input

-- the list of answered lines, by the result of the first line; the list is empty if that line is refused
abbrev replayed_by : ℕ → ReplayState → List ℕ → LineResult ReplayState → (ReplayState → List ReplayedLine) → List ReplayedLine
replayed_by k b line (Ok taken) rest = record { number = k; before = b; line = line; text = taken.text; after = taken.desk } ∷ rest taken.desk
replayed_by k b line (Err cause) rest = []

-- the answered lines, from line `k` on
abbrev replayed_from : ℕ → ReplayState → List (List ℕ) → List ReplayedLine
replayed_from k b [] = []
replayed_from k b (line ∷ more) = replayed_by k b line (take_line line_answer k b line) (λ after. replayed_from (k + 1) after more)

-- the answered lines after a line
abbrev rest_of : ℕ → List (List ℕ) → ReplayState → List ReplayedLine
rest_of k more after = replayed_from (k + 1) after more

-- the answered lines are a prefix of all lines
are_first : (k : ℕ) (b : ReplayState) (ls : List (List ℕ)) → bytes_of (replayed_from k b ls) ≡ take (length (replayed_from k b ls)) ls
are_first k b [] = refl
are_first k b (line ∷ more) = by_result (take_line line_answer k b line) (λ after. are_first (k + 1) after more)
  where
    by_result : (r : LineResult ReplayState) → ((after : ReplayState) → bytes_of (rest_of k more after) ≡ take (length (rest_of k more after)) more)
        → bytes_of (replayed_by k b line r (rest_of k more)) ≡ take (length (replayed_by k b line r (rest_of k more))) (line ∷ more)
    by_result (Ok taken) others = ap (λ ls. line ∷ ls) (others taken.desk)
    by_result (Err cause) others = refl

-- there are no more answered lines than lines
no_more : (k : ℕ) (b : ReplayState) (ls : List (List ℕ)) → length (replayed_from k b ls) ≤ length ls
no_more k b [] = omega arith
no_more k b (line ∷ more) = by_result (take_line line_answer k b line) (λ after. no_more (k + 1) after more)
  where
    by_result : (r : LineResult ReplayState) → ((after : ReplayState) → length (rest_of k more after) ≤ length more)
        → length (replayed_by k b line r (rest_of k more)) ≤ length (line ∷ more)
    by_result (Ok taken) others = omega (arith, others taken.desk)
    by_result (Err cause) others = omega arith

-- each line was answered with the state that the line before it left
are_replayed : (k : ℕ) (b : ReplayState) (ls : List (List ℕ)) → AreReplayed k b (replayed_from k b ls)
are_replayed k b [] = tt
are_replayed k b (line ∷ more) = by_result (take_line line_answer k b line) refl (λ after. are_replayed (k + 1) after more)
  where
    by_result : (r : LineResult ReplayState) → take_line line_answer k b line ≡ r
        → ((after : ReplayState) → AreReplayed (k + 1) after (rest_of k more after)) → AreReplayed k b (replayed_by k b line r (rest_of k more))
    by_result (Ok taken) is others = (refl, refl, is, others taken.desk)
    by_result (Err cause) is others = tt

-- the outcome of the lines after a line
abbrev outcome_after : ℕ → List (List ℕ) → ReplayState → LinesOutcome ReplayState
outcome_after k more after = take_from line_answer (k + 1) after more

-- the text of the outcome is the text of the answered lines
same_text : (k : ℕ) (b : ReplayState) (ls : List (List ℕ)) → (take_from line_answer k b ls).text ≡ text_of (replayed_from k b ls)
same_text k b [] = refl
same_text k b (line ∷ more) = by_result (take_line line_answer k b line) (λ after. same_text (k + 1) after more)
  where
    by_result : (r : LineResult ReplayState) → ((after : ReplayState) → (outcome_after k more after).text ≡ text_of (rest_of k more after))
        → (followed k b r (outcome_after k more)).text ≡ text_of (replayed_by k b line r (rest_of k more))
    by_result (Ok taken) others = ap (λ t. taken.text ++ t) (others taken.desk)
    by_result (Err cause) others = refl

-- if no line is refused, the answered lines are all lines
all_of : (k : ℕ) (b : ReplayState) (ls : List (List ℕ)) → (take_from line_answer k b ls).ending ≡ done → bytes_of (replayed_from k b ls) ≡ ls
all_of k b [] ends = refl
all_of k b (line ∷ more) ends = by_result (take_line line_answer k b line) (λ after. all_of (k + 1) after more) ends
  where
    by_result : (r : LineResult ReplayState) → ((after : ReplayState) → (outcome_after k more after).ending ≡ done → bytes_of (rest_of k more after) ≡ more)
        → (followed k b r (outcome_after k more)).ending ≡ done → bytes_of (replayed_by k b line r (rest_of k more)) ≡ line ∷ more
    by_result (Ok taken) others ends = ap (λ ls. line ∷ ls) (others taken.desk ends)
    by_result (Err cause) others ends = absurd (cc ends)

-- ---- the whole replay

-- if `ls` are the first lines of some bytes, the answered lines among them meet `AnswersLines`
among_first : (bytes : List ℕ) (ls : List (List ℕ)) (end : Result Unit LinesFault) (old new : Option (List ℕ))
    → ((k : ℕ) → k ≤ length ls → take k ls ≡ take k (lines bytes)) → SendsAnswers end bytes (replayed_from 1 empty_replay ls) old new
    → AnswersLines bytes end old new
among_first bytes ls end old new are_first_lines sent = record {
  ones = replayed_from 1 empty_replay ls;
  first = are_first 1 empty_replay ls ∙ are_first_lines (length (replayed_from 1 empty_replay ls)) (no_more 1 empty_replay ls);
  replayed = are_replayed 1 empty_replay ls;
  sent = sent;
  revisions = λ histories are all_sent. revisions_from histories 1 empty_replay (replayed_from 1 empty_replay ls) are tt (are_replayed 1 empty_replay ls) all_sent;
  rising = λ environment. never_falls_from environment 1 empty_replay (replayed_from 1 empty_replay ls) tt (are_replayed 1 empty_replay ls);
}

-- a statement that holds of the bytes read, whatever bytes may follow, holds of the bytes read alone
of_read : (P : List ℕ → Type 0) (left left_after : Option (List ℕ)) (holds : HoldsOfRead left left_after P) → P holds.read
of_read P left left_after holds = subst P (append-nil holds.read) (holds.holds [] (λ end. refl))

-- if processing ended at a refused line, the line has a number and a cause, and the text and then the line that reports them were sent
refused_end : (text : List ℕ) (ending : Ending) (old new : Option (List ℕ)) → IsRefused ending → Sends old (text ++ ending_text ending) new
    → (k : ℕ) × (cause : List ℕ) × Sends old (text ++ refused_text k cause) new
refused_end text done old new is sends = absurd is
refused_end text (refused k cause) old new is sends = (k, cause, sends)

-- the effect of a replay, with the list of its answered lines
pub replays_lines : (end : Result Unit LinesFault) (left left_after old new : Option (List ℕ)) → TakesLines line_answer empty_replay end left left_after old new
    → Replays end left left_after old new
replays_lines (Ok u) left left_after old new takes = record {
  takes = takes;
  read = takes.read;
  took = takes.took;
  answered = among_first takes.read (lines takes.read) (Ok u) old new (λ k few. refl)
      (all_of 1 empty_replay (lines takes.read) takes.answered.ending, subst (λ t. Sends old t new) (same_text 1 empty_replay (lines takes.read)) takes.answered.sent);
}
replays_lines (Err Bad) left left_after old new takes =
    let refuses : IsRefusing (replay_of takes.read) old new = of_read (λ bytes. IsRefusing (replay_of bytes) old new) left left_after takes in
    record {
      takes = takes;
      read = takes.read;
      took = takes.took;
      answered = among_first takes.read (lines takes.read) (Err Bad) old new (λ k few. refl)
          (refused_end (text_of (replayed_from 1 empty_replay (lines takes.read))) (replay_of takes.read).ending old new refuses.ending
          (subst (λ t. Sends old (t ++ ending_text (replay_of takes.read).ending) new) (same_text 1 empty_replay (lines takes.read)) refuses.sent));
    }
replays_lines (Err ReadFault) left left_after old new takes =
    let ls : List (List ℕ) = ended_lines takes.read in record {
      takes = takes;
      read = takes.read;
      took = takes.took;
      answered = among_first takes.read ls (Err ReadFault) old new (λ k few. take_of_first (lines takes.read) (count_by is_end takes.read) k few)
          (all_of 1 empty_replay ls takes.answered.ending, subst (λ t. Sends old t new) (same_text 1 empty_replay ls) takes.answered.sent);
    }
replays_lines (Err WriteFault) left left_after old new takes =
    let front : SendsPrefix old (whole_text (replay_of takes.read)) new = of_read (λ bytes. SendsPrefix old (whole_text (replay_of bytes)) new) left left_after takes in
    record {
      takes = takes;
      read = takes.read;
      took = takes.took;
      answered = among_first takes.read (lines takes.read) (Err WriteFault) old new (λ k few. refl) (
        (replay_of takes.read).ending,
        subst (λ t. SendsPrefix old (t ++ ending_text (replay_of takes.read).ending) new) (same_text 1 empty_replay (lines takes.read)) front,
      );
    }
replays_lines (Err Memory) left left_after old new takes =
    let firsts : AnswersFirst line_answer empty_replay takes.read old new = of_read (λ bytes. AnswersFirst line_answer empty_replay bytes old new) left left_after takes in
    let ls : List (List ℕ) = take firsts.count (lines takes.read) in record {
      takes = takes;
      read = takes.read;
      took = takes.took;
      answered = among_first takes.read ls (Err Memory) old new (λ k few. take_of_first (lines takes.read) firsts.count k few)
          (subst (λ t. Sends old t new) (same_text 1 empty_replay ls) firsts.answered.sent);
    }
