-- The effect of processing all lines, from the effect of each turn.
use Rattle.std.proofs.Common.{◌≡◌, ℕ, ◌+◌, ◌<◌, ◌≤◌, List, [], ◌∷◌, ◌++◌, length, false, cond, ltb, Ok, Err, Option, Some, None, IfSome, refl, sym, ap, subst, ◌∙◌, append_assoc, append-nil, arith}
use Rattle.std.specs.Prelude.{codes, take}
use Rattle.std.proofs.lemmas.Bool.{lt-ltb}
use Rattle.std.proofs.lemmas.Bool.Decides.{nat_tests}
use Rattle.unl_base.specs.Streams.{HasEnded, Sends, SendsPrefix}
use Rattle.unl_base.specs.Streams as stream
use Rattle.unl_input.specs.declared.taking.LinesFault.{LinesFault}
use Rattle.unl_input.specs.declared.taking.LinesFault.TheVariants.{Bad, ReadFault, WriteFault, Memory}
use Rattle.unl_input.specs.Lines.{lines, ended_lines}
use Rattle.unl_input.specs.Reading.{Gets, longest_line}
use Rattle.unl_input.specs.Taken.{LineResult, LinesOutcome, Taking, done, refused, IsRefused, ending_text, whole_text, printed, refused_text, begun_by, followed, take_line, take_from, lines_outcome, ended_lines_outcome, first_lines_outcome, most_lines}
use Rattle.unl_input.specs.Turns.{LinesScene, ConsumesBytes, MayFollow, Prints, ProcessesLine, ReachesEnd, IsRefusedAt, PrintsPrefix, TextBeginsWith, RunsOutAtLine, StopsReading, HasTurnEffect}
use Rattle.unl_input.specs.Whole.{IsRefusing, AnswersAllLines, AnswersFirst, AnswersInput, AnswersRead, HoldsOfRead, TakesLines}
use Rattle.unl_input.proofs.Lines.{gets_trans, takes_nothing, sends_nothing, sends_trans, sends_then_prefix, prefix_of_longer, IsWhole, whole_more, ended_whole, first_whole, line_first}

-- ---- one line

-- for a line within the limits, checking the limits changes nothing
pub within_limits : {D : Type 0} (taking : Taking D) (k : ℕ) (d : D) (line : List ℕ) → k ≤ most_lines → length line ≤ longest_line
    → take_line taking k d line ≡ taking k d line
within_limits taking k d line few short =
    ap (λ t. cond t (Err (codes "TooManyLines")) (cond (ltb longest_line (length line)) (Err (codes "LineTooLong")) (taking k d line))) (not_below most_lines k few)
    ∙ ap (λ t. cond t (Err (codes "LineTooLong")) (taking k d line)) (not_below longest_line (length line) short)
  where
    not_below : (m n : ℕ) → n ≤ m → ltb m n ≡ false
    not_below m n most = grind (arith, nat_tests)

pub past_limit : {D : Type 0} (taking : Taking D) (k : ℕ) (d : D) (line : List ℕ) → k ≤ most_lines → longest_line < length line
    → take_line taking k d line ≡ Err (codes "LineTooLong")
past_limit taking k d line few long =
    ap (λ t. cond t (Err (codes "TooManyLines")) (cond (ltb longest_line (length line)) (Err (codes "LineTooLong")) (taking k d line))) (not_below most_lines k few)
    ∙ ap (λ t. cond t (Err (codes "LineTooLong")) (taking k d line)) (lt-ltb longest_line (length line) long)
  where
    not_below : (m n : ℕ) → n ≤ m → ltb m n ≡ false
    not_below m n most = grind (arith, nat_tests)

pub past_last : {D : Type 0} (taking : Taking D) (k : ℕ) (d : D) (line : List ℕ) → most_lines < k → take_line taking k d line ≡ Err (codes "TooManyLines")
past_last taking k d line past =
    ap (λ t. cond t (Err (codes "TooManyLines")) (cond (ltb longest_line (length line)) (Err (codes "LineTooLong")) (taking k d line))) (lt-ltb most_lines k past)

-- ---- the effect of a turn

-- the consumed bytes begin with a line whose result is `comes`, no matter which bytes follow
unfoldable pub Heads : {D : Type 0} → Taking D → ℕ → D → List ℕ → LinesScene D → LineResult D → Type 0
Heads taking k d out after comes = (rest : List ℕ) → MayFollow after rest
    → (line : List ℕ) × (more : List (List ℕ)) × (lines (out ++ rest) ≡ line ∷ more) × (take_line taking k d line ≡ comes)

headed : {D : Type 0} (taking : Taking D) (k : ℕ) (d : D) (out rest : List ℕ) (after : LinesScene D) (comes : LineResult D)
    → Heads taking k d out after comes → MayFollow after rest
    → (more : List (List ℕ)) × (take_from taking k d (lines (out ++ rest)) ≡ followed k d comes (λ next. take_from taking (k + 1) next more))
unfolding Heads
headed taking k d out rest after comes heads may =
    let first = heads rest may in
    (first.1, ap (take_from taking k d) first.2 ∙ ap (λ r. followed k d r (λ next. take_from taking (k + 1) next first.1)) first.3)

-- the whole text begins with the text that the first line prints
prints_first : {D : Type 0} (k : ℕ) (d : D) (comes : LineResult D) (next : D → LinesOutcome D) → TextBeginsWith (printed k comes) (followed k d comes next)
prints_first k d (Ok taken) next = (whole_text (next taken.desk), append_assoc taken.text (next taken.desk).text (ending_text (next taken.desk).ending))
prints_first k d (Err cause) next = ([], sym (append-nil (refused_text k cause)))

-- the effect of a turn that failed, from the result of its line, the bytes consumed and the text sent
pub errs : {D : Type 0} (taking : Taking D) (fault : LinesFault) (k : ℕ) (before after : LinesScene D) (out : List ℕ) (comes : LineResult D) (desk : D)
    → Prints (Err fault) k comes desk before.sent after.sent → ConsumesBytes before out after → Heads taking k before.desk out after comes
    → HasTurnEffect taking (Err fault) k before after
errs taking Bad k before after out comes desk prints got heads = record {
  out = out;
  cause = prints.0;
  got = got;
  is = λ rest may. (headed taking k before.desk out rest after comes heads may).1
      ∙ ap (λ r. followed k before.desk r (λ next. take_from taking (k + 1) next (headed taking k before.desk out rest after comes heads may).0)) prints.1;
  sent = prints.2;
}
errs taking ReadFault k before after out comes desk prints got heads = absurd prints
errs taking WriteFault k before after out comes desk prints got heads = record {
  out = out;
  text = printed k comes;
  got = got;
  is = λ rest may. let headed_is = headed taking k before.desk out rest after comes heads may in
      subst (TextBeginsWith (printed k comes)) (sym headed_is.1) (prints_first k before.desk comes (λ next. take_from taking (k + 1) next headed_is.0));
  sent = prints;
}
errs taking Memory k before after out comes desk prints got heads = record { out = out; got = got; sent = prints }

-- ---- the lines so far

pub record Sofar {D : Type 0} (taking : Taking D) (first : D) (start sent : Option (List ℕ)) (k : ℕ) (scene : LinesScene D) : Type 0 where
  pub taken : List ℕ
  pub text : List ℕ
  pub got : Gets [] start taken scene.held scene.left
  pub whole : IsWhole taken
  pub leads : (rest : List ℕ) → take_from taking 1 first (lines (taken ++ rest)) ≡ begun_by text (take_from taking k scene.desk (lines rest))
  pub sends : Sends sent text scene.sent

begun_twice : {D : Type 0} (text more : List ℕ) (outcome : LinesOutcome D) → begun_by text (begun_by more outcome) ≡ begun_by (text ++ more) outcome
begun_twice {D = D} text more outcome =
    ap (λ t. let x : LinesOutcome D = record { text = t; ending = outcome.ending; desk = outcome.desk } in x) (sym (append_assoc text more outcome.text))

-- one more line was processed
pub processes_line : {D : Type 0} (taking : Taking D) (first : D) (start sent : Option (List ℕ)) (k : ℕ) (before after : LinesScene D)
    → Sofar taking first start sent k before → ProcessesLine taking k before after → Sofar taking first start sent (k + 1) after
processes_line taking first start sent k before after sofar now =
    let out : List ℕ = now.line ++ 10 ∷ [] in record {
      taken = sofar.taken ++ out;
      text = sofar.text ++ now.text;
      got = gets_trans [] before.held after.held start before.left after.left sofar.taken out sofar.got now.got;
      whole = whole_more sofar.taken now.line sofar.whole now.unbroken;
      leads = λ rest.
          ap (λ bytes. take_from taking 1 first (lines bytes)) (append_assoc sofar.taken out rest)
          ∙ sofar.leads (out ++ rest)
          ∙ ap (λ ls. begun_by sofar.text (take_from taking k before.desk ls)) (line_first now.line rest now.unbroken)
          ∙ ap (λ r. begun_by sofar.text (followed k before.desk r (λ next. take_from taking (k + 1) next (lines rest)))) now.is
          ∙ begun_twice sofar.text now.text (take_from taking (k + 1) after.desk (lines rest));
      sends = sends_trans sent before.sent after.sent sofar.text now.text sofar.sends now.sent;
    }

-- ---- the effect of processing all lines

-- the whole input was processed, whether or not the input is observable
pub ends_all : {D : Type 0} (taking : Taking D) (first : D) (start sent : Option (List ℕ)) (k : ℕ) (before after : LinesScene D)
    → Sofar taking first start sent k before → ReachesEnd taking k before after
    → AnswersAllLines taking first after.desk start after.left sent after.sent
ends_all {D = D} taking first start sent k before after sofar now =
    let all = gets_trans [] before.held after.held start before.left after.left sofar.taken now.out sofar.got now.got in
    let read : all.read ≡ sofar.taken ++ now.out = all.split ∙ ap (λ h. (sofar.taken ++ now.out) ++ h) now.end.0 ∙ append-nil (sofar.taken ++ now.out) in
    let whole : LinesOutcome D = record { text = sofar.text ++ now.text; ending = done; desk = after.desk } in
    let is : lines_outcome taking first all.read ≡ whole =
    ap (λ bytes. take_from taking 1 first (lines bytes)) read ∙ sofar.leads now.out ∙ ap (begun_by sofar.text) now.is in
    record {
      read = all.read;
      took = all.took;
      end = now.end.1;
      answered = record {
        ending = ap (λ r. r.ending) is;
        sent = subst (λ text. Sends sent text after.sent) (sym (ap (λ r. r.text) is)) (sends_trans sent before.sent after.sent sofar.text now.text sofar.sends now.sent);
      };
      leaves = ap (λ r. r.desk) is;
    }

-- all lines of the input were processed, and all output was sent
pub answers_input : {D : Type 0} (taking : Taking D) (first last : D) (start left old new : Option (List ℕ))
    → AnswersAllLines taking first last start left old new → AnswersInput taking first start left old new
answers_input taking first last start left old new all =
    record { read = all.read; took = all.took; end = all.end; answered = all.answered }

-- the outcome of all bytes read and any that follow, in terms of the outcome of the bytes `out` that were consumed last
read_of : {D : Type 0} (taking : Taking D) (first : D) (start sent : Option (List ℕ)) (k : ℕ) (before after : LinesScene D) (out rest : List ℕ)
    → (sofar : Sofar taking first start sent k before) → (got : ConsumesBytes before out after)
    → lines_outcome taking first ((gets_trans [] before.held after.held start before.left after.left sofar.taken out sofar.got got).read ++ rest)
    ≡ begun_by sofar.text (take_from taking k before.desk (lines (out ++ (after.held ++ rest))))
read_of taking first start sent k before after out rest sofar got =
    let all = gets_trans [] before.held after.held start before.left after.left sofar.taken out sofar.got got in
    ap (λ bytes. take_from taking 1 first (lines (bytes ++ rest))) all.split
    ∙ ap (λ bytes. take_from taking 1 first (lines bytes))
    (append_assoc (sofar.taken ++ out) after.held rest ∙ append_assoc sofar.taken out (after.held ++ rest))
    ∙ sofar.leads (out ++ (after.held ++ rest))

-- if `rest` can follow the bytes read, then the held bytes and `rest` can follow the consumed bytes
may_follow : {D : Type 0} (after : LinesScene D) (rest : List ℕ) → (HasEnded after.left → rest ≡ []) → MayFollow after (after.held ++ rest)
may_follow after rest may = λ end. ap (λ xs. xs ++ rest) end.0 ∙ may end.1

pub ends_refused : {D : Type 0} (taking : Taking D) (first : D) (start sent : Option (List ℕ)) (k : ℕ) (before after : LinesScene D)
    → Sofar taking first start sent k before → IsRefusedAt taking k before after
    → HoldsOfRead start after.left (λ bytes. IsRefusing (lines_outcome taking first bytes) sent after.sent)
ends_refused {D = D} taking first start sent k before after sofar now =
    let all = gets_trans [] before.held after.held start before.left after.left sofar.taken now.out sofar.got now.got in
    let whole : LinesOutcome D = record { text = sofar.text ++ []; ending = refused k now.cause; desk = before.desk } in
    let sends = sends_trans sent before.sent after.sent sofar.text (refused_text k now.cause) sofar.sends now.sent in
    let is : (rest : List ℕ) → (HasEnded after.left → rest ≡ []) → lines_outcome taking first (all.read ++ rest) ≡ whole =
    λ rest may. read_of taking first start sent k before after now.out rest sofar now.got
    ∙ ap (begun_by sofar.text) (now.is (after.held ++ rest) (may_follow after rest may)) in
    let text : (rest : List ℕ) → (HasEnded after.left → rest ≡ []) → whole_text (lines_outcome taking first (all.read ++ rest)) ≡ sofar.text ++ refused_text k now.cause =
    λ rest may. ap whole_text (is rest may) ∙ ap (λ t. t ++ refused_text k now.cause) (append-nil sofar.text) in
    record {
      read = all.read;
      took = all.took;
      holds = λ rest may. record {
        ending = subst IsRefused (sym (ap (λ r. r.ending) (is rest may))) tt;
        sent = subst (λ t. Sends sent t after.sent) (sym (text rest may)) sends;
      };
    }

pub ends_broken : {D : Type 0} (taking : Taking D) (first : D) (start sent : Option (List ℕ)) (k : ℕ) (before after : LinesScene D)
    → Sofar taking first start sent k before → PrintsPrefix taking k before after
    → HoldsOfRead start after.left (λ bytes. SendsPrefix sent (whole_text (lines_outcome taking first bytes)) after.sent)
ends_broken taking first start sent k before after sofar now =
    let all = gets_trans [] before.held after.held start before.left after.left sofar.taken now.out sofar.got now.got in
    let prefix = sends_then_prefix sent before.sent after.sent sofar.text now.text sofar.sends now.sent in
    let tail : (rest : List ℕ) → (HasEnded after.left → rest ≡ [])
    → TextBeginsWith now.text (take_from taking k before.desk (lines (now.out ++ (after.held ++ rest)))) =
    λ rest may. now.is (after.held ++ rest) (may_follow after rest may) in
    let text : (rest : List ℕ) → (may : HasEnded after.left → rest ≡ [])
    → whole_text (lines_outcome taking first (all.read ++ rest)) ≡ (sofar.text ++ now.text) ++ (tail rest may).0 =
    λ rest may. let r = take_from taking k before.desk (lines (now.out ++ (after.held ++ rest))) in
    ap whole_text (read_of taking first start sent k before after now.out rest sofar now.got)
    ∙ append_assoc sofar.text r.text (ending_text r.ending) ∙ ap (λ t. sofar.text ++ t) (tail rest may).1
    ∙ sym (append_assoc sofar.text now.text (tail rest may).0) in
    record {
      read = all.read;
      took = all.took;
      holds = λ rest may. prefix_of_longer sent after.sent (sofar.text ++ now.text) (tail rest may).0
          (whole_text (lines_outcome taking first (all.read ++ rest))) prefix (text rest may);
    }

-- a statement about all bytes that may follow also holds for the whole input, if the input is observable
pub holds_of_observable : (P : List ℕ → Type 0) (start left : Option (List ℕ)) → HoldsOfRead start left P → IfSome start P
holds_of_observable P None left of_read = tt
holds_of_observable P (Some x) None of_read = absurd (let took = of_read.took in cc)
holds_of_observable P (Some x) (Some y) of_read =
    let parts : x ≡ of_read.read ++ y = let took = of_read.took in cc in
    subst P (sym parts) (of_read.holds y (λ end. end))

-- if the input is observable and was read to its end, it is the bytes read
pub whole_read : (left left_after : Option (List ℕ)) (read : List ℕ) → stream.Takes left read left_after → HasEnded left_after
    → IfSome left (λ bytes. bytes ≡ read)
whole_read None left_after read took end = tt
whole_read (Some bytes) None read took end = absurd (cc took)
whole_read (Some bytes) (Some rest) read took end =
    let parts : bytes ≡ read ++ rest = let t = took in cc in parts ∙ ap (λ (r : List ℕ). read ++ r) end ∙ append-nil read

pub ends_unread : {D : Type 0} (taking : Taking D) (first : D) (start sent : Option (List ℕ)) (k : ℕ) (before after : LinesScene D)
    → Sofar taking first start sent k before → StopsReading before after → AnswersRead taking first start after.left sent after.sent
ends_unread {D = D} taking first start sent k before after sofar now =
    let all = gets_trans [] before.held after.held start before.left after.left sofar.taken now.begun.prefix sofar.got now.begun.got in
    let read : all.read ≡ sofar.taken ++ now.begun.prefix = all.split ∙ ap (λ h. (sofar.taken ++ now.begun.prefix) ++ h) now.none ∙ append-nil (sofar.taken ++ now.begun.prefix) in
    let whole : LinesOutcome D = record { text = sofar.text ++ []; ending = done; desk = before.desk } in
    let is : ended_lines_outcome taking first all.read ≡ whole =
    ap (λ bytes. take_from taking 1 first (ended_lines bytes)) read
    ∙ ap (take_from taking 1 first) (ended_whole sofar.taken now.begun.prefix sofar.whole now.begun.unbroken ∙ ap lines (sym (append-nil sofar.taken)))
    ∙ sofar.leads [] in
    record {
      read = all.read;
      took = all.took;
      answered = record {
        ending = ap (λ r. r.ending) is;
        sent = subst (λ t. Sends sent t after.sent) (sym (ap (λ r. r.text) is ∙ append-nil sofar.text)) (now.sent ∙ sofar.sends);
      };
    }

-- ---- out of memory

-- exactly the output of the first lines of these bytes was sent
first_of : {D : Type 0} (taking : Taking D) (first : D) (start sent after : Option (List ℕ)) (k : ℕ) (before : LinesScene D) (bytes rest : List ℕ)
    → (sofar : Sofar taking first start sent k before) → after ≡ before.sent → bytes ≡ sofar.taken ++ rest → AnswersFirst taking first bytes sent after
first_of {D = D} taking first start sent after k before bytes rest sofar same parts =
    let count : ℕ = length (lines sofar.taken) in
    let whole : LinesOutcome D = record { text = sofar.text ++ []; ending = done; desk = before.desk } in
    let more : LinesOutcome D = take_from taking k before.desk (lines rest) in
    let sends : Sends sent sofar.text after = subst (λ (s : Option (List ℕ)). Sends sent sofar.text s) (sym same) sofar.sends in
    let is : first_lines_outcome taking first count bytes ≡ whole =
    ap (λ xs. take_from taking 1 first (take count (lines xs))) parts
    ∙ ap (take_from taking 1 first) (first_whole sofar.taken rest sofar.whole ∙ ap lines (sym (append-nil sofar.taken)))
    ∙ sofar.leads [] in
    record {
      count = count;
      answered = record {
        ending = ap (λ r. r.ending) is;
        sent = subst (λ t. Sends sent t after) (sym (ap (λ r. r.text) is ∙ append-nil sofar.text)) sends;
      };
      prefix = record {
        part = sofar.text;
        after = whole_text more;
        split = ap (λ xs. whole_text (lines_outcome taking first xs)) parts ∙ ap whole_text (sofar.leads rest)
            ∙ append_assoc sofar.text more.text (ending_text more.ending);
        sends = sends;
      };
    }

-- memory ran out in a turn
pub ends_out_of_memory : {D : Type 0} (taking : Taking D) (first : D) (start sent : Option (List ℕ)) (k : ℕ) (before after : LinesScene D)
    → Sofar taking first start sent k before → RunsOutAtLine before after
    → HoldsOfRead start after.left (λ bytes. AnswersFirst taking first bytes sent after.sent)
ends_out_of_memory taking first start sent k before after sofar now =
    let all = gets_trans [] before.held after.held start before.left after.left sofar.taken now.out sofar.got now.got in
    record {
      read = all.read;
      took = all.took;
      holds = λ rest may. first_of taking first start sent after.sent k before (all.read ++ rest) (now.out ++ (after.held ++ rest)) sofar now.sent
          (ap (λ xs. xs ++ rest) all.split ∙ append_assoc (sofar.taken ++ now.out) after.held rest
          ∙ append_assoc sofar.taken now.out (after.held ++ rest));
    }

-- memory ran out before anything was read or sent
pub ends_at_once : {D : Type 0} (taking : Taking D) (first : D) (start sent : Option (List ℕ)) → TakesLines taking first (Err Memory) start start sent sent
ends_at_once taking first start sent = record {
  read = [];
  took = takes_nothing start;
  holds = λ rest may. record {
    count = 0;
    answered = record { ending = refl; sent = sends_nothing sent };
    prefix = record { part = []; after = whole_text (lines_outcome taking first rest); split = refl; sends = sends_nothing sent };
  };
}

-- the effect of processing all lines, if a turn fails
pub ends_at : {D : Type 0} (taking : Taking D) (first : D) (fault : LinesFault) (start sent : Option (List ℕ)) (k : ℕ) (before after : LinesScene D)
    → Sofar taking first start sent k before → HasTurnEffect taking (Err fault) k before after → TakesLines taking first (Err fault) start after.left sent after.sent
ends_at taking first Bad start sent k before after sofar now = ends_refused taking first start sent k before after sofar now
ends_at taking first ReadFault start sent k before after sofar now = ends_unread taking first start sent k before after sofar now
ends_at taking first WriteFault start sent k before after sofar now = ends_broken taking first start sent k before after sofar now
ends_at taking first Memory start sent k before after sofar now = ends_out_of_memory taking first start sent k before after sofar now
