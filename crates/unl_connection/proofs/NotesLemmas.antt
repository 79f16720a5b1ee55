-- Lemmas on a conversation: how it changes the desk, the notes and the draws.
use Rattle.std.proofs.Common.{◌≡◌, ℕ, ◌+◌, ◌≤◌, List, [], ◌∷◌, ◌++◌, refl, sym, ap, ◌∙◌, subst, arith, append_assoc, append-nil, Option, ◌⊎◌, inl, inr}
use Rattle.unl_base.specs.declared.draws.Draw.{Draw}
use Rattle.unl_base.specs.Draws.{TakesDraw}
use Rattle.unl_base.proofs.Sending.{Sends_nothing, Sends_more}
use Rattle.unl_http_api.specs.declared.end.End.{End}
use Rattle.unl_http_api.specs.declared.end.End.TheVariants.{Memory}
use Rattle.unl_http_api.specs.declared.reply.Reply.{Reply}
use Rattle.unl_http_api.specs.declared.request.Request.{Request}
use Rattle.unl_core.specs.declared.board.Board.{Board}
use Rattle.unl_core.specs.Answer.{answer_of}
use Rattle.unl_core.specs.Desk.{Keeps, Enters, EntersAtMostOnce}
use Rattle.unl_core.specs.Recording.{final_book, final_reply}
use Rattle.unl_core.proofs.Showing.{shows_revision}
use Rattle.unl_server.specs.Handling.{HandlerState, HandlesRequest, RunsOutOfMemory}
use Rattle.unl_server.specs.Conversation.{AreAnswered, Reaches}
use Rattle.unl_server.specs.Exchange.{Unreplied}
use Rattle.unl_server.proofs.ShowsLemmas.{IsNear, Shows}
use Rattle.unl_connection.specs.declared.served.ServedOne.{ServedOne}
use Rattle.unl_connection.specs.Notes.{AnswersNothing, AnswersFromBoard, TakesDraws, DrawsAtLeast, KnownDesk, LooksFor, Noted, Notes, NotesNothing, FrontsRise, DeskNotes, fronts_of, noted}

-- a handler answered, and its desk, notes and book changed as one answer changes them
abbrev pub Over : {S : Type 0} → (S → DeskNotes) → HandlerState S → Request → Reply → HandlerState S → Type 0
Over seen = HandlesRequest (λ state request draw reply after. AnswersFromBoard (seen state) request draw reply (seen after))

-- a handler ran out of memory at an answer, and its notes and book are unchanged
abbrev pub RunsOutOver : {S : Type 0} → (S → DeskNotes) → HandlerState S → Request → HandlerState S → Type 0
RunsOutOver seen = RunsOutOfMemory (λ state request draw after. AnswersNothing (seen state) (seen after))

-- the notes and the book of a handler
abbrev pub noted_of : {S : Type 0} → (S → DeskNotes) → HandlerState S → Noted
noted_of seen s = (seen s.state).noted

-- ---- the desk, the notes and the draws after a chain of answers

-- what the answers with these notes did to the desk and the draws
pub record Sums
    (before after : KnownDesk) (coming coming_after : Option (List Draw × Draw)) (ones : List ServedOne) : Type 0 where
  pub rise : FrontsRise before.front ones after.front
  pub looks : Enters before.fronts (fronts_of ones) after.fronts
  pub drawn : TakesDraws coming ones coming_after
  pub keeps : Keeps before.board_at after.board_at

-- fronts that rise from one front also rise from any lower front
Rise_from : (first one last : ℕ) (ones : List ServedOne) → first ≤ one → FrontsRise one ones last → FrontsRise first ones last
Rise_from first one last [] up rise = omega (arith, up, rise)
Rise_from first one last (other ∷ ones) up rise = (omega (arith, up, rise.0), rise.1)

-- fronts that rise to one front also rise to any higher front
Rise_to : (first last more : ℕ) (ones : List ServedOne) → FrontsRise first ones last → last ≤ more → FrontsRise first ones more
Rise_to first last more [] rise up = omega (arith, rise, up)
Rise_to first last more (one ∷ ones) rise up = (rise.0, Rise_to one.front last more ones rise.1 up)

-- the effect of an answer and then of the answers with the notes `ones`
Sums_more : (before middle : DeskNotes) (after : KnownDesk) (coming next coming_after : Option (List Draw × Draw)) (request : Request)
    (draw : Draw) (reply : Reply) (ones : List ServedOne) → TakesDraw coming draw next
    → (over : AnswersFromBoard before request draw reply middle) → Sums middle.desk after next coming_after ones
    → Sums before.desk after coming coming_after (over.one ∷ ones)
Sums_more before middle after coming next coming_after request draw reply ones taken over sums = record {
  rise = (
    omega (arith, over.rises, over.its_front),
    Rise_from over.one.front middle.desk.front after.front ones (omega (arith, over.its_front)) sums.rise,
  );
  looks = Sends_more before.desk.fronts middle.desk.fronts after.fronts (over.one.front ∷ []) (fronts_of ones)
      (subst (λ (front : ℕ). Enters before.desk.fronts (front ∷ []) middle.desk.fronts) (sym over.its_front) over.entered) sums.looks;
  drawn = (next, subst (λ (d : Draw). TakesDraw coming d next) (sym over.its_draw) taken, sums.drawn);
  keeps = λ k board known. sums.keeps k board (over.keeps k board known);
}

-- a chain of answers appends notes, which say what the chain did to the desk and the draws
pub summed : {S : Type 0} (seen : S → DeskNotes) (count : ℕ) (before after : HandlerState S) (qs : List Request)
    (text : List ℕ) → AreAnswered (Over seen) count before qs text after
    → (ones : List ServedOne) × ((noted_of seen after).ones ≡ (noted_of seen before).ones ++ ones)
    × Sums (seen before.state).desk (seen after.state).desk before.coming after.coming ones
summed {S} seen count before after [] text answered = (
  [],
  ap (λ (s : HandlerState S). (noted_of seen s).ones) answered.1 ∙ sym (append-nil (noted_of seen before).ones),
  subst (λ (s : HandlerState S). Sums (seen before.state).desk (seen s.state).desk before.coming s.coming [])
      (sym answered.1)
      (record {
        rise = omega arith;
        looks = Sends_nothing (seen before.state).desk.fronts;
        drawn = refl;
        keeps = λ k board there. there;
      }),
)
summed seen count before after (q ∷ qs) text (reply, middle, more, step, split, rest) =
    let others = summed seen (count + 1) middle after qs more rest in (
      step.given.one ∷ others.0,
      others.1 ∙ ap (λ (o : List ServedOne). o ++ others.0) step.given.added
          ∙ append_assoc (noted_of seen before).ones (step.given.one ∷ []) others.0,
      Sums_more (seen before.state) (seen middle.state) (seen after.state).desk before.coming middle.coming after.coming
          q step.draw reply others.0 step.taken step.given others.2,
    )

-- ---- the notes as a conversation of their own

-- an answer of the handler meets `Notes`, for any `board_at` that keeps the boards that the desk knows
noted_over : {S : Type 0} (seen : S → DeskNotes) (board_at : ℕ → Option Board) (before after : HandlerState S)
    (q : Request) (reply : Reply) → Keeps (seen after.state).desk.board_at board_at → Over seen before q reply after
    → Notes board_at (noted_of seen before) q reply (noted_of seen after)
noted_over seen board_at before after q reply keeps step = record {
  one = step.given.one;
  board = step.given.board;
  added = step.given.added;
  known = ap board_at step.given.its_front ∙ keeps (seen after.state).desk.front step.given.board step.given.known;
  is = step.given.is
      ∙ ap (λ (d : Draw). final_reply (noted_of seen before).book (answer_of step.given.board q d)) (sym step.given.its_draw);
  summed = step.given.summed
      ∙ ap (λ (d : Draw). final_book (noted_of seen before).book (answer_of step.given.board q d)) (sym step.given.its_draw);
  revisions = λ histories represented request kind ready shown.
      shows_revision histories step.given.board request kind ready represented shown;
}

-- if each answer of a chain meets `Over`, each meets `Notes`
answered_over : {S : Type 0} (seen : S → DeskNotes) (board_at : ℕ → Option Board) (count : ℕ)
    (before after : HandlerState S) (qs : List Request) (text : List ℕ)
    → Keeps (seen after.state).desk.board_at board_at → AreAnswered (Over seen) count before qs text after
    → AreAnswered (Notes board_at) count (noted_of seen before) qs text (noted_of seen after)
answered_over seen board_at count before after [] text keeps answered = (answered.0, ap (noted_of seen) answered.1)
answered_over seen board_at count before after (q ∷ qs) text keeps (reply, middle, more, step, split, rest) =
    let others = summed seen (count + 1) middle after qs more rest in (
      reply,
      noted_of seen middle,
      more,
      noted_over seen board_at before middle q reply (λ k board there. keeps k board (others.2.keeps k board there)) step,
      split,
      answered_over seen board_at (count + 1) middle after qs more keeps rest,
    )

-- the boards that are known before the last request are known after it
near_keeps : {S : Type 0} (seen : S → DeskNotes) (state after : HandlerState S)
    → IsNear (Over seen) (RunsOutOver seen) state after → Keeps (seen state.state).desk.board_at (seen after.state).desk.board_at
near_keeps {S} seen state after (inl same) =
    subst (λ (s : HandlerState S). Keeps (seen state.state).desk.board_at (seen s.state).desk.board_at) (sym same)
    (λ k board there. there)
near_keeps seen state after (inr (q, inl lacks)) = lacks.ran_out.keeps
near_keeps seen state after (inr (q, inr (reply, step))) = step.given.keeps

runs_out_noted : {S : Type 0} (seen : S → DeskNotes) (state after : HandlerState S) (q : Request) → RunsOutOver seen state q after
    → NotesNothing (noted_of seen state) q (noted_of seen after)
runs_out_noted seen state after q lacks i = noted (lacks.ran_out.same i) (lacks.ran_out.same_book i)

last_noted : {S : Type 0} (seen : S → DeskNotes) (state after : HandlerState S) (q : Request)
    → Unreplied (Over seen) (RunsOutOver seen) state q after
    → Unreplied (Notes (seen after.state).desk.board_at) NotesNothing (noted_of seen state) q (noted_of seen after)
last_noted seen state after q (inl lacks) = inl (runs_out_noted seen state after q lacks)
last_noted seen state after q (inr (reply, step)) =
    inr (reply, noted_over seen (seen after.state).desk.board_at state after q reply (λ k board there. there) step)

-- `Notes` and `NotesNothing` hold of the notes wherever `Over` and `RunsOutOver` hold of the handler
pub shows : {S : Type 0} (seen : S → DeskNotes) (before after : HandlerState S)
    → Shows (Over seen) (RunsOutOver seen) (Notes (seen after.state).desk.board_at) NotesNothing (noted_of seen) before after
shows seen before after = record {
  chain = λ state qs text near answered.
      answered_over seen (seen after.state).desk.board_at 0 before state qs text (near_keeps seen state after near) answered;
  last = λ state q unreplied. last_noted seen state after q unreplied;
  runs_out = λ state q lacks. runs_out_noted seen state after q lacks;
}

-- ---- what holds in every case

-- what the notes say, whether or not the bytes are observable
pub record ReflectsNotes
    (before : KnownDesk) (coming : Option (List Draw × Draw)) (end : End) (after : KnownDesk)
    (coming_after : Option (List Draw × Draw)) (ones : List ServedOne) : Type 0 where
  pub fronts : FrontsRise before.front ones after.front
  pub looks : LooksFor before.fronts ones end after.fronts
  pub drawn : DrawsAtLeast coming ones coming_after
  pub keeps : Keeps before.board_at after.board_at

-- `ReflectsNotes`, if no draw was taken after the last answer
reflects_same : (before after : KnownDesk) (coming coming_after : Option (List Draw × Draw)) (end : End) (ones : List ServedOne)
    → Sums before after coming coming_after ones → ReflectsNotes before coming end after coming_after ones
reflects_same before after coming coming_after end ones sums = record {
  fronts = sums.rise;
  looks = inl sums.looks;
  drawn = (coming_after, sums.drawn, inl refl);
  keeps = sums.keeps;
}

-- the looks, if memory ran out and the desk may have looked once more
looked_more : (fronts middle after : Option (List ℕ)) (ones : List ServedOne) (end : End) → end ≡ Memory
    → Enters fronts (fronts_of ones) middle → EntersAtMostOnce middle after → LooksFor fronts ones end after
looked_more fronts middle after ones end is looks (inl same) = inl (same ∙ looks)
looked_more fronts middle after ones end is looks (inr (front, once)) =
    inr (is, front, Sends_more fronts middle after (fronts_of ones) (front ∷ []) looks once)

-- `ReflectsNotes`, if memory ran out and one draw was taken after the last answer
reflects_more : (before : KnownDesk) (middle after : DeskNotes) (coming next coming_after : Option (List Draw × Draw)) (end : End)
    (ones : List ServedOne) (draw : Draw) → end ≡ Memory → Sums before middle.desk coming next ones
    → TakesDraw next draw coming_after → AnswersNothing middle after → ReflectsNotes before coming end after.desk coming_after ones
reflects_more before middle after coming next coming_after end ones draw is sums taken nothing = record {
  fronts = Rise_to before.front middle.desk.front after.desk.front ones sums.rise nothing.rises;
  looks = looked_more before.fronts middle.desk.fronts after.desk.fronts ones end is sums.looks nothing.entered;
  drawn = (next, sums.drawn, inr (draw, taken));
  keeps = λ k board there. nothing.keeps k board (sums.keeps k board there);
}

reflects_next : {S : Type 0} (seen : S → DeskNotes) (before middle after : HandlerState S) (end : End)
    (ones : List ServedOne) → (noted_of seen middle).ones ≡ ones
    → Sums (seen before.state).desk (seen middle.state).desk before.coming middle.coming ones
    → (after ≡ middle) ⊎ ((end ≡ Memory) × (request : Request) × RunsOutOver seen middle request after)
    → ReflectsNotes (seen before.state).desk before.coming end (seen after.state).desk after.coming (noted_of seen after).ones
reflects_next {S} seen before middle after end ones are sums (inl same) =
    subst (λ (s : HandlerState S). ReflectsNotes (seen before.state).desk before.coming end (seen s.state).desk s.coming (noted_of seen s).ones)
    (sym same)
    (subst (λ (o : List ServedOne). ReflectsNotes (seen before.state).desk before.coming end (seen middle.state).desk middle.coming o) (sym are)
    (reflects_same (seen before.state).desk (seen middle.state).desk before.coming middle.coming end ones sums))
reflects_next seen before middle after end ones are sums (inr (is, request, lacks)) =
    subst (λ (o : List ServedOne). ReflectsNotes (seen before.state).desk before.coming end (seen after.state).desk after.coming o)
    (sym (lacks.ran_out.same ∙ are))
    (reflects_more (seen before.state).desk (seen middle.state) (seen after.state) before.coming middle.coming after.coming end ones
    lacks.draw is sums lacks.taken lacks.ran_out)

-- `ReflectsNotes` holds after a conversation that begins without notes
pub reflects : {S : Type 0} (seen : S → DeskNotes) (before after : HandlerState S) (end : End) (count : ℕ)
    → (noted_of seen before).ones ≡ [] → Reaches (Over seen) (RunsOutOver seen) before end after count
    → ReflectsNotes (seen before.state).desk before.coming end (seen after.state).desk after.coming (noted_of seen after).ones
reflects seen before after end count none reached =
    let sums = summed seen 0 before reached.reached reached.requests reached.text reached.answered in
    reflects_next seen before reached.reached after end sums.0
    (sums.1 ∙ ap (λ (o : List ServedOne). o ++ sums.0) none) sums.2 reached.next
