-- If nothing fails, a connection ends as the session of its bytes does.
use Rattle.std.proofs.Common.{◌≡◌, ◌≢◌, ◌≤◌, ℕ, List, refl, sym, subst, arith, Option, Some}
use Rattle.unl_base.specs.Faults.{Rose}
use Rattle.unl_http_api.specs.declared.end.End.{End}
use Rattle.unl_http_api.specs.declared.end.End.TheVariants.{Closed, Asked, Limit, Refused, CutOff, ReadFault, WriteFault, Memory}
use Rattle.unl_http_api.specs.declared.reply.Reply.{Reply}
use Rattle.unl_http_api.specs.declared.request.Request.{Request}
use Rattle.unl_http_api.specs.Session.{Session, AreWhole, IsRegular}
use Rattle.unl_http_api.proofs.SessionLemmas.{Session_unique}
use Rattle.unl_http_api.proofs.WholeLemmas.{whole_session}
use Rattle.unl_server.specs.Conversation.{Serves, Concludes, AnswersAll, Converses, GivesUp, Reaches}
use Rattle.unl_server.specs.Links.{LinkView}

-- a count that rose from a later value rose from an earlier one
pub Rose_earlier : (a b c : ℕ) → a ≤ b → Rose b c → Rose a c
Rose_earlier a b c up rose = omega (arith, up, rose)

-- the connection has this end, and each of these requests was answered
abbrev pub Completes :
    {S : Type 0} → (S → Request → Reply → S → Type 0) → List Request → Option (List ℕ) → S → End → End → S
    → Option (List ℕ) → Type 0
Completes Step asked sent before result end after sent_after =
    (result ≡ end) × AnswersAll Step asked sent before end after sent_after

-- bytes form only one session, so if one was served, its end and its requests are those of any session of these bytes
served_whole : {S : Type 0} (Step : S → Request → Reply → S → Type 0) (bytes : List ℕ) (asked : List Request) (end : End)
    (sent : Option (List ℕ)) (before : S) (result : End) (after : S) (sent_after : Option (List ℕ))
    → Session bytes asked end → Serves Step bytes sent before result after sent_after
    → Completes Step asked sent before result end after sent_after
served_whole Step bytes asked end sent before result after sent_after session serves =
    let same = Session_unique bytes serves.requests asked result end serves.session session in (
      same.1,
      subst (λ (e : End). AnswersAll Step asked sent before e after sent_after) same.1
          (subst (λ (qs : List Request). AnswersAll Step qs sent before result after sent_after) same.0
          (record { text = serves.text; answered = serves.answered; sends = serves.sends })),
    )

-- every end is the session's, except those of a fault or of running out of memory
pub completes : {S Failed : Type 0} (Step : S → Request → Reply → S → Type 0) (bytes : List ℕ) (asked : List Request)
    (end : End) (sent : Option (List ℕ)) (before : S) (result : End) (after : S) (left_after sent_after : Option (List ℕ))
    → Session bytes asked end → ¬ Failed → result ≢ Memory → (result ≡ ReadFault → Failed) → (result ≡ WriteFault → Failed)
    → Concludes Step bytes sent before result after left_after sent_after
    → Completes Step asked sent before result end after sent_after
completes Step bytes asked end sent before Closed after left_after sent_after session none some read write concludes =
    served_whole Step bytes asked end sent before Closed after sent_after session concludes
completes Step bytes asked end sent before Asked after left_after sent_after session none some read write concludes =
    served_whole Step bytes asked end sent before Asked after sent_after session concludes
completes Step bytes asked end sent before Limit after left_after sent_after session none some read write concludes =
    served_whole Step bytes asked end sent before Limit after sent_after session concludes
completes Step bytes asked end sent before (Refused status) after left_after sent_after session none some read write concludes =
    served_whole Step bytes asked end sent before (Refused status) after sent_after session concludes
completes Step bytes asked end sent before CutOff after left_after sent_after session none some read write concludes =
    served_whole Step bytes asked end sent before CutOff after sent_after session concludes
completes Step bytes asked end sent before ReadFault after left_after sent_after session none some read write concludes =
    absurd (none (read refl))
completes Step bytes asked end sent before WriteFault after left_after sent_after session none some read write concludes =
    absurd (none (write refl))
completes Step bytes asked end sent before Memory after left_after sent_after session none some read write concludes =
    absurd (some refl)

-- complete requests get exactly their replies
pub completes_whole : {S Failed : Type 0} (Step : S → Request → Reply → S → Type 0) (bytes : List ℕ)
    (asked : List Request) (sent : Option (List ℕ)) (before : S) (result : End) (after : S)
    (left_after sent_after : Option (List ℕ)) → AreWhole bytes asked → ¬ Failed → result ≢ Memory
    → (result ≡ ReadFault → Failed) → (result ≡ WriteFault → Failed)
    → Concludes Step bytes sent before result after left_after sent_after
    → IsRegular result × AnswersAll Step asked sent before result after sent_after
completes_whole Step bytes asked sent before result after left_after sent_after whole none some read write concludes =
    let regular = whole_session bytes asked whole in
    let all = completes Step bytes asked regular.end sent before result after left_after sent_after regular.session none some
    read write concludes in (
      subst IsRegular (sym all.0) regular.regular,
      subst (λ (e : End). AnswersAll Step asked sent before e after sent_after) (sym all.0) all.1,
    )

-- a conversation has all properties in `Converses` if it has all but `complete` and `whole`, which follow from the others
pub converses_so : {S : Type 0} (Step : S → Request → Reply → S → Type 0) (RunsOut : S → Request → S → Type 0) (link : LinkView)
    (before : S) (end : End) (after : S) (count : ℕ) (link_after : LinkView)
    → ((bytes : List ℕ) → link.left ≡ Some bytes → Concludes Step bytes link.sent before end after link_after.left link_after.sent)
    → ((bytes : List ℕ) → link.left ≡ Some bytes → end ≡ Memory
    → GivesUp Step RunsOut bytes link.sent link.faults before after link_after.sent link_after.faults)
    → Reaches Step RunsOut before end after count → link.faults ≤ link_after.faults
    → (end ≡ ReadFault → Rose link.faults link_after.faults) → (end ≡ WriteFault → Rose link.faults link_after.faults)
    → Converses Step RunsOut link before end after count link_after
converses_so Step RunsOut link before end after count link_after session memory answered later read write = record {
  session = session;
  complete = λ bytes asked ending known is none some. completes Step bytes asked ending link.sent before end after link_after.left
      link_after.sent is none some read write (session bytes known);
  whole = λ bytes asked known are none some. completes_whole Step bytes asked link.sent before end after link_after.left
      link_after.sent are none some read write (session bytes known);
  memory = memory;
  answered = answered;
  later = later;
  read_cause = read;
  write_cause = write;
}
