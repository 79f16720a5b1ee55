-- How an upstream ends, from the ends of its lines and its links, or from a row that is refused.
use Rattle.std.proofs.Common.{◌≡◌, ◌∙◌, ℕ, Bool, false, List, [], ◌++◌, append-nil, Option, Some, Result, Err, refl, sym, ap, subst, arith}
use Rattle.std.specs.Prelude.{option_map}
use Rattle.unl_base.specs.Doors.{DoorState, listening_at}
use Rattle.unl_base.specs.Streams.{Sends, SendsPrefix}
use Rattle.unl_input.specs.Lines.{lines}
use Rattle.unl_input.specs.Taken.{done, lines_outcome}
use Rattle.unl_input.specs.declared.taking.LinesFault.{LinesFault}
use Rattle.unl_input.specs.declared.taking.LinesFault.TheVariants as line
use Rattle.unl_input.specs.Whole.{AnswersAllLines, TakesLines}
use Rattle.unl_input.proofs.Silent.{memory_is_silent, nothing_sent, prints_cause_alone}
use Rattle.unl_keeper.specs.State.{HasKept}
use Rattle.unl_upstream.specs.Ends.{connections_line}
use Rattle.unl_upstream.specs.Kept.{KeptState, acknowledged, kept_commands}
use Rattle.unl_upstream.specs.KeptLines.{KeptLines, SpellKept, keeping, kept_lines_of}
use Rattle.unl_upstream.specs.Reopening.{IsSameKeeper, Reopens}
use Rattle.unl_upstream.specs.Running.{IsOfRow, LinesEnd, RefusesUpstreamRow, ServesAfterLines, ServesUpstreamLinks, UpstreamFacing, UpstreamLinksEnd}
use Rattle.unl_upstream.specs.declared.ends.ServingEnd.{ServingEnd}
use Rattle.unl_upstream.specs.declared.ends.ServingEnd.TheVariants.{Closed, WriteFault, DoorFault, OutOfMemory}
use Rattle.unl_upstream.specs.declared.ends.UpstreamEnd.TheVariants.{Links}
use Rattle.unl_upstream.specs.declared.reopening.ReopenFault.{ReopenFault}
use Rattle.unl_upstream.specs.declared.reopening.ReopenFault.TheVariants.{BadRow, NoRow}
use Rattle.unl_upstream.proofs.Carrying.{both_behind, holds_still}
use Rattle.unl_upstream.proofs.KeepingLines.{all_taken, lines_keep, silent}
use Rattle.unl_upstream.proofs.NamedLinks.{links_named}

-- ---- the links

-- if the draws and the door's links are unchanged, no link was served
pub serves_none : (state : KeptState) (before after : UpstreamFacing) → HasKept state.keeper → after.coming ≡ before.coming
    → after.door.given ≡ before.door.given → after.door.back ≡ before.door.back → after.door.links ≡ before.door.links
    → after.door.returned ≡ before.door.returned → ServesUpstreamLinks state state before after 0
serves_none state before after has coming given back left returned = record {
  serves_links = record {
    given = given ∙ omega arith;
    back = back ∙ omega arith;
    linked = λ all others observed observed_back. record {
      given_links = [];
      rest = all;
      backs = [];
      are = refl;
      left = left ∙ observed;
      returned_after = returned ∙ observed_back ∙ ap Some (sym (append-nil others));
      counted = refl;
      linked = (refl, coming);
    };
  };
  carries = holds_still state has;
}

-- the door could not listen, so its ports are unchanged
pub listened_nowhere : (port : ℕ) (could : Bool) (before door : DoorState) → could ≡ false → door ≡ listening_at port could before
    → door.ports ≡ before.ports
listened_nowhere port could before door didnt listens =
    ap (λ (d : DoorState). d.ports) listens ∙ ap (λ (b : Bool). (listening_at port b before).ports) didnt

-- ---- the links after the lines

-- nothing was sent if taking the lines ended with `Memory`
pub silent_lines_end : (opened : KeptState) (left left_after old new : Option (List ℕ))
    → TakesLines keeping (kept_lines_of opened) (Err line.Memory) left left_after old new → new ≡ old
silent_lines_end opened left left_after old new takes = memory_is_silent keeping (kept_lines_of opened) left left_after old new silent takes

-- as above, for a result that is equal to `Err Memory`
pub silent_at : (opened : KeptState) (result : Result (Unit {0}) LinesFault) (left left_after old new : Option (List ℕ)) → result ≡ Err line.Memory
    → TakesLines keeping (kept_lines_of opened) result left left_after old new → new ≡ old
silent_at opened result left left_after old new is takes =
    silent_lines_end opened left left_after old new
    (subst (λ (r : Result (Unit {0}) LinesFault). TakesLines keeping (kept_lines_of opened) r left left_after old new) is takes)

-- how an upstream ends after all its lines were accepted, from the state after them
pub after_lines : (opened kept : KeptState) (port : ℕ) (last : KeptState) (desk : KeptLines) (end : ServingEnd) (left left_after : Option (List ℕ))
    (before after : UpstreamFacing) (sent : Option (List ℕ)) → HasKept kept.keeper → kept_lines_of kept ≡ desk → AnswersAllLines keeping (kept_lines_of opened) desk left left_after before.sent sent
    → UpstreamLinksEnd kept port end last (record before { sent = sent }) after
    → LinesEnd opened port (Links end) last.keeper left left_after before after
after_lines opened kept port last desk end left left_after before after sent has is taken links = by_end end links
  where
    same_sent : sent ≡ before.sent
    same_sent =
        nothing_sent before.sent sent (lines_outcome keeping (kept_lines_of opened) taken.read).text
        (prints_cause_alone keeping silent (kept_lines_of opened) taken.read) taken.answered.sent

    accepted : lines_outcome keeping (kept_lines_of opened) taken.read ≡ record { text = []; ending = done; desk = kept_lines_of kept }
    accepted = all_taken keeping (kept_lines_of opened) (kept_lines_of kept) taken.read silent taken.answered.ending (taken.leaves ∙ sym is)

    spelled : SpellKept (kept_lines_of opened) (lines taken.read) (kept_lines_of kept)
    spelled = lines_keep (kept_lines_of opened) (kept_lines_of kept) taken.read accepted

    serves : (served : ℕ) → ServesUpstreamLinks kept last (record before { sent = sent }) after served
        → ServesAfterLines opened last.keeper left left_after before after served
    serves served all = record {
      read = taken.read;
      took = taken.took;
      end = taken.end;
      kept = kept;
      accepted = accepted;
      spelled = spelled;
      up = last.up;
      serves = record { serves_links = all.serves_links; carries = all.carries };
      keeps = all.carries.carries.appended
          ∙ ap (option_map (λ kept. kept ++ acknowledged all.carries.some.tried)) spelled.kept
          ∙ both_behind spelled.commands (acknowledged all.carries.some.tried) (kept_commands opened.keeper);
      named = λ links returned observed observed_back.
          links_named opened kept last spelled.commands before after served links returned has spelled.kept
          (record { up = spelled.leads; count = spelled.counted }) (all.serves_links.linked links returned observed observed_back);
    }

    by_end : (end : ServingEnd) → UpstreamLinksEnd kept port end last (record before { sent = sent }) after
        → LinesEnd opened port (Links end) last.keeper left left_after before after
    by_end Closed links = (
      links.0,
      serves links.0 links.1,
      subst (λ (s : Option (List ℕ)). Sends s (connections_line links.0) after.sent) same_sent links.2,
      links.3,
    )
    by_end WriteFault links = (
      links.0,
      serves links.0 links.1,
      subst (λ (s : Option (List ℕ)). SendsPrefix s (connections_line links.0) after.sent) same_sent links.2,
      links.3,
    )
    by_end DoorFault links = (links.0, serves links.0 links.1, links.2, links.3 ∙ same_sent)
    by_end OutOfMemory links = (links.0, serves links.0 links.1, links.2 ∙ same_sent, links.3)

-- ---- a refused row

-- reopening that failed with `BadRow` (a row that isn't an accepted command) failed because of the row at this place
pub bad_row : (start reached : KeptState) (place : ℕ) (text : List ℕ) (fault : ReopenFault) → fault ≡ BadRow place text
    → IsSameKeeper start.keeper reached.keeper → Reopens start (Err fault) reached → RefusesUpstreamRow start place
bad_row start reached place text fault is same reopens = record {
  fault = fault;
  of_row = subst (IsOfRow place) (sym is) refl;
  reached = reached;
  same = same;
  reopens = reopens;
}

pub no_row_there : (start reached : KeptState) (place : ℕ) (fault : ReopenFault) → fault ≡ NoRow place
    → IsSameKeeper start.keeper reached.keeper → Reopens start (Err fault) reached → RefusesUpstreamRow start place
no_row_there start reached place fault is same reopens = record {
  fault = fault;
  of_row = subst (IsOfRow place) (sym is) refl;
  reached = reached;
  same = same;
  reopens = reopens;
}
