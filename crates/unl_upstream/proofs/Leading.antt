-- Rows that are applied to an upstream, and the commands that are read from them.
use Rattle.std.proofs.Common.{◌≡◌, ℕ, zero, suc, ◌≤◌, List, [], ◌∷◌, ◌++◌, length, map, take, slice_get, Option, Some, None, Ok, Err, option_and_then, refl, sym, ap, ◌∙◌, subst, arith}
use Rattle.std.specs.List.{cons_option}
use Rattle.std.proofs.lemmas.Option.{none-some}
use Rattle.unl_documents.specs.declared.fault.BadDocument.{BadDocument}
use Rattle.unl_documents.specs.Reading.{Reading}
use Rattle.unl_upstream.specs.declared.command.Command.{Command}
use Rattle.unl_upstream.specs.Command.{command_in}
use Rattle.unl_upstream.specs.History.{accepted, after_commands, if_accepted, up_after}
use Rattle.unl_upstream.specs.Kept.{ResultIn, commands_in}
use Rattle.unl_upstream.specs.Requests.{if_read}
use Rattle.unl_upstream.specs.Reopening.{after_reading, if_obeyed, row_after, rows_after}
use Rattle.unl_upstream.specs.Upstream.{AppliedCommand, CommandResult, UpstreamState, apply_command}

-- ---- one row

-- the text of a row that was applied is read as a command, which is accepted
pub record IsApplied (text : List ℕ) (up after : UpstreamState) : Type 0 where
  pub command : Command
  pub obeyed : AppliedCommand
  pub spelled : command_in text ≡ Ok command
  pub accepts : apply_command command up ≡ Ok obeyed
  pub is : obeyed.up ≡ after

same_some : {A : Type 0} (x y : A) → ◌≡◌ {A = Option A} (Some x) (Some y) → x ≡ y
same_some x y is = cc

pub row_applied : (text : List ℕ) (up after : UpstreamState) → row_after text up ≡ Some after → IsApplied text up after
unfolding row_after
row_applied text up after is = decided (command_in text) refl is
  where
    obeys : (command : Command) (o : CommandResult AppliedCommand) → command_in text ≡ Ok command → apply_command command up ≡ o → if_obeyed o ≡ Some after → IsApplied text up after
    obeys command (Ok obeyed) spelled accepts is = record { command = command; obeyed = obeyed; spelled = spelled; accepts = accepts; is = same_some obeyed.up after is }
    obeys command (Err refusal) spelled accepts is = absurd (none-some after is)

    decided : (r : Reading Command) → command_in text ≡ r → after_reading up r ≡ Some after → IsApplied text up after
    decided (Ok command) spelled is = obeys command (apply_command command up) spelled refl is
    decided (Err fault) spelled is = absurd (none-some after is)

pub row_applies : (text : List ℕ) (up : UpstreamState) (command : Command) (obeyed : AppliedCommand) → command_in text ≡ Ok command → apply_command command up ≡ Ok obeyed
    → row_after text up ≡ Some obeyed.up
unfolding row_after
row_applies text up command obeyed spelled accepts = ap (after_reading up) spelled ∙ ap if_obeyed accepts

-- ---- rows, one after another

pub rows_both : (first second : List (List ℕ)) (up : UpstreamState) → rows_after (first ++ second) up ≡ option_and_then (rows_after second) (rows_after first up)
rows_both [] second up = refl
rows_both (text ∷ first) second up = next (row_after text up) (rows_both first second)
  where
    next : (o : Option UpstreamState)
        → ((middle : UpstreamState) → rows_after (first ++ second) middle ≡ option_and_then (rows_after second) (rows_after first middle))
        → option_and_then (rows_after (first ++ second)) o ≡ option_and_then (rows_after second) (option_and_then (rows_after first) o)
    next None others = refl
    next (Some middle) others = others middle

-- one more row is applied after the others
pub rows_more : (texts : List (List ℕ)) (text : List ℕ) (up middle after : UpstreamState) → rows_after texts up ≡ Some middle → row_after text middle ≡ Some after
    → rows_after (texts ++ text ∷ []) up ≡ Some after
rows_more texts text up middle after leads more =
    rows_both texts (text ∷ []) up ∙ ap (option_and_then (rows_after (text ∷ []))) leads ∙ ap (option_and_then (rows_after [])) more

-- the first row is applied, and then the others
pub record Begins (text : List ℕ) (texts : List (List ℕ)) (up after : UpstreamState) : Type 0 where
  pub middle : UpstreamState
  pub first : row_after text up ≡ Some middle
  pub others : rows_after texts middle ≡ Some after

pub begins : (text : List ℕ) (texts : List (List ℕ)) (up after : UpstreamState) → rows_after (text ∷ texts) up ≡ Some after → Begins text texts up after
begins text texts up after is = next (row_after text up) refl is
  where
    next : (o : Option UpstreamState) → row_after text up ≡ o → option_and_then (rows_after texts) o ≡ Some after → Begins text texts up after
    next None first is = absurd (none-some after is)
    next (Some middle) first is = record { middle = middle; first = first; others = is }

-- ---- rows and the commands that are read from them

-- the successful readings of these commands
abbrev all_ok : List Command → List (Reading Command)
all_ok commands = map Ok commands

-- all items but the first
others_of : {X : Type 0} → List X → List X
others_of [] = []
others_of (x ∷ xs) = xs

-- one accepted command, before others that were read from their rows and are accepted
results_first : (text : List ℕ) (texts : List (List ℕ)) (opening after : UpstreamState) (command : Command) (obeyed : AppliedCommand) → command_in text ≡ Ok command
    → apply_command command opening ≡ Ok obeyed → ResultIn obeyed.up texts after → ResultIn opening (text ∷ texts) after
results_first text texts opening after command obeyed spelled accepts others =
    let commands : commands_in (text ∷ texts) ≡ command ∷ commands_in texts =
    ap (λ (r : Reading Command). cons_option (if_read r) (commands_in texts)) spelled in record {
      spelled = (λ i. spelled i ∷ others.spelled i) ∙ ap all_ok (sym commands);
      all_accepted = ap (λ (cs : List Command). accepted cs opening) commands
          ∙ ap (λ (o : CommandResult AppliedCommand). if_accepted command o (accepted (commands_in texts) (up_after opening o))) accepts
          ∙ ap (λ (cs : List Command). command ∷ cs) others.all_accepted ∙ sym commands;
      leads = others.leads
          ∙ sym (ap (λ (o : CommandResult AppliedCommand). after_commands (commands_in texts) (up_after opening o)) accepts)
          ∙ sym (ap (λ (cs : List Command). after_commands cs opening) commands);
    }

pub rows_result : (texts : List (List ℕ)) (opening after : UpstreamState) → rows_after texts opening ≡ Some after → ResultIn opening texts after
rows_result [] opening after is = record { spelled = refl; all_accepted = refl; leads = sym (same_some opening after is) }
rows_result (text ∷ texts) opening after is =
    let b : Begins text texts opening after = begins text texts opening after is in
    let t : IsApplied text opening b.middle = row_applied text opening b.middle b.first in
    results_first text texts opening after t.command t.obeyed t.spelled t.accepts
    (subst (λ (u : UpstreamState). ResultIn u texts after) (sym t.is) (rows_result texts b.middle after b.others))

-- a list of successful readings does not begin with a fault
no_fault : (commands : List Command) (fault : BadDocument) (others : List (Reading Command)) → Err fault ∷ others ≡ map Ok commands → ⊥
no_fault [] fault others is = cc
no_fault (command ∷ commands) fault others is = cc

-- the number of accepted commands is at most the number of commands
accepted_few : (commands : List Command) (up : UpstreamState) → length (accepted commands up) ≤ length commands
accepted_few [] up = omega arith
accepted_few (command ∷ commands) up = decided (apply_command command up) (accepted_few commands)
  where
    decided : (o : CommandResult AppliedCommand) → ((now : UpstreamState) → length (accepted commands now) ≤ length commands)
        → length (if_accepted command o (accepted commands (up_after up o))) ≤ length (command ∷ commands)
    decided (Ok obeyed) few = omega (arith, few obeyed.up)
    decided (Err refusal) few = omega (arith, few up)

pub results_rows : (texts : List (List ℕ)) (opening after : UpstreamState) → ResultIn opening texts after → rows_after texts opening ≡ Some after
unfolding others_of
results_rows [] opening after lead = ap Some (sym lead.leads)
results_rows (text ∷ texts) opening after lead =
    decided (command_in text) refl lead.spelled lead.all_accepted lead.leads (λ middle others. results_rows texts middle after others)
  where
    Others : Type 0
    Others = (middle : UpstreamState) → ResultIn middle texts after → rows_after texts middle ≡ Some after

    obeys : (command : Command) (o : CommandResult AppliedCommand) → command_in text ≡ Ok command → apply_command command opening ≡ o
        → map command_in texts ≡ map Ok (commands_in texts)
        → if_accepted command o (accepted (commands_in texts) (up_after opening o)) ≡ command ∷ commands_in texts
        → after ≡ after_commands (commands_in texts) (up_after opening o) → Others → rows_after (text ∷ texts) opening ≡ Some after
    obeys command (Ok obeyed) spelled accepts tail all leads others =
        ap (option_and_then (rows_after texts)) (row_applies text opening command obeyed spelled accepts)
        ∙ others obeyed.up (record { spelled = tail; all_accepted = ap others_of all; leads = leads })
    obeys command (Err refusal) spelled accepts tail all leads others =
        let few : length (accepted (commands_in texts) opening) ≤ length (commands_in texts) = accepted_few (commands_in texts) opening in
        let many : length (accepted (commands_in texts) opening) ≡ length (command ∷ commands_in texts) = ap (λ (cs : List Command). length cs) all in
        absurd (omega (arith, few, many))

    decided : (r : Reading Command) → command_in text ≡ r → r ∷ map command_in texts ≡ map Ok (cons_option (if_read r) (commands_in texts))
        → accepted (cons_option (if_read r) (commands_in texts)) opening ≡ cons_option (if_read r) (commands_in texts)
        → after ≡ after_commands (cons_option (if_read r) (commands_in texts)) opening → Others → rows_after (text ∷ texts) opening ≡ Some after
    decided (Ok command) spelled tail all leads others = obeys command (apply_command command opening) spelled refl (ap others_of tail) all leads others
    decided (Err fault) spelled tail all leads others = absurd (no_fault (commands_in texts) fault (map command_in texts) tail)

-- one more row, of an accepted command, after those that lead to `up`
pub results_more : (texts : List (List ℕ)) (text : List ℕ) (opening up : UpstreamState) (command : Command) (obeyed : AppliedCommand) → command_in text ≡ Ok command
    → apply_command command up ≡ Ok obeyed → ResultIn opening texts up → ResultIn opening (texts ++ text ∷ []) obeyed.up
results_more texts text opening up command obeyed spelled accepts lead =
    rows_result (texts ++ text ∷ []) opening obeyed.up
    (rows_more texts text opening up obeyed.up (results_rows texts opening up lead) (row_applies text up command obeyed spelled accepts))

-- the commands of two lists of rows are those of the first list, then those of the second
pub commands_both : (first second : List (List ℕ)) → commands_in (first ++ second) ≡ commands_in first ++ commands_in second
commands_both [] second = refl
commands_both (text ∷ first) second = decided (command_in text) (commands_both first second)
  where
    decided : (r : Reading Command) → commands_in (first ++ second) ≡ commands_in first ++ commands_in second
        → cons_option (if_read r) (commands_in (first ++ second)) ≡ cons_option (if_read r) (commands_in first) ++ commands_in second
    decided (Ok command) others = ap (λ (cs : List Command). command ∷ cs) others
    decided (Err fault) others = others

-- the command of a single row
pub command_one : (text : List ℕ) (command : Command) → command_in text ≡ Ok command → commands_in (text ∷ []) ≡ command ∷ []
command_one text command spelled = ap (λ (r : Reading Command). cons_option (if_read r) []) spelled

-- if all rows can be applied in order, none of them is refused
pub no_stop : (rows : List (List ℕ)) (count : ℕ) (text : List ℕ) (opening up last : UpstreamState) → rows_after rows opening ≡ Some last
    → slice_get rows count ≡ Some text → rows_after (take count rows) opening ≡ Some up → row_after text up ≡ None → ⊥
no_stop [] count text opening up last whole here before stops = none-some text here
no_stop (row ∷ rows) zero text opening up last whole here before stops =
    let b : Begins row rows opening last = begins row rows opening last whole in
    let same : row ≡ text = same_some row text here in
    let start : opening ≡ up = same_some opening up before in
    let first : row_after text up ≡ Some b.middle =
    subst (λ (u : UpstreamState). row_after text u ≡ Some b.middle) start (subst (λ (t : List ℕ). row_after t opening ≡ Some b.middle) same b.first) in
    none-some b.middle (sym stops ∙ first)
no_stop (row ∷ rows) (suc count) text opening up last whole here before stops =
    let b : Begins row rows opening last = begins row rows opening last whole in
    let c : Begins row (take count rows) opening up = begins row (take count rows) opening up before in
    let same : c.middle ≡ b.middle = same_some c.middle b.middle (sym c.first ∙ b.first) in
    no_stop rows count text b.middle up last b.others here (subst (λ (u : UpstreamState). rows_after (take count rows) u ≡ Some up) same c.others) stops
