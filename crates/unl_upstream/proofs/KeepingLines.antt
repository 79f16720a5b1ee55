-- The effect of keeping commands, and the lines whose commands are kept.
use Rattle.std.proofs.Common.{◌≡◌, ◌<◌, ◌≤◌, ◌+◌, ◌∙◌, ℕ, List, [], ◌∷◌, ◌++◌, Bool, true, false, cond, ltb, length, append-nil, Option, Some, None, Result, Ok, Err, refl, sym, ap, subst, arith}
use Rattle.std.specs.Prelude.{codes, option_map}
use Rattle.std.proofs.lemmas.Bool.Decides.{nat_tests}
use Rattle.unl_documents.specs.Reading.{Reading}
use Rattle.unl_upstream.specs.KeptLines.{KeptLines, SpellKept, kept_as, kept_by, kept_line, keeping, refusal_name, with_command}
use Rattle.unl_input.specs.Laws.{IsSilent}
use Rattle.unl_input.specs.Lines.{lines}
use Rattle.unl_input.specs.Reading.{longest_line}
use Rattle.unl_input.specs.Taken.{LineResult, LinesOutcome, Taken, Taking, done, followed, most_lines, lines_outcome, refused, take_from, take_line}
use Rattle.unl_input.proofs.Silent.{prints_cause_alone, within_limits_of}
use Rattle.unl_upstream.specs.Command.{command_in}
use Rattle.unl_upstream.specs.History.{accepted, after_commands, if_accepted, up_after}
use Rattle.unl_upstream.specs.Kept.{most_rows, with_room}
use Rattle.unl_upstream.specs.PlainLines.{command_refusal_name, obeyed_as, obeyed_by, obeyed_line, obeying}
use Rattle.unl_upstream.specs.Upstream.{AppliedCommand, CommandResult, UpstreamState, apply_command, refused_as}
use Rattle.unl_upstream.proofs.Carrying.{both_behind}
use Rattle.unl_upstream.specs.declared.command.Command.{Command}
use Rattle.unl_upstream.specs.declared.refusal.CommandRefusal.{CommandRefusal}
use Rattle.unl_upstream.specs.declared.refusal.CommandRefusal.TheVariants as plain
use Rattle.unl_upstream.specs.declared.refusal.KeepCommandRefusal.{KeepCommandRefusal}
use Rattle.unl_upstream.specs.declared.refusal.KeepCommandRefusal.TheVariants.{NoSuchEnvironment, NoSuchFeature}
use Rattle.unl_upstream.specs.declared.refusal.KeepCommandRefusal.TheVariants.{NoSuchSegment, TooMany, KeeperFull, Memory}

-- ---- lines that print nothing

-- a command that is kept prints nothing
kept_silent : (command : Command) (kept_lines : KeptLines) (comes : Result AppliedCommand KeepCommandRefusal) (taken : Taken KeptLines) → kept_as command kept_lines comes ≡ Ok taken
    → taken.text ≡ []
kept_silent command kept_lines (Ok obeyed) taken is =
    let same : record { text = []; desk = with_command command obeyed kept_lines } ≡ taken = cc is in ap (λ (t : Taken KeptLines). t.text) (sym same)
kept_silent command kept_lines (Err refusal) taken is = absurd (cc is)

read_silent : (kept_lines : KeptLines) (reading : Reading Command) (taken : Taken KeptLines) → kept_by kept_lines reading ≡ Ok taken → taken.text ≡ []
read_silent kept_lines (Ok command) taken is = kept_silent command kept_lines (with_room kept_lines.count (apply_command command kept_lines.up)) taken is
read_silent kept_lines (Err fault) taken is = absurd (cc is)

pub silent : IsSilent keeping
unfolding kept_line
silent k kept_lines line taken is = read_silent kept_lines (command_in line) taken is

-- the outcome of a whole input whose lines were all accepted: nothing is printed
pub all_taken : {D : Type 0} (taking : Taking D) (start last : D) (read : List ℕ) → IsSilent taking → (lines_outcome taking start read).ending ≡ done
    → (lines_outcome taking start read).desk ≡ last → lines_outcome taking start read ≡ record { text = []; ending = done; desk = last }
all_taken {D} taking start last read silent ending leaves =
    let text : (lines_outcome taking start read).text ≡ [] = prints_cause_alone taking silent start read in
    λ i. record { text = text i; ending = ending i; desk = leaves i }

-- ---- the commands in lines

-- a line holds a command that is accepted and kept
record KeepsOne (kept_lines : KeptLines) (line : List ℕ) (now : KeptLines) : Type 0 where
  pub command : Command
  pub obeyed : AppliedCommand
  pub spelled : command_in line ≡ Ok command
  pub accepts : apply_command command kept_lines.up ≡ Ok obeyed
  pub leads : with_command command obeyed kept_lines ≡ now

-- the state after a line, if it isn't refused
abbrev desk_after : LineResult KeptLines → KeptLines → KeptLines
desk_after (Ok taken) kept_lines = taken.desk
desk_after (Err cause) kept_lines = kept_lines

keeps_one : (kept_lines : KeptLines) (line : List ℕ) (taken : Taken KeptLines) → kept_line kept_lines line ≡ Ok taken → KeepsOne kept_lines line taken.desk
unfolding kept_line
keeps_one kept_lines line taken is = decided (command_in line) refl is
  where
    roomy : (command : Command) (obeyed : AppliedCommand) (t : Bool) → command_in line ≡ Ok command → apply_command command kept_lines.up ≡ Ok obeyed
        → kept_as command kept_lines (cond t (Ok obeyed) (Err (KeeperFull kept_lines.count))) ≡ Ok taken → KeepsOne kept_lines line taken.desk
    roomy command obeyed true spelled accepts is = record {
      command = command;
      obeyed = obeyed;
      spelled = spelled;
      accepts = accepts;
      leads = ap (λ (r : LineResult KeptLines). desk_after r kept_lines) is;
    }
    roomy command obeyed false spelled accepts is = absurd (cc is)

    keeps : (command : Command) (o : CommandResult AppliedCommand) → command_in line ≡ Ok command → apply_command command kept_lines.up ≡ o
        → kept_as command kept_lines (with_room kept_lines.count o) ≡ Ok taken → KeepsOne kept_lines line taken.desk
    keeps command (Ok obeyed) spelled accepts is = roomy command obeyed (ltb kept_lines.count most_rows) spelled accepts is
    keeps command (Err refusal) spelled accepts is = absurd (cc is)

    decided : (r : Reading Command) → command_in line ≡ r → kept_by kept_lines r ≡ Ok taken → KeepsOne kept_lines line taken.desk
    decided (Ok command) spelled is = keeps command (apply_command command kept_lines.up) spelled refl is
    decided (Err fault) spelled is = absurd (cc is)

-- the lines from line `k` on
abbrev rest_from : ℕ → List (List ℕ) → KeptLines → LinesOutcome KeptLines
rest_from k more kept_lines = take_from keeping k kept_lines more

-- a line with a command that is kept, before others like it
keeps_more : (kept_lines : KeptLines) (line : List ℕ) (more : List (List ℕ)) (now last : KeptLines) → KeepsOne kept_lines line now → SpellKept now more last
    → SpellKept kept_lines (line ∷ more) last
keeps_more kept_lines line more now last one others =
    let up : one.obeyed.up ≡ now.up = ap (λ (s : KeptLines). s.up) one.leads in
    let count : kept_lines.count + 1 ≡ now.count = ap (λ (s : KeptLines). s.count) one.leads in record {
      commands = one.command ∷ others.commands;
      spelled = λ i. one.spelled i ∷ others.spelled i;
      all_accepted = ap (λ (o : CommandResult AppliedCommand). if_accepted one.command o (accepted others.commands (up_after kept_lines.up o))) one.accepts
          ∙ ap (λ (u : UpstreamState). one.command ∷ accepted others.commands u) up
          ∙ ap (λ (cs : List Command). one.command ∷ cs) others.all_accepted;
      leads = others.leads ∙ sym (ap (λ (o : CommandResult AppliedCommand). after_commands others.commands (up_after kept_lines.up o)) one.accepts ∙ ap (after_commands others.commands) up);
      counted = omega (arith, others.counted, count);
      kept = others.kept ∙ ap (λ (s : KeptLines). option_map (λ kept. kept ++ others.commands) s.commands) (sym one.leads)
          ∙ both_behind (one.command ∷ []) others.commands kept_lines.commands;
    }

keeps_step : (kept_lines : KeptLines) (k : ℕ) (line : List ℕ) (more : List (List ℕ)) (comes : LineResult KeptLines) → take_line keeping k kept_lines line ≡ comes
    → ((now : KeptLines) → (rest_from (k + 1) more now).ending ≡ done → SpellKept now more (rest_from (k + 1) more now).desk)
    → (followed k kept_lines comes (rest_from (k + 1) more)).ending ≡ done → SpellKept kept_lines (line ∷ more) (followed k kept_lines comes (rest_from (k + 1) more)).desk
keeps_step kept_lines k line more (Ok taken) comes_so later ends =
    keeps_more kept_lines line more taken.desk (rest_from (k + 1) more taken.desk).desk (keeps_one kept_lines line taken (within_limits_of keeping kept_lines line k taken comes_so)) (later taken.desk ends)
keeps_step kept_lines k line more (Err cause) comes_so later ends = absurd (cc ends)

keeps_from : (ls : List (List ℕ)) (k : ℕ) (kept_lines : KeptLines) → (rest_from k ls kept_lines).ending ≡ done → SpellKept kept_lines ls (rest_from k ls kept_lines).desk
keeps_from [] k kept_lines ends = record {
  commands = [];
  spelled = refl;
  all_accepted = refl;
  leads = refl;
  counted = omega arith;
  kept = none kept_lines.commands;
}
  where
    none : (o : Option (List Command)) → o ≡ option_map (λ kept. kept ++ []) o
    none None = refl
    none (Some kept) = ap Some (sym (append-nil kept))
keeps_from (line ∷ more) k kept_lines ends = keeps_step kept_lines k line more (take_line keeping k kept_lines line) refl (λ now. keeps_from more (k + 1) now) ends

-- lines that are all accepted hold commands that are kept
pub lines_keep : (start last : KeptLines) (read : List ℕ) → lines_outcome keeping start read ≡ record { text = []; ending = done; desk = last }
    → SpellKept start (lines read) last
lines_keep start last read is =
    subst (SpellKept start (lines read)) (ap (λ (o : LinesOutcome KeptLines). o.desk) is)
    (keeps_from (lines read) 1 start (ap (λ (o : LinesOutcome KeptLines). o.ending) is))

-- ---- the same lines without a keeper

-- a refusal of a command has the same name with and without a keeper
same_name : (refusal : CommandRefusal) → refusal_name (refused_as refusal) ≡ command_refusal_name refusal
same_name plain.NoSuchEnvironment = refl
same_name plain.NoSuchFeature = refl
same_name plain.NoSuchSegment = refl
same_name (plain.TooMany n) = refl
same_name plain.Memory = refl

-- the lines from line `k` on, without a keeper
abbrev plain_from : ℕ → List (List ℕ) → UpstreamState → LinesOutcome UpstreamState
plain_from k more up = take_from obeying k up more

-- the lines after a line whose command is kept end as they do without a keeper
abbrev KeepsSame : ℕ → List (List ℕ) → KeptLines → Type 0
KeepsSame k more kept_lines = (next : KeptLines) → next.count ≡ kept_lines.count + 1 → (rest_from (k + 1) more next).ending ≡ (plain_from (k + 1) more next.up).ending

-- a line ends as it does without a keeper, if the keeper has room
line_same : (k : ℕ) (kept_lines : KeptLines) (line : List ℕ) (more : List (List ℕ)) → kept_lines.count < most_rows → KeepsSame k more kept_lines
    → (followed k kept_lines (kept_line kept_lines line) (rest_from (k + 1) more)).ending ≡ (followed k kept_lines.up (obeyed_line kept_lines.up line) (plain_from (k + 1) more)).ending
unfolding kept_line obeyed_line
line_same k kept_lines line more room later = by_reading (command_in line)
  where
    roomy : (command : Command) (obeyed : AppliedCommand) (t : Bool) → ltb kept_lines.count most_rows ≡ t
        → (followed k kept_lines (kept_as command kept_lines (cond t (Ok obeyed) (Err (KeeperFull kept_lines.count)))) (rest_from (k + 1) more)).ending
        ≡ (plain_from (k + 1) more obeyed.up).ending
    roomy command obeyed true is = later (with_command command obeyed kept_lines) refl
    roomy command obeyed false is = absurd (grind (arith, nat_tests, room, is))

    by_command : (command : Command) (o : CommandResult AppliedCommand)
        → (followed k kept_lines (kept_as command kept_lines (with_room kept_lines.count o)) (rest_from (k + 1) more)).ending
        ≡ (followed k kept_lines.up (obeyed_as o) (plain_from (k + 1) more)).ending
    by_command command (Ok obeyed) = roomy command obeyed (ltb kept_lines.count most_rows) refl
    by_command command (Err refusal) = ap (refused k) (same_name refusal)

    by_reading : (r : Reading Command) → (followed k kept_lines (kept_by kept_lines r) (rest_from (k + 1) more)).ending
        ≡ (followed k kept_lines.up (obeyed_by kept_lines.up r) (plain_from (k + 1) more)).ending
    by_reading (Ok command) = by_command command (apply_command command kept_lines.up)
    by_reading (Err fault) = refl

same_step : (k : ℕ) (kept_lines : KeptLines) (line : List ℕ) (more : List (List ℕ)) → kept_lines.count + 1 ≤ k → KeepsSame k more kept_lines
    → (rest_from k (line ∷ more) kept_lines).ending ≡ (plain_from k (line ∷ more) kept_lines.up).ending
same_step k kept_lines line more few later = limited (ltb most_lines k) refl (ltb longest_line (length line))
  where
    limited : (many : Bool) → ltb most_lines k ≡ many → (long : Bool)
        → (followed k kept_lines (cond many (Err (codes "TooManyLines")) (cond long (Err (codes "LineTooLong")) (kept_line kept_lines line))) (rest_from (k + 1) more)).ending
        ≡ (followed k kept_lines.up (cond many (Err (codes "TooManyLines")) (cond long (Err (codes "LineTooLong")) (obeyed_line kept_lines.up line))) (plain_from (k + 1) more)).ending
    limited true is long = refl
    limited false is true = refl
    limited false is false = line_same k kept_lines line more (grind (arith, nat_tests, few, is)) later

-- lines within the keeper's limit end as they do without a keeper
same_from : (ls : List (List ℕ)) (k : ℕ) (kept_lines : KeptLines) → kept_lines.count + 1 ≤ k → (rest_from k ls kept_lines).ending ≡ (plain_from k ls kept_lines.up).ending
same_from [] k kept_lines few = refl
same_from (line ∷ more) k kept_lines few =
    same_step k kept_lines line more few (λ next count. same_from more (k + 1) next (omega (arith, few, count)))

pub same_ending : (kept_lines : KeptLines) (bytes : List ℕ) → kept_lines.count ≡ 0 → (lines_outcome keeping kept_lines bytes).ending ≡ (lines_outcome obeying kept_lines.up bytes).ending
same_ending kept_lines bytes none = same_from (lines bytes) 1 kept_lines (omega (arith, none))
