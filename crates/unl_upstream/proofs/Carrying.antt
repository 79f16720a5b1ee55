-- Keeping commands: which properties it preserves, and how it changes the upstream and its keeper.
use Rattle.std.proofs.Common.{◌≡◌, ◌≢◌, ◌<◌, ◌≤◌, ◌⊎◌, inl, inr, ℕ, ◌+◌, Bool, true, false, cond, List, [], ◌∷◌, ◌++◌, drop, length, length-append, Option, Some, None, Result, Ok, Err, IsOk, IfErr, option_map, IfSome, refl, sym, ap, ◌∙◌, subst, arith, append_assoc, append-nil}
use Rattle.std.specs.Prelude.{nat_lt}
use Rattle.std.specs.Result.{IsErrAnd}
use Rattle.std.proofs.lemmas.Bool.{le-ltb, lt-ltb}
use Rattle.unl_keeper.specs.declared.refusal.KeepRefusal.{KeepRefusal}
use Rattle.unl_keeper.specs.declared.refusal.KeepRefusal.TheVariants as fault
use Rattle.unl_keeper.specs.Rows.{with_row}
use Rattle.unl_keeper.specs.State.{HasKept, IsFailed, IsWritten, KeeperState, kept_rows}
use Rattle.unl_keeper.proofs.Kept.{has_failed, has_written, past_failed, past_written, rows_failed, rows_written}
use Rattle.unl_upstream.specs.declared.command.Command.{Command}
use Rattle.unl_upstream.specs.declared.refusal.CommandRefusal.{CommandRefusal}
use Rattle.unl_upstream.specs.declared.refusal.CommandRefusal.TheVariants as command_refusal
use Rattle.unl_upstream.specs.declared.refusal.KeepCommandRefusal.{KeepCommandRefusal}
use Rattle.unl_upstream.specs.declared.refusal.KeepCommandRefusal.TheVariants.{NoSuchEnvironment, NoSuchFeature, NoSuchSegment, TooMany, KeeperFull, KeeperFault, Memory}
use Rattle.unl_upstream.specs.Command.{command_in}
use Rattle.unl_upstream.specs.History.{accepted, after_commands, if_accepted, up_after}
use Rattle.unl_upstream.specs.Kept.{Acknowledges, AreLeft, Carries, FailsToKeep, AttemptsPreserve, IsLeft, IsPending, KeepsCommand, AttemptsInOrder, SomeAttempts, KeptState, ResultIn, LeavesOne, Moves, Puts, KeepAttempt, acknowledged, commands_in, failed_after, faults_among, if_kept, keepable, kept_commands, most_rows, past_rows, with_room}
use Rattle.unl_upstream.specs.Upstream.{AppliedCommand, CommandResult, Prepared, UpstreamState, apply_command, prepared, refused_as}
use Rattle.unl_upstream.specs.Writing.{command_text}
use Rattle.unl_upstream.proofs.Applying.{applied_by, applied_with, applies, refuses_command}
use Rattle.unl_upstream.proofs.Constructors.{err_is_no_ok, err_same, ok_is_no_err, ok_same}
use Rattle.unl_upstream.proofs.Leading.{command_one, commands_both, results_more}
use Rattle.unl_upstream.proofs.Served.{after_both}
use Rattle.unl_upstream.proofs.VersionLemmas.{accepted_both, are_added}

-- ---- prepared commands

-- a prepared command for which there is room is accepted with this result
room_applied : (count : ℕ) (r : CommandResult Prepared) (up : UpstreamState) (ready : Prepared) → with_room count r ≡ Ok ready
    → with_room count (applied_by up r) ≡ Ok (applied_with ready up)
room_applied count (Err refusal) up ready is = err_is_no_ok (refused_as refusal) ready is
room_applied count (Ok made) up ready is = decided (nat_lt count most_rows) is
  where
    decided : (t : Bool) → cond t (Ok made) (Err (KeeperFull count)) ≡ Ok ready
        → cond t (Ok (applied_with made up)) (Err (KeeperFull count)) ≡ Ok (applied_with ready up)
    decided true is = ap (λ (p : Prepared). Ok (applied_with p up)) (ok_same made ready is)
    decided false is = err_is_no_ok (KeeperFull count) ready is

keepable_is : (command : Command) (before : KeptState) (ready : Prepared) → with_room before.keeper.count (prepared command before.up) ≡ Ok ready
    → keepable command before ≡ Ok (applied_with ready before.up)
keepable_is command before ready is =
    ap (with_room before.keeper.count) (applies command before.up (prepared command before.up) refl)
    ∙ room_applied before.keeper.count (prepared command before.up) before.up ready is

-- below the maximum there is room
room : {T : Type 0} (count : ℕ) (x : T) → count < 10000000 → with_room count (Ok x) ≡ Ok x
room count x low = let yes : nat_lt count most_rows ≡ true = lt-ltb count most_rows low in rw yes refl

-- at the maximum or above it there is no room
no_room : {T : Type 0} (count : ℕ) (x : T) → 10000000 ≤ count → with_room count (Ok x) ≡ Err (KeeperFull count)
no_room count x high = let no : nat_lt count most_rows ≡ false = le-ltb count most_rows high in rw no refl

pub room_left : (count : ℕ) (command : Command) (up : UpstreamState) (ready : Prepared) → prepared command up ≡ Ok ready → count < 10000000
    → with_room count (prepared command up) ≡ Ok ready
room_left count command up ready is low = ap (with_room count) is ∙ room count ready low

pub full : (count : ℕ) (command : Command) (up : UpstreamState) (ready : Prepared) → prepared command up ≡ Ok ready → 10000000 ≤ count
    → with_room count (apply_command command up) ≡ Err (KeeperFull count)
full count command up ready is high = ap (with_room count) (applies command up (Ok ready) is) ∙ no_room count (applied_with ready up) high

pub refused_for : (count : ℕ) (command : Command) (up : UpstreamState) (refusal : CommandRefusal) (e : KeepCommandRefusal) → e ≡ refused_as refusal
    → (refusal ≢ command_refusal.Memory → prepared command up ≡ Err refusal) → e ≢ Memory → with_room count (apply_command command up) ≡ Err e
refused_for count command up refusal e is refused some =
    let here : prepared command up ≡ Err refusal = refused (λ failure. some (is ∙ ap refused_as failure)) in
    ap (with_room count) (refuses_command command up refusal here) ∙ ap Err (sym is)

-- if the error of keeping a command is the converted refusal of that command, other than `Memory`, it is the one that `with_room` states
pub refused_by : {T : Type 0} (r : Result T KeepCommandRefusal) (count : ℕ) (command : Command) (up : UpstreamState) (refusal : CommandRefusal)
    → IsErrAnd r (λ e. e ≡ refused_as refusal) → (refusal ≢ command_refusal.Memory → prepared command up ≡ Err refusal)
    → IfErr r (λ e. e ≢ Memory → with_room count (apply_command command up) ≡ Err e)
refused_by (Ok x) count command up refusal is refused = absurd is
refused_by (Err e) count command up refusal is refused = refused_for count command up refusal e is refused

full_is_no_fault : (count : ℕ) → KeeperFull count ≢ KeeperFault
full_is_no_fault count is = cc

refusal_is_no_fault : (refusal : CommandRefusal) → refused_as refusal ≢ KeeperFault
refusal_is_no_fault command_refusal.NoSuchEnvironment is = cc
refusal_is_no_fault command_refusal.NoSuchFeature is = cc
refusal_is_no_fault command_refusal.NoSuchSegment is = cc
refusal_is_no_fault (command_refusal.TooMany n) is = cc
refusal_is_no_fault command_refusal.Memory is = cc

-- the result of `with_room` is never a fault of the keeper
no_fault : (count : ℕ) (r : CommandResult AppliedCommand) → with_room count r ≡ Err KeeperFault → ⊥
no_fault count (Ok obeyed) is = decided (nat_lt count most_rows) is
  where
    decided : (t : Bool) → cond t (Ok obeyed) (Err (KeeperFull count)) ≡ Err KeeperFault → ⊥
    decided true is = ok_is_no_err obeyed KeeperFault is
    decided false is = full_is_no_fault count (err_same (KeeperFull count) KeeperFault is)
no_fault count (Err refusal) is = refusal_is_no_fault refusal (err_same (refused_as refusal) KeeperFault is)

-- whether a refusal is `Memory`
abbrev is_memory : KeepCommandRefusal → Bool
is_memory NoSuchEnvironment = false
is_memory NoSuchFeature = false
is_memory NoSuchSegment = false
is_memory (TooMany n) = false
is_memory (KeeperFull n) = false
is_memory KeeperFault = false
is_memory Memory = true

true_is_no_false : true ≡ false → ⊥
true_is_no_false is = cc

not_memory : (refusal : KeepCommandRefusal) → is_memory refusal ≡ false → refusal ≢ Memory
not_memory refusal other is = true_is_no_false (sym (ap is_memory is) ∙ other)

-- a refused command is not kept, and nothing changes
pub refuses : (command : Command) (state : KeptState) (e : KeepCommandRefusal) → (e ≢ Memory → keepable command state ≡ Err e) → KeepsCommand command state (Err e) state
refuses command state NoSuchEnvironment because = record { cause = because (not_memory NoSuchEnvironment refl); same = refl }
refuses command state NoSuchFeature because = record { cause = because (not_memory NoSuchFeature refl); same = refl }
refuses command state NoSuchSegment because = record { cause = because (not_memory NoSuchSegment refl); same = refl }
refuses command state (TooMany n) because = record { cause = because (not_memory (TooMany n) refl); same = refl }
refuses command state (KeeperFull n) because = record { cause = because (not_memory (KeeperFull n) refl); same = refl }
refuses command state KeeperFault because =
    absurd (no_fault state.keeper.count (apply_command command state.up) (because (not_memory KeeperFault refl)))
refuses command state Memory because = refl

-- converts the result of storing a text to the result of keeping its command
abbrev pub kept_as : Result ℕ KeepRefusal → Result ℕ KeepCommandRefusal
kept_as (Ok number) = Ok number
kept_as (Err fault.Fault) = Err KeeperFault
kept_as (Err fault.Memory) = Err Memory

is_ok : {T E : Type 0} (r : Result T E) (x : T) → r ≡ Ok x → IsOk r
is_ok (Ok y) x is = refl
is_ok (Err e) x is = absurd cc

-- the result of keeping a command, from the result of the put of its text
pub keeps_by_put : (command : Command) (before after : KeptState) (ready : Prepared) (text : List ℕ) (result : Result ℕ KeepRefusal)
    → IsPending command before ready text → Puts ready text before result after → KeepsCommand command before (kept_as result) after
keeps_by_put command before after ready text (Ok number) pending puts =
    let applied : keepable command before ≡ Ok (applied_with ready before.up) = keepable_is command before ready pending.accepts in record {
      obeyed = applied ∙ (λ i. Ok (record { up = sym puts.up i; number = sym puts.is i }));
      spelled = pending.spelled;
      row = subst (λ (t : List ℕ). IsWritten t before.keeper after.keeper) pending.text_is puts.row;
    }
keeps_by_put command before after ready text (Err fault.Fault) pending puts = record {
  obeyed = is_ok (keepable command before) (applied_with ready before.up) (keepable_is command before ready pending.accepts);
  spelled = pending.spelled;
  up = puts.up;
  row = subst (λ (t : List ℕ). IsFailed t before.keeper after.keeper) pending.text_is puts.row;
}
keeps_by_put command before after ready text (Err fault.Memory) pending puts = λ i. record { up = puts.up i; keeper = puts.row i }

-- a command that can be kept is accepted
pub accepted_kept : (command : Command) (before : KeptState) (obeyed : AppliedCommand) → keepable command before ≡ Ok obeyed → apply_command command before.up ≡ Ok obeyed
accepted_kept command before obeyed is = decided (apply_command command before.up) refl is
  where
    same : (made : AppliedCommand) (t : Bool) → cond t (Ok made) (Err (KeeperFull before.keeper.count)) ≡ Ok obeyed → made ≡ obeyed
    same made true is = ok_same made obeyed is
    same made false is = err_is_no_ok (KeeperFull before.keeper.count) obeyed is

    decided : (r : CommandResult AppliedCommand) → apply_command command before.up ≡ r → with_room before.keeper.count r ≡ Ok obeyed → apply_command command before.up ≡ Ok obeyed
    decided (Ok made) here is = here ∙ ap Ok (same made (nat_lt before.keeper.count most_rows) is)
    decided (Err refusal) here is = err_is_no_ok (refused_as refusal) obeyed is

-- ---- what changed

-- if only the acknowledged commands changed the upstream, all of them are accepted, and the keeper counts them, `Moves` holds
moves_by : (tried : List KeepAttempt) (before after : KeptState) → after.up ≡ after_commands (acknowledged tried) before.up
    → accepted (acknowledged tried) before.up ≡ acknowledged tried → after.keeper.count ≡ before.keeper.count + length (acknowledged tried)
    → Moves tried before after
moves_by tried before after leads all counted = record {
  leads = leads;
  all_accepted = all;
  versions = are_added (acknowledged tried) before.up after.up leads all;
  counted = counted;
}

moves_same : (one : KeepAttempt) → acknowledged (one ∷ []) ≡ [] → (before after : KeptState) → after ≡ before → Moves (one ∷ []) before after
moves_same one none before after same =
    let zero_more : length (acknowledged (one ∷ [])) ≡ 0 = ap (λ (cs : List Command). length cs) none in
    subst (λ (s : KeptState). Moves (one ∷ []) before s) (sym same)
    (moves_by (one ∷ []) before before (ap (λ (cs : List Command). after_commands cs before.up) (sym none))
    (ap (λ (cs : List Command). accepted cs before.up) none ∙ sym none) (omega (arith, zero_more)))

moves_written : (command : Command) (before : KeptState) (number : ℕ) (after : KeptState) → Acknowledges command before number after
    → Moves (record { command = command; result = Ok number } ∷ []) before after
moves_written command before number after done =
    let accepts : apply_command command before.up ≡ Ok (record { up = after.up; number = number }) =
    accepted_kept command before (record { up = after.up; number = number }) done.obeyed in
    moves_by (record { command = command; result = Ok number } ∷ []) before after (sym (ap (up_after before.up) accepts))
    (ap (λ (r : CommandResult AppliedCommand). if_accepted command r []) accepts) done.row.counted

moves_failed : (command : Command) (before after : KeptState) → FailsToKeep command before after
    → Moves (record { command = command; result = Err KeeperFault } ∷ []) before after
moves_failed command before after fails =
    moves_by (record { command = command; result = Err KeeperFault } ∷ []) before after fails.up refl (fails.row.counted ∙ omega arith)

moves_one : (command : Command) (before : KeptState) (result : Result ℕ KeepCommandRefusal) (after : KeptState) → KeepsCommand command before result after
    → Moves (record { command = command; result = result } ∷ []) before after
moves_one command before (Ok number) after keeps = moves_written command before number after keeps
moves_one command before (Err NoSuchEnvironment) after keeps = moves_same (record { command = command; result = Err NoSuchEnvironment }) refl before after keeps.same
moves_one command before (Err NoSuchFeature) after keeps = moves_same (record { command = command; result = Err NoSuchFeature }) refl before after keeps.same
moves_one command before (Err NoSuchSegment) after keeps = moves_same (record { command = command; result = Err NoSuchSegment }) refl before after keeps.same
moves_one command before (Err (TooMany n)) after keeps = moves_same (record { command = command; result = Err (TooMany n) }) refl before after keeps.same
moves_one command before (Err (KeeperFull n)) after keeps = moves_same (record { command = command; result = Err (KeeperFull n) }) refl before after keeps.same
moves_one command before (Err KeeperFault) after keeps = moves_failed command before after keeps
moves_one command before (Err Memory) after keeps = moves_same (record { command = command; result = Err Memory }) refl before after keeps

if_kept_both : (command : Command) (result : Result ℕ KeepCommandRefusal) (others : List Command) → if_kept command result [] ++ others ≡ if_kept command result others
if_kept_both command (Ok number) others = refl
if_kept_both command (Err refusal) others = refl

moves_more : (one : KeepAttempt) (others : List KeepAttempt) (before middle after : KeptState) → Moves (one ∷ []) before middle → Moves others middle after
    → Moves (one ∷ others) before after
moves_more one others before middle after first second =
    let both : acknowledged (one ∷ []) ++ acknowledged others ≡ acknowledged (one ∷ others) = if_kept_both one.command one.result (acknowledged others) in
    let lengths : length (acknowledged (one ∷ others)) ≡ length (acknowledged (one ∷ [])) + length (acknowledged others) =
    sym (ap (λ (cs : List Command). length cs) both) ∙ length-append (acknowledged (one ∷ [])) (acknowledged others) in
    moves_by (one ∷ others) before after
    (second.leads ∙ ap (after_commands (acknowledged others)) first.leads
    ∙ sym (after_both (acknowledged (one ∷ [])) (acknowledged others) before.up) ∙ ap (λ (cs : List Command). after_commands cs before.up) both)
    (sym (ap (λ (cs : List Command). accepted cs before.up) both)
    ∙ accepted_both (acknowledged (one ∷ [])) (acknowledged others) before.up
    ∙ (λ i. first.all_accepted i ++ accepted (acknowledged others) (sym first.leads i))
    ∙ ap (λ (cs : List Command). acknowledged (one ∷ []) ++ cs) second.all_accepted ∙ both)
    (omega (arith, first.counted, second.counted, lengths))

-- what attempts to keep commands, in order, change
pub moves_all : (tried : List KeepAttempt) (before after : KeptState) → AttemptsInOrder tried before after → Moves tried before after
moves_all [] before after keeps = subst (λ (s : KeptState). Moves [] before s) (sym keeps) (moves_by [] before before refl refl (omega arith))
moves_all (one ∷ others) before after keeps =
    moves_more one others before keeps.0 after (moves_one one.command before one.result keeps.0 keeps.1) (moves_all others keeps.0 after keeps.2)

-- ---- one command

-- appending no commands changes nothing
append_none : (o : Option (List Command)) → option_map (λ commands. commands ++ []) o ≡ o
append_none None = refl
append_none (Some commands) = ap Some (append-nil commands)

carries_same : (one : KeepAttempt) → acknowledged (one ∷ []) ≡ [] → faults_among (one ∷ []) ≡ 0 → ((failed : List Command) → failed_after failed (one ∷ []) ≡ failed)
    → (before after : KeptState) → after ≡ before → Carries (one ∷ []) before after
carries_same one none no_faults as_before before after same =
    subst (λ (s : KeptState). Carries (one ∷ []) before s) (sym same) (record {
      represents = λ opening holds. holds;
      moves = moves_same one none before before refl;
      appended = sym (append_none (kept_commands before.keeper))
          ∙ ap (λ (cs : List Command). option_map (λ commands. commands ++ cs) (kept_commands before.keeper)) (sym none);
      left = λ failed left. subst (LeavesOne before) (sym (as_before failed)) left;
      faults = omega (arith, no_faults);
    })

-- the rows with one more, of an accepted command, lead to the upstream after that command
results_further : (opening : UpstreamState) (text : List ℕ) (command : Command) (up : UpstreamState) (obeyed : AppliedCommand) → command_in text ≡ Ok command
    → apply_command command up ≡ Ok obeyed → (o : Option (List (List ℕ))) → IfSome o (λ texts. ResultIn opening texts up)
    → IfSome (option_map (λ list. list ++ text ∷ []) o) (λ texts. ResultIn opening texts obeyed.up)
results_further opening text command up obeyed spelled accepts None holds = tt
results_further opening text command up obeyed spelled accepts (Some texts) holds = results_more texts text opening up command obeyed spelled accepts holds

commands_more : (text : List ℕ) (command : Command) → command_in text ≡ Ok command → (o : Option (List (List ℕ)))
    → option_map commands_in (option_map (λ list. list ++ text ∷ []) o) ≡ option_map (λ commands. commands ++ command ∷ []) (option_map commands_in o)
commands_more text command spelled None = refl
commands_more text command spelled (Some texts) =
    ap Some (commands_both texts (text ∷ []) ∙ ap (λ (cs : List Command). commands_in texts ++ cs) (command_one text command spelled))

none_left : (rows : Option (List (List ℕ))) (up : UpstreamState) (failed : List Command) → IfSome (option_map (λ list. []) rows) (AreLeft up failed)
none_left None up failed = tt
none_left (Some list) up failed = tt

carries_written : (command : Command) (before : KeptState) (number : ℕ) (after : KeptState) → HasKept before.keeper → Acknowledges command before number after
    → Carries (record { command = command; result = Ok number } ∷ []) before after
carries_written command before number after has done =
    let text : List ℕ = command_text command in
    let obeyed : AppliedCommand = record { up = after.up; number = number } in
    let accepts : apply_command command before.up ≡ Ok obeyed = accepted_kept command before obeyed done.obeyed in
    let rows : kept_rows after.keeper ≡ option_map (λ list. list ++ text ∷ []) (kept_rows before.keeper) =
    rows_written text before.keeper after.keeper has done.row in record {
      represents = λ opening holds. subst (λ (o : Option (List (List ℕ))). IfSome o (λ texts. ResultIn opening texts after.up)) (sym rows)
          (results_further opening text command before.up obeyed done.spelled accepts (kept_rows before.keeper) holds);
      moves = moves_written command before number after done;
      appended = ap (option_map commands_in) rows ∙ commands_more text command done.spelled (kept_rows before.keeper);
      left = λ failed left. subst (λ (o : Option (List (List ℕ))). IfSome o (AreLeft after.up [])) (sym (past_written text before.keeper after.keeper has done.row))
          (none_left before.keeper.rows after.up []);
      faults = let still = done.row.still in omega (arith, still);
    }

one_more : (up : UpstreamState) (command : Command) (failed : List Command) (texts : List (List ℕ)) → AreLeft up failed texts → AreLeft up (command ∷ failed) texts
one_more up command failed [] left = tt
one_more up command failed (text ∷ []) left = record { command = left.command; spelled = left.spelled; accepts = left.accepts; one = inr left.one }
one_more up command failed (text ∷ other ∷ texts) left = absurd left

more_failed : (up : UpstreamState) (command : Command) (failed : List Command) (o : Option (List (List ℕ))) → IfSome o (AreLeft up failed) → IfSome o (AreLeft up (command ∷ failed))
more_failed up command failed None left = tt
more_failed up command failed (Some texts) left = one_more up command failed texts left

this_left : (up : UpstreamState) (failed : List Command) (text : List ℕ) (rows : Option (List (List ℕ))) → IsLeft up failed text
    → IfSome (option_map (λ list. text ∷ []) rows) (AreLeft up failed)
this_left up failed text None left = tt
this_left up failed text (Some list) left = left

could_be : (command : Command) (before : KeptState) → IsOk (keepable command before) → IsOk (apply_command command before.up)
could_be command before is = decided (apply_command command before.up) is
  where
    decided : (r : CommandResult AppliedCommand) → IsOk (with_room before.keeper.count r) → IsOk r
    decided (Ok obeyed) is = refl
    decided (Err refusal) is = is

carries_failed : (command : Command) (before after : KeptState) → HasKept before.keeper → FailsToKeep command before after
    → Carries (record { command = command; result = Err KeeperFault } ∷ []) before after
carries_failed command before after has fails =
    let text : List ℕ = command_text command in
    let rows : kept_rows after.keeper ≡ kept_rows before.keeper = rows_failed text before.keeper after.keeper has fails.row in record {
      represents = λ opening holds. subst (λ (o : Option (List (List ℕ))). IfSome o (λ texts. ResultIn opening texts after.up)) (sym rows)
          (subst (λ (u : UpstreamState). IfSome (kept_rows before.keeper) (λ texts. ResultIn opening texts u)) (sym fails.up) holds);
      moves = moves_failed command before after fails;
      appended = ap (option_map commands_in) rows ∙ sym (append_none (kept_commands before.keeper));
      left = λ failed left. subst (λ (u : UpstreamState). IfSome (past_rows after.keeper) (AreLeft u (command ∷ failed))) (sym fails.up) (by_rows failed left fails.row.rows);
      faults = omega (arith, fails.row.rose);
    }
  where
    by_rows : (failed : List Command) → LeavesOne before failed
        → (after.keeper.rows ≡ before.keeper.rows) ⊎ (after.keeper.rows ≡ with_row before.keeper.count (command_text command) before.keeper.rows)
        → IfSome (past_rows after.keeper) (AreLeft before.up (command ∷ failed))
    by_rows failed left (inl same) =
        let past : past_rows after.keeper ≡ past_rows before.keeper = λ i. option_map (λ list. drop (fails.row.counted i) list) (same i) in
        subst (λ (o : Option (List (List ℕ))). IfSome o (AreLeft before.up (command ∷ failed))) (sym past)
        (more_failed before.up command failed (past_rows before.keeper) left)
    by_rows failed left (inr wrote) =
        let past : past_rows after.keeper ≡ option_map (λ _. command_text command ∷ []) before.keeper.rows =
        past_failed (command_text command) before.keeper after.keeper has fails.row wrote in
        subst (λ (o : Option (List (List ℕ))). IfSome o (AreLeft before.up (command ∷ failed))) (sym past)
        (this_left before.up (command ∷ failed) (command_text command) before.keeper.rows
        (record { command = command; spelled = fails.spelled; accepts = could_be command before fails.obeyed; one = inl refl }))

-- what one attempt to keep a command preserves and changes
pub carries_one : (command : Command) (before : KeptState) (result : Result ℕ KeepCommandRefusal) (after : KeptState) → HasKept before.keeper
    → KeepsCommand command before result after → Carries (record { command = command; result = result } ∷ []) before after
carries_one command before (Ok number) after has keeps = carries_written command before number after has keeps
carries_one command before (Err NoSuchEnvironment) after has keeps = carries_same (record { command = command; result = Err NoSuchEnvironment }) refl refl (λ failed. refl) before after keeps.same
carries_one command before (Err NoSuchFeature) after has keeps = carries_same (record { command = command; result = Err NoSuchFeature }) refl refl (λ failed. refl) before after keeps.same
carries_one command before (Err NoSuchSegment) after has keeps = carries_same (record { command = command; result = Err NoSuchSegment }) refl refl (λ failed. refl) before after keeps.same
carries_one command before (Err (TooMany n)) after has keeps = carries_same (record { command = command; result = Err (TooMany n) }) refl refl (λ failed. refl) before after keeps.same
carries_one command before (Err (KeeperFull n)) after has keeps = carries_same (record { command = command; result = Err (KeeperFull n) }) refl refl (λ failed. refl) before after keeps.same
carries_one command before (Err KeeperFault) after has keeps = carries_failed command before after has keeps
carries_one command before (Err Memory) after has keeps = carries_same (record { command = command; result = Err Memory }) refl refl (λ failed. refl) before after keeps

has_same : (before after : KeptState) → HasKept before.keeper → after ≡ before → HasKept after.keeper
has_same before after has same = subst (λ (s : KeptState). HasKept s.keeper) (sym same) has

has_one : (command : Command) (before : KeptState) (result : Result ℕ KeepCommandRefusal) (after : KeptState) → HasKept before.keeper
    → KeepsCommand command before result after → HasKept after.keeper
has_one command before (Ok number) after has keeps = has_written (command_text command) before.keeper after.keeper has keeps.row
has_one command before (Err NoSuchEnvironment) after has keeps = has_same before after has keeps.same
has_one command before (Err NoSuchFeature) after has keeps = has_same before after has keeps.same
has_one command before (Err NoSuchSegment) after has keeps = has_same before after has keeps.same
has_one command before (Err (TooMany n)) after has keeps = has_same before after has keeps.same
has_one command before (Err (KeeperFull n)) after has keeps = has_same before after has keeps.same
has_one command before (Err KeeperFault) after has keeps = has_failed (command_text command) before.keeper after.keeper has keeps.row
has_one command before (Err Memory) after has keeps = has_same before after has keeps

-- ---- one after another

-- appending one list of commands and then another is appending both together
pub both_behind : (first second : List Command) (o : Option (List Command))
    → option_map (λ commands. commands ++ second) (option_map (λ commands. commands ++ first) o) ≡ option_map (λ commands. commands ++ (first ++ second)) o
both_behind first second None = refl
both_behind first second (Some commands) = ap Some (append_assoc commands first second)

carries_more : (one : KeepAttempt) (others : List KeepAttempt) (before middle after : KeptState) → Carries (one ∷ []) before middle → Carries others middle after
    → Carries (one ∷ others) before after
carries_more one others before middle after first second = record {
  represents = λ opening holds. second.represents opening (first.represents opening holds);
  moves = moves_more one others before middle after first.moves second.moves;
  appended = second.appended ∙ ap (option_map (λ commands. commands ++ acknowledged others)) first.appended
      ∙ both_behind (acknowledged (one ∷ [])) (acknowledged others) (kept_commands before.keeper)
      ∙ ap (λ (cs : List Command). option_map (λ commands. commands ++ cs) (kept_commands before.keeper))
      (if_kept_both one.command one.result (acknowledged others));
  left = λ failed left. second.left (failed_after failed (one ∷ [])) (first.left failed left);
  faults = omega (arith, first.faults, second.faults);
}

carries_nothing : (before after : KeptState) → after ≡ before → Carries [] before after
carries_nothing before after same =
    subst (λ (s : KeptState). Carries [] before s) (sym same) (record {
      represents = λ opening holds. holds;
      moves = moves_by [] before before refl refl (omega arith);
      appended = sym (append_none (kept_commands before.keeper));
      left = λ failed left. left;
      faults = omega arith;
    })

-- what attempts to keep commands, in order, preserve and change
pub carries_all : (tried : List KeepAttempt) (before after : KeptState) → HasKept before.keeper → AttemptsInOrder tried before after → Carries tried before after
carries_all [] before after has keeps = carries_nothing before after keeps
carries_all (one ∷ others) before after has keeps =
    let middle : KeptState = keeps.0 in
    carries_more one others before middle after (carries_one one.command before one.result middle has keeps.1)
    (carries_all others middle after (has_one one.command before one.result middle has keeps.1) keeps.2)

pub keeps_both : (first second : List KeepAttempt) (before middle after : KeptState) → AttemptsInOrder first before middle → AttemptsInOrder second middle after
    → AttemptsInOrder (first ++ second) before after
keeps_both [] second before middle after one two = subst (λ (s : KeptState). AttemptsInOrder second s after) one two
keeps_both (t ∷ first) second before middle after one two = (one.0, one.1, keeps_both first second one.0 middle after one.2 two)

-- the acknowledged commands of two lists of attempts are those of the first list, then those of the second
pub acknowledged_both : (first second : List KeepAttempt) → acknowledged (first ++ second) ≡ acknowledged first ++ acknowledged second
acknowledged_both [] second = refl
acknowledged_both (one ∷ first) second = decided one.result (acknowledged_both first second)
  where
    decided : (r : Result ℕ KeepCommandRefusal) → acknowledged (first ++ second) ≡ acknowledged first ++ acknowledged second
        → if_kept one.command r (acknowledged (first ++ second)) ≡ if_kept one.command r (acknowledged first) ++ acknowledged second
    decided (Ok number) others = ap (λ (cs : List Command). one.command ∷ cs) others
    decided (Err refusal) others = others

-- the numbers of keeper failures in two lists of attempts add up
pub faults_both : (first second : List KeepAttempt) → faults_among (first ++ second) ≡ faults_among first + faults_among second
faults_both [] second = omega arith
faults_both (one ∷ first) second = let others : faults_among (first ++ second) ≡ faults_among first + faults_among second = faults_both first second in omega (arith, others)

-- ---- any attempts

-- attempts that lead to a state, followed by more attempts from that state
pub keeps_more : (start before after : KeptState) (tried : List KeepAttempt) → SomeAttempts start before → AttemptsInOrder tried before after → SomeAttempts start after
keeps_more start before after tried led keeps =
    record { tried = led.tried ++ tried; keeps = keeps_both led.tried tried start before after led.keeps keeps }

pub holds_on : (before after : KeptState) → HasKept before.keeper → SomeAttempts before after → AttemptsPreserve before after
holds_on before after has some = record { some = some; carries = carries_all some.tried before after has some.keeps }

-- without any attempt, everything is preserved
pub holds_still : (state : KeptState) → HasKept state.keeper → AttemptsPreserve state state
holds_still state has = holds_on state state has (record { tried = []; keeps = refl })

-- as above, if the state after is equal to the state before
pub holds_same : (before after : KeptState) (up : UpstreamState) (keeper : KeeperState) → AttemptsPreserve before after → after.up ≡ up → after.keeper ≡ keeper
    → AttemptsPreserve before (record { up = up; keeper = keeper })
holds_same before after up keeper holds first second = subst (AttemptsPreserve before) (λ i. record { up = first i; keeper = second i }) holds
