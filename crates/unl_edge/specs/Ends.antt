-- How the program ends: what each command has done to the endpoints (the input, the output, the network and others) when it ends with a
-- status, which endpoints it leaves unchanged, and which exit code the program returns. A `Scene` has the states of all endpoints: `before`
-- at the start of the run, `after` at its end.
use Rattle.std.specs.Prelude.{◌≡◌, ℕ, ◌==◌, List, codes, Option, IfSome, Result, Ok, Err, if◌then◌else◌}
use Rattle.unl_base.specs.Faults.{Rose}
use Rattle.unl_base.specs.Streams.{Sends, SendsPrefix}
use Rattle.unl_base.specs.declared.draws.Draw.{Draw}
use Rattle.unl_edge.specs.Edges.{EdgeRuns}
use Rattle.unl_edge.specs.Follows.{FollowEnds}
use Rattle.unl_edge.specs.Scene.{ChangesForEdge, ChangesForReplica, ChangesForUpstream, ChangesOutput, ChangesStreams, Scene, ServingFailed}
use Rattle.unl_edge.specs.Status.{FailsToOpenKeeper, check_status, code_of, ending_status, explain_status, follow_status}
use Rattle.unl_edge.specs.Status.{lines_status, load_status}
use Rattle.unl_edge.specs.Status.{serving_status, upstream_status, arguments_status}
use Rattle.unl_edge.specs.Upstreams.{IsDecidedByLines, UpstreamRuns}
use Rattle.unl_edge.specs.declared.ends.CheckEnd.{CheckEnd}
use Rattle.unl_edge.specs.declared.ends.CheckEnd.TheVariants.{Passed, Failed as TestsFailed, Refused, ReadFault, WriteFault, OutOfMemory}
use Rattle.unl_edge.specs.declared.ends.ArgumentsEnd.{ArgumentsEnd}
use Rattle.unl_edge.specs.declared.ends.ArgumentsEnd.TheVariants as words
use Rattle.unl_edge.specs.declared.status.Status.{Status}
use Rattle.unl_edge.specs.declared.status.Status.TheVariants as status
use Rattle.unl_explain.specs.Running.{Explains, explained}
use Rattle.unl_input.specs.Answer.{InputOutcome, Says, SaysPrefix, input_outcome}
use Rattle.unl_input.specs.declared.refusal.WriteLineFault.{WriteLineFault}
use Rattle.unl_input.specs.declared.refusal.WriteLineFault.TheVariants as say
use Rattle.unl_load.specs.Line.{load_line}
use Rattle.unl_load.specs.declared.fault.LoadFault.{LoadFault}
use Rattle.unl_load.specs.declared.fault.LoadFault.TheVariants as load
use Rattle.unl_replay.specs.Replay.{replay_of}
use Rattle.unl_replay.specs.Replayed.{Replays}
use Rattle.unl_spec_runner.specs.Check.{report_reading, report_of, text_of}
use Rattle.unl_spec_runner.specs.Report.{Report}
use Rattle.unl_words.specs.Words.{WordsReading}
use Rattle.unl_words.specs.declared.refusal.WordsRefusal.TheVariants.{Bad, Memory}
use Rattle.unl_words.specs.declared.words.Words.TheVariants.{Replay, Check, Edge, Explain, Follow, Load, Upstream}

-- ---- a check

-- the outcome of a check (the command `check`) with this number of failed tests
abbrev pub report_end : ℕ → CheckEnd
report_end failed = if failed == 0 then Passed else TestsFailed

-- the outcome of a check, from the result of processing its input
abbrev pub outcome_end : InputOutcome Report → CheckEnd
outcome_end (Ok report) = report_end report.failed
outcome_end (Err refusal) = Refused

-- the outcome of a check with a refused input, from the result of printing the cause
abbrev pub refused_end : Result (Unit {0}) WriteLineFault → CheckEnd
refused_end (Ok u) = Refused
refused_end (Err say.WriteFault) = WriteFault
refused_end (Err say.Memory) = OutOfMemory

-- The input was read, and the report of its tests, or the cause of its refusal, was sent in full. `end` says which: all tests passed, a
-- test failed, or the input was refused. `left` and `left_after` are the bytes that the input still had before and after the check, and
-- `old` and `new` are the bytes sent to the output before and after it (each is `None` if not observable).
pub record PrintsReport (draw : Draw) (end : CheckEnd) (left left_after old new : Option (List ℕ)) : Type 0 where
  pub outcome : InputOutcome Report
  pub says : Says (report_reading draw) text_of outcome left left_after old new
  pub ends : end ≡ outcome_end outcome

-- How a check ends. If the tests were run or the input was refused, the report or the cause was sent in full. If the input failed or
-- memory ran out, nothing was sent. If the output failed, a prefix of the report or of the cause was sent.
abbrev pub CheckEnds : Draw → CheckEnd → Option (List ℕ) → Option (List ℕ) → Option (List ℕ) → Option (List ℕ) → Type 0
CheckEnds draw Passed left left_after old new = PrintsReport draw Passed left left_after old new
CheckEnds draw TestsFailed left left_after old new = PrintsReport draw TestsFailed left left_after old new
CheckEnds draw Refused left left_after old new = PrintsReport draw Refused left left_after old new
CheckEnds draw ReadFault left left_after old new = new ≡ old
CheckEnds draw WriteFault left left_after old new =
    (outcome : InputOutcome Report) × SaysPrefix (report_reading draw) text_of outcome left left_after old new
CheckEnds draw OutOfMemory left left_after old new = new ≡ old

-- ---- a load

-- How the command `load` with this seed and this count of evaluations ends. Its line was sent: all of it, a prefix if a write failed, or
-- nothing if memory ran out.
abbrev pub LoadEnds : ℕ → ℕ → Result (Unit {0}) LoadFault → Option (List ℕ) → Option (List ℕ) → Type 0
LoadEnds seed count (Ok u) old new = Sends old (load_line seed count) new
LoadEnds seed count (Err load.WriteFault) old new = SendsPrefix old (load_line seed count) new
LoadEnds seed count (Err load.Memory) old new = new ≡ old

-- ---- bad arguments

-- the line printed for bad arguments
abbrev pub bad_arguments_line : List ℕ
bad_arguments_line = codes "unl_edge: bad words\n"

-- The line for bad arguments was sent: all of it, a prefix if a write failed, or nothing if memory ran out.
abbrev pub PrintsBadArguments : ArgumentsEnd → Option (List ℕ) → Option (List ℕ) → Type 0
PrintsBadArguments words.Bad old new = Sends old bad_arguments_line new
PrintsBadArguments words.WriteFault old new = SendsPrefix old bad_arguments_line new
PrintsBadArguments words.OutOfMemory old new = new ≡ old

-- ---- the program

-- a command ended with `end`: the status is `status_of end`, and `EndsSo end` says what the command has done
pub record Ended {E : Type 0} (status_of : E → Status) (EndsSo : E → Type 0) (status : Status) : Type 0 where
  pub end : E
  pub is : status ≡ status_of end
  pub ends : EndsSo end

-- How the program ends with this status, by the command that its arguments name. If the arguments are bad, `PrintsBadArguments` holds. If
-- memory runs out while the arguments are read, the status is `OutOfMemory` (`LeavesAlone` says that nothing else happens).
abbrev pub Ends : WordsReading → Status → Scene → Scene → Type 0
Ends (Ok Replay) status before after =
    Ended lines_status
    (λ end. Replays end before.input.left after.input.left before.output.sent after.output.sent) status
Ends (Ok (Check now word)) status before after =
    Ended check_status
    (λ end. CheckEnds (record { now = now; word = word }) end before.input.left after.input.left before.output.sent after.output.sent)
    status
Ends (Ok Explain) status before after =
    Ended explain_status
    (λ end. Explains end before.input.left after.input.left before.output.sent after.output.sent) status
Ends (Ok (Edge edge)) status before after =
    Ended serving_status (λ end. EdgeRuns edge end before after) status
Ends (Ok (Upstream up)) status before after =
    Ended upstream_status (λ end. UpstreamRuns up end before after) status
Ends (Ok (Follow replica)) status before after =
    Ended follow_status (λ end. FollowEnds replica end before after) status
Ends (Ok (Load seed count)) status before after =
    Ended load_status (λ end. LoadEnds seed count end before.output.sent after.output.sent) status
Ends (Err Bad) status before after = Ended arguments_status (λ end. PrintsBadArguments end before.output.sent after.output.sent) status
Ends (Err Memory) s before after = s ≡ status.OutOfMemory

-- The state and the fault count of each endpoint that the command doesn't use are unchanged. For bad arguments, at most the output
-- changed. If memory ran out while the arguments were read, no endpoint changed.
abbrev pub LeavesAlone : WordsReading → Scene → Scene → Type 0
LeavesAlone (Ok Replay) before after = ChangesStreams before after
LeavesAlone (Ok (Check now word)) before after = ChangesStreams before after
LeavesAlone (Ok Explain) before after = ChangesStreams before after
LeavesAlone (Ok (Edge edge)) before after = ChangesForEdge before after
LeavesAlone (Ok (Upstream up)) before after = ChangesForUpstream before after
LeavesAlone (Ok (Follow replica)) before after = ChangesForReplica before after
LeavesAlone (Ok (Load seed count)) before after = ChangesOutput before after
LeavesAlone (Err Bad) before after = ChangesOutput before after
LeavesAlone (Err Memory) before after = after ≡ before

-- `code` is the exit code of a status for which `EndsSo` holds
abbrev pub Exits : ℕ → (Status → Type 0) → Type 0
Exits code EndsSo = (status : Status) × (code ≡ code_of status) × EndsSo status

-- What each exit code that reports a fault implies. Code 4: the input failed. Code 5: the output failed. Code 7: the door failed, or a
-- thread couldn't be started. Code 8: the fault count of the maker of keepers (the stores of an upstream's commands) rose, and the door
-- handed out no link. An endpoint failed if its fault count rose.
pub record CodeHasCauses (code : ℕ) (before after : Scene) : Type 0 where
  pub read : code ≡ 4 → Rose before.input.faults after.input.faults
  pub write : code ≡ 5 → Rose before.output.faults after.output.faults
  pub serving : code ≡ 7 → ServingFailed before after
  pub keep : code ≡ 8 → FailsToOpenKeeper before after

-- ---- what determines the exit code if nothing fails and memory doesn't run out

-- the status of the command `explain`, from the result of processing its input
abbrev pub explained_status : InputOutcome (List ℕ) → Status
explained_status (Ok line) = status.Done
explained_status (Err refusal) = status.Refused

-- What determines the exit code, by the command. For `replay`, `check` and `explain` it is the input, if its bytes are observable. For
-- `upstream` it is the rows of the keeper and then the lines of the input (`IsDecidedByLines`); nothing is said if the fault count of the
-- maker of keepers rose. The other codes are fixed: 0 for `edge`, `follow` and `load`, 2 for bad arguments, and 6 if memory ran out
-- while the arguments were read.
abbrev pub IsDecided : WordsReading → ℕ → Scene → Scene → Type 0
IsDecided (Ok Replay) code before after = IfSome before.input.left (λ bytes. code ≡ code_of (ending_status (replay_of bytes).ending))
IsDecided (Ok (Check now word)) code before after =
    IfSome before.input.left (λ bytes. code ≡ code_of (check_status (outcome_end (report_of (record { now = now; word = word }) bytes))))
IsDecided (Ok Explain) code before after =
    IfSome before.input.left (λ bytes. code ≡ code_of (explained_status (input_outcome explained bytes)))
IsDecided (Ok (Edge edge)) code before after = code ≡ 0
IsDecided (Ok (Upstream up)) code before after =
    ¬ (Rose before.keep.faults after.keep.faults)
    → IsDecidedByLines up code before
IsDecided (Ok (Follow replica)) code before after = code ≡ 0
IsDecided (Ok (Load seed count)) code before after = code ≡ 0
IsDecided (Err Bad) code before after = code ≡ 2
IsDecided (Err Memory) code before after = code ≡ 6
