-- How the program ends, from the ends of its commands.
use Rattle.std.proofs.Common.{◌≡◌, ◌≢◌, ℕ, ◌==◌, List, cond, Option, Some, None, IfSome, Result, Ok, Err, inl, refl, sym, subst, ap, ◌∙◌}
use Rattle.unl_base.specs.declared.draws.Draw.{Draw}
use Rattle.unl_documents.specs.Reading.{Reading}
use Rattle.unl_documents.specs.Results.{Gives}
use Rattle.unl_edge.specs.Ends.{CheckEnds, Ended, Ends, CodeHasCauses, IsDecided, LeavesAlone, PrintsReport, explained_status, outcome_end}
use Rattle.unl_edge.specs.Follows.{ask_of, ends_in, subject_of}
use Rattle.unl_edge.specs.Scene.{Scene}
use Rattle.unl_edge.specs.Status.{Caused, FailsToOpenKeeper, IsCaused, check_status, code_of, ending_status, explain_status, follow_status, lines_status, load_status, serving_status, arguments_status}
use Rattle.unl_edge.proofs.Closing.{stops_at_once}
use Rattle.unl_edge.proofs.Commands.{refusing_decides, upstream_decided}
use Rattle.unl_edge.specs.declared.ends.CheckEnd.{CheckEnd}
use Rattle.unl_edge.specs.declared.ends.CheckEnd.TheVariants as check
use Rattle.unl_edge.specs.declared.ends.ArgumentsEnd.{ArgumentsEnd}
use Rattle.unl_edge.specs.declared.ends.ArgumentsEnd.TheVariants as words
use Rattle.unl_edge.specs.declared.status.Status.{Status}
use Rattle.unl_edge.specs.declared.status.Status.TheVariants.{Done, TestFailed, BadArguments, Refused, ReadFault, WriteFault, OutOfMemory, DoorFault, KeeperFault}
use Rattle.unl_explain.specs.Running.{Explains, explained}
use Rattle.unl_explain.specs.declared.running.ExplainFault.{ExplainFault}
use Rattle.unl_explain.specs.declared.running.ExplainFault.TheVariants as explain
use Rattle.unl_follow.specs.declared.fault.FollowFault.{FollowFault}
use Rattle.unl_follow.specs.declared.fault.FollowFault.TheVariants as follow
use Rattle.unl_follow.proofs.Turning.{none_made}
use Rattle.unl_input.proofs.Outcomes.{decides}
use Rattle.unl_input.specs.Answer.{HasOutcome, InputOutcome, input_outcome}
use Rattle.unl_input.proofs.Whole.{ends_at_once, whole_read}
use Rattle.unl_input.specs.declared.taking.LinesFault.{LinesFault}
use Rattle.unl_input.specs.declared.taking.LinesFault.TheVariants as lines
use Rattle.unl_load.specs.declared.fault.LoadFault.{LoadFault}
use Rattle.unl_load.specs.declared.fault.LoadFault.TheVariants as load
use Rattle.unl_replay.specs.Replay.{line_answer, empty_replay, replay_of}
use Rattle.unl_replay.specs.Replayed.{Replays}
use Rattle.unl_replay.proofs.Delivering.{replays_lines}
use Rattle.unl_spec_runner.specs.Check.{report_reading, report_of}
use Rattle.unl_spec_runner.specs.Report.{Report}
use Rattle.unl_upstream.specs.declared.ends.ServingEnd.{ServingEnd}
use Rattle.unl_upstream.specs.declared.ends.ServingEnd.TheVariants as serving
use Rattle.unl_upstream.specs.declared.ends.UpstreamEnd.TheVariants as upstream
use Rattle.unl_words.specs.Words.{WordsReading}
use Rattle.unl_words.specs.declared.refusal.WordsRefusal.TheVariants.{Bad, Memory}
use Rattle.unl_words.specs.declared.words.Words.TheVariants.{Replay, Check, Edge, Explain, Follow, Load, Upstream}

-- ---- the arguments

-- out of memory, with no effect, is a possible end for all arguments
at_memory : (reading : WordsReading) (scene : Scene) → Ends reading OutOfMemory scene scene
at_memory (Ok Replay) scene = record {
  end = Err lines.Memory;
  is = refl;
  ends = replays_lines (Err lines.Memory) scene.input.left scene.input.left scene.output.sent scene.output.sent
      (ends_at_once line_answer empty_replay scene.input.left scene.output.sent);
}
at_memory (Ok (Check now word)) scene = record { end = check.OutOfMemory; is = refl; ends = refl }
at_memory (Ok Explain) scene = record { end = Err explain.Memory; is = refl; ends = refl }
at_memory (Ok (Edge edge)) scene = record { end = serving.OutOfMemory; is = refl; ends = inl (stops_at_once edge.port scene scene scene refl refl refl refl) }
at_memory (Ok (Upstream up)) scene = record { end = upstream.OutOfMemory; is = refl; ends = record { silent = refl; shut = refl } }
at_memory (Ok (Follow replica)) scene = record {
  end = Err follow.Memory;
  is = refl;
  ends = none_made {T = Unit {0}} replica.turns scene.pace (ask_of replica) (subject_of replica) (ends_in scene) (Err follow.Memory) refl;
}
at_memory (Ok (Load seed count)) scene = record { end = Err load.Memory; is = refl; ends = refl }
at_memory (Err Bad) scene = record { end = words.OutOfMemory; is = refl; ends = refl }
at_memory (Err Memory) scene = refl

-- if `Ends` holds for the arguments as the code read them (`given`), it holds for them as the definitions read them (`reading`)
pub ends_by : (given reading : WordsReading) (status : Status) (before after : Scene)
    → Gives Memory given reading → Ends given status before after → LeavesAlone given before after → Ends reading status before after
ends_by (Ok x) reading status before after gives ends leaves = subst (λ w. Ends w status before after) (sym gives) ends
ends_by (Err Bad) reading status before after gives ends leaves =
    subst (λ w. Ends w status before after) (sym (gives (λ same. absurd (cc same)))) ends
ends_by (Err Memory) reading status before after gives ends leaves =
    subst (λ (scene : Scene). Ends reading status before scene) (sym leaves)
    (subst (λ (s : Status). Ends reading s before before) (sym ends) (at_memory reading before))

-- a run in which nothing changed leaves all endpoints alone
unchanged : (reading : WordsReading) (scene : Scene) → LeavesAlone reading scene scene
unchanged (Ok Replay) scene = refl
unchanged (Ok (Check now word)) scene = refl
unchanged (Ok Explain) scene = refl
unchanged (Ok (Edge edge)) scene = refl
unchanged (Ok (Upstream up)) scene = refl
unchanged (Ok (Follow replica)) scene = refl
unchanged (Ok (Load seed count)) scene = refl
unchanged (Err Bad) scene = refl
unchanged (Err Memory) scene = refl

-- as `ends_by`, for the endpoints that are left unchanged
pub leaves_by : (given reading : WordsReading) (before after : Scene)
    → Gives Memory given reading → LeavesAlone given before after → LeavesAlone reading before after
leaves_by (Ok x) reading before after gives leaves = subst (λ w. LeavesAlone w before after) (sym gives) leaves
leaves_by (Err Bad) reading before after gives leaves =
    subst (λ w. LeavesAlone w before after) (sym (gives (λ same. absurd (cc same)))) leaves
leaves_by (Err Memory) reading before after gives leaves =
    subst (λ (scene : Scene). LeavesAlone reading before scene) (sym leaves) (unchanged reading before)

-- ---- causes

-- the status of an exit code (`KeeperFault` for all numbers above 7)
status_of : ℕ → Status
status_of n =
    cond (n == 0) Done (cond (n == 1) TestFailed (cond (n == 2) BadArguments (cond (n == 3) Refused (cond (n == 4) ReadFault (
    cond (n == 5) WriteFault (cond (n == 6) OutOfMemory (cond (n == 7) DoorFault KeeperFault)))))))

status_back : (status : Status) → status_of (code_of status) ≡ status
unfolding status_of
status_back Done = refl
status_back TestFailed = refl
status_back BadArguments = refl
status_back Refused = refl
status_back ReadFault = refl
status_back WriteFault = refl
status_back OutOfMemory = refl
status_back DoorFault = refl
status_back KeeperFault = refl

-- the cause of each fault, by its exit code
pub all_causes : (status : Status) (code : ℕ) (before after : Scene) → code ≡ code_of status → IsCaused status before after → CodeHasCauses code before after
all_causes status code before after is caused = record {
  read = by_number ReadFault;
  write = by_number WriteFault;
  serving = by_number DoorFault;
  keep = by_number KeeperFault;
}
  where
    by_number : (other : Status) → code ≡ code_of other → IsCaused other before after
    by_number other number =
        subst (λ (s : Status). IsCaused s before after) (sym (status_back status) ∙ ap status_of (sym is ∙ number) ∙ status_back other) caused

-- ---- what determines the exit code if nothing fails and memory doesn't run out

-- if `number` is the code for the outcome that was found, it is the code for the outcome of the input's bytes, if they are observable
decided_by : {T : Type 0} (reads : List ℕ → Reading T) (code : InputOutcome T → ℕ) (number : ℕ) (outcome : InputOutcome T) (left left_after : Option (List ℕ))
    → HasOutcome reads outcome left left_after → number ≡ code outcome → IfSome left (λ bytes. number ≡ code (input_outcome reads bytes))
decided_by reads code number outcome left left_after comes is = at_each left (decides reads outcome left left_after comes)
  where
    at_each : (l : Option (List ℕ)) → IfSome l (λ all. input_outcome reads all ≡ outcome) → IfSome l (λ bytes. number ≡ code (input_outcome reads bytes))
    at_each None same = tt
    at_each (Some all) same = is ∙ sym (ap code same)

-- the lines determine how a replay ends
replay_decided : (Read Write Door Keep : Type 0) (end : Result Unit LinesFault) (left left_after old new : Option (List ℕ))
    → Replays end left left_after old new → Caused (lines_status end) Read Write Door Keep → ¬ Read → ¬ Write
    → code_of (lines_status end) ≢ 6 → IfSome left (λ bytes. code_of (lines_status end) ≡ code_of (ending_status (replay_of bytes).ending))
replay_decided Read Write Door Keep (Ok u) left left_after old new ends caused read write memory =
    of_all left (whole_read left left_after ends.takes.read ends.takes.took ends.takes.end)
  where
    of_all : (o : Option (List ℕ)) → IfSome o (λ bytes. bytes ≡ ends.takes.read)
        → IfSome o (λ bytes. code_of (lines_status (Ok u)) ≡ code_of (ending_status (replay_of bytes).ending))
    of_all None is = tt
    of_all (Some bytes) is =
        ap (λ e. code_of (ending_status e)) (sym (ap (λ (bs : List ℕ). (replay_of bs).ending) is ∙ ends.takes.answered.ending))
replay_decided Read Write Door Keep (Err lines.Bad) left left_after old new ends caused read write memory = refusing_decides replay_of left left_after old new ends.takes
replay_decided Read Write Door Keep (Err lines.ReadFault) left left_after old new ends caused read write memory = absurd (read caused)
replay_decided Read Write Door Keep (Err lines.WriteFault) left left_after old new ends caused read write memory = absurd (write caused)
replay_decided Read Write Door Keep (Err lines.Memory) left left_after old new ends caused read write memory = absurd (memory refl)

-- the exit code of a check, from the result of processing its input
check_code : InputOutcome Report → ℕ
check_code outcome = code_of (check_status (outcome_end outcome))

-- the text sent about the input determines the exit code
said_decides : (draw : Draw) (end : CheckEnd) (left left_after old new : Option (List ℕ)) → PrintsReport draw end left left_after old new
    → IfSome left (λ bytes. code_of (check_status end) ≡ code_of (check_status (outcome_end (report_of draw bytes))))
unfolding check_code
said_decides draw end left left_after old new prints =
    decided_by (report_reading draw) check_code (code_of (check_status end)) prints.outcome left left_after prints.says.comes
    (ap (λ (e : CheckEnd). code_of (check_status e)) prints.ends)

-- the input determines how a check ends
check_decided : (Read Write Door Keep : Type 0) (draw : Draw) (end : CheckEnd) (left left_after old new : Option (List ℕ))
    → CheckEnds draw end left left_after old new → Caused (check_status end) Read Write Door Keep → ¬ Read → ¬ Write → code_of (check_status end) ≢ 6
    → IfSome left (λ bytes. code_of (check_status end) ≡ code_of (check_status (outcome_end (report_of draw bytes))))
check_decided Read Write Door Keep draw check.Passed left left_after old new ends caused read write memory = said_decides draw check.Passed left left_after old new ends
check_decided Read Write Door Keep draw check.Failed left left_after old new ends caused read write memory = said_decides draw check.Failed left left_after old new ends
check_decided Read Write Door Keep draw check.Refused left left_after old new ends caused read write memory = said_decides draw check.Refused left left_after old new ends
check_decided Read Write Door Keep draw check.ReadFault left left_after old new ends caused read write memory = absurd (read caused)
check_decided Read Write Door Keep draw check.WriteFault left left_after old new ends caused read write memory = absurd (write caused)
check_decided Read Write Door Keep draw check.OutOfMemory left left_after old new ends caused read write memory = absurd (memory refl)

-- the exit code of an explanation, from the result of processing its input
explained_code : InputOutcome (List ℕ) → ℕ
explained_code outcome = code_of (explained_status outcome)

-- the input determines how an explanation ends
explain_decided : (Read Write Door Keep : Type 0) (end : Result Unit ExplainFault) (left left_after old new : Option (List ℕ))
    → Explains end left left_after old new → Caused (explain_status end) Read Write Door Keep → ¬ Read → ¬ Write → code_of (explain_status end) ≢ 6
    → IfSome left (λ bytes. code_of (explain_status end) ≡ code_of (explained_status (input_outcome explained bytes)))
unfolding explained_code
explain_decided Read Write Door Keep (Ok u) left left_after old new ends caused read write memory =
    decided_by explained explained_code 0 (Ok ends.0) left left_after ends.1.comes refl
explain_decided Read Write Door Keep (Err (explain.BadInput fault)) left left_after old new ends caused read write memory =
    decided_by explained explained_code 3 _ left left_after ends.comes refl
explain_decided Read Write Door Keep (Err explain.TooLarge) left left_after old new ends caused read write memory =
    decided_by explained explained_code 3 _ left left_after ends.comes refl
explain_decided Read Write Door Keep (Err explain.ReadFault) left left_after old new ends caused read write memory = absurd (read caused)
explain_decided Read Write Door Keep (Err explain.WriteFault) left left_after old new ends caused read write memory = absurd (write caused)
explain_decided Read Write Door Keep (Err explain.Memory) left left_after old new ends caused read write memory = absurd (memory refl)

-- bad arguments end with exit code 2 unless the output failed or memory ran out
bad_decided : (Read Write Door Keep : Type 0) (end : ArgumentsEnd) → Caused (arguments_status end) Read Write Door Keep → ¬ Write → code_of (arguments_status end) ≢ 6
    → code_of (arguments_status end) ≡ 2
bad_decided Read Write Door Keep words.Bad caused write memory = refl
bad_decided Read Write Door Keep words.WriteFault caused write memory = absurd (write caused)
bad_decided Read Write Door Keep words.OutOfMemory caused write memory = absurd (memory refl)

-- an edge ends with exit code 0 unless something failed or memory ran out
edge_decided : (Read Write Door Keep : Type 0) (end : ServingEnd) → Caused (serving_status end) Read Write Door Keep → ¬ Write → ¬ Door
    → code_of (serving_status end) ≢ 6 → code_of (serving_status end) ≡ 0
edge_decided Read Write Door Keep serving.Closed caused write door memory = refl
edge_decided Read Write Door Keep serving.WriteFault caused write door memory = absurd (write caused)
edge_decided Read Write Door Keep serving.DoorFault caused write door memory = absurd (door caused)
edge_decided Read Write Door Keep serving.OutOfMemory caused write door memory = absurd (memory refl)

-- `follow` ends with exit code 0 unless the output failed or memory ran out
follow_decided : (Read Write Door Keep : Type 0) (end : Result Unit FollowFault) → Caused (follow_status end) Read Write Door Keep → ¬ Write
    → code_of (follow_status end) ≢ 6 → code_of (follow_status end) ≡ 0
follow_decided Read Write Door Keep (Ok u) caused write memory = refl
follow_decided Read Write Door Keep (Err follow.WriteFault) caused write memory = absurd (write caused)
follow_decided Read Write Door Keep (Err follow.Memory) caused write memory = absurd (memory refl)

-- a load ends with exit code 0 unless the output failed or memory ran out
load_decided : (Read Write Door Keep : Type 0) (end : Result Unit LoadFault) → Caused (load_status end) Read Write Door Keep → ¬ Write
    → code_of (load_status end) ≢ 6 → code_of (load_status end) ≡ 0
load_decided Read Write Door Keep (Ok u) caused write memory = refl
load_decided Read Write Door Keep (Err load.WriteFault) caused write memory = absurd (write caused)
load_decided Read Write Door Keep (Err load.Memory) caused write memory = absurd (memory refl)

-- a property of the exit code of a command's end holds for the program's exit code
of_end : {E : Type 0} {status_of : E → Status} {EndsSo : E → Type 0} (status : Status) (Read Write Door Keep : Type 0) (P : ℕ → Type 0)
    (ended : Ended status_of EndsSo status) → Caused status Read Write Door Keep → code_of status ≢ 6
    → (Caused (status_of ended.end) Read Write Door Keep → code_of (status_of ended.end) ≢ 6 → P (code_of (status_of ended.end))) → P (code_of status)
of_end status Read Write Door Keep P ended caused memory then =
    subst (λ (s : Status). P (code_of s)) (sym ended.is)
    (then (subst (λ (s : Status). Caused s Read Write Door Keep) ended.is caused) (subst (λ (s : Status). code_of s ≢ 6) ended.is memory))

-- the arguments and the input determine how the program ends
by_arguments : {Read Write Door : Type 0} (reading : WordsReading) (status : Status) (before after : Scene) → Ends reading status before after
    → Caused status Read Write Door (FailsToOpenKeeper before after) → ¬ Read → ¬ Write → ¬ Door → code_of status ≢ 6 → IsDecided reading (code_of status) before after
by_arguments {Read} {Write} {Door} (Ok Replay) status before after ended caused read write door memory =
    of_end status Read Write Door (FailsToOpenKeeper before after) (λ code. IsDecided (Ok Replay) code before after) ended caused memory
    (λ cause some. replay_decided Read Write Door (FailsToOpenKeeper before after) ended.end before.input.left after.input.left before.output.sent after.output.sent ended.ends cause
    read write some)
by_arguments {Read} {Write} {Door} (Ok (Check now word)) status before after ended caused read write door memory =
    of_end status Read Write Door (FailsToOpenKeeper before after) (λ code. IsDecided (Ok (Check now word)) code before after) ended caused memory
    (λ cause some. check_decided Read Write Door (FailsToOpenKeeper before after) (record { now = now; word = word }) ended.end before.input.left after.input.left before.output.sent
    after.output.sent ended.ends cause read write some)
by_arguments {Read} {Write} {Door} (Ok Explain) status before after ended caused read write door memory =
    of_end status Read Write Door (FailsToOpenKeeper before after) (λ code. IsDecided (Ok Explain) code before after) ended caused memory
    (λ cause some. explain_decided Read Write Door (FailsToOpenKeeper before after) ended.end before.input.left after.input.left before.output.sent after.output.sent ended.ends cause
    read write some)
by_arguments {Read} {Write} {Door} (Ok (Edge edge)) status before after ended caused read write door memory =
    of_end status Read Write Door (FailsToOpenKeeper before after) (λ code. IsDecided (Ok (Edge edge)) code before after) ended caused memory
    (λ cause some. edge_decided Read Write Door (FailsToOpenKeeper before after) ended.end cause write door some)
by_arguments {Read} {Write} {Door} (Ok (Upstream up)) status before after ended caused read write door memory =
    of_end status Read Write Door (FailsToOpenKeeper before after) (λ code. IsDecided (Ok (Upstream up)) code before after) ended caused memory
    (λ cause some quiet. upstream_decided up ended.end before after
    ended.ends cause read write door (λ fails. quiet fails.0) some)
by_arguments {Read} {Write} {Door} (Ok (Follow replica)) status before after ended caused read write door memory =
    of_end status Read Write Door (FailsToOpenKeeper before after) (λ code. IsDecided (Ok (Follow replica)) code before after) ended caused memory
    (λ cause some. follow_decided Read Write Door (FailsToOpenKeeper before after) ended.end cause write some)
by_arguments {Read} {Write} {Door} (Ok (Load seed count)) status before after ended caused read write door memory =
    of_end status Read Write Door (FailsToOpenKeeper before after) (λ code. IsDecided (Ok (Load seed count)) code before after) ended caused memory
    (λ cause some. load_decided Read Write Door (FailsToOpenKeeper before after) ended.end cause write some)
by_arguments {Read} {Write} {Door} (Err Bad) status before after ended caused read write door memory =
    of_end status Read Write Door (FailsToOpenKeeper before after) (λ code. IsDecided (Err Bad) code before after) ended caused memory
    (λ cause some. bad_decided Read Write Door (FailsToOpenKeeper before after) ended.end cause write some)
by_arguments (Err Memory) status before after ends caused read write door memory = ap code_of ends

-- the arguments and the input determine the exit code, if no fault count rose and memory didn't run out
pub decided : {Read Write Door : Type 0} (reading : WordsReading) (status : Status) (code : ℕ) (before after : Scene)
    → code ≡ code_of status → Ends reading status before after → Caused status Read Write Door (FailsToOpenKeeper before after)
    → ¬ Read → ¬ Write → ¬ Door → code ≢ 6 → IsDecided reading code before after
decided {Read} {Write} {Door} reading status code before after is ends caused read write door memory =
    subst (λ c. IsDecided reading c before after) (sym is)
    (by_arguments reading status before after ends caused read write door (λ six. memory (is ∙ six)))
