-- How the command `upstream` ends, from the end of its run on a keeper (the store of its commands).
use Rattle.std.proofs.Common.{◌≡◌, ◌≢◌, ◌∙◌, inl, inr, ℕ, List, [], ◌&&◌, true, Option, Some, None, IfSome, Ok, Err, refl, sym, ap, subst}
use Rattle.std.specs.List.{list_all}
use Rattle.clap.proofs.WalkLemmas.{both}
use Rattle.unl_core.specs.Board.{AreDifferent}
use Rattle.unl_documents.specs.Texts.{is_name}
use Rattle.unl_edge.specs.Scene.{Scene}
use Rattle.unl_edge.specs.Status.{Caused, code_of, ending_status, upstream_status}
use Rattle.unl_edge.specs.Upstreams.{Begins, EndsKept, IsDecidedByLines, IsDecidedFrom, RunsUpstream, UpstreamEnds, UpstreamRuns}
use Rattle.unl_edge.specs.Upstreams.{facing_of, lines_code}
use Rattle.unl_edge.specs.declared.status.Status.TheVariants as status
use Rattle.unl_edge.proofs.Fitting.{texts_differ}
use Rattle.unl_input.specs.declared.refusal.WriteLineFault.TheVariants as say
use Rattle.unl_input.specs.Taken.{Ending, IsRefused, LinesOutcome, done, lines_outcome, refused}
use Rattle.unl_input.specs.declared.taking.LinesFault.TheVariants as line
use Rattle.unl_input.specs.Whole.{IsRefusing, HoldsOfRead}
use Rattle.unl_input.proofs.Whole.{holds_of_observable, whole_read}
use Rattle.unl_keeper.specs.State.{IsNewKeeper, KeeperState}
use Rattle.unl_server.specs.Handling.{Coming}
use Rattle.unl_upstream.specs.Kept.{KeptState, kept_commands, kept_state}
use Rattle.unl_upstream.specs.KeptLines.{KeptLines, keeping, kept_lines_of}
use Rattle.unl_upstream.specs.PlainLines.{obeying}
use Rattle.unl_upstream.specs.Running.{ComesBack, KeeperEnd, RefusesUpstreamRow, ReopensUpstream, ServesAfterLines, UpstreamFacing}
use Rattle.unl_upstream.specs.Upstream.{UpstreamState}
use Rattle.unl_upstream.specs.declared.ends.ServingEnd.TheVariants.{Closed, WriteFault, DoorFault, OutOfMemory}
use Rattle.unl_upstream.specs.declared.ends.UpstreamEnd.{UpstreamEnd}
use Rattle.unl_upstream.specs.declared.ends.UpstreamEnd.TheVariants.{OutOfMemory as NoMemory, KeeperFault, Row, Lines, Links}
use Rattle.unl_upstream.proofs.KeepingLines.{same_ending}
use Rattle.unl_upstream.proofs.NewKeepers.{holds_kept, no_row, none_kept, opens_empty, opens_plain}
use Rattle.unl_words.specs.Lists.{are_different, are_environments, has_count}
use Rattle.unl_words.specs.declared.words.UpstreamArguments.{UpstreamArguments}

-- ---- the keeper

-- a keeper was created, and its maker got it back
pub ends_kept : (start : UpstreamState) (port : ℕ) (end : UpstreamEnd) (made last : KeeperState) (before after : Scene) → IsNewKeeper before.keep.held made
    → KeeperEnd (kept_state start made) port end last before.input.left after.input.left (facing_of before) (facing_of after)
    → ComesBack last before.keep after.keep → UpstreamEnds start port end before after
ends_kept start port end made last before after is_new_keeper ends back = by_end end ends
  where
    kept : (end : UpstreamEnd) → KeeperEnd (kept_state start made) port end last before.input.left after.input.left (facing_of before) (facing_of after)
        → EndsKept start port end before after
    kept end ends = record {
      made = made;
      is_new_keeper = is_new_keeper;
      plain = opens_plain start made before.keep.held is_new_keeper;
      last = last;
      ends = ends;
      back = back;
      holds = λ reopened opened commands opens.
          holds_kept last (kept_commands opened.keeper) before.keep.held after.keep.held commands
          (none_kept start opened before.keep.held (opens_plain start made before.keep.held is_new_keeper reopened opened opens)) back.held;
    }

    by_end : (end : UpstreamEnd) → KeeperEnd (kept_state start made) port end last before.input.left after.input.left (facing_of before) (facing_of after)
        → UpstreamEnds start port end before after
    by_end NoMemory ends = ends
    by_end KeeperFault ends = ends
    by_end (Row written) ends = kept (Row written) ends
    by_end (Lines fault) ends = kept (Lines fault) ends
    by_end (Links end) ends = kept (Links end) ends

-- ---- the first draw

-- how an upstream ends after it took a draw
pub upstream_runs : (words : UpstreamArguments) (end : UpstreamEnd) (before after : Scene) (start : UpstreamState) (coming : Coming)
    → Begins words before.draws start coming → UpstreamEnds start words.port end (record before { draws = coming }) after
    → UpstreamRuns words end before after
upstream_runs words end before after start coming begins ends = by_end end ends
  where
    runs : (end : UpstreamEnd) → UpstreamEnds start words.port end (record before { draws = coming }) after
        → RunsUpstream words end before after
    runs end ends = record { start = start; coming = coming; begins = begins; ends = ends }

    by_end : (end : UpstreamEnd) → UpstreamEnds start words.port end (record before { draws = coming }) after
        → UpstreamRuns words end before after
    by_end NoMemory ends = record { silent = ends.silent; shut = ends.shut }
    by_end KeeperFault ends = runs KeeperFault ends
    by_end (Row written) ends = runs (Row written) ends
    by_end (Lines fault) ends = runs (Lines fault) ends
    by_end (Links end) ends = runs (Links end) ends

-- ---- the environments

-- the environments of the arguments have different names
pub environments_are_different : (environments : List (List ℕ)) → are_environments environments ≡ true → AreDifferent environments
environments_are_different environments are =
    let parts = both (has_count 1 8 environments) (list_all is_name environments && are_different environments) are in
    texts_differ environments (both (list_all is_name environments) (are_different environments) parts.1).1

-- ---- what determines the exit code if nothing fails and memory doesn't run out

-- if a line is refused, the status is `Refused`
pub refused_is : (ending : Ending) → IsRefused ending → ending_status ending ≡ status.Refused
refused_is done is = absurd is
refused_is (refused k cause) is = refl

-- if a line of an observable input is refused, the exit code by the input is 3
observable_decide : {D : Type 0} (outcome : List ℕ → LinesOutcome D) (left old new : Option (List ℕ))
    → IfSome left (λ bytes. IsRefusing (outcome bytes) old new) → IfSome left (λ bytes. 3 ≡ code_of (ending_status (outcome bytes).ending))
observable_decide outcome None old new is = tt
observable_decide outcome (Some bytes) old new is = ap code_of (sym (refused_is (outcome bytes).ending is.ending))

-- as `observable_decide`, from what holds of the bytes that were read
pub refusing_decides : {D : Type 0} (outcome : List ℕ → LinesOutcome D) (left left_after old new : Option (List ℕ))
    → HoldsOfRead left left_after (λ bytes. IsRefusing (outcome bytes) old new)
    → IfSome left (λ bytes. 3 ≡ code_of (ending_status (outcome bytes).ending))
refusing_decides outcome left left_after old new is =
    observable_decide outcome left old new (holds_of_observable (λ bytes. IsRefusing (outcome bytes) old new) left left_after is)

-- if all lines were accepted, the exit code by the lines is 0
lines_decide : (opened : KeptState) (last : KeeperState) (left left_after : Option (List ℕ)) (before after : UpstreamFacing) (served : ℕ)
    → ServesAfterLines opened last left left_after before after served → IfSome left (λ bytes. 0 ≡ lines_code keeping (kept_lines_of opened) bytes)
lines_decide opened last left left_after before after served serves = of_read left (whole_read left left_after serves.read serves.took serves.end)
  where
    of_read : (left : Option (List ℕ)) → IfSome left (λ bytes. bytes ≡ serves.read) → IfSome left (λ bytes. 0 ≡ lines_code keeping (kept_lines_of opened) bytes)
    of_read None is = tt
    of_read (Some bytes) is =
        subst (λ (bs : List ℕ). 0 ≡ lines_code keeping (kept_lines_of opened) bs) (sym is)
        (ap (λ (o : LinesOutcome KeptLines). code_of (ending_status o.ending)) (sym serves.accepted))

-- the lines determine the exit code of a reopened upstream
by_lines : (start : UpstreamState) (made : KeeperState) (reopened : ℕ) (opened : KeptState) (code : ℕ) (held : Option (List (List ℕ))) (left : Option (List ℕ))
    → IsNewKeeper held made → ReopensUpstream (kept_state start made) reopened opened → IfSome left (λ bytes. code ≡ lines_code keeping (kept_lines_of opened) bytes)
    → IsDecidedFrom (kept_state start made) code left × IfSome held (λ _. IfSome left (λ bytes. code ≡ lines_code obeying start bytes))
by_lines start made reopened opened code held left is_new_keeper opens decides = (inr (reopened, opened, opens, decides), by_held held is_new_keeper.empty)
  where
    plainly : (kept_lines_of opened ≡ record { up = start; count = 0; commands = Some [] }) → (bytes : List ℕ) → code ≡ lines_code keeping (kept_lines_of opened) bytes
        → code ≡ lines_code obeying start bytes
    plainly same bytes is =
        is ∙ ap (λ (e : Ending). code_of (ending_status e)) (same_ending (kept_lines_of opened) bytes (ap (λ (s : KeptLines). s.count) same))
        ∙ ap (λ (s : KeptLines). lines_code obeying s.up bytes) same

    by_left : (kept_lines_of opened ≡ record { up = start; count = 0; commands = Some [] }) → (left : Option (List ℕ))
        → IfSome left (λ bytes. code ≡ lines_code keeping (kept_lines_of opened) bytes) → IfSome left (λ bytes. code ≡ lines_code obeying start bytes)
    by_left same None is = tt
    by_left same (Some bytes) is = plainly same bytes is

    by_held : (held : Option (List (List ℕ))) → IfSome held (λ _. made.rows ≡ Some [])
        → IfSome held (λ _. IfSome left (λ bytes. code ≡ lines_code obeying start bytes))
    by_held None empty = tt
    by_held (Some rows) empty = by_left (opens_empty start made reopened opened empty opens) left decides

-- a refused row determines the exit code
by_row : (start : UpstreamState) (made : KeeperState) (place : ℕ) (held : Option (List (List ℕ))) (left : Option (List ℕ))
    → IsNewKeeper held made → RefusesUpstreamRow (kept_state start made) place
    → IsDecidedFrom (kept_state start made) 3 left × IfSome held (λ _. IfSome left (λ bytes. 3 ≡ lines_code obeying start bytes))
by_row start made place held left is_new_keeper refuses = (inl (place, refuses, refl), by_held held is_new_keeper.empty)
  where
    by_held : (held : Option (List (List ℕ))) → IfSome held (λ _. made.rows ≡ Some [])
        → IfSome held (λ _. IfSome left (λ bytes. 3 ≡ lines_code obeying start bytes))
    by_held None empty = tt
    by_held (Some rows) empty = absurd (no_row start made place empty refuses)

-- the lines and the keeper's rows determine the exit code of an upstream whose keeper was created
kept_decided : {Read Write Door Keep : Type 0} (start : UpstreamState) (port : ℕ) (made last : KeeperState) (end : UpstreamEnd) (held : Option (List (List ℕ)))
    (left left_after : Option (List ℕ)) (before after : UpstreamFacing) → IsNewKeeper held made → KeeperEnd (kept_state start made) port end last left left_after before after
    → Caused (upstream_status end) Read Write Door Keep → ¬ Read → ¬ Write → ¬ Door → ¬ Keep → code_of (upstream_status end) ≢ 6
    → IsDecidedFrom (kept_state start made) (code_of (upstream_status end)) left
    × IfSome held (λ _. IfSome left (λ bytes. code_of (upstream_status end) ≡ lines_code obeying start bytes))
kept_decided start port made last NoMemory held left left_after before after is_new_keeper ends caused read write door keep memory = absurd (memory refl)
kept_decided start port made last KeeperFault held left left_after before after is_new_keeper ends caused read write door keep memory = absurd (keep caused)
kept_decided start port made last (Row (Ok u)) held left left_after before after is_new_keeper ends caused read write door keep memory =
    by_row start made ends.0 held left is_new_keeper ends.1
kept_decided start port made last (Row (Err say.WriteFault)) held left left_after before after is_new_keeper ends caused read write door keep memory =
    absurd (write caused)
kept_decided start port made last (Row (Err say.Memory)) held left left_after before after is_new_keeper ends caused read write door keep memory =
    absurd (memory refl)
kept_decided start port made last (Lines line.Bad) held left left_after before after is_new_keeper ends caused read write door keep memory =
    by_lines start made ends.reopened ends.opened 3 held left is_new_keeper ends.opens
    (refusing_decides (lines_outcome keeping (kept_lines_of ends.opened)) left left_after before.sent after.sent ends.ends.0)
kept_decided start port made last (Lines line.ReadFault) held left left_after before after is_new_keeper ends caused read write door keep memory = absurd (read caused)
kept_decided start port made last (Lines line.WriteFault) held left left_after before after is_new_keeper ends caused read write door keep memory = absurd (write caused)
kept_decided start port made last (Lines line.Memory) held left left_after before after is_new_keeper ends caused read write door keep memory = absurd (memory refl)
kept_decided start port made last (Links Closed) held left left_after before after is_new_keeper ends caused read write door keep memory =
    by_lines start made ends.reopened ends.opened 0 held left is_new_keeper ends.opens
    (lines_decide ends.opened last left left_after before after ends.ends.0 ends.ends.1)
kept_decided start port made last (Links WriteFault) held left left_after before after is_new_keeper ends caused read write door keep memory = absurd (write caused)
kept_decided start port made last (Links DoorFault) held left left_after before after is_new_keeper ends caused read write door keep memory = absurd (door caused)
kept_decided start port made last (Links OutOfMemory) held left left_after before after is_new_keeper ends caused read write door keep memory = absurd (memory refl)

-- the lines and the keeper's rows determine the exit code of an upstream
pub upstream_decided : {Read Write Door Keep : Type 0} (words : UpstreamArguments) (end : UpstreamEnd)
    (before after : Scene) → UpstreamRuns words end before after → Caused (upstream_status end) Read Write Door Keep
    → ¬ Read → ¬ Write → ¬ Door → ¬ Keep → code_of (upstream_status end) ≢ 6
    → IsDecidedByLines words (code_of (upstream_status end)) before
upstream_decided {Read} {Write} {Door} {Keep} words end before after runs caused read write door keep memory = by_end end runs caused memory
  where
    decided : (end : UpstreamEnd) (start : UpstreamState) (coming : Coming) → Begins words before.draws start coming
        → EndsKept start words.port end (record before { draws = coming }) after → Caused (upstream_status end) Read Write Door Keep
        → code_of (upstream_status end) ≢ 6 → IsDecidedByLines words (code_of (upstream_status end)) before
    decided end start coming begins ends caused memory =
        let parts = kept_decided start words.port ends.made ends.last end before.keep.held before.input.left after.input.left
        (facing_of (record before { draws = coming })) (facing_of after) ends.is_new_keeper ends.ends caused read write door keep memory in record {
          start = start;
          coming = coming;
          begins = begins;
          made = ends.made;
          is_new_keeper = ends.is_new_keeper;
          reopened = parts.0;
          decided = parts.1;
        }

    by_end : (end : UpstreamEnd) → UpstreamRuns words end before after → Caused (upstream_status end) Read Write Door Keep
        → code_of (upstream_status end) ≢ 6 → IsDecidedByLines words (code_of (upstream_status end)) before
    by_end NoMemory runs caused memory = absurd (memory refl)
    by_end KeeperFault runs caused memory = absurd (keep caused)
    by_end (Row written) runs caused memory = decided (Row written) runs.start runs.coming runs.begins runs.ends caused memory
    by_end (Lines fault) runs caused memory = decided (Lines fault) runs.start runs.coming runs.begins runs.ends caused memory
    by_end (Links end) runs caused memory = decided (Links end) runs.start runs.coming runs.begins runs.ends caused memory
