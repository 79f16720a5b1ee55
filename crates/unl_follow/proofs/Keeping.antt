-- The properties of a replica that a refresh preserves.
use Rattle.std.proofs.Common.{◌≡◌, ◌≤◌, ◌+◌, ℕ, List, Option, Some, None, Result, Ok, Err, IfOk, OnErr, ap, arith}
use Rattle.std.specs.Option.{option_map}
use Rattle.std.specs.Prelude.{IfSome}
use Rattle.unl_delta.specs.declared.batch.Batch.{Batch}
use Rattle.unl_delta.specs.declared.batch.Verdict.{Verdict}
use Rattle.unl_delta.specs.declared.batch.Verdict.TheVariants.{Apply, Repeat, Old, Gap, Held}
use Rattle.unl_delta.specs.declared.version.EnvVersion.{EnvVersion}
use Rattle.unl_delta.specs.Batch.{verdict_of}
use Rattle.unl_delta.specs.History.{Era, RepresentsLine, revision_in}
use Rattle.unl_delta.specs.Installing.{Installed, place_of}
use Rattle.unl_delta.specs.Revision.{revision_of}
use Rattle.unl_delta.specs.View.{Sees, view_of}
use Rattle.unl_delta.proofs.Delivery.{state_in}
use Rattle.unl_refresh.specs.declared.ask.Ask.{Ask}
use Rattle.unl_refresh.specs.declared.outcome.Outcome.{Outcome}
use Rattle.unl_refresh.specs.declared.outcome.RefreshFault.{RefreshFault}
use Rattle.unl_refresh.specs.Refresh.{Refreshes, after_verdict}
use Rattle.unl_refresh.proofs.Leaving.{refreshed_leaves}
use Rattle.unl_follow.specs.Replica.{Kept, installed_by}

-- the replica's state, from its state as an `Installer`
abbrev kept_by : Installed → Kept
kept_by now = record { place = place_of now 0; front = now.front; book = now.book }

-- two replicas with the same state as an `Installer` have the same state
pub same_kept : (one other : Kept) → installed_by one ≡ installed_by other → one ≡ other
same_kept one other same = ap kept_by same

pub fault_keeps : (result : Result Outcome RefreshFault) (before after : Kept) → OnErr result (installed_by after ≡ installed_by before)
    → OnErr result (after ≡ before)
fault_keeps (Ok outcome) before after same = tt
fault_keeps (Err e) before after same = same_kept after before same

-- ---- fronts

verdict_rises : (before : Kept) (batch : Batch) (tag : Option (List ℕ)) (verdict : Verdict)
    → (after_verdict 0 batch tag (installed_by before) verdict).installed.front ≤ before.front + 1
verdict_rises before batch tag Apply = omega arith
verdict_rises before batch tag Repeat = omega arith
verdict_rises before batch tag Old = omega arith
verdict_rises before batch tag Gap = omega arith
verdict_rises before batch tag Held = omega arith

-- a request publishes at most one version, so the front rises by at most 1
pub front_rises : (result : Result Outcome RefreshFault) (ask : Ask) (before after : Kept) (tag coming : Option (List ℕ))
    → IfOk result (λ outcome. Refreshes 0 ask (installed_by before) coming (record { outcome = outcome; installed = installed_by after; tag = tag }))
    → OnErr result (installed_by after ≡ installed_by before) → after.front ≤ before.front + 1
front_rises result ask before after tag coming takes fault =
    refreshed_leaves (λ (now : Installed). now.front ≤ before.front + 1) result 0 ask (installed_by before) (installed_by after) tag coming takes fault
    (record { stays = omega arith; takes = λ got batch is status reads. verdict_rises before batch got.tag (verdict_of before.place batch) })

-- ---- lines of histories

-- the state of a version that represents the line is a revision of the line, restricted to the projects that are visible by `sees`
pub state_where : (line : List Era) (sees : Sees) (version : Option EnvVersion) → IfSome version (RepresentsLine line sees)
    → IfSome version (λ v. option_map (view_of sees) (revision_in line (revision_of v)) ≡ Some v.state)
state_where line sees None represents = tt
state_where line sees (Some v) represents = state_in line sees v represents
