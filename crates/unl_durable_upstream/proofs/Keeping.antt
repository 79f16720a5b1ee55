-- The commands that an upstream and its keeper have after links were served.
use Rattle.std.proofs.Common.{◌≡◌, ◌∙◌, inl, inr, ℕ, ◌++◌, List, [], Some, None, Result, Ok, Err, refl, sym, ap, subst, arith}
use Rattle.std.specs.Prelude.{option_map}
use Rattle.unl_base.specs.declared.Failed.{Failed}
use Rattle.unl_server.specs.Handling.{Coming}
use Rattle.unl_server.specs.Linked.{ServesLinks, linking}
use Rattle.unl_durable_upstream.specs.Serving.{Facing, KeepsAcknowledged, LinksEnd, NamesLinks, OpensAndServes}
use Rattle.unl_keeper.specs.State.{HasKept}
use Rattle.unl_upstream.specs.declared.command.Command.{Command}
use Rattle.unl_upstream.specs.Kept.{AttemptsPreserve, Carries, IsAfterKept, KeptState, LeavesOne, failed_after, kept_commands}
use Rattle.unl_upstream.specs.KeptLinks.{AllLinksEffect, IsNamed, LinkServed, Linked}
use Rattle.unl_upstream.specs.Reopening.{IsSameKeeper, Reopened}
use Rattle.unl_upstream.specs.Served.{draws_after}
use Rattle.unl_upstream.proofs.Carrying.{carries_all, holds_still}
use Rattle.unl_upstream.proofs.KeptNaming.{links_are_named}
use Rattle.unl_upstream.proofs.Reopened.{gives_back}

-- ---- the links

-- if no draw was taken, the upcoming draws are unchanged
none_used : (coming : Coming) → coming ≡ draws_after 0 coming
none_used None = refl
none_used (Some draws) = refl

-- the state after serving a door whose links are observable, described by the kept commands and the draws taken
links_named : (opened last : KeptState) (before after : Facing) (served : ℕ) (links : List (List ℕ)) (returned : List (List ℕ × ℕ))
    → HasKept opened.keeper
    → ServesLinks LinkServed (linking opened before.coming before.door) (linking last after.coming after.door) served links returned
    → NamesLinks opened last before after served links returned
links_named opened last before after served links returned has serves =
    let start : IsNamed opened.up opened.keeper.count [] opened = record { up = refl; count = omega arith } in
    let names : AllLinksEffect opened.up opened.keeper.count before.coming [] 0 opened serves.given_links serves.backs last after.coming =
    links_are_named opened.up opened.keeper.count before.coming [] 0 opened serves.given_links serves.backs last after.coming start
    (subst (λ (c : Coming). Linked opened c serves.given_links serves.backs last after.coming) (none_used before.coming) serves.linked) in
    let carries : Carries names.tried opened last = carries_all names.tried opened last has names.keeps in record {
      serves = serves;
      names = names;
      keeps = carries.appended
          ∙ ap (λ (added : List Command). option_map (λ commands. commands ++ added) (kept_commands opened.keeper)) (sym names.adds);
      no_faults = λ none. names.no_faults (omega (arith, carries.faults, none));
    }

-- ---- the kept commands

-- however serving ended, nothing but attempts to keep commands changed the upstream and its keeper
attempts_of : (opened last : KeptState) (port : ℕ) (ended : Result ℕ Failed) (before after : Facing) → HasKept opened.keeper
    → LinksEnd opened port ended last before after → AttemptsPreserve opened last
attempts_of opened last port (Ok served) before after has ends = ends.0.carries
attempts_of opened last port (Err failed) before after has (inl same) = subst (AttemptsPreserve opened) (sym same.0) (holds_still opened has)
attempts_of opened last port (Err failed) before after has (inr ends) = ends.1.carries

-- the kept commands of an upstream that was reopened, after attempts to keep further commands
keeps_acknowledged : (start opened last : KeptState) (command_count : ℕ) → Reopened start command_count opened
    → AttemptsPreserve opened last → KeepsAcknowledged start.up opened last
keeps_acknowledged start opened last command_count opens all =
    let represents : IsAfterKept start.up last = all.carries.represents start.up opens.represents in
    let left : LeavesOne last (failed_after [] all.some.tried) = all.carries.left [] opens.left in record {
      tried = all.some.tried;
      attempts = all.some.keeps;
      kept = all.carries.appended;
      counted = all.carries.moves.counted;
      up = all.carries.moves.leads;
      represents = represents;
      reopens = λ fresh rows keeper result again slots observable before after reopens fault memory.
          gives_back start.up fresh last again keeper (failed_after [] all.some.tried) rows result slots observable represents left before
          after reopens fault memory;
      faults = all.carries.faults;
    }

-- `OpensAndServes`, for an upstream that was reopened and then served links
pub opens_and_serves : (start opened last : KeptState) (port command_count : ℕ) (ended : Result ℕ Failed) (before after : Facing)
    → HasKept opened.keeper → IsSameKeeper start.keeper opened.keeper → Reopened start command_count opened
    → LinksEnd opened port ended last before after → OpensAndServes start port ended last before after
opens_and_serves start opened last port command_count ended before after has same opens serves = record {
  command_count = command_count;
  opened = opened;
  same = same;
  opens = opens;
  serves = serves;
  keeps = keeps_acknowledged start opened last command_count opens (attempts_of opened last port ended before after has serves);
  named = λ served links returned observable. links_named opened last before after served links returned has observable;
}
