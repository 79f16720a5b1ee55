-- The commands that links give to an upstream and that its keeper keeps.
use Rattle.std.proofs.Common.{◌≡◌, ℕ, ◌++◌, ◌∙◌, List, Some, None, refl, sym, ap, subst, arith}
use Rattle.std.specs.Prelude.{option_map}
use Rattle.unl_keeper.specs.State.{HasKept}
use Rattle.unl_server.specs.Handling.{Coming}
use Rattle.unl_server.specs.Linked.{ServesLinks, linking}
use Rattle.unl_upstream.specs.declared.command.Command.{Command}
use Rattle.unl_upstream.specs.Kept.{Carries, KeptState, acknowledged, kept_commands}
use Rattle.unl_upstream.specs.KeptLinks.{IsNamed, LinkServed, Linked, AllLinksEffect}
use Rattle.unl_upstream.specs.Running.{UpstreamFacing, NamesUpstreamLinks}
use Rattle.unl_upstream.specs.Served.{draws_after}
use Rattle.unl_upstream.proofs.Carrying.{both_behind, carries_all}
use Rattle.unl_upstream.proofs.KeptNaming.{links_are_named}

-- taking no draw changes nothing
none_drawn : (coming : Coming) → coming ≡ draws_after 0 coming
none_drawn None = refl
none_drawn (Some list) = refl

-- if a door's links are observable, `NamesUpstreamLinks` holds for them
pub links_named : (opened kept last : KeptState) (commands : List Command) (before after : UpstreamFacing) (served : ℕ) (links : List (List ℕ))
    (returned : List (List ℕ × ℕ)) → HasKept kept.keeper → kept_commands kept.keeper ≡ option_map (λ kept. kept ++ commands) (kept_commands opened.keeper)
    → IsNamed opened.up opened.keeper.count commands kept
    → ServesLinks LinkServed (linking kept before.coming before.door) (linking last after.coming after.door) served links returned
    → NamesUpstreamLinks opened commands kept last before after served links returned
links_named opened kept last commands before after served links returned has keeps named serves =
    let names : AllLinksEffect opened.up opened.keeper.count before.coming commands 0 kept serves.given_links serves.backs last after.coming =
    links_are_named opened.up opened.keeper.count before.coming commands 0 kept serves.given_links serves.backs last after.coming named
    (subst (λ (c : Coming). Linked kept c serves.given_links serves.backs last after.coming) (none_drawn before.coming) serves.linked) in
    let carries : Carries names.tried kept last = carries_all names.tried kept last has names.keeps in record {
      serves = serves;
      names = names;
      keeps = carries.appended ∙ ap (option_map (λ kept. kept ++ acknowledged names.tried)) keeps
          ∙ both_behind commands (acknowledged names.tried) (kept_commands opened.keeper)
          ∙ ap (λ (cs : List Command). option_map (λ kept. kept ++ cs) (kept_commands opened.keeper)) (sym names.adds);
      no_faults = λ none. names.no_faults (omega (arith, carries.faults, none));
    }
