-- An upstream that is reopened on a new keeper, and the rows that the keeper's maker (which created the keeper and takes it back) holds at
-- the end.
use Rattle.std.proofs.Common.{◌≡◌, ◌≢◌, ◌≤◌, ◌∙◌, ℕ, zero, suc, List, [], ◌∷◌, ◌++◌, length, Option, Some, None, IfSome, Err, refl, sym, ap, subst, arith}
use Rattle.std.specs.Prelude.{option_and_then, option_map, slice_get, unwrap_or}
use Rattle.unl_base.specs.Faults.{Rose}
use Rattle.unl_keeper.specs.Rows.{kept}
use Rattle.unl_keeper.specs.State.{IsNewKeeper, KeeperState, kept_rows}
use Rattle.unl_tokens.specs.declared.token.Token.{Token}
use Rattle.unl_upstream.specs.Kept.{KeptState, commands_in, kept_commands, kept_state}
use Rattle.unl_upstream.specs.KeptLines.{KeptLines, kept_lines_of}
use Rattle.unl_upstream.specs.Reopening.{Reopens, rows_after}
use Rattle.unl_upstream.specs.Running.{IsNew, IsOfRow, RefusesUpstreamRow, ReopensUpstream}
use Rattle.unl_upstream.specs.Upstream.{UpstreamState, opening}
use Rattle.unl_upstream.specs.declared.command.Command.{Command}
use Rattle.unl_upstream.specs.declared.reopening.ReopenFault.{ReopenFault}
use Rattle.unl_upstream.specs.declared.reopening.ReopenFault.TheVariants.{BadRow, NoRow, Fault, Memory}

-- an upstream in its initial state has taken no command
pub is_new : (up : UpstreamState) (boot : ℕ) (secret : List ℕ) (environments : List (List ℕ)) (book : List Token) (epoch : ℕ)
    → up ≡ opening boot secret environments book epoch → IsNew up
is_new up boot secret environments book epoch is = record { opens = (boot, secret, environments, book, epoch, is) }

-- ---- a keeper without rows

-- a keeper without rows doesn't change the upstream
none_applied : (start up : UpstreamState) (texts : List (List ℕ)) → length texts ≡ 0 → rows_after texts start ≡ Some up → up ≡ start
none_applied start up [] none leads = sym (ap (λ (o : Option UpstreamState). unwrap_or o start) leads)
none_applied start up (text ∷ texts) none leads = absurd (omega (arith, none))

-- an upstream reopened on a keeper without rows is in its initial state, and no command is kept
pub opens_empty : (start : UpstreamState) (made : KeeperState) (reopened : ℕ) (opened : KeptState) → made.rows ≡ Some [] → ReopensUpstream (kept_state start made) reopened opened
    → kept_lines_of opened ≡ record { up = start; count = 0; commands = Some [] }
opens_empty start made reopened opened empty opens =
    let rows : opened.keeper.rows ≡ Some [] = opens.same.rows ∙ empty in
    let none : reopened ≡ 0 = subst (λ (o : Option (List (List ℕ))). IfSome o (λ list. reopened ≡ length list)) rows opens.reopens.whole in
    let up : opened.up ≡ start =
    none_applied start opened.up opens.reopens.applied.texts (opens.reopens.applied.counted ∙ none) opens.reopens.applied.leads in
    let count : opened.keeper.count ≡ 0 = sym opens.reopens.counted ∙ none in
    λ i. record { up = up i; count = count i; commands = option_map commands_in (kept (count i) (rows i)) }

-- as above, for a new keeper, if what its maker holds is observable
pub opens_plain : (start : UpstreamState) (made : KeeperState) (held : Option (List (List ℕ))) → IsNewKeeper held made → (reopened : ℕ) (opened : KeptState)
    → ReopensUpstream (kept_state start made) reopened opened → IfSome held (λ _. kept_lines_of opened ≡ record { up = start; count = 0; commands = Some [] })
opens_plain start made held is_new_keeper reopened opened opens = by_held held is_new_keeper.empty
  where
    by_held : (held : Option (List (List ℕ))) → IfSome held (λ _. made.rows ≡ Some [])
        → IfSome held (λ _. kept_lines_of opened ≡ record { up = start; count = 0; commands = Some [] })
    by_held None empty = tt
    by_held (Some rows) empty = opens_empty start made reopened opened empty opens

-- reopening a keeper without rows refuses no row
pub no_row : (start : UpstreamState) (made : KeeperState) (place : ℕ) → made.rows ≡ Some [] → RefusesUpstreamRow (kept_state start made) place → ⊥
no_row start made place empty refuses = by_fault refuses.fault refuses.of_row refuses.reopens
  where
    rows : refuses.reached.keeper.rows ≡ Some []
    rows = refuses.same.rows ∙ empty

    by_fault : (fault : ReopenFault) → IsOfRow place fault → Reopens (kept_state start made) (Err fault) refuses.reached → ⊥
    by_fault (BadRow at text) of_row (count, is, within, applies, there) =
        let row : slice_get [] count ≡ Some text =
        subst (λ (o : Option (List (List ℕ))). IfSome o (λ list. slice_get list count ≡ Some text)) rows there.1 in absurd (cc row)
    by_fault (NoRow at) of_row (count, is, within, applies, none) = absurd (cc (none, rows))
    by_fault Fault of_row opens = of_row
    by_fault Memory of_row opens = of_row

-- ---- what the maker holds

-- no command is kept after reopening on a new keeper, if what its maker holds is observable
pub none_kept : (start : UpstreamState) (opened : KeptState) (held : Option (List (List ℕ)))
    → IfSome held (λ _. kept_lines_of opened ≡ record { up = start; count = 0; commands = Some [] }) → IfSome held (λ _. kept_commands opened.keeper ≡ Some [])
none_kept start opened None plain = tt
none_kept start opened (Some rows) plain = ap (λ (s : KeptLines). s.commands) plain

-- the maker holds what the keeper keeps, if that is observable and the keeper kept nothing at first
pub holds_kept : (last : KeeperState) (first : Option (List Command)) (held held_after : Option (List (List ℕ))) (commands : List Command)
    → IfSome held (λ _. first ≡ Some []) → held_after ≡ option_and_then (λ _. kept_rows last) held
    → kept_commands last ≡ option_map (λ kept. kept ++ commands) first → IfSome held_after (λ texts. commands_in texts ≡ commands)
holds_kept last first None held_after commands empty is keeps = subst (λ (o : Option (List (List ℕ))). IfSome o (λ texts. commands_in texts ≡ commands)) (sym is) tt
holds_kept last first (Some rows) held_after commands empty is keeps =
    subst (λ (o : Option (List (List ℕ))). IfSome o (λ texts. commands_in texts ≡ commands)) (sym is)
    (of_rows (kept_rows last) (keeps ∙ ap (option_map (λ kept. kept ++ commands)) empty))
  where
    of_rows : (o : Option (List (List ℕ))) → option_map commands_in o ≡ Some commands → IfSome o (λ texts. commands_in texts ≡ commands)
    of_rows None same = tt
    of_rows (Some texts) same = ap (λ (o : Option (List Command)). unwrap_or o []) same

-- ---- the faults

-- a count that rose since a later state also rose since an earlier one
pub rose_before : (before middle after : ℕ) → before ≤ middle → Rose middle after → Rose before after
rose_before before middle after later rose = omega (arith, later, rose)

-- a fault count is 0 if a count above 0 implies `R` and `R` does not hold
pub never_failed : {R : Type 0} (faults : ℕ) → (faults ≢ 0 → R) → ¬ R → faults ≡ 0
never_failed zero rose none = refl
never_failed (suc n) rose none = absurd (none (rose (λ is. cc)))
