use Rattle.std.proofs.Common.{◌≡◌, ℕ, ◌+◌, List, length, Option, IfSome, sym, ◌∙◌, subst, arith}
use Rattle.unl_upstream.specs.Kept.{kept_state}
use Rattle.unl_upstream.specs.Reopening.{Applies}
use Rattle.unl_upstream.proofs.Reopened.{applies_more, reopened}
use Rattle.unl_upstream.proofs.reopening.reopen.Goals as goal

pub rows-preserved : goal.rows-preserved
rows-preserved g c =
    let before = c.rows.invariant in
    let row = c.in-Ok-apply_next_row.ensures in (
      row.stays,
      row.same.0 ∙ before.1,
      row.same.1 ∙ before.2,
      row.still ∙ before.3,
      subst (λ (o : Option (List (List ℕ))). IfSome o (λ list. c.in-Ok.count ≡ length list)) (sym row.same.1) before.4,
      subst (λ (o : Option (List (List ℕ))). Applies c.args.up.now o (c.rows.place + 1) c.apply_next_row.new.up) (sym row.same.1)
          (applies_more c.args.up.now (g.K.Keeper.state c.rows.keeper).rows c.rows.place c.rows.up c.apply_next_row.new.up before.5 row.applied),
    )

pub returns-clause-reopens : goal.returns-clause-reopens
returns-clause-reopens g c =
    let last = c.rows.invariant in
    let all : c.rows.place ≡ c.in-Ok.count = omega (arith, c.rows-test.false, c.rows.auto.place-end) in
    reopened (kept_state c.args.up.now (g.K.Keeper.state c.args.keeper.now)) (kept_state c.rows.up (g.K.Keeper.state c.rows.keeper))
    c.in-Ok.count last.0 (sym last.1) last.4
    (subst (λ (n : ℕ). Applies c.args.up.now (g.K.Keeper.state c.rows.keeper).rows n c.rows.up) all last.5)
