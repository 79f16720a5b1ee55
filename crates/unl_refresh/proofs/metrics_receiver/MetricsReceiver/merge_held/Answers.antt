use Rattle.std.proofs.Common.{◌≡◌, ◌∙◌, Option, Some, ap, subst, sym}
use Rattle.std.specs.Prelude.{MatchOption}
use Rattle.unl_metrics.specs.Book.{Book, sum_of}
use Rattle.unl_refresh.specs.MetricsQueues.{Intake, Merges, Receiving, known_by}
use Rattle.unl_refresh.proofs.Merging.{merges_held, merges_nothing}
use Rattle.unl_refresh.proofs.metrics_receiver.MetricsReceiver.merge_held.Goals as goal
use Rattle.unl_refresh.proofs.metrics_receiver.MetricsReceiver.merge_held.Goals.{in-Some-1, in-None-1}

pub returns-in-Some-clause-merges : goal.returns-in-Some-clause-merges
returns-in-Some-clause-merges c =
    let is : c.match-self-merge_or_return.self.intake ≡ record { taken = (known_by c.self.inside.pass).taken; held = c.merge_or_return.result } =
    elim c.match-self-merge_or_return.branch [
      | in-Some-1 w ↦ ap (λ (r : Receiving). r.intake) w.self-is
      | in-None-1 w ↦ ap (λ (r : Receiving). r.intake) w.self-is
    ] in
    let had : c.args.self.now.intake.held ≡ Some c.in-Some.held =
    sym (ap (λ (r : Receiving). r.intake.held) c.self.view_is) ∙ (sym c.take.ensures.value ∙ c.in-Some.is) in
    let now = subst (λ (held : Option Book). MatchOption held (c.merge_or_return.new.book ≡ sum_of c.args.book.now c.in-Some.held)
    (λ back. (back ≡ c.in-Some.held) × (c.merge_or_return.new.book ≡ c.args.book.now))) (sym (ap (λ (i : Intake). i.held) is))
    c.merge_or_return.ensures in
    merges_held _ _ c.in-Some.held c.args.self.now.intake c.match-self-merge_or_return.self.intake had
    (ap (λ (i : Intake). i.taken) is ∙ ap (λ (r : Receiving). r.intake.taken) c.self.view_is) now

pub returns-in_default-clause-merges : goal.returns-in_default-clause-merges
returns-in_default-clause-merges c =
    let none : c.self.inside.held ≡ c.take.new.self = sym c.take.ensures.value ∙ (c.in_default.is ∙ sym c.take.ensures.after) in
    let same = sym (ap (λ (r : Receiving). r.intake) c.self.view_is)
    ∙ ap (λ (held : Option Book). record { taken = (known_by c.self.inside.pass).taken; held = held }) none in
    subst (λ (intake : Intake). Merges c.args.book.now c.args.self.now.intake c.args.book.now intake) same
    (merges_nothing c.args.book.now c.args.self.now.intake)
