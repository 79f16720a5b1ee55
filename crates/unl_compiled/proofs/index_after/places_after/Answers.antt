use Rattle.std.proofs.Common.{sym, ◌∙◌}
use Rattle.std.proofs.lemmas.Result.{IfOk-weaker}
use Rattle.unl_compiled.proofs.Alike.{still_index}
use Rattle.unl_compiled.proofs.index_after.places_after.Goals as goal

pub returns-then-keeps_places : goal.returns-then-keeps_places
returns-then-keeps_places c =
    IfOk-weaker c.copy.result _ _ (λ v is. rw is (still_index c.args.number c.args.events.now c.args.before.now c.args.after.now c.args.projects.now c.requires.order (sym c.keeps_places.ensures ∙ c.if-keeps_places.true) c.requires.after c.requires.projects)) c.copy.ensures
