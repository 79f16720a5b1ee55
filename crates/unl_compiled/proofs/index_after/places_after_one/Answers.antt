use Rattle.std.proofs.Common.{◌<◌, List, [], ◌∷◌, sym, ap, subst, ◌∙◌, arith}
use Rattle.std.proofs.lemmas.Result.{IfOk-weaker}
use Rattle.unl_compiled.specs.Next.{state_after}
use Rattle.unl_compiled.specs.Places.{IsIndex}
use Rattle.unl_compiled.proofs.Shifts.{put_by_one, removed_by_one}
use Rattle.unl_delta.specs.declared.event.Event.{Event}
use Rattle.unl_delta.specs.Keyed.{put}
use Rattle.unl_delta.specs.State.{number_of}
use Rattle.unl_documents.specs.declared.feature.Feature.{Feature}
use Rattle.unl_documents.specs.States.{name_key}
use Rattle.unl_compiled.proofs.index_after.places_after_one.Goals as goal

pub returns-in-FeatureUpdated : goal.returns-in-FeatureUpdated
returns-in-FeatureUpdated c =
    let before = c.args.before.now in
    let after = c.args.after.now in
    let event = c.in-FeatureUpdated.is in
    let number = c.number.ensures ∙ ap number_of event in
    let above : c.args.number < c.in-FeatureUpdated.number = omega (arith, number, c.if-number.false) in
    let is = c.requires.after ∙ ap (λ (e : Event). state_after c.args.number (e ∷ []) before) event in
    let features = put_by_one c.args.number c.in-FeatureUpdated.number c.in-FeatureUpdated.feature before after above is in
    let same = ap (λ (f : Feature). put name_key f before.features) c.get.ensures ∙ sym features in
    IfOk-weaker c.places_with.result _ _ (λ index places. subst (λ (fs : List Feature). IsIndex fs index) same places) c.places_with.ensures

pub returns-in-FeatureRemoved : goal.returns-in-FeatureRemoved
returns-in-FeatureRemoved c =
    let before = c.args.before.now in
    let after = c.args.after.now in
    let event = c.in-FeatureRemoved.is in
    let number = c.number.ensures ∙ ap number_of event in
    let above : c.args.number < c.in-FeatureRemoved.number = omega (arith, number, c.if-number.false) in
    let is = c.requires.after ∙ ap (λ (e : Event). state_after c.args.number (e ∷ []) before) event in
    let features = removed_by_one c.args.number c.in-FeatureRemoved.number c.in-FeatureRemoved.name c.in-FeatureRemoved.project before after above is in
    IfOk-weaker c.places_without.result _ _ (λ index places. subst (λ (fs : List Feature). IsIndex fs index) (sym features) places) c.places_without.ensures
