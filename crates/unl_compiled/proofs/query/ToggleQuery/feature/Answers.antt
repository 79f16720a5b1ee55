use Rattle.unl_compiled.proofs.AtPlaces.{found_valid}
use Rattle.unl_documents.specs.Valid.{IsValidFeature}
use Rattle.unl_compiled.proofs.query.ToggleQuery.feature.Goals as goal

pub returns-clause-valid : goal.returns-clause-valid
returns-clause-valid c = found_valid IsValidFeature _ c.args.place c.feature.result (λ f. f.now) c.self.invariant.0.features c.feature.ensures
