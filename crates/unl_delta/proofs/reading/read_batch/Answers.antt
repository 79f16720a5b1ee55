use Rattle.serde_json.specs.View.{view}
use Rattle.unl_delta.proofs.Going.{read_is_valid}
use Rattle.unl_delta.proofs.reading.read_batch.Goals as goal

pub returns-clause-valid : goal.returns-clause-valid
returns-clause-valid c = read_is_valid c.args.held (view c.args.value.now) c.batch_of.result c.batch_of.ensures.gives c.batch_of.ensures.valid
