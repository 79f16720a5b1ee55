use Rattle.unl_delta.proofs.Validity.{view_is_valid}
use Rattle.unl_tokens.specs.Names.{sees}
use Rattle.unl_compiled.proofs.seen.Seen.of.Goals as goal

pub returns-clause-valid : goal.returns-clause-valid
returns-clause-valid c = view_is_valid (sees c.args.projects.now) c.args.parts.now c.requires
