use Rattle.unl_durable_upstream.proofs.Environments.{words_differ}
use Rattle.unl_durable_upstream.proofs.serving.begin.Goals as goal

pub new-requires-clause-different : goal.new-requires-clause-different
new-requires-clause-different c = words_differ c.args.options.now.environments c.requires.named
