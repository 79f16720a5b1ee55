use Rattle.unl_upstream.proofs.Applying.{applies_ready, refuses_command}
use Rattle.unl_upstream.proofs.upstream.Upstream.apply_one.Goals as goal

pub returns-in-Ok-clause-applied : goal.returns-in-Ok-clause-applied
returns-in-Ok-clause-applied c =
    applies_ready c.args.command.now c.args.self.now c.commit.new.self c.in-Ok.ready c.commit.result c.in-Ok.ensures.gives c.commit.ensures.number
    c.commit.ensures.committed

pub returns-in-Err-clause-refused : goal.returns-in-Err-clause-refused
returns-in-Err-clause-refused c some = refuses_command c.args.command.now c.args.self.now c.in-Err.refusal (c.in-Err.ensures.gives some)
