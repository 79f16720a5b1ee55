use Rattle.std.proofs.Common.{rules}
use Rattle.unl_words.specs.OwnBook.{own_book}
use Rattle.unl_upstream.proofs.NewKeepers.{is_new}
use Rattle.unl_edge.proofs.Commands.{environments_are_different}
use Rattle.unl_edge.proofs.upstreams.begin.Goals as goal

pub new-requires-clause-different : goal.new-requires-clause-different
new-requires-clause-different c = environments_are_different c.args.words.now.environments c.requires.named

pub invariant_of-fresh : goal.invariant_of-fresh
invariant_of-fresh c =
    is_new c.in_ok-up.up c.args.boot c.args.words.now.secret c.args.words.now.environments
    (own_book c.args.words.now.client_tokens c.args.words.now.frontend_tokens) c.args.words.now.epoch
    (search rules)
