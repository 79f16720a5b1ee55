use Rattle.std.proofs.lemmas.Str.Pattern.{contains_text}
use Rattle.unl_strategies.proofs.Subslices.{not_listed}
use Rattle.unl_strategies.proofs.lists.list_contains_text.Goals as goal

pub returns : goal.returns
returns c = λ none. not_listed c.contains.result c.args.list.now c.args.text.now (contains_text c.contains.result c.args.text.now c.args.list.now c.contains.ensures.cases) none
