use Rattle.std.proofs.lemmas.Str.Pattern.{contains_text, starts_text, ends_text}
use Rattle.unl_constraints.proofs.Parts.{part_from_search}
use Rattle.unl_constraints.proofs.texts.has_part_at.Goals as goal

pub returns-in-Anywhere : goal.returns-in-Anywhere
returns-in-Anywhere c = rw c.in-Anywhere.is (part_from_search c.contains.result c.args.text.now c.args.part.now (contains_text c.contains.result c.args.part.now c.args.text.now c.contains.ensures.cases))

pub returns-in-Start : goal.returns-in-Start
returns-in-Start c = rw c.in-Start.is (starts_text c.starts_with.result c.args.part.now c.args.text.now c.starts_with.ensures.cases)

pub returns-in-End : goal.returns-in-End
returns-in-End c = rw c.in-End.is (ends_text c.ends_with.result c.args.part.now c.args.text.now c.ends_with.ensures.cases)
