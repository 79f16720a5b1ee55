use Rattle.unl_documents.proofs.Parts.{first_part, only_part}
use Rattle.unl_documents.proofs.texts.cut.Goals as goal

pub returns-clause-parts : goal.returns-clause-parts
returns-clause-parts c = first_part c.args.mark c.args.text.now _ (c.split_once.ensures.byte c.requires (λ w o h. h))

pub returns-clause-whole : goal.returns-clause-whole
returns-clause-whole c = only_part c.args.mark c.args.text.now _ (c.split_once.ensures.byte c.requires (λ w o h. h))
