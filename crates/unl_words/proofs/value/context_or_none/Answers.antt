use Rattle.unl_words.proofs.Contexts.{query_within}
use Rattle.unl_words.proofs.value.context_or_none.Goals as goal

pub returns-clause-valid : goal.returns-clause-valid
returns-clause-valid c = query_within _ _ c.in_ok-read_query.ensures.reads
