use Rattle.unl_metrics.proofs.Lookups.{same_book}
use Rattle.unl_metrics.proofs.laws.books_are_maps.Goals as goal

pub returns : goal.returns
returns c = same_book
