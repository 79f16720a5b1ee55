use Rattle.std.proofs.Common.{◌∙◌, ap, sym, Err}
use Rattle.unl_documents.proofs.InOrder.{order_from_sorting, order_from_twice, sorting_from_order, twice_from_order}
use Rattle.unl_documents.proofs.laws.order_is_the_sorting.Goals as goal

pub returns-clause-sorting : goal.returns-clause-sorting
returns-clause-sorting g c key spelled field xs ys = (λ h. sorting_from_order key spelled field xs ys h, λ s. order_from_sorting key spelled field xs ys s)

pub returns-clause-twice : goal.returns-clause-twice
returns-clause-twice g c key spelled field xs e = (λ h. twice_from_order key spelled field xs e h, λ t. order_from_twice key spelled field xs t.0 t.1 ∙ ap Err (sym t.2))
