use Rattle.unl_core.specs.declared.board.Install.TheVariants.{Tokens}
use Rattle.unl_edge_state.proofs.Ordered.{keeps_order_after, may_publish}
use Rattle.unl_edge_state.proofs.Writings.{writing_tokens}
use Rattle.unl_publication.specs.Seen.{published}
use Rattle.unl_edge_state.proofs.writer.EdgeWriter.publish_book.Goals as goal

pub publish-requires : goal.publish-requires
publish-requires g c = may_publish (published c.self.inside.publisher) (Tokens c.args.book) (λ _. tt)

pub invariant_of-self-2 : goal.invariant_of-self-2
invariant_of-self-2 g c = writing_tokens _ _ c.self.inside.places.items c.args.book c.self.invariant c.in_ok-publish.ensures.published.0

pub returns-clause-ordered : goal.returns-clause-ordered
returns-clause-ordered g c = keeps_order_after _ _ _ c.in_ok-publish.ensures.published.0 c.in_ok-publish.ensures.allowed
