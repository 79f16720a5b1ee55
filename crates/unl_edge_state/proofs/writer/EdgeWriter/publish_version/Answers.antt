use Rattle.std.proofs.Common.{subst, sym, ◌∙◌}
use Rattle.unl_core.specs.declared.board.Install.TheVariants.{Env}
use Rattle.unl_delta.specs.Valid.{IsValidVersion}
use Rattle.unl_edge_state.specs.Orderly.{MayInstall}
use Rattle.unl_edge_state.specs.Writing.{Writing}
use Rattle.unl_edge_state.proofs.Ordered.{keeps_order_after, may_publish}
use Rattle.unl_edge_state.proofs.Writings.{writing_version}
use Rattle.unl_publication.specs.Seen.{published}
use Rattle.unl_edge_state.proofs.writer.EdgeWriter.publish_version.Goals as goal

pub publish-requires : goal.publish-requires
publish-requires g c =
    may_publish (published c.self.inside.publisher) (Env c.args.slot c.args.snapshot)
    (subst (λ (w : Writing). MayInstall w.known (Env c.args.slot c.args.snapshot)) (sym c.self.view_is) c.requires.order)

pub invariant_of-self-2 : goal.invariant_of-self-2
invariant_of-self-2 g c =
    writing_version _ _ c.self.inside.places.items c.args.slot c.args.snapshot c.in_ok-version.version c.args.held c.self.invariant c.in_ok-front.ensures.published.0
    (c.in_ok-version.ensures ∙ c.get-2.ensures) (subst IsValidVersion (c.version.ensures.version ∙ c.get.ensures) c.version.ensures.valid)

pub returns-clause-ordered : goal.returns-clause-ordered
returns-clause-ordered g c = keeps_order_after _ _ _ c.in_ok-front.ensures.published.0 c.in_ok-front.ensures.allowed
