use Rattle.std.proofs.Common.{ap, option_map, subst, sym, unwrap_or}
use Rattle.unl_publication.specs.declared.knowledge.Knowledge.{Knowledge}
use Rattle.unl_publication.specs.Rule.{MayPublish, knows_nothing}
use Rattle.unl_publication.specs.Seen.{written}
use Rattle.unl_publication.proofs.publisher.Publisher.publish.Goals as goal

pub publish-writer-requires : goal.publish-writer-requires
publish-writer-requires g c = record {
  allowed = subst (λ (v : Knowledge g.row.T-State.Denot g.row.I.Denot). MayPublish g.T.Absorb.applied g.T.Counted.allows v c.args.what)
      (ap (λ o. unwrap_or (option_map written o) knows_nothing) (sym c.in-Some.ensures.value)) c.requires;
}
