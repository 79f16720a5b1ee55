use Rattle.std.proofs.Common.{◌≡◌, [], ◌∷◌, ◌++◌, drop, length, is_some, refl, sym, ap, ◌∙◌, subst}
use Rattle.left_right.specs.Sides.{view}
use Rattle.unl_publication.specs.declared.knowledge.Knowledge.{Knowledge}
use Rattle.unl_publication.specs.Rule.{with_installs}
use Rattle.unl_publication.specs.Looking.{Shows}
use Rattle.unl_publication.proofs.Keeps.{AreAllowed-one}
use Rattle.unl_publication.proofs.Sure.{MayPublish-allows, Shows-from, Shows-published, when_ok, at_ok}
use Rattle.unl_publication.proofs.writer.Writer.publish.Goals as goal

pub publish_given-sides-requires-clause-pending : goal.publish_given-sides-requires-clause-pending
publish_given-sides-requires-clause-pending g c = refl

pub publish_given-sides-requires-clause-whole : goal.publish_given-sides-requires-clause-whole
publish_given-sides-requires-clause-whole g c = let w = c.args.self in let d = c.append.ensures.desk in let front = g.T.Counted.front_of in let state = g.T.Absorb.state in
    ap (λ k. front (state k.shown.value)) d ∙ ((Shows-from g.T.Absorb.applied front g.row.T-State.coded _ _ w.shows).front_is ∙ sym (ap (λ (v : Knowledge g.row.T-State.Denot g.row.I.Denot). length v.installs) (ap (λ k. view k.place) d)))

pub publish_given-sides-requires-clause-allowed : goal.publish_given-sides-requires-clause-allowed
publish_given-sides-requires-clause-allowed g c = let w = c.args.self in let d = c.append.ensures.desk in let front = g.T.Counted.front_of in let state = g.T.Absorb.state in
    let applied = g.T.Absorb.applied in let allows = g.T.Counted.allows in let now = c.append.new.self in
    let added : drop now.behind now.log.items ≡ drop w.sides.behind w.sides.log.items ++ c.args.what ∷ [] = when_ok _ _ _ (sym c.if-is_err.ensures.value) c.append.ensures.pending in
    let one : drop now.behind now.log.items ≡ c.args.what ∷ [] = added ∙ ap (λ l. l ++ c.args.what ∷ []) (w.clear c.if-refused.false) in
    let may = MayPublish-allows applied allows (view w.sides.desk.place) (state w.sides.desk.shown.value) c.args.what w.begun
    (Shows-from applied front g.row.T-State.coded _ _ w.shows).value_is c.requires.allowed in
    AreAllowed-one applied allows (state now.desk.shown.value) c.args.what _ one (subst (λ k. allows (state k.shown.value) c.args.what) (sym d) may)

pub invariant_of-result-in-Ok : goal.invariant_of-result-in-Ok
invariant_of-result-in-Ok g c = let w = c.args.self in let d = c.append.ensures.desk in let front = g.T.Counted.front_of in let state = g.T.Absorb.state in let applied = g.T.Absorb.applied in
    let now = c.append.new.self in let r = c.publish_given-sides.result.0 in let e = c.publish_given-sides.ensures in
    let known = at_ok _ _ _ _ c.in-Ok.is e.known in
    let before : Shows applied front (state now.desk.shown.value) (view now.desk.place) = subst (λ k. Shows applied front (state k.shown.value) (view k.place)) (sym d) (Shows-from applied front g.row.T-State.coded _ _ w.shows) in
    let after = Shows-published applied front g.met.T.Counted.counts _ (state r.desk.shown.value) (drop now.behind now.log.items) (view now.desk.place) before (at_ok _ _ _ _ c.in-Ok.is e.value) in record {
      shows = ∣ subst (λ (v : Knowledge g.row.T-State.Denot g.row.I.Denot). Shows applied front (state r.desk.shown.value) v) (sym known.same) after ∣₁;
      clear = λ _. at_ok _ _ _ _ c.in-Ok.is e.pending;
      begun = ap (λ (v : Knowledge g.row.T-State.Denot g.row.I.Denot). is_some v.opening) known.same ∙ (ap (λ (v : Knowledge g.row.T-State.Denot g.row.I.Denot). is_some v.opening) (ap (λ k. view k.place) d) ∙ w.begun);
      allowed = ∣ known.allowed ∣₁;
    }

pub returns-in-Ok-clause-published : goal.returns-in-Ok-clause-published
returns-in-Ok-clause-published g c = let w = c.args.self in let d = c.append.ensures.desk in let front = g.T.Counted.front_of in let state = g.T.Absorb.state in let applied = g.T.Absorb.applied in
    let now = c.append.new.self in let r = c.publish_given-sides.result.0 in let e = c.publish_given-sides.ensures in
    let added : drop now.behind now.log.items ≡ drop w.sides.behind w.sides.log.items ++ c.args.what ∷ [] = when_ok _ _ _ (sym c.if-is_err.ensures.value) c.append.ensures.pending in
    let one : drop now.behind now.log.items ≡ c.args.what ∷ [] = added ∙ ap (λ l. l ++ c.args.what ∷ []) (w.clear c.if-refused.false) in
    let before : Shows applied front (state now.desk.shown.value) (view now.desk.place) = subst (λ k. Shows applied front (state k.shown.value) (view k.place)) (sym d) (Shows-from applied front g.row.T-State.coded _ _ w.shows) in
    let known = (at_ok _ _ _ _ c.in-Ok.is e.known).same in
    let after = Shows-published applied front g.met.T.Counted.counts _ (state r.desk.shown.value) (drop now.behind now.log.items) (view now.desk.place) before (at_ok _ _ _ _ c.in-Ok.is e.value) in (
      known ∙ (λ i. with_installs (one i) (view (d i).place)),
      c.front-front.ensures ∙ (ap (λ x. front (state x)) c.published.ensures ∙ (after.front_is ∙ sym (ap (λ (v : Knowledge g.row.T-State.Denot g.row.I.Denot). length v.installs) known))),
    )

pub returns-in-Ok-clause-allowed : goal.returns-in-Ok-clause-allowed
returns-in-Ok-clause-allowed g c = (at_ok _ _ _ _ c.in-Ok.is c.publish_given-sides.ensures.known).allowed
