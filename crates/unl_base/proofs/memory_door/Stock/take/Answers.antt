use Rattle.std.proofs.Common.{◌≡◌, ◌∙◌, ◌<◌, ◌+◌, Option, Some, None, refl, IfSome, drop, length, slice_index_or, ap, is_some, sym, subst, arith, true, true≢false}
use Rattle.unl_base.specs.Doors.{count_of}
use Rattle.unl_base.specs.Memory.{IsNextLink, Stock, MemoryLinkState}
use Rattle.unl_base.proofs.Stocks.{gone, gone_view, new_there, next_is, next_new, some_to_come}
use Rattle.unl_base.proofs.memory_door.Stock.take.Goals as goal

-- There is a next link.
more : (c : goal.After-self-2-1) → c.self.inside.given < length c.self.inside.links.items
more c = omega (arith, c.self.invariant.0, c.if-self-len.false, c.len.ensures, c.self.inside.links.ok.0)

-- The next link is the link that the door removes.
next : (c : goal.After-self-2-1) → c.take-link.result ≡ slice_index_or c.self.inside.links.items c.self.inside.given c.index_mut.result.now
next c = c.take-link.ensures.value ∙ c.index_mut.ensures.value

-- The next link is present.
there : (c : goal.After-self-2-1) → is_some c.take-link.result ≡ true
there c =
    let stock = c.self.inside in
    ap is_some (next c) ∙ new_there _ (next_new stock.links.items stock.given stock.back _ (more c) c.self.invariant.1)

-- A result that holds a link counts as 1.
counted : {X : Type 0} (o : Option X) → is_some o ≡ true → 1 ≡ count_of o
counted None is = absurd (true≢false (sym is))
counted (Some x) is = refl

pub invariant_of-self : goal.invariant_of-self
invariant_of-self c =
    let stock = c.self.inside in (
      omega (arith, c.self.invariant.0, c.if-self-len.false),
      gone stock.links.items stock.given stock.back _ (more c) c.self.invariant.1,
    )

pub returns-clause-ends : goal.returns-clause-ends
returns-clause-ends c =
    let stock = c.self.inside in (
      λ none. absurd (true≢false (sym (there c) ∙ none)),
      λ empty. absurd (some_to_come stock.links.items stock.given (more c) (ap (λ (s : Stock). s.links) c.self.view_is ∙ empty)),
    )

pub returns-clause-comes : goal.returns-clause-comes
returns-clause-comes c =
    let stock = c.self.inside in
    subst (λ (o : Option MemoryLinkState). IfSome o (λ wire. IsNextLink c.args.self.now.links wire)) (sym (next c))
    (subst (λ (s : Stock). IfSome (slice_index_or stock.links.items stock.given c.index_mut.result.now) (λ wire. IsNextLink s.links wire)) c.self.view_is
    (next_is stock.links.items stock.given stock.back _ (more c) c.self.invariant.1))

pub returns-clause-rest : goal.returns-clause-rest
returns-clause-rest c =
    let stock = c.self.inside in
    gone_view stock.links.items stock.given stock.back _ (more c) c.self.invariant.1
    ∙ ap (λ (s : Stock). record { links = drop 1 s.links; out = s.out + 1; returned = s.returned }) c.self.view_is
    ∙ ap (λ n. record { links = drop 1 c.args.self.now.links; out = c.args.self.now.out + n; returned = c.args.self.now.returned }) (counted c.take-link.result (there c))
