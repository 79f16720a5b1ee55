use Rattle.std.proofs.Common.{◌≡◌, ◌-◌, ap, arith}
use Rattle.unl_base.proofs.Stocks.{came}
use Rattle.unl_base.proofs.memory_door.Stock.put.Goals as goal

pub invariant_of-self : goal.invariant_of-self
invariant_of-self c =
    let stock = c.self.inside in
    let out : stock.given - stock.back ≡ c.args.self.now.out = ap (λ s. s.out) c.self.view_is in (
      c.self.invariant.0,
      came stock.links.items stock.given stock.back c.args.link (omega (arith, out, c.requires)) (omega (arith, c.self.invariant.0, stock.links.ok.0)) c.self.invariant.1,
    )
