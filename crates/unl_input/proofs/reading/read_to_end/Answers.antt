use Rattle.std.proofs.Common.{◌∙◌, arith, refl}
use Rattle.unl_input.proofs.ReadingWhole.{takes_more, takes_none, takes_end}
use Rattle.unl_input.proofs.reading.read_to_end.Goals as goal

pub reads-init : goal.reads-init
reads-init g c = record {
  took = rw c.new-bytes.ensures.items (takes_none (g.S.Source.left c.args.source.now));
  later = omega arith;
  still = refl;
  room = c.requires;
}

pub reads-preserved : goal.reads-preserved
reads-preserved g c = record {
  took = rw c.in_ok-take_prefix-in-Ok.ensures (takes_more _ _ _ _ _ c.reads.invariant.took c.in-Ok.ensures.taken);
  later = omega (arith, c.reads.invariant.later, c.read.ensures.cause.later);
  still = c.in-Ok.ensures.cause.still ∙ c.reads.invariant.still;
  room = omega (arith, c.in-Ok.ensures.fits, c.in-Ok.count-test);
}

pub returns-in-Ok-eq0-clause-read : goal.returns-in-Ok-eq0-clause-read
returns-in-Ok-eq0-clause-read g c = rw c.from_vec.ensures (
  takes_end _ _ _ _ _ _ c.in-Ok-eq0.field-0-test c.reads.invariant.took c.in-Ok-eq0.ensures.taken (c.in-Ok-eq0.ensures.end c.in-Ok-eq0.field-0-test),
  omega (arith, c.reads-test.true, c.len.ensures, c.reads.bytes.ok),
)

pub returns-clause-read : goal.returns-clause-read
returns-clause-read g c = (
  c.reads.bytes.items,
  record {
    took = c.reads.invariant.took;
    long = omega (arith, c.reads-test.false, c.len.ensures, c.reads.bytes.ok);
  },
)
