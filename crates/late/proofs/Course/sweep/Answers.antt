-- What a stretch asks and what the loop keeps are laws of `Sweeping` (proofs/Sweeps.antt).
use Rattle.std.proofs.Common.{arith}
use Rattle.late.specs.Late.{way_of}
use Rattle.late.proofs.Sweeps.{Step, sweeping-known, sweeping-end, sweeping-ours, sweeping-theirs, sweeping-ready, sweeping-next, sweeping-less}
use Rattle.late.proofs.Course.sweep.Goals as goal

pub overflow_sub-here : goal.overflow_sub-here
overflow_sub-here c = omega (arith, c.end-here.ensures, (sweeping-known c.loop-k.invariant).near.high)

pub overflow_sub-there : goal.overflow_sub-there
overflow_sub-there c = omega (arith, c.end-there.ensures, (sweeping-known c.loop-k.invariant).far.high)

pub invariant_of-leg : goal.invariant_of-leg
invariant_of-leg c =
    let r = sweeping-ready c.loop-k.invariant c.requires c.loop-k-test.true _ _ _ c.end-here.ensures c.end-there.ensures c.min-m.ensures in
    record { slope = r.slope; most = omega (arith, r.on, c.requires.bounds.most) }

pub stretch-requires : goal.stretch-requires
stretch-requires c =
    let r = sweeping-ready c.loop-k.invariant c.requires c.loop-k-test.true _ _ _ c.end-here.ensures c.end-there.ensures c.min-m.ensures in
    (omega (arith, r.on, c.requires.bounds.most), r.room)

pub on-k-requires : goal.on-k-requires
on-k-requires c = (
  omega (arith, c.min-m.ensures, c.end-here.ensures, (sweeping-known c.loop-k.invariant).near.high),
  omega (arith, sweeping-ours c.loop-k.invariant c.requires c.loop-k-test.true),
)

pub on-k-requires-in-loop-k : goal.on-k-requires-in-loop-k
on-k-requires-in-loop-k c = (
  omega (arith, c.min-m.ensures, c.end-there.ensures, (sweeping-known c.loop-k.invariant).far.high),
  omega (arith, sweeping-theirs c.loop-k.invariant c.requires c.loop-k-test.true),
)

-- From the head of the loop to its end.
stepped : (c : goal.After-on-k-in-loop-k) → Step (way_of c.args.self.now) c.end-here.result c.end-there.result c.min-m.result c.loop-k.k c.loop-k.out
    (record { near = c.on-k.result; far = c.on-k-in-loop-k.result; s = c.end.result; low = c.min.result; n = c.stretch.result })
    c.stretch.new.out
stepped c =
    record {
      near = c.end-here.ensures;
      far = c.end-there.ensures;
      first = c.min-m.ensures;
      on = c.on-k.ensures.0;
      over = c.on-k-in-loop-k.ensures.0;
      drawn = c.stretch.ensures;
      slides = c.end.ensures;
      lower = c.min.ensures;
      ours = c.on-k.ensures.1;
      theirs = c.on-k-in-loop-k.ensures.1;
    }

pub loop-k-smaller : goal.loop-k-smaller
loop-k-smaller c = sweeping-less c.loop-k.invariant c.requires c.loop-k-test.true (stepped c)

pub loop-k-preserved : goal.loop-k-preserved
loop-k-preserved c = sweeping-next c.loop-k.invariant c.requires c.loop-k-test.true (stepped c)

pub returns : goal.returns
returns c = sweeping-end c.loop-k.invariant c.loop-k-test.false
