-- `fiddlequill_quick` meets its contract: the verdict's bit, packed.
use Rattle.std.proofs.Common.{◌≡◌, rules, false}
use Rattle.rules.specs.Sums.{bit}
use Rattle.limits.specs.Refusal.{refusal, given}
use Rattle.fiddlequill.proofs.Mapped.{mapped}
use Rattle.fiddlequill.proofs.fiddlequill_quick.Goals as goal

pub returns : goal.returns
unfolding bit
returns c =
    let m = mapped bit false c.quick.result c.map.result c.map.ensures.cases (λ x y k. search rules) in
    let n : refusal c.map.result ≡ refusal c.quick.result = m.0 in
    let v : given 0 c.map.result ≡ bit (given false c.quick.result) = m.1 in
    record {
      number = _;
      firm = _;
      result = rw (n, v) at c.pack.ensures;
      call = c.quick.ensures;
    }
