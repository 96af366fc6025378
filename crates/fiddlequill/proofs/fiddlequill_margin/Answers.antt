-- `fiddlequill_margin` meets its contract: the margin's two's complement, packed.
use Rattle.std.proofs.Common.{◌≡◌, ◌∙◌, ap, rules, pos}
use Rattle.octets.specs.Octets.{twos}
use Rattle.records.specs.Refusals.{point_refusal}
use Rattle.judge.specs.Points.{margin_at}
use Rattle.limits.specs.Refusal.{refusal, given}
use Rattle.fiddlequill.proofs.Mapped.{mapped}
use Rattle.fiddlequill.proofs.fiddlequill_margin.Goals as goal

pub returns : goal.returns
unfolding twos
returns c =
    let m = mapped twos (pos 0) c.margin.result c.map.result c.map.ensures.cases (λ x y k. search rules) in
    let n : refusal c.map.result ≡ point_refusal c.args.task.now c.args.slots.now c.args.offset = m.0 ∙ c.margin.ensures.0 in
    let v : given 0 c.map.result ≡ twos (margin_at c.args.task.now c.args.slots.now c.args.offset) = m.1 ∙ ap twos c.margin.ensures.1 in
    rw (n, v) at c.pack.ensures
