-- Invariants: of the strips, that those so far are counted (`Counting`); of the slide, that all candidates so far are within the allowance
-- (`Sliding`); of the offsets, the same of all starts so far (`Walking`). The offsets' measure is what is left of the entries.
use Rattle.std.proofs.Common.{◌-◌, length}
use Rattle.excess.proofs.Walks.{Counting, Sliding, Walking}
use Rattle.excess.proofs.Strips.walk.Given as goal

abbrev pub invariant-loop-n : goal.invariant-loop-n
invariant-loop-n l = Counting l.zones.edges.now l.zones.w l.s l.self.k l.self.allowed l.p l.q l._n l.drops

abbrev pub invariant-loop-back : goal.invariant-loop-back
invariant-loop-back l = Sliding l.zones.edges.now l.zones.w l.s l.self.k l.self.allowed l.initial.p l.p l.q (l._back - 1) l.drops

abbrev pub invariant-offsets : goal.invariant-offsets
invariant-offsets l = Walking l.zones.edges.now l.zones.w l.s l.self.k l.self.allowed l.initial.entry l.entry l.drops

abbrev pub decreases-offsets : goal.decreases-offsets
decreases-offsets l = length l.zones.edges.now - l.entry
