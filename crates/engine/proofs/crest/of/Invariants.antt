-- The loop's invariant: what is left to cut into blocks is the list from the next block's place on, m is the largest
-- entry before that place, and the block at place `at` is the first to have it (`Led`).
use Rattle.std.proofs.Common.{◌≡◌, ◌*◌, min, length, drop}
use Rattle.std.specs.Iterator.Adapters.{enumerate_source, enumerate_count}
use Rattle.std.specs.Slice.Iter.{chunks_rest, chunks_size}
use Rattle.engine.specs.First.{Led}
use Rattle.engine.proofs.crest.of.Given as goal

abbrev pub invariant-loop-i : goal.invariant-loop-i
invariant-loop-i g l =
    (drop (enumerate_count l.i-iterator * 256) l.x ≡ chunks_rest (enumerate_source l.i-iterator))
    × (chunks_size (enumerate_source l.i-iterator) ≡ 256)
    × Led (g.T.Entry.values l.x) (min (enumerate_count l.i-iterator * 256) (length l.x)) (g.T.Entry.value l.m) l.at
