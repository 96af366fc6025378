-- The records are cut one by one, and the closure tells which has the id (proofs/Places.antt).
use Rattle.std.proofs.Common.{rules, ◌≡◌, arith}
use borrow.Author.Tests.{tests}
use Rattle.lookup.proofs.Places.{found}
use Rattle.lookup.proofs.find.Goals as goal

pub returns : goal.returns
returns c =
    found c.args.records.now c.args.id _ c.find.ensures.runs
    (λ u from.
    let size : u.from.size ≡ 32 = search rules in
    let rest : u.from.rest.now ≡ c.args.records.now = search rules in
    rw (size, rest) at (c.chunks_exact.ensures.runs u u.seen (omega (arith, size))))
    (λ a r q h. search rules)
    (λ x b h. search (rules, tests))
