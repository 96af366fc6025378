-- What was judged on its part of the reply was judged on its place (proofs/Walks.antt). Assumes nothing.
use Rattle.std.proofs.Common.{arith}
use Rattle.records.proofs.Parts.{cut-part}
use Rattle.walk.proofs.Walks.{fits_one, ready, placed_one}
use Rattle.walk.proofs.steps.one.Goals as goal

pub judge_in-requires : goal.judge_in-requires
judge_in-requires g c =
    let given = c.requires in
    (omega arith, (ready _ _ _ _ given.0 given.1, rw cut-part (fits_one _ _ _ given.0 given.2)))

pub returns : goal.returns
returns g c =
    let given = c.requires in
    placed_one _ _ _ _ _ _ given.0 given.1.room c.judge_in.ensures c.judge_in.auto.reply
