-- `room::work::outline` meets its contract: strips along the drawn map meet the late runs, and without late runs nothing is met
-- (proofs/Sides.antt, proofs/Ridges.antt). Assumes nothing.
use Rattle.std.proofs.Common.{◌≡◌, ◌∙◌, length, rules}
use Rattle.runs.proofs.Ordered.{runs_in}
use Rattle.room.proofs.Sides.{drawn-sized, drawn-mapped}
use Rattle.room.proofs.Ridges.{topped-none, topped-drawn}
use Rattle.room.proofs.work.outline.Goals as goal

pub returns-then-is_empty : goal.returns-then-is_empty
returns-then-is_empty c =
    let none : length c.args.late.edges.now ≡ 0 = search rules in
    topped-none _ _ _ _ none

pub slide-requires : goal.slide-requires
slide-requires c =
    let runs = runs_in c.args.late.runs in
    let within = c.requires.1 in
    let drew = c.draw.ensures in
    let long = drew.0 ∙ c.requires.2 in (
      drawn-mapped _ _ _ runs long drew.1,
      drawn-sized _ _ _ runs long drew.1 _ _ within.period within.strips,
      within.some,
    )

pub returns-then-slides : goal.returns-then-slides
returns-then-slides c = topped-drawn _ _ _ _ _ (c.draw.ensures.0 ∙ c.requires.2) c.draw.ensures.1 _ _ c.slide.ensures

pub returns : goal.returns
returns c =
    let within = c.requires.1 in
    let drew = c.draw.ensures in
    let long = drew.0 ∙ c.requires.2 in (
      drawn-sized _ _ _ (runs_in c.args.late.runs) long drew.1 _ _ within.period within.strips,
      long,
      topped-drawn _ _ _ _ _ long drew.1,
    )
