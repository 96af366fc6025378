-- One law for each way out (proofs/Calls.antt).
use Rattle.std.proofs.Common.{◌≡◌, rules, Err, arith}
use Rattle.grants.proofs.Calls.{gridded, within, call_err, call-unfound, call-granted}
use Rattle.grants.proofs.grant.Goals as goal

pub returns-in_err-grid : goal.returns-in_err-grid
returns-in_err-grid c =
    let is : c.from_residual.result ≡ Err c.in_err-grid.field-0.0 = search rules in
    call_err _ _ _ _ _ _ _ _ _ _ is c.in_err-grid.ensures

pub find-requires : goal.find-requires
find-requires c =
    let asked = c.in_ok-grid.ensures in
    (gridded _ _ _ _ _ _ _ _ _ _ asked.0 asked.1, within _ _ _ _ _ _ _ _ _ _ asked.0 asked.1)

pub overflow_cast-result : goal.overflow_cast-result
overflow_cast-result c =
    let asked = c.in_ok-grid.ensures in
    let found = rw c.in_ok-j.ensures.ok_part at c.find.ensures in
    omega (arith, (gridded _ _ _ _ _ _ _ _ _ _ asked.0 asked.1).number, found.1)

pub returns-in_err-j : goal.returns-in_err-j
returns-in_err-j c =
    let asked = c.in_ok-grid.ensures in
    let is : c.from_residual-in_err-j.result ≡ Err c.in_err-j.field-0.0 = search rules in
    call-unfound _ _ _ _ _ _ _ _ _ _ asked.0 asked.1 _ _ _ is c.in_err-j.ensures.value c.find.ensures

pub returns : goal.returns
returns c =
    let asked = c.in_ok-grid.ensures in
    let found = rw c.in_ok-j.ensures.ok_part at c.find.ensures in
    call-granted _ _ _ _ _ _ _ _ _ _ asked.0 asked.1 _ _ found.0 c.give.ensures
