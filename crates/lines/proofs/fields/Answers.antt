-- `lines::fields` meets its contract: five fields, each behind the one before. Which bytes a number has is said by the returned line alone, so that a
-- mistake in it fails there, and not at the room that the field asks for. Assumes nothing.
use Rattle.std.proofs.Common.{arith, ◌≤◌, length}
use Rattle.lines.specs.Lines.{line_of}
use Rattle.lines.proofs.Decimals.{four-digits, two_digits, room, put-field}
use Rattle.lines.proofs.Texts.{put_then}
use Rattle.lines.proofs.fields.Goals as goal

pub field-refusal-requires : goal.field-refusal-requires
field-refusal-requires c = omega (arith, room c.four.ensures (four-digits _ _ c.type_inv.answer))

pub field-firm-requires : goal.field-firm-requires
field-firm-requires c =
    let id = put-field _ c.four.ensures (four-digits _ _ c.type_inv.answer) c.field-refusal.ensures in
    omega (arith, id.1, room c.two.ensures (two_digits _ _ c.type_inv.answer))

pub field-count-requires : goal.field-count-requires
field-count-requires c =
    let id = put-field _ c.four.ensures (four-digits _ _ c.type_inv.answer) c.field-refusal.ensures in
    let refusal = put-field _ c.two.ensures (two_digits _ _ c.type_inv.answer) c.field-firm.ensures in
    omega (arith, id.1, refusal.1, room c.two-2.ensures (two_digits _ _ c.type_inv.answer))

pub field-offset-requires : goal.field-offset-requires
field-offset-requires c =
    let id = put-field _ c.four.ensures (four-digits _ _ c.type_inv.answer) c.field-refusal.ensures in
    let refusal = put-field _ c.two.ensures (two_digits _ _ c.type_inv.answer) c.field-firm.ensures in
    let firm = put-field _ c.two-2.ensures (two_digits _ _ c.type_inv.answer) c.field-count.ensures in
    omega (arith, id.1, refusal.1, firm.1, room c.four-2.ensures (four-digits _ _ c.type_inv.answer))

pub field-requires : goal.field-requires
field-requires c =
    let id = put-field _ c.four.ensures (four-digits _ _ c.type_inv.answer) c.field-refusal.ensures in
    let refusal = put-field _ c.two.ensures (two_digits _ _ c.type_inv.answer) c.field-firm.ensures in
    let firm = put-field _ c.two-2.ensures (two_digits _ _ c.type_inv.answer) c.field-count.ensures in
    let drops = put-field _ c.four-2.ensures (four-digits _ _ c.type_inv.answer) c.field-offset.ensures in
    omega (arith, id.1, refusal.1, firm.1, drops.1, room c.four-3.ensures (four-digits _ _ c.type_inv.answer))

pub returns : goal.returns
unfolding line_of
returns c =
    let start : c.args.at ≤ length c.args.out.now = omega (arith, c.requires.1) in
    let id = put-field _ c.four.ensures (four-digits _ _ c.type_inv.answer) c.field-refusal.ensures in
    let refusal = put-field _ c.two.ensures (two_digits _ _ c.type_inv.answer) c.field-firm.ensures in
    let firm = put-field _ c.two-2.ensures (two_digits _ _ c.type_inv.answer) c.field-count.ensures in
    let drops = put-field _ c.four-2.ensures (four-digits _ _ c.type_inv.answer) c.field-offset.ensures in
    let offset = put-field _ c.four-3.ensures (four-digits _ _ c.type_inv.answer) c.field.ensures in
    let three = put_then start (put_then start id.0 refusal.0) firm.0 in
    (put_then start (put_then start three drops.0) offset.0, omega (arith, id.1, refusal.1, firm.1, drops.1, offset.1))
