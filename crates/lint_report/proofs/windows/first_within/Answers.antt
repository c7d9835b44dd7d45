use Rattle.std.proofs.Common.{◌∙◌, ap, arith, length, length-append, refl, rules, sym}
use Rattle.std.proofs.Math.Utf8.{encode, encodes}
use Rattle.std.proofs.lemmas.Str.{len_utf8_bounds, length-encode}
use Rattle.lint_report.proofs.Columns.{taken_all, taken_boundary, taken_front, taken_part, takes_more, takes_none}
use Rattle.lint_report.proofs.windows.first_within.Goals as goal

pub loop-first-init : goal.loop-first-init
loop-first-init c = (search rules, takes_none c.args.text.now c.args.room c.utf8.text)

-- one character more
pub loop-first-preserved : goal.loop-first-preserved
loop-first-preserved c = (
  search rules,
  takes_more c.args.text.now c.loop-first.rest.now c.in-Some.behind.now c.in-Some.first c.args.room c.loop-first.left c.room_for-taken.result _ c.in-Some.ensures.utf8 c.in-Some.ensures.parts c.room_for-taken.ensures c.if-taken-left.false refl c.loop-first.invariant.1,
)

pub loop-first-smaller : goal.loop-first-smaller
loop-first-smaller c =
    omega (arith, ap length c.in-Some.ensures.parts, length-append (encode c.in-Some.first) c.in-Some.behind.now, length-encode c.in-Some.first, (len_utf8_bounds c.in-Some.first).0)

pub range-requires-clause-end_boundary : goal.range-requires-clause-end_boundary
range-requires-clause-end_boundary c = taken_boundary c.args.text.now c.loop-first.rest.now c.args.room c.loop-first.left c.loop-first.invariant.1

-- the next character does not fit
pub returns-then-taken-left-clause-shown : goal.returns-then-taken-left-clause-shown
returns-then-taken-left-clause-shown c =
    let h = c.loop-first.invariant.1 in
    c.range.ensures.value ∙ taken_front c.args.text.now c.loop-first.rest.now c.args.room c.loop-first.left h
    ∙ ap encodes (sym (taken_part c.args.text.now c.loop-first.rest.now c.in-Some.behind.now c.in-Some.first c.args.room c.loop-first.left c.room_for-taken.result c.in-Some.ensures.parts c.room_for-taken.ensures c.if-taken-left.true h))

-- all characters fit
pub returns-clause-shown : goal.returns-clause-shown
returns-clause-shown c = taken_all c.args.text.now c.loop-first.rest.now c.args.room c.loop-first.left c.in_default.ensures.parts c.loop-first.invariant.1
