use Rattle.std.proofs.Common.{◌≡◌, ◌∙◌, sym, ap, subst, refl}
use Rattle.std.proofs.lemmas.Result.{IfOk-weaker}
use Rattle.rules_specified.specs.Collected.{field, of_inline, of_spread}
use Rattle.rules_specified.specs.Collecting.{IsPart}
use Rattle.rules_specified.proofs.Parts.{Unless, part_field, part_inline, part_spread}
use Rattle.rules_specified.proofs.collected.found_at.Goals as goal

pub returns-then-are_leaving_out : goal.returns-then-are_leaving_out
returns-then-are_leaving_out g c names m =
    let root = c.args.root.now in
    let truth = g.S.ScalarValue.bool_of in
    let f = c.in-Field.field in (
      names,
      m,
      (
        part_field root.schema.now root.document.now root.name.now truth names c.args.selection.now f c.in-Field.is
            ∙ ap (λ b. Unless b (field f)) (sym c.are_leaving_out.ensures ∙ c.if-are_leaving_out.true),
        refl,
      ),
    )

pub returns-else-are_leaving_out : goal.returns-else-are_leaving_out
returns-else-are_leaving_out g c names m =
    let root = c.args.root.now in
    let truth = g.S.ScalarValue.bool_of in
    let f = c.in-Field.field in (
      names,
      m,
      (
        part_field root.schema.now root.document.now root.name.now truth names c.args.selection.now f c.in-Field.is
            ∙ ap (λ b. Unless b (field f)) (sym c.are_leaving_out.ensures ∙ c.if-are_leaving_out.false),
        refl,
      ),
    )

pub returns-then-are_leaving_out-2 : goal.returns-then-are_leaving_out-2
returns-then-are_leaving_out-2 g c names m =
    let root = c.args.root.now in
    let truth = g.S.ScalarValue.bool_of in
    let p = c.in-FragmentSpread.spread in (
      names,
      m,
      (
        part_spread root.schema.now root.document.now root.name.now truth names c.args.selection.now p c.in-FragmentSpread.is
            ∙ ap (λ b. Unless b (of_spread root.schema.now root.document.now root.name.now names p.item.name.item.now))
            (sym c.are_leaving_out-in-FragmentSpread.ensures ∙ c.if-are_leaving_out-2.true),
        refl,
      ),
    )

pub returns-then-are_leaving_out-3 : goal.returns-then-are_leaving_out-3
returns-then-are_leaving_out-3 g c names m =
    let root = c.args.root.now in
    let truth = g.S.ScalarValue.bool_of in
    let i = c.in-InlineFragment.inline in (
      names,
      m,
      (
        part_inline root.schema.now root.document.now root.name.now truth names c.args.selection.now i c.in-InlineFragment.is
            ∙ ap (λ b. Unless b (of_inline root.schema.now root.document.now root.name.now names i.item))
            (sym c.are_leaving_out-in-InlineFragment.ensures ∙ c.if-are_leaving_out-3.true),
        refl,
      ),
    )

pub returns-else-are_leaving_out-2 : goal.returns-else-are_leaving_out-2
returns-else-are_leaving_out-2 g c =
    let root = c.args.root.now in
    let truth = g.S.ScalarValue.bool_of in
    let p = c.in-FragmentSpread.spread in
    IfOk-weaker c.of_spread.result _ _
    (λ found all names m.
    let (after, marks, is) = all names m in
    let same = part_spread root.schema.now root.document.now root.name.now truth names c.args.selection.now p c.in-FragmentSpread.is
    ∙ ap (λ b. Unless b (of_spread root.schema.now root.document.now root.name.now names p.item.name.item.now))
    (sym c.are_leaving_out-in-FragmentSpread.ensures ∙ c.if-are_leaving_out-2.false) in
    (after, marks, subst (λ z. IsPart names after z found) (sym same) is))
    c.of_spread.ensures

pub returns-else-are_leaving_out-3 : goal.returns-else-are_leaving_out-3
returns-else-are_leaving_out-3 g c names m =
    let root = c.args.root.now in
    let truth = g.S.ScalarValue.bool_of in
    let i = c.in-InlineFragment.inline in
    let same = part_inline root.schema.now root.document.now root.name.now truth names c.args.selection.now i c.in-InlineFragment.is
    ∙ ap (λ b. Unless b (of_inline root.schema.now root.document.now root.name.now names i.item))
    (sym c.are_leaving_out-in-InlineFragment.ensures ∙ c.if-are_leaving_out-3.false) in
    (names, m, subst (λ z. IsPart names names z c.of_inline.result) (sym same) (c.of_inline.ensures names))
