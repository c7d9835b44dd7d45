use Rattle.std.proofs.Common.{List, length, refl, sym, ap, ◌∙◌}
use Rattle.std.proofs.lemmas.Option.{slice_get_past, slice_get_read}
use Rattle.bit_matrix.specs.declared.set.BitSet.{BitSet}
use Rattle.bit_matrix.specs.Rows.{marked}
use Rattle.bit_matrix.proofs.RowLemmas.{holds, row_has}
use Rattle.bit_matrix.proofs.rows.BitRows.contains.Goals as goal

pub returns-in-Some : goal.returns-in-Some
unfolding marked
returns-in-Some c =
    let rows = c.deref.result.now in
    let found = c.in-Some.ensures.lookup in
    c.contains.ensures
    ∙ (sym (ap (row_has c.args.column) (slice_get_read rows (length rows) c.args.row c.in-Some.set.now refl found.3.0 found.1))
    ∙ ap (λ (xs : List BitSet). holds xs c.args.row c.args.column) c.deref.ensures.value)

pub returns-in-None : goal.returns-in-None
unfolding marked
returns-in-None c =
    sym (ap (row_has c.args.column) (slice_get_past c.deref.result.now c.args.row c.in-None.ensures.lookup.3))
    ∙ ap (λ (xs : List BitSet). holds xs c.args.row c.args.column) c.deref.ensures.value
