use Rattle.std.proofs.Common.{◌≡◌, ◌<◌, true, false, Result, Ok, Err, OnErr, None, slice_get, length, sym, ap, inl, inr, ◌∙◌, arith}
use Rattle.std.proofs.lemmas.Bool.{cases_lt}
use Rattle.std.proofs.lemmas.Option.{slice_get_past}
use Rattle.bit_matrix.specs.Rows.{marked}
use Rattle.bit_matrix.proofs.RowLemmas.{holds-set_same, changed_others, changed_same, row_has, was}
use Rattle.bit_matrix.proofs.rows.BitRows.insert.Goals as goal

on_err : {T E : Type 0} (r : Result T E) (P : Type 0) → P → OnErr r P
on_err (Ok v) P p = tt
on_err (Err e) P p = p

pub returns-clause-there : goal.returns-clause-there
unfolding marked
returns-clause-there c =
    holds-set_same c.grow.new.self.rows.items c.args.row c.insert.new.self c.args.column c.in_ok-grow.ensures.room
    ∙ c.in_ok-insert.ensures.there

pub returns-clause-others : goal.returns-clause-others
unfolding marked
returns-clause-others c = λ i j apart. changed_others c.grow.new.self.rows.items c.args.row c.index_mut.result.now c.insert.new.self
    c.in_ok-grow.ensures.room c.index_mut.ensures.value c.args.column c.in_ok-insert.ensures.others i j apart
    ∙ c.in_ok-grow.ensures.same i j

pub returns-in_err-insert-clause-others : goal.returns-in_err-insert-clause-others
unfolding marked
returns-in_err-insert-clause-others c = λ i j apart. changed_others c.grow.new.self.rows.items c.args.row c.index_mut.result.now c.insert.new.self
    c.in_ok-grow.ensures.room c.index_mut.ensures.value c.args.column c.in_err-insert.ensures.others i j apart
    ∙ c.in_ok-grow.ensures.same i j

pub returns-in_err-insert-clause-err : goal.returns-in_err-insert-clause-err
unfolding marked
returns-in_err-insert-clause-err c = on_err c.from_residual-in_err-insert.result _ (changed_same c.grow.new.self.rows.items c.args.row c.index_mut.result.now c.insert.new.self
    c.in_ok-grow.ensures.room c.index_mut.ensures.value c.args.column c.in_err-insert.ensures.err
    ∙ c.in_ok-grow.ensures.same c.args.row c.args.column)

pub returns-in_err-grow-clause-succeeds : goal.returns-in_err-grow-clause-succeeds
unfolding marked
returns-in_err-grow-clause-succeeds c = λ there.
    let rows = c.args.self.now.rows.items in
    elim (cases_lt c.args.row (length rows)) [
      | inl below ↦ let refused : false ≡ true = c.in_err-grow.ensures.succeeds below in cc
      | inr past ↦ let none : true ≡ false = sym there ∙ ap (row_has c.args.column) (slice_get_past rows c.args.row past) in cc
    ]

pub returns-in_err-insert-clause-succeeds : goal.returns-in_err-insert-clause-succeeds
unfolding marked
returns-in_err-insert-clause-succeeds c = λ there.
    let held = was c.grow.new.self.rows.items c.args.row c.index_mut.result.now c.insert.new.self c.in_ok-grow.ensures.room c.index_mut.ensures.value c.args.column in
    let refused : false ≡ true = c.in_err-insert.ensures.succeeds (held ∙ c.in_ok-grow.ensures.same c.args.row c.args.column ∙ there) in
    cc
