use Rattle.std.proofs.Common.{◌≡◌, ◌&&◌, ◌||◌, ℕ, Bool, not, nat_lt, sym, ap, ◌∙◌}
use Rattle.std.proofs.lemmas.Result.{IfOk-weaker, on_ok_weaker, on_err_weaker}
use Rattle.bit_matrix.specs.Rows.{marked}
use Rattle.bit_matrix.specs.Set.{has}
use Rattle.bit_matrix.proofs.Counts.{count_like}
use Rattle.bit_matrix.proofs.RowLemmas.{holds-set_same, holds-set_other, was, unchanged}
use Rattle.bit_matrix.proofs.rows.BitRows.insert_below.Goals as goal

pub returns-clause-row : goal.returns-clause-row
unfolding marked
returns-clause-row c =
    let before : (j : ℕ) → has c.index_mut.result.now j ≡ marked c.args.self.now c.args.row j = λ j.
    was c.grow.new.self.rows.items c.args.row c.index_mut.result.now c.insert_below.new.self c.in_ok-grow.ensures.room c.index_mut.ensures.value j
    ∙ c.in_ok-grow.ensures.same c.args.row j in
    on_ok_weaker c.insert_below.result
    (λ union j. holds-set_same c.grow.new.self.rows.items c.args.row c.insert_below.new.self j c.in_ok-grow.ensures.room
    ∙ (union j ∙ ap (λ (b : Bool). b || (has c.args.columns.now j && nat_lt j c.args.row)) (before j)))
    c.insert_below.ensures.union

pub returns-clause-others : goal.returns-clause-others
unfolding marked
returns-clause-others c = λ i j apart. holds-set_other c.grow.new.self.rows.items c.args.row c.insert_below.new.self i j apart
    ∙ c.in_ok-grow.ensures.same i j

pub returns-clause-added : goal.returns-clause-added
unfolding marked
returns-clause-added c =
    let before : (j : ℕ) → has c.index_mut.result.now j ≡ marked c.args.self.now c.args.row j = λ j.
    was c.grow.new.self.rows.items c.args.row c.index_mut.result.now c.insert_below.new.self c.in_ok-grow.ensures.room c.index_mut.ensures.value j
    ∙ c.in_ok-grow.ensures.same c.args.row j in
    IfOk-weaker c.insert_below.result _ _
    (λ added counted. counted ∙ count_like (λ j. has c.insert_below.new.self j && not (has c.index_mut.result.now j)) _ c.args.row
    (λ j. ap (λ (b : Bool). has c.insert_below.new.self j && not b) (before j)
    ∙ ap (λ (b : Bool). b && not (marked c.args.self.now c.args.row j)) (sym (holds-set_same c.grow.new.self.rows.items c.args.row c.insert_below.new.self j c.in_ok-grow.ensures.room))))
    c.insert_below.ensures.added

pub returns-clause-err : goal.returns-clause-err
unfolding marked
returns-clause-err c =
    on_err_weaker c.insert_below.result
    (λ same i j. unchanged c.grow.new.self.rows.items c.args.row c.index_mut.result.now c.insert_below.new.self c.in_ok-grow.ensures.room c.index_mut.ensures.value same i j
    ∙ c.in_ok-grow.ensures.same i j)
    c.insert_below.ensures.err
