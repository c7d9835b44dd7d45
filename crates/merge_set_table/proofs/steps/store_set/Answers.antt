use Rattle.std.proofs.Common.{◌+◌, [], ◌∷◌, ◌++◌, length, ap, ◌∙◌, arith}
use Rattle.std.specs.List.{sum_by}
use Rattle.merge_set_table.specs.declared.table.NumberedSet.{NumberedSet}
use Rattle.merge_set_table.specs.Nesting.{parts_measure, inner_measure}
use Rattle.merge_set_table.specs.Sizes.{row_size}
use Rattle.merge_set_table.proofs.Counts.{rows_more}
use Rattle.merge_set_table.proofs.steps.store_set.Goals as goal

pub returns : goal.returns
returns g c =
    let same = c.in_ok-keep_parts.ensures in
    let number = c.len-number.result in
    let row : NumberedSet = record { own = c.shrink_to_fit.new.self; spreads = c.in_ok-once.once; inner = c.new-none.result } in
    let sets = c.in_ok-push.ensures.items ∙ ap (λ z. z ++ row ∷ []) same.sets in
    record {
      row = row;
      own = c.shrink_to_fit.ensures.items;
      once = c.in_ok-once.ensures;
      number = omega arith;
      fields = same.fields;
      responses = same.responses;
      sets = sets;
      order = same.order;
      inner = λ g. same.inner g ∙ ap (λ ps. inner_measure g c.args.table.now.inner.items + parts_measure (g number) ps) c.as_slice.ensures.value;
      size = omega (
        arith,
        ap length same.fields,
        ap length same.order,
        same.few,
        ap length c.as_slice.ensures.value,
        ap length c.as_slice-2.ensures.value,
        ap (sum_by row_size) sets,
        rows_more c.args.table.now.sets.items row,
        c.in_ok-once.ensures.few,
        ap length c.shrink_to_fit.ensures.items,
      );
    }
