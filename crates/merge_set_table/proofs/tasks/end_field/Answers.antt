use Rattle.std.proofs.Common.{Some, subst}
use Rattle.std.proofs.lemmas.Result.{on_ok_weaker}
use Rattle.merge_field_pairs.specs.Entries.{plain}
use Rattle.merge_set_table.specs.Adding.{PushesField}
use Rattle.merge_set_table.specs.Tasks.{StoresAt}
use Rattle.merge_set_table.proofs.tasks.end_field.Goals as goal

pub returns : goal.returns
returns g c =
    on_ok_weaker c.push_field.result
    (λ h. record {
      number = c.in_ok-number.number;
      middle = c.store_at.new.table;
      stores = subst (λ x. StoresAt c.args.begun.place x c.in_ok-number.number c.args.table.now c.store_at.new.table) c.replace-inner.ensures.value c.in_ok-number.ensures;
      pushes = subst (λ x. PushesField (plain c.args.begun.entry) (Some c.in_ok-number.number) x c.push_field.new.part c.store_at.new.table c.push_field.new.table) c.replace-inner.ensures.after h;
    })
    c.push_field.ensures
