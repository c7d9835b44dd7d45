use Rattle.std.proofs.Common.{option_copied}
use Rattle.std.proofs.lemmas.Result.{IfOk-weaker}
use Rattle.merge_set_table.specs.Known.{known_rank}
use Rattle.merge_set_table.proofs.Closing.{adds_set}
use Rattle.merge_set_table.proofs.adding.add_set.Goals as goal

pub returns : goal.returns
returns g c =
    IfOk-weaker c.close_set.result _ _
    (λ n closed. adds_set c.args.schema.now (known_rank c.args.fragments.now) (option_copied c.args.parent) c.args.set.now _ n _ _ _ _ _ _ c.in_ok-place.ensures c.in_ok-part.ensures c.in_ok-add_selections.ensures closed)
    c.close_set.ensures
