use Rattle.std.proofs.Common.{◌≡◌, Some, refl, subst, arith}
use Rattle.merge_set_table.specs.Names.{number_in}
use Rattle.merge_set_table.proofs.Pushing.{pushed}
use Rattle.merge_set_table.proofs.steps.push_field.Goals as goal

pub returns : goal.returns
returns g c =
    pushed c.args.entry c.args.below c.in_ok-response.response c.len-field.result _ _ _ _
    (subst (λ n. number_in c.number_name.new.names n ≡ Some c.in_ok-response.response) c.response_name.ensures c.in_ok-response.ensures.numbered)
    c.in_ok-response.ensures.kept c.in_ok-response.ensures.apart (omega arith) c.in_ok-push.ensures.items refl refl c.in_ok-push-2.ensures.items refl refl refl refl
