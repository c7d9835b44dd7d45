use Rattle.std.proofs.Common.{subst}
use Rattle.std.specs.Option.{IfSome}
use Rattle.std.proofs.lemmas.Result.{IfOk-weaker}
use Rattle.merge_certificates.specs.Near.{IsNear}
use Rattle.merge_certificates.specs.declared.near.Near.{Near}
use Rattle.merge_certificates.proofs.below.row_near.Goals as goal

pub returns-in-Some : goal.returns-in-Some
returns-in-Some c = IfOk-weaker c.places_near.result _ _
    (λ o row indexed. row (subst (λ z. IfSome z (λ (near : Near). IsNear c.args.below.now.touched c.args.end near.untold near.index.own.items)) c.in-Some.is indexed))
    c.places_near.ensures
