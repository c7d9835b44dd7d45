use Rattle.std.proofs.Common.{inr, subst, sym}
use Rattle.std.specs.Option.{IfSome}
use Rattle.merge_certificates.specs.Near.{IsApartRow}
use Rattle.merge_certificates.proofs.below.is_known.Goals as goal

pub returns : goal.returns
returns c near =
    let row = subst (λ o. IfSome o (IsApartRow c.args.below.now.touched c.args.k c.args.end)) c.in-Some.is near in
    inr (inr (row c.args.l c.requires (sym c.if-contains-3.ensures)))
