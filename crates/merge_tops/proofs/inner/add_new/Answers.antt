use Rattle.std.proofs.Common.{[], ◌∷◌, sym, subst}
use Rattle.std.specs.List.{All}
use Rattle.std.proofs.lemmas.List.Elements.{All-append, All-cons, All-nil}
use Rattle.merge_tops.specs.Inner.{IsStart}
use Rattle.merge_tops.proofs.inner.add_new.Goals as goal

pub returns : goal.returns
returns c = λ count listed start all.
    subst (λ zs. All (IsStart count listed) zs) (sym c.in_ok-push.ensures.items)
    (All-append (IsStart count listed) c.args.numbers.now.items (c.args.g ∷ []) all (All-cons (IsStart count listed) c.args.g [] start (All-nil (IsStart count listed))))
