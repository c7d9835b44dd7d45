use Rattle.std.proofs.Common.{length, sym, subst}
use Rattle.std.specs.List.{All}
use Rattle.std.proofs.lemmas.List.Elements.{All-nil}
use Rattle.merge_tops.specs.Inner.{IsStart}
use Rattle.merge_tops.proofs.inner.starts_of.Goals as goal

pub loop-g-init : goal.loop-g-init
loop-g-init g c =
    let Starts = IsStart (length c.args.graph.now.fragments.items) c.args.listed.now in
    subst (λ zs. All Starts zs) (sym c.new-starts.ensures.items) (All-nil Starts)

pub loop-g-preserved : goal.loop-g-preserved
loop-g-preserved g c = c.in_ok-add_start.ensures c.loop-g.invariant
