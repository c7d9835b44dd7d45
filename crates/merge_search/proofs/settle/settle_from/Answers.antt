use Rattle.std.proofs.Common.{◌≡◌, ◌≤◌, None, arith, false, get_or, length, slice_get, subst}
use Rattle.std.proofs.lemmas.Option.{slice_get-get_or, slice_get_past}
use Rattle.merge_sets.specs.declared.node.Entry.{Entry}
use Rattle.merge_search.specs.declared.state.Search.{Search}
use Rattle.merge_search.specs.Settle.{Settles}
use Rattle.merge_search.specs.Spending.{Compares, settle_cost}
use Rattle.merge_search.specs.Tasks.{MeetsFields}
use Rattle.merge_sets.specs.World.{world, conflict_of}
use Rattle.merge_sets.proofs.Laws.{same_some}
use Rattle.merge_search.proofs.Spent.{upto_end, upto_next, upto_none, upto_open}
use Rattle.merge_search.proofs.Steps.{list_kept, list_next}
use Rattle.merge_sets.proofs.OneName.{no_entry}
use Rattle.merge_search.proofs.settle.settle_from.Goals as goal

pub loop-k-init : goal.loop-k-init
loop-k-init g c = (λ t d. d, upto_none (world g.J.Judge.judgement c.args.graph.now) c.args.a c.args.fields.now c.args.n c.args.search.now)

pub loop-k-preserved : goal.loop-k-preserved
loop-k-preserved g c =
    let v = world g.J.Judge.judgement c.args.graph.now in
    let e = c.args.e in
    let a = c.args.a in
    let fields = c.args.fields.now in
    let k = c.loop-k.k in
    let s : Search = c.loop-k.search in
    let u : Search = c.settle.new.search in
    let b : Entry = get_or fields k no_entry in
    let one : MeetsFields v e a b s u = subst (λ is. Settles v e a b is s u) c.if-not-branch.false c.in_ok-settle.ensures.settled in (
      λ t d. c.loop-k.invariant.0 t (list_next v e a fields k s u t c.loop-k-test.true one d),
      upto_next v a fields c.args.n k c.args.search.now s u c.loop-k-test.true c.loop-k.invariant.1
          (subst (λ is. Compares (settle_cost v a b is) s u) c.if-not-branch.false c.in_ok-settle.ensures.counts),
    )

pub returns-then-not-branch-clause-settled : goal.returns-then-not-branch-clause-settled
returns-then-not-branch-clause-settled g c t d =
    let v = world g.J.Judge.judgement c.args.graph.now in
    let e = c.args.e in
    let a = c.args.a in
    let fields = c.args.fields.now in
    let k = c.loop-k.k in
    let s : Search = c.loop-k.search in
    let u : Search = c.settle.new.search in
    let still = subst (λ is. Settles v e a (get_or fields k no_entry) is s u) c.if-not-branch.true c.in_ok-settle.ensures.settled in
    c.loop-k.invariant.0 t (list_kept v e a fields k s u t still.0 d)

pub returns-then-not-branch-clause-open : goal.returns-then-not-branch-clause-open
returns-then-not-branch-clause-open g c b at =
    let v = world g.J.Judge.judgement c.args.graph.now in
    let e = c.args.e in
    let a = c.args.a in
    let fields = c.args.fields.now in
    let k = c.loop-k.k in
    let still = subst (λ is. Settles v e a (get_or fields k no_entry) is c.loop-k.search c.settle.new.search) c.if-not-branch.true c.in_ok-settle.ensures.settled in
    subst (λ x. conflict_of v e a x ≡ false) (same_some (get_or fields k no_entry) b _ (slice_get-get_or fields k no_entry c.loop-k-test.true) at) still.1

pub returns-then-not-branch-clause-counts : goal.returns-then-not-branch-clause-counts
returns-then-not-branch-clause-counts g c =
    let v = world g.J.Judge.judgement c.args.graph.now in
    let a = c.args.a in
    let fields = c.args.fields.now in
    let k = c.loop-k.k in
    let s : Search = c.loop-k.search in
    let u : Search = c.settle.new.search in
    upto_open v a fields c.args.n k c.args.search.now s u c.loop-k-test.true c.loop-k.invariant.1
    (subst (λ is. Compares (settle_cost v a (get_or fields k no_entry) is) s u) c.if-not-branch.true c.in_ok-settle.ensures.counts)

pub returns-clause-settled : goal.returns-clause-settled
returns-clause-settled g c = c.loop-k.invariant.0

pub returns-clause-open : goal.returns-clause-open
returns-clause-open g c b at =
    let fields = c.args.fields.now in
    let end : length fields ≤ c.loop-k.k = omega (arith, c.loop-k-test.false) in
    let past : slice_get fields c.loop-k.k ≡ None = slice_get_past fields c.loop-k.k end in
    absurd cc

pub returns-clause-counts : goal.returns-clause-counts
returns-clause-counts g c = upto_end (world g.J.Judge.judgement c.args.graph.now) c.args.a c.args.fields.now c.args.n c.loop-k.k _ _ c.loop-k.invariant.1
