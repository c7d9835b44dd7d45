use Rattle.std.proofs.Common.{◌≡◌, ◌==◌, ◌<◌, List, [], ◌∷◌, length, arith, sym, subst, true, false}
use Rattle.std.specs.List.{All, Contains, list_any}
use Rattle.std.proofs.lemmas.List.Elements.{All-contains, All-nil, All-weaker}
use Rattle.std.proofs.lemmas.List.Folds.{list_any_none}
use Rattle.std.proofs.lemmas.Result.{on_ok_weaker}
use Rattle.merge_sets.specs.declared.node.Entry.{Entry}
use Rattle.merge_sets.specs.Names.{AreListed}
use Rattle.merge_sets.specs.World.{world, own_of}
use Rattle.merge_tops.specs.Tops.{AtSpreads, AreAllBut}
use Rattle.merge_search.proofs.Adding.{adds_none}
use Rattle.merge_sets.proofs.Laws.{clash}
use Rattle.merge_search.proofs.Work.{did_none, did_map}
use Rattle.merge_tops.proofs.Unmarked.{all_written, told_written}
use Rattle.merge_tops.proofs.top.write_own.Goals as goal

-- where no first is listed there is no field
no_field : (firsts : List Entry) (own : List Entry) → AreListed firsts own → length firsts ≡ 0 → (a : Entry) → Contains own a → ⊥
no_field [] own h e a c = clash (list_any (λ (f : Entry). a.response == f.response) []) (All-contains (λ x. list_any (λ (f : Entry). x.response == f.response) [] ≡ true) own a h c) (list_any_none (λ (f : Entry). a.response == f.response) [] (All-nil _))
no_field (f ∷ fs) own h e a c = absurd (omega (arith, e))

pub returns-then-is_empty-clause-done : goal.returns-then-is_empty-clause-done
returns-then-is_empty-clause-done g c =
    let v = world g.J.Judge.judgement c.args.graph.now in
    let empty : length c.firsts.result.now ≡ 0 = grind (arith, c.is_empty.ensures, c.if-is_empty.true) in
    did_none v _ c.args.search.now (λ M grown k d l a b own stands same. absurd (no_field c.firsts.result.now (own_of v c.args.s) c.firsts.ensures.listed empty a own))

pub returns-then-is_empty-clause-real : goal.returns-then-is_empty-clause-real
returns-then-is_empty-clause-real g c =
    let v = world g.J.Judge.judgement c.args.graph.now in
    let empty : length c.firsts.result.now ≡ 0 = grind (arith, c.is_empty.ensures, c.if-is_empty.true) in
    record {
      adds = adds_none v false (AtSpreads v c.args.s c.args.list.now) c.args.search.now.found.items;
      tells = λ room r at fails. absurd (no_field c.firsts.result.now (own_of v c.args.s) c.firsts.ensures.listed empty r.left at.2.0);
    }

pub write_out-requires : goal.write_out-requires
write_out-requires g c =
    let n = length c.args.graph.now.fragments.items in
    subst (λ zs. All (λ k. k < n) zs) (sym c.as_slice.ensures.value)
    (All-weaker (λ k. Contains c.args.list.now k) (λ k. k < n) (λ k there. All-contains (λ k. k < n) c.args.list.now k c.requires.list there) c.in_ok-others.others.items c.in_ok-others.ensures.only)

pub returns : goal.returns
returns g c =
    let v = world g.J.Judge.judgement c.args.graph.now in
    let s = c.args.s in
    let list = c.args.list.now in
    let but : AreAllBut v list list c.as_slice.result.now = subst (λ zs. AreAllBut v list list zs) (sym c.as_slice.ensures.value) c.in_ok-others.ensures in
    record {
      done = on_ok_weaker c.write_out.result (λ d. did_map v _ _ (λ M all. all_written v M s list c.as_slice.result.now but all) d) c.write_out.ensures.done;
      real = on_ok_weaker c.write_out.result (λ d. told_written v s list c.as_slice.result.now but d) c.write_out.ensures.real;
      spends = c.write_out.ensures.spends;
      counts = c.write_out.ensures.counts;
    }
