use Rattle.std.proofs.Common.{◌≡◌, true, take, subst}
use Rattle.std.specs.List.{All, Contains}
use Rattle.std.proofs.lemmas.List.{take_all}
use Rattle.std.proofs.lemmas.List.Elements.{All-contains, All-more, All-weaker}
use Rattle.bit_matrix.specs.Set.{has}
use Rattle.merge_sets.specs.declared.node.Entry.{Entry}
use Rattle.merge_sets.proofs.OneName.{no_entry}
use Rattle.merge_sets.proofs.plain_names.add_own.Goals as goal

pub loop-field-preserved : goal.loop-field-preserved
loop-field-preserved g c =
    let marked = c.args.marked.now in
    let fields = c.own-field-items.result.now in
    let old = c.loop-field.fields.items in
    let new = c.add_marked.new.fields.items in (
      c.loop-field.invariant.0,
      All-more (λ (a : Entry). has marked a.response ≡ true → Contains new a) fields c.loop-field.field-index no_entry c.loop-field-test.true
          (All-weaker (λ (a : Entry). has marked a.response ≡ true → Contains old a) (λ (a : Entry). has marked a.response ≡ true → Contains new a)
          (λ a there h. c.in_ok-add_marked.ensures.kept a (there h)) (take c.loop-field.field-index fields) c.loop-field.invariant.1)
          c.in_ok-add_marked.ensures.there,
      λ a p. c.in_ok-add_marked.ensures.kept a (c.loop-field.invariant.2 a p),
    )

pub returns-clause-there : goal.returns-clause-there
returns-clause-there g c = λ a p.
    let all : All (λ (a : Entry). has c.args.marked.now a.response ≡ true → Contains c.loop-field.fields.items a) c.own-field-items.result.now =
    subst (λ zs. All (λ (a : Entry). has c.args.marked.now a.response ≡ true → Contains c.loop-field.fields.items a) zs) (take_all c.loop-field.field-index c.own-field-items.result.now c.loop-field-test.false) c.loop-field.invariant.1 in
    All-contains (λ (a : Entry). has c.args.marked.now a.response ≡ true → Contains c.loop-field.fields.items a) _ a (subst (λ zs. All (λ (a : Entry). has c.args.marked.now a.response ≡ true → Contains c.loop-field.fields.items a) zs) c.loop-field.invariant.0 all) p

pub returns-clause-kept : goal.returns-clause-kept
returns-clause-kept g c = c.loop-field.invariant.2
