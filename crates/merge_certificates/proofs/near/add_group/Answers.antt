use Rattle.std.proofs.Common.{◌≡◌, true, arith, get_or, subst, take}
use Rattle.std.specs.List.{All}
use Rattle.std.proofs.lemmas.List.{length-take, take_all}
use Rattle.std.proofs.lemmas.List.Elements.{All-more, All-weaker}
use Rattle.bit_matrix.specs.Set.{has}
use Rattle.merge_sets.specs.declared.node.Entry.{Entry}
use Rattle.merge_sets.proofs.Marks.{stays}
use Rattle.merge_sets.proofs.OneName.{no_entry}
use Rattle.merge_certificates.proofs.near.add_group.Goals as goal

pub loop-field-init : goal.loop-field-init
loop-field-init c = (λ n h. h, λ k d l. absurd (omega (arith, length-take 0 c.args.group.now, l)))

pub loop-field-preserved : goal.loop-field-preserved
loop-field-preserved c =
    let old = c.loop-field.rows in
    let new = c.insert.new.self in
    let group = c.args.group.now in
    let k = c.loop-field.field-index in
    let one = c.in_ok-insert.ensures in
    let kept = stays old new (get_or group k no_entry).field one.there one.others in (
      λ n h. kept n (c.loop-field.invariant.0 n h),
      All-more (λ (a : Entry). has new a.field ≡ true) group k no_entry c.loop-field-test.true
          (All-weaker (λ (a : Entry). has old a.field ≡ true) (λ (a : Entry). has new a.field ≡ true) (λ a h. kept a.field h) (take k group) c.loop-field.invariant.1) one.there,
    )

pub returns : goal.returns
returns c = record {
  kept = c.loop-field.invariant.0;
  added = subst (λ zs. All (λ (a : Entry). has c.loop-field.rows a.field ≡ true) zs) (take_all c.loop-field.field-index c.args.group.now c.loop-field-test.false) c.loop-field.invariant.1;
}
