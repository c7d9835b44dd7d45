use Rattle.std.proofs.Common.{◌≡◌, true, take, subst, arith}
use Rattle.std.specs.List.{All, Contains}
use Rattle.std.proofs.lemmas.List.{take_all, length-take}
use Rattle.std.proofs.lemmas.List.Elements.{All-more, All-weaker}
use Rattle.bit_matrix.specs.Set.{has}
use Rattle.merge_sets.specs.declared.node.Entry.{Entry}
use Rattle.merge_sets.proofs.OneName.{no_entry}
use Rattle.merge_certificates.proofs.touched.add_names.Goals as goal

pub loop-field-init : goal.loop-field-init
loop-field-init c = (λ n h. h, λ k d l. absurd (omega (arith, length-take 0 c.args.fields.now, l)))

pub loop-field-preserved : goal.loop-field-preserved
loop-field-preserved c =
    let fields = c.args.fields.now in
    let names = c.args.names.now in
    let old = c.loop-field.found.items in
    let new = c.add_name.new.found.items in
    let k = c.loop-field.field-index in (
      λ n h. c.in_ok-add_name.ensures.kept n (c.loop-field.invariant.0 n h),
      All-more (λ (y : Entry). has names y.response ≡ true → Contains new y.response) fields k no_entry c.loop-field-test.true
          (All-weaker (λ (y : Entry). has names y.response ≡ true → Contains old y.response) (λ (y : Entry). has names y.response ≡ true → Contains new y.response)
          (λ y h is. c.in_ok-add_name.ensures.kept y.response (h is)) (take k fields) c.loop-field.invariant.1) c.in_ok-add_name.ensures.added,
    )

pub returns : goal.returns
returns c = record {
  kept = c.loop-field.invariant.0;
  added = subst (λ zs. All (λ (y : Entry). has c.args.names.now y.response ≡ true → Contains c.loop-field.found.items y.response) zs)
      (take_all c.loop-field.field-index c.args.fields.now c.loop-field-test.false) c.loop-field.invariant.1;
}
