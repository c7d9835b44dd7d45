use Rattle.std.proofs.Common.{◌≡◌, ◌<◌, ◌∙◌, Some, length, refl, sym, ap, slice_get, arith}
use Rattle.std.proofs.lemmas.Option.{slice_get-get_or, slice_get_within}
use Rattle.merge_sets.specs.declared.node.InnerSet.{InnerSet}
use Rattle.merge_set_table.proofs.Lists.{same_some, set_past, set_length}
use Rattle.merge_set_table.proofs.steps.end_part.Goals as goal

-- no part has that place
pub returns-then-place-len : goal.returns-then-place-len
returns-then-place-len c =
    let old = c.args.part.now in
    let part : InnerSet = record { outer = 0; first_field = 0; fields_end = length old.own.items; first_spread = 0; spreads_end = 0; next = 0 } in
    record {
      same = record { own = refl; spreads = refl; inner = omega arith };
      part = part;
      first = λ begun at. absurd (omega (arith, slice_get_within old.inner.items c.args.place begun at, old.inner.ok.0));
      end = refl;
      inner = sym (set_past old.inner.items c.args.place part (omega (arith, old.inner.ok.0)));
    }

pub returns : goal.returns
returns c =
    let old = c.args.part.now in
    let begun = c.index-begun.result.now in
    let low : c.args.place < length old.inner.items = omega (arith, old.inner.ok.0) in
    let stands : slice_get old.inner.items c.args.place ≡ Some begun = slice_get-get_or old.inner.items c.args.place begun low ∙ ap (λ x. Some x) (sym c.index-begun.ensures) in
    record {
      same = record { own = refl; spreads = refl; inner = set_length old.inner.items c.args.place _ ∙ omega arith };
      part = record { outer = 0; first_field = begun.first_field; fields_end = c.len-2.result; first_spread = begun.first_spread; spreads_end = c.len-3.result; next = c.len-4.result };
      first = λ other at. ap (λ (i : InnerSet). i.first_field) (same_some begun other (sym stands ∙ at));
      end = omega (arith, c.len-2.ensures, old.own.ok.0);
      inner = refl;
    }
