use Rattle.std.proofs.Common.{◌≡◌, ◌++◌, ◌∷◌, [], Some, take, get_or, slice_get, ap, arith, sym, subst, ◌∙◌}
use Rattle.std.specs.List.{All, Contains}
use Rattle.std.proofs.lemmas.List.{take_all}
use Rattle.std.proofs.lemmas.List.Elements.{All-more, All-weaker, Contains-append_left, Contains-push}
use Rattle.std.proofs.lemmas.Option.{get_or_from_slice_get, slice_get_within}
use Rattle.merge_sets.specs.declared.node.Entry.{Entry}
use Rattle.merge_sets.proofs.OneName.{no_entry}
use Rattle.merge_certificates.proofs.below.entries_at.Goals as goal
use Rattle.merge_certificates.proofs.below.entries_at.Goals.{then-place-fields+in_ok-push, else-place-fields}

pub loop-place-preserved : goal.loop-place-preserved
loop-place-preserved c =
    let fields = c.args.fields.now in
    let places = c.args.places.now in
    let n = c.loop-place.place-index in
    let old = c.loop-place.entries.items in
    let k = get_or places n 0 in
    elim c.if-place-fields.branch [
      | then-place-fields+in_ok-push w ↦
          let new = c.if-place-fields.entries.items in
          let a = get_or fields k no_entry in
          let is : new ≡ old ++ a ∷ [] = ap (λ v. v.items) w.entries-is ∙ w.in_ok-push.ensures.items in
          All-more (λ m. (b : Entry) → slice_get fields m ≡ Some b → Contains new b) places n 0 c.loop-place-test.true
          (All-weaker (λ m. (b : Entry) → slice_get fields m ≡ Some b → Contains old b) (λ m. (b : Entry) → slice_get fields m ≡ Some b → Contains new b)
          (λ m h b p. subst (λ zs. Contains zs b) (sym is) (Contains-append_left old (a ∷ []) b (h b p))) (take n places) c.loop-place.invariant)
          (λ b p. subst (λ zs. Contains zs b) (sym is) (subst (λ (x : Entry). Contains (old ++ a ∷ []) x) (get_or_from_slice_get fields k b no_entry p) (Contains-push old a)))
      | else-place-fields w ↦
          let new = c.if-place-fields.entries.items in
          let is : new ≡ old = ap (λ v. v.items) w.entries-is in
          All-more (λ m. (b : Entry) → slice_get fields m ≡ Some b → Contains new b) places n 0 c.loop-place-test.true
          (subst (λ zs. All (λ m. (b : Entry) → slice_get fields m ≡ Some b → Contains zs b) (take n places)) (sym is) c.loop-place.invariant)
          (λ b p. absurd (omega (arith, slice_get_within fields k b p, w.if-place-fields.false)))
    ]

pub returns : goal.returns
returns c = subst (λ zs. All (λ k. (a : Entry) → slice_get c.args.fields.now k ≡ Some a → Contains c.loop-place.entries.items a) zs) (take_all c.loop-place.place-index c.args.places.now c.loop-place-test.false) c.loop-place.invariant
