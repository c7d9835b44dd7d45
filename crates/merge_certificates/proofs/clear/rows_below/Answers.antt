use Rattle.std.proofs.Common.{◌≡◌, ◌+◌, ◌++◌, ◌∙◌, Some, ap, arith, get_or, length, length-append, slice_get, subst, sym}
use Rattle.std.proofs.lemmas.Result.{IfOk-weaker}
use Rattle.bit_matrix.specs.Set.{has}
use Rattle.merge_sets.proofs.Laws.{clash}
use Rattle.merge_sets.specs.World.{world}
use Rattle.merge_certificates.proofs.Touching.{left_of, right_of}
use Rattle.merge_certificates.proofs.clear.rows_below.Goals as goal

pub returns-clause-rows : goal.returns-clause-rows
returns-clause-rows g c =
    let v = world g.J.Judge.judgement c.args.graph.now in
    let left = c.args.left.now in
    let right = c.args.right.now in
    let is : c.as_slice.result.now ≡ left ++ right = c.as_slice.ensures.value ∙ (c.in_ok-extend_from_slice.ensures.items ∙ ap (λ zs. zs ++ right) c.in_ok-fields.ensures.items) in
    IfOk-weaker c.rows_apart.result _ _
    (λ rows apart k a p h m d less.
    let at = subst (λ zs. slice_get zs k ≡ Some a) (sym is) (left_of left right k a p) in
    let to = subst (λ zs. slice_get zs (length left + m) ≡ Some (get_or right m d)) (sym is) (right_of left right m d less) in
    c.in_ok-touched.ensures.knows k (length left + m) a (get_or right m d) (apart k (length left + m) h (omega arith) (omega (arith, less, c.len.ensures, c.as_slice.ensures.len, ap length is, length-append left right))) at to)
    c.rows_apart.ensures

pub returns-then-saturating_mul-lt-MANY-clause-rows : goal.returns-then-saturating_mul-lt-MANY-clause-rows
returns-then-saturating_mul-lt-MANY-clause-rows g c = λ k a p h. absurd (clash (has c.new.result k) h (c.new.ensures k))
