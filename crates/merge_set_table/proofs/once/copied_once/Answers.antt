use Rattle.std.proofs.Common.{◌≡◌, ◌+◌, Bool, take, get_or, true, false, not, refl, sym, subst, ◌∙◌}
use Rattle.bit_matrix.specs.Set.{has}
use Rattle.merge_set_table.specs.Once.{IsEachOnce}
use Rattle.merge_set_table.proofs.OnceLaws.{HaveBits, bits_more, bits_stay, once_step, once_stay}
use Rattle.merge_set_table.proofs.once.copied_once.Goals as goal
use Rattle.merge_set_table.proofs.once.copied_once.Goals.{then-branch+in_ok-push, else-branch}

is_new : (b : Bool) → true ≡ not b → b ≡ false
is_new false h = refl
is_new true h = cc

is_old : (b : Bool) → false ≡ not b → b ≡ true
is_old true h = refl
is_old false h = cc

pub loop-number-preserved : goal.loop-number-preserved
loop-number-preserved c =
    let xs = c.args.numbers.now in
    let i = c.loop-number.number-index in
    let old = c.loop-number.once.items in
    let n = get_or xs i 0 in
    let seen = c.loop-number.seen in
    let new = c.insert.new.self in
    let bits = c.loop-number.invariant.1 in
    elim c.if-branch.branch [
      | then-branch+in_ok-push w ↦
          (let absent : has seen n ≡ false = is_new (has seen n) (sym w.if-branch.true ∙ c.in_ok-insert.ensures.fresh) in
          subst (λ z. IsEachOnce (take (i + 1) xs) z.items × HaveBits new z.items) (sym w.once-is) (
            once_step xs i old _ c.loop-number-test.true c.loop-number.invariant.0 (sym (bits n) ∙ absent) w.in_ok-push.ensures.items,
            subst (λ zs. HaveBits new zs) (sym w.in_ok-push.ensures.items) (bits_more seen new old n bits c.in_ok-insert.ensures.there c.in_ok-insert.ensures.others),
          ))
      | else-branch w ↦
          (let there : has seen n ≡ true = is_old (has seen n) (sym w.if-branch.false ∙ c.in_ok-insert.ensures.fresh) in
          subst (λ z. IsEachOnce (take (i + 1) xs) z.items × HaveBits new z.items) (sym w.once-is) (
            once_stay xs i old c.loop-number-test.true c.loop-number.invariant.0 (sym (bits n) ∙ there),
            bits_stay seen new old n bits c.in_ok-insert.ensures.there c.in_ok-insert.ensures.others there,
          ))
    ]
