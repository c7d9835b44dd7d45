use Rattle.std.proofs.Common.{◌≡◌, ◌+◌, ◌∷◌, [], None, ap, arith, get_or, length, length-append, sym, ◌∙◌}
use Rattle.std.proofs.lemmas.List.{get_or_past}
use Rattle.merge_sets.specs.World.{world}
use Rattle.merge_certificates.proofs.Touching.{no_some, one_told}
use Rattle.merge_sets.proofs.OneName.{no_entry}
use Rattle.merge_certificates.proofs.touched.names_below_each.Goals as goal

pub loop-k-init : goal.loop-k-init
loop-k-init g c =
    let none = c.new-lists.ensures.items in (
      ap length none,
      λ m b v p told. absurd (no_some v (sym (ap (λ zs. get_or zs m None) none ∙ get_or_past [] m None (omega arith)) ∙ told)),
      omega arith,
    )

pub loop-k-preserved : goal.loop-k-preserved
loop-k-preserved g c =
    let v = world g.J.Judge.judgement c.args.graph.now in
    let fields = c.args.fields.now in
    let old = c.loop-k.lists.items in
    let one = c.in_ok-names_below.field-0 in
    let is = c.in_ok-push.ensures.items in
    let longer : length c.push.new.self.items ≡ c.loop-k.k + 1 = ap length is ∙ length-append old (one ∷ []) ∙ ap (λ n. n + 1) c.loop-k.invariant.0 in (
      longer,
      one_told v c.args.names.now fields no_entry old c.push.new.self.items one c.loop-k.k is c.loop-k.invariant.0 c.in_ok-names_below.ensures.names c.loop-k.invariant.1,
      omega (arith, c.loop-k.invariant.2, c.names_below.ensures.spent),
    )
