use Rattle.std.proofs.Common.{◌≡◌, ◌++◌, ap, arith, inl, inr, length, subst, sym, ◌∙◌}
use Rattle.std.proofs.lemmas.List.Prefix.{front_rest}
use Rattle.merge_certificates.specs.Below.{IsIndexed, KnowsBelow}
use Rattle.merge_sets.specs.Clear.{AreClearRows, AreLeaves}
use Rattle.merge_certificates.specs.Failing.{StandFor}
use Rattle.merge_sets.specs.World.{world}
use Rattle.merge_certificates.proofs.ClearLists.{begin_with}
use Rattle.merge_certificates.proofs.two_sets.rows_of.Goals as goal

pub returns-clause-knows : goal.returns-clause-knows
returns-clause-knows g c =
    let v = world g.J.Judge.judgement c.args.graph.now in
    let e = c.args.e in
    let left = c.args.left.now in
    let right = c.args.right.now in
    let rows = c.in_ok-rows.rows.items in
    let fields = c.extend_from_slice.new.self.items in
    let rows_are : rows ≡ left = c.in_ok-rows.ensures.items in
    let whole : fields ≡ rows ++ right = c.in_ok-extend_from_slice.ensures.items ∙ ap (λ xs. xs ++ right) (c.in_ok-fields.ensures.items ∙ sym rows_are) in
    record {
      first = begin_with rows right fields whole;
      clear = subst (λ ys. AreClearRows v e rows ys c.args.clear) (sym (front_rest fields rows right whole)) (subst (λ xs. AreClearRows v e xs right c.args.clear) (sym rows_are) c.requires);
      pairs = record {
        below = subst (λ xs. KnowsBelow v e xs c.in_ok-below.below) c.as_slice.ensures.value c.in_ok-below.ensures.knows;
        indexed = subst (λ xs. IsIndexed c.in_ok-below.below (length xs)) c.as_slice.ensures.value c.in_ok-below.ensures.indexed;
        kinds = subst (λ xs. StandFor v.judgement c.in_ok-numbered.numbered.kinds.items xs c.in_ok-numbered.numbered.numbers.items) c.as_slice-2.ensures.value c.in_ok-numbered.ensures.stand;
      };
    }

pub returns-clause-below : goal.returns-clause-below
returns-clause-below g c knows = elim (c.in_ok-below.ensures.ticks knows) [
  | inl leaves ↦ inl (subst (λ zs. AreLeaves zs) c.as_slice.ensures.value leaves)
  | inr moved ↦ inr (omega (arith, moved, c.numbered_kinds.ensures.spent))
]

pub returns-clause-kinds : goal.returns-clause-kinds
returns-clause-kinds g c told = omega (arith, c.in_ok-numbered.ensures.ticks told, c.known_below.ensures.spent)
