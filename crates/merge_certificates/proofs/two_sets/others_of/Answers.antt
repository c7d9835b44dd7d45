use Rattle.std.proofs.Common.{◌≡◌, ◌<◌, ◌≤◌, ℕ, Some, drop, get_or, length, refl, rules, slice_get, subst, sym}
use Rattle.std.specs.List.{Contains}
use Rattle.std.proofs.lemmas.List.Elements.{All-weaker, Contains-get_or}
use Rattle.merge_sets.specs.declared.node.Entry.{Entry}
use Rattle.merge_certificates.specs.Below.{KnowsPairs}
use Rattle.merge_sets.specs.Clear.{IsSumWithin}
use Rattle.merge_certificates.specs.TwoSets.{rights_of}
use Rattle.merge_sets.specs.World.{world}
use Rattle.merge_sets.proofs.InOrder.{in_drop, drop_places}
use Rattle.merge_certificates.proofs.two_sets.others_of.Goals as goal

pub returns-clause-others : goal.returns-clause-others
returns-clause-others g c a knows at =
    let v = world g.J.Judge.judgement c.args.graph.now in
    let e = c.args.e in
    let rows = c.args.rows.now in
    let fields = rows.fields.items in
    let n = length rows.left.items in
    let others = c.in_ok-others.others.items in
    let is = c.as_slice.ensures.value in
    let same : c.len.result ≡ n = search rules in
    let pairs = subst (λ xs. KnowsPairs v e xs rows.below rows.numbered) (sym is) knows.pairs in
    record {
      all = λ m d h.
          let b = get_or (rights_of rows) m d in
          let z = drop_places fields n b (Contains-get_or (rights_of rows) m d h) in
          c.in_ok-others.ensures.rest pairs z.0 a b (subst (λ (i : ℕ). i ≤ z.0) (sym same) z.1)
          (subst (λ xs. slice_get xs c.args.k ≡ Some a) (sym is) (knows.first c.args.k a at)) (subst (λ xs. slice_get xs z.0 ≡ Some b) (sym is) z.2);
      only = All-weaker (λ (b : Entry). (l : ℕ) × (c.len.result ≤ l) × (slice_get c.as_slice.result.now l ≡ Some b)) (λ (b : Entry). Contains (rights_of rows) b)
          (λ b z. in_drop fields n z.0 b (subst (λ (i : ℕ). i ≤ z.0) same z.1) (subst (λ xs. slice_get xs z.0 ≡ Some b) is z.2)) others c.in_ok-others.ensures.only;
    }

pub returns-clause-once : goal.returns-clause-once
returns-clause-once g c =
    let rows = c.args.rows.now in
    let same : c.len.result ≡ length rows.left.items = search rules in
    subst (λ xs. IsSumWithin c.in_ok-others.others.items (drop (length rows.left.items) xs)) c.as_slice.ensures.value
    (subst (λ (n : ℕ). IsSumWithin c.in_ok-others.others.items (drop n c.as_slice.result.now)) same c.in_ok-others.ensures.once)

pub returns-clause-ticks : goal.returns-clause-ticks
returns-clause-ticks g c unclear less =
    let rows = c.args.rows.now in
    let same : c.len.result ≡ length rows.left.items = search rules in
    c.in_ok-others.ensures.ticks refl
    (subst (λ xs. length c.in_ok-others.others.items < length (drop c.len.result xs)) (sym c.as_slice.ensures.value)
    (subst (λ (n : ℕ). length c.in_ok-others.others.items < length (drop n rows.fields.items)) (sym same) less))
