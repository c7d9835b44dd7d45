use Rattle.std.proofs.Common.{◌≡◌, ◌+◌, ◌≤◌, ℕ, Some, arith, drop, get_or, slice_get}
use Rattle.std.specs.List.{Contains}
use Rattle.std.proofs.lemmas.List.Elements.{All-weaker, Contains-get_or}
use Rattle.merge_sets.specs.declared.node.Entry.{Entry}
use Rattle.merge_sets.proofs.InOrder.{drop_places, in_drop}
use Rattle.merge_search.proofs.Budgets.{asks_upto, counts_one}
use Rattle.merge_tops.proofs.asking.ask_later.Goals as goal

pub returns-clause-others : goal.returns-clause-others
returns-clause-others g c a at =
    let xs = c.args.fields.now in
    let k = c.args.k in
    let ys = drop (k + 1) xs in
    record {
      all = λ m d h.
          let z = drop_places xs (k + 1) (get_or ys m d) (Contains-get_or ys m d h) in
          c.in_ok-others.ensures.rest c.requires.pairs z.0 a (get_or ys m d) z.1 at z.2;
      only = All-weaker (λ (b : Entry). (l : ℕ) × (k + 1 ≤ l) × (slice_get xs l ≡ Some b)) (λ (b : Entry). Contains ys b) (λ b z. in_drop xs (k + 1) z.0 b z.1 z.2)
          c.in_ok-others.others.items c.in_ok-others.ensures.only;
    }

pub returns-clause-counts : goal.returns-clause-counts
returns-clause-counts g c = asks_upto _ _ _ _ c.count_fields.ensures (omega arith)

pub returns-clause-ticks : goal.returns-clause-ticks
returns-clause-ticks g c = λ listed less. counts_one _ _ _ c.count_fields.ensures (omega (arith, c.in_ok-others.ensures.ticks listed less))
