use Rattle.std.proofs.Common.{◌≡◌, ◌+◌, ◌-◌, ◌<◌, ◌≤◌, ℕ, Bool, true, false, length, arith, drop, get_or, refl, reverse, subst, sym}
use Rattle.std.specs.Bool.{OnTrue}
use Rattle.std.proofs.lemmas.Option.{slice_get-get_or}
use Rattle.std.proofs.lemmas.List.Elements.{Contains-get_or}
use Rattle.bit_matrix.specs.Set.{has}
use Rattle.merge_sets.specs.declared.node.Entry.{Entry}
use Rattle.merge_search.specs.Reports.{AtWith}
use Rattle.merge_search.specs.Tasks.{AtRows, ComparesEach, MeetsWith, Waits, WithDone}
use Rattle.merge_sets.proofs.OneName.{no_entry}
use Rattle.merge_search.proofs.Leading.{leads_next, waits_none}
use Rattle.merge_search.proofs.Steps.{drop_end, drop_next, each_none, each_next}
use Rattle.std.specs.Prelude.{sum_by}
use Rattle.std.proofs.lemmas.List.Sums.{sum_by-drop_more}
use Rattle.merge_search.specs.Spending.{CostsMore, row_cost, tasks_cost}
use Rattle.merge_search.proofs.fields.wait_rows.Goals as goal

pub loop-k-init : goal.loop-k-init
loop-k-init c = (
  omega arith,
  λ w clear.
      let e = c.args.e in
      let j = c.args.j in
      let xs = c.args.fields.now in
      waits_none w _ _ (λ s. each_none w e (WithDone w e j) (AtRows w j xs) (λ a. AtWith w a j) _ s (drop_end xs xs _ refl (omega arith))),
  λ w. record { most = omega arith },
)

told : {P : Type 0} (b x : Bool) → b ≡ x → (x ≡ true → P) → OnTrue b P
told true x is f = f (sym is)
told false x is f = tt

pub loop-k-preserved : goal.loop-k-preserved
loop-k-preserved c = (
  omega (arith, c.loop-k.invariant.0),
  λ w clear.
      let e = c.args.e in
      let j = c.args.j in
      let xs = c.args.fields.now in
      let n = c.loop-k.k - 1 in
      let is : c.loop-k.k ≡ n + 1 = omega (arith, c.loop-k-test.true) in
      let less : n < length xs = omega (arith, c.loop-k-test.true, c.loop-k.invariant.0) in
      let a : Entry = get_or xs n no_entry in
      let one = c.in_ok-wait_with.ensures.waits w (told c.contains.result (has c.args.clear.now n) c.contains.ensures (clear n a (slice_get-get_or xs n no_entry less))) in
      let more = subst (λ (m : ℕ). Waits w (reverse c.loop-k.tasks.items) (ComparesEach w e (WithDone w e j) (AtRows w j xs) (λ a. AtWith w a j) (drop m xs)) (reverse c.args.tasks.now.items)) is (c.loop-k.invariant.1 w clear) in
      λ now. leads_next w (MeetsWith w e a j) (ComparesEach w e (WithDone w e j) (AtRows w j xs) (λ a. AtWith w a j) (drop (n + 1) xs)) (ComparesEach w e (WithDone w e j) (AtRows w j xs) (λ a. AtWith w a j) (drop n xs))
      (reverse c.wait_with.new.tasks.items) (reverse c.loop-k.tasks.items) (reverse c.args.tasks.now.items) now now
      (λ t u first rest. each_next w e (WithDone w e j) (AtRows w j xs) (AtWith w a j) (λ a. AtWith w a j) a (drop (n + 1) xs) (drop n xs) now t u
      (drop_next xs xs n no_entry refl less) (λ r z. (a, Contains-get_or xs n no_entry less, z)) first rest)
      more (one now),
  λ w.
      let xs = c.args.fields.now in
      let n = c.loop-k.k - 1 in
      let is : c.loop-k.k ≡ n + 1 = omega (arith, c.loop-k-test.true) in
      let less : n < length xs = omega (arith, c.loop-k-test.true, c.loop-k.invariant.0) in
      record {
        most = omega (
          arith,
          sum_by-drop_more (row_cost w c.args.j) xs n no_entry less,
          (c.in_ok-wait_with.ensures.costs w).most,
          subst (λ (m : ℕ). tasks_cost w c.loop-k.tasks.items ≤ tasks_cost w c.args.tasks.now.items + sum_by (row_cost w c.args.j) (drop m xs)) is (c.loop-k.invariant.2 w).most,
        );
      },
)

pub returns-clause-waits : goal.returns-clause-waits
returns-clause-waits c w clear =
    let e = c.args.e in
    let j = c.args.j in
    let xs = c.args.fields.now in
    let zero_is : c.loop-k.k ≡ 0 = omega (arith, c.loop-k-test.false) in
    subst (λ (m : ℕ). Waits w (reverse c.loop-k.tasks.items) (ComparesEach w e (WithDone w e j) (AtRows w j xs) (λ a. AtWith w a j) (drop m xs)) (reverse c.args.tasks.now.items)) zero_is (c.loop-k.invariant.1 w clear)

pub returns-clause-costs : goal.returns-clause-costs
returns-clause-costs c w =
    let zero_is : c.loop-k.k ≡ 0 = omega (arith, c.loop-k-test.false) in
    subst (λ (m : ℕ). CostsMore w (sum_by (row_cost w c.args.j) (drop m c.args.fields.now)) c.args.tasks.now.items c.loop-k.tasks.items) zero_is (c.loop-k.invariant.2 w)
