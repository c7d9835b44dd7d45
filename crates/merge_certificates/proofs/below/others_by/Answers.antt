use Rattle.std.proofs.Common.{◌≡◌, ◌⊎◌, ◌++◌, ◌∷◌, [], ◌+◌, ◌<◌, ◌≤◌, ℕ, Some, inl, inr, get_or, length, length-append, length-drop, slice_get, ap, arith, sym, subst, ◌∙◌}
use Rattle.std.specs.Prelude.{drop, sum_by}
use Rattle.std.specs.Bool.{OnTrue}
use Rattle.std.proofs.lemmas.List.Sums.{sum_by-drop_more, sum_by_push}
use Rattle.std.specs.Option.{IfSome}
use Rattle.std.specs.List.{All, Contains}
use Rattle.std.proofs.lemmas.Bool.{cases_eq}
use Rattle.std.proofs.lemmas.Option.{get_or_from_slice_get, slice_get-get_or, slice_get_within}
use Rattle.std.proofs.lemmas.List.Elements.{All-nil, All-push, Contains-append_left, Contains-push}
use Rattle.merge_sets.specs.declared.node.Entry.{Entry}
use Rattle.merge_certificates.specs.Below.{IsPassedAt}
use Rattle.merge_certificates.specs.Failing.{AgreesBy}
use Rattle.merge_certificates.specs.Near.{IsApartRow}
use Rattle.merge_sets.proofs.Laws.{is_leaf}
use Rattle.merge_sets.proofs.OneName.{no_entry}
use Rattle.merge_certificates.proofs.below.others_by.Goals as goal
use Rattle.merge_certificates.proofs.below.others_by.Goals.{then-not-is_passed+in_ok-push, else-not-is_passed}

pub loop-l-init : goal.loop-l-init
loop-l-init c = (
  λ near m b more less p. absurd (omega (arith, more, less)),
  subst (λ zs. All (λ (y : Entry). (m : ℕ) × (c.args.from ≤ m) × (slice_get c.args.fields.now m ≡ Some y)) zs) (sym c.new-others.ensures.items)
      (All-nil (λ (y : Entry). (m : ℕ) × (c.args.from ≤ m) × (slice_get c.args.fields.now m ≡ Some y))),
  λ f. subst (λ zs. sum_by f zs + sum_by f (drop c.args.from c.args.fields.now) ≤ sum_by f (drop c.args.from c.args.fields.now)) (sym c.new-others.ensures.items) (omega arith),
  λ none. omega arith,
)

pub loop-l-preserved : goal.loop-l-preserved
loop-l-preserved c =
    let fields = c.args.fields.now in
    let k = c.args.k in
    let n = c.loop-l.l in
    let passed = IsPassedAt c.args.below.now c.args.numbers.now c.args.agreeing.now k in
    let row = IfSome c.args.near.now (IsApartRow c.args.below.now.touched k (length fields)) in
    let old = c.loop-l.others.items in
    let new = c.if-not-is_passed.others.items in
    let past : (m : ℕ) → m < n + 1 → (m ≡ n → ⊥) → m < n = λ m less apart. omega (arith, less, apart) in
    elim c.if-not-is_passed.branch [
      | then-not-is_passed+in_ok-push w ↦
          let a = get_or fields n no_entry in
          let is : new ≡ old ++ a ∷ [] = ap (λ v. v.items) w.others-is ∙ w.in_ok-push.ensures.items in (
            λ near m b more less p. elim (cases_eq m n) [
              | inl same ↦ inl (subst (λ zs. Contains zs b) (sym is) (subst (λ (x : Entry). Contains (old ++ a ∷ []) x) (ap (λ (i : ℕ). get_or fields i no_entry) (sym same) ∙ get_or_from_slice_get fields m b no_entry p) (Contains-push old a)))
              | inr apart ↦ elim (c.loop-l.invariant.0 near m b more (past m less apart) p) [
                | inl there ↦ inl (subst (λ zs. Contains zs b) (sym is) (Contains-append_left old (a ∷ []) b there))
                | inr so ↦ inr so
              ]
            ],
            subst (λ zs. All (λ (y : Entry). (m : ℕ) × (c.args.from ≤ m) × (slice_get fields m ≡ Some y)) zs) (sym is)
                (All-push (λ (y : Entry). (m : ℕ) × (c.args.from ≤ m) × (slice_get fields m ≡ Some y)) old a c.loop-l.invariant.1 (n, omega (arith, c.loop-l.auto.l), slice_get-get_or fields n no_entry c.loop-l-test.true)),
            λ f. subst (λ zs. sum_by f zs + sum_by f (drop (n + 1) fields) ≤ sum_by f (drop c.args.from fields)) (sym is)
                (omega (arith, sum_by_push f old a, sum_by-drop_more f fields n no_entry c.loop-l-test.true, c.loop-l.invariant.2 f)),
            λ none. omega (arith, ap length is, length-append old (a ∷ []), c.loop-l.invariant.3 none),
          )
      | else-not-is_passed w ↦
          let is : new ≡ old = ap (λ v. v.items) w.others-is in (
            λ near m b more less p. elim (cases_eq m n) [
              | inl same ↦ inr (subst (λ (i : ℕ). passed i) (sym same) (subst (λ b. OnTrue b (row → passed n)) w.if-not-is_passed.false c.is_passed.ensures.passed near))
              | inr apart ↦ subst (λ zs. Contains zs b ⊎ passed m) (sym is) (c.loop-l.invariant.0 near m b more (past m less apart) p)
            ],
            subst (λ zs. All (λ (y : Entry). (m : ℕ) × (c.args.from ≤ m) × (slice_get fields m ≡ Some y)) zs) (sym is) c.loop-l.invariant.1,
            λ f. subst (λ zs. sum_by f zs + sum_by f (drop (n + 1) fields) ≤ sum_by f (drop c.args.from fields)) (sym is)
                (omega (arith, sum_by-drop_more f fields n no_entry c.loop-l-test.true, c.loop-l.invariant.2 f)),
            λ none. absurd (none n (subst (λ b. OnTrue b (AgreesBy c.args.numbers.now c.args.agreeing.now n)) w.if-not-is_passed.false c.is_passed.ensures.agrees)),
          )
    ]

pub returns-then-is_none-clause-every : goal.returns-then-is_none-clause-every
returns-then-is_none-clause-every c = λ none.
    absurd (none 0 (subst (λ o. AgreesBy c.args.numbers.now o 0) (sym (is_leaf c.args.agreeing.now c.if-is_none.ensures)) tt))

pub returns : goal.returns
returns c = record {
  rest = λ near l b more p. c.loop-l.invariant.0 near l b more (omega (arith, slice_get_within c.args.fields.now l b p, c.loop-l-test.false)) p;
  only = c.loop-l.invariant.1;
  once = λ f. omega (arith, c.loop-l.invariant.2 f);
  every = λ none. omega (arith, c.loop-l.invariant.3 none, length-drop c.args.from c.args.fields.now, c.loop-l-test.false);
}
