-- Sets of names that grow, and variables that aren't used.
use Rattle.std.proofs.Common.{◌≡◌, ◌⊎◌, inl, inr, ℕ, List, [], ◌∷◌, ◌++◌, map, refl, sym, subst, ap, ◌∙◌, arith, ◌≤◌, Bool, true, false, cond, ◌||◌}
use denote.Ref.{Bor}
use Rattle.std.specs.BTreeSet.{BTreeSet}
use Rattle.std.specs.List.{Contains}
use Rattle.std.specs.Str.{bytes_eq}
use Rattle.std.proofs.lemmas.List.Folds.{list_any-append}
use Rattle.std.proofs.lemmas.List.Elements.{Contains-append_left, Contains-push, Contains-push_cases}
use Rattle.operation_scopes.proofs.Once.{once_push}
use Rattle.std.proofs.lemmas.List.{map-append}
use Rattle.variable_usages.specs.declared.uses.VariableUse.{VariableUse}
use Rattle.language_types.specs.Position.{index_of}
use Rattle.language_types.specs.declared.position.Span.{Span}
use Rattle.language_types.specs.declared.position.Spanning.{Spanning}
use Rattle.language.specs.declared.tree.Operation.{Operation}
use Rattle.language.specs.declared.tree.VariableDefinition.{VariableDefinition}
use Rattle.variable_usages.specs.Uses.{Uses, use_of}
use Rattle.variable_usages.specs.Names.{AddsUse, HasNames, NameAndSpan, defined_variables, has_name, is_among, variable_list}
use Rattle.variable_usages.specs.Unused.{AddsVariable, StartBy, UnusedAmong}

or_other : (b c : Bool) → cond b true c ≡ (c || (b || false))
or_other true true = refl
or_other true false = refl
or_other false true = refl
or_other false false = refl

-- a name more
pub names_next : (names more : List (List ℕ)) (name : List ℕ) (old new : BTreeSet (Bor (List ℕ))) → more ≡ names ++ name ∷ [] → HasNames old names
    → ((other : List ℕ) → has_name new other ≡ cond (bytes_eq name other) true (has_name old other)) → HasNames new more
names_next names more name old new e h adds other =
    adds other ∙ ap (λ b. cond (bytes_eq name other) true b) (h other) ∙ or_other (bytes_eq name other) (is_among names other)
    ∙ sym (list_any-append (λ n. bytes_eq n other) names (name ∷ [])) ∙ ap (λ ns. is_among ns other) (sym e)

pub names_used : (us : List VariableUse) (u : VariableUse) (old new : BTreeSet (Bor (List ℕ))) → HasNames old (map (λ z. z.name) (map use_of us)) → AddsUse u old new
    → HasNames new (map (λ z. z.name) (map use_of (us ++ u ∷ [])))
names_used us u old new h a =
    names_next (map (λ z. z.name) (map use_of us)) (map (λ z. z.name) (map use_of (us ++ u ∷ []))) u.name.now old new
    (ap (map (λ z. z.name)) (map-append use_of us (u ∷ [])) ∙ map-append (λ z. z.name) (map use_of us) (use_of u ∷ [])) h a.adds

pub true_false : (b : Bool) → b ≡ true → b ≡ false → ⊥
true_false b h k = cc

module _ (used : List ℕ → Bool) where
  module _ (variables found : List NameAndSpan) (v : NameAndSpan) (u : UnusedAmong used variables found) where
    kept : (p : NameAndSpan) → Contains found p → Contains (variables ++ v ∷ []) p × (used p.0 ≡ false)
    kept p c = let r = (u.are p).0 c in (Contains-append_left variables (v ∷ []) p r.0, r.1)

    same_on : (used v.0 ≡ true) ⊎ Contains found v → UnusedAmong used (variables ++ v ∷ []) found
    same_on why = record {
      once = u.once;
      are = λ p. (
        kept p,
        λ (c, unused). elim (Contains-push_cases variables v p c) [
          | inl before ↦ (u.are p).1 (before, unused)
          | inr e ↦ elim why [
            | inl is ↦ absurd (true_false (used v.0) is (ap (λ z. used z.0) e ∙ unused))
            | inr there ↦ subst (Contains found) e there
          ]
        ],
      );
    }

    more_on : used v.0 ≡ false → (Contains found v → ⊥) → UnusedAmong used (variables ++ v ∷ []) (found ++ v ∷ [])
    more_on unused new = record {
      once = once_push found v u.once new;
      are = λ p. (
        λ c. elim (Contains-push_cases found v p c) [
          | inl before ↦ kept p before
          | inr e ↦ subst (λ z. Contains (variables ++ v ∷ []) z × (used z.0 ≡ false)) e (Contains-push variables v, unused)
        ],
        λ (c, free). elim (Contains-push_cases variables v p c) [
          | inl before ↦ Contains-append_left found (v ∷ []) p ((u.are p).1 (before, free))
          | inr e ↦ subst (Contains (found ++ v ∷ [])) e (Contains-push found v)
        ],
      );
    }

    pub unused_next : (more new : List NameAndSpan) → more ≡ variables ++ v ∷ [] → AddsVariable used v found new → UnusedAmong used more new
    unused_next more new e (inl (why, same)) = subst (λ vs. UnusedAmong used vs new) (sym e) (subst (UnusedAmong used (variables ++ v ∷ [])) (sym same) (same_on why))
    unused_next more new e (inr (unused, free, is)) = subst (λ vs. UnusedAmong used vs new) (sym e) (subst (UnusedAmong used (variables ++ v ∷ [])) (sym is) (more_on unused free))

-- none starts after a later index, and with one more variable none after the greater one
pub start_later : (a b : ℕ) (found : List NameAndSpan) → a ≤ b → StartBy a found → StartBy b found
start_later a b found l h v c = let early = h v c in omega (arith, early, l)

pub start_next : (latest : ℕ) (found : List NameAndSpan) (v : NameAndSpan) → StartBy latest found → index_of v.1.start ≤ latest → StartBy latest (found ++ v ∷ [])
start_next latest found v h l p c = elim (Contains-push_cases found v p c) [
  | inl before ↦ h p before
  | inr e ↦ subst (λ z. index_of z.1.start ≤ latest) e l
]

-- by the test of the names that are used, of the definitions of an operation
pub unused_in : {S : Type 0} (us : Uses) (o : Spanning (Operation S) Span) (found : List VariableUse) (set : BTreeSet (Bor (List ℕ))) (definitions : List (Spanning (Bor (List ℕ)) Span × VariableDefinition S)) (vs : List NameAndSpan)
    → definitions ≡ variable_list o → map use_of found ≡ us → HasNames set (map (λ u. u.name) (map use_of found)) → UnusedAmong (has_name set) (map (λ v. (v.0.item.now, v.0.span)) definitions) vs
    → UnusedAmong (is_among (map (λ u. u.name) us)) (defined_variables o) vs
unused_in us o found set definitions vs is same h u =
    let u' = subst (λ ds. UnusedAmong (has_name set) (map (λ v. (v.0.item.now, v.0.span)) ds) vs) is u in
    let test : (n : List ℕ) → has_name set n ≡ is_among (map (λ u. u.name) us) n = λ n. h n ∙ ap (λ zs. is_among (map (λ u. u.name) zs) n) same in
    record {
      once = u'.once;
      are = λ v. (
        λ c. let r = (u'.are v).0 c in (r.0, sym (test v.0) ∙ r.1),
        λ (c, free). (u'.are v).1 (c, test v.0 ∙ free),
      );
    }
