-- The first of each name that was met, by number.
use Rattle.std.proofs.Common.{◌≡◌, ◌↔◌, ◌<◌, ℕ, List, arith, get_or, length, vec_len, refl, ap, sym, subst, ◌∙◌, inl, inr, ◌⊎◌, Option, Some, None, Vec, slice_get, slice_set, Bool, true, false, ◌&&◌, ◌==◌}
use Rattle.std.specs.List.{All, Contains}
use Rattle.std.specs.declared.alloc.Global.{Global}
use Rattle.std.proofs.lemmas.Bool.{cases_eq, eq-eqb, eqb-true, true≢false}
use Rattle.std.proofs.lemmas.Option.{slice_get_read}
use Rattle.std.proofs.lemmas.List.Elements.{All-contains}
use Rattle.language_types.specs.declared.position.SourcePosition.{SourcePosition}
use Rattle.language_types.specs.declared.position.Span.{Span}
use Rattle.language.specs.declared.tree.Definition.{Definition}
use Rattle.language.specs.declared.tree.Definition.TheVariants as definition
use Rattle.fragment_graph.specs.declared.numbers.Numbers.{Numbers}
use Rattle.fragment_graph.specs.DocumentGraph.{IsNumbered}
use Rattle.fragment_graph.specs.Numbers.{names_of, number_of, NumbersOf, WellNumbered}
use Rattle.fragment_graph.proofs.Lists.{none_some, same_item, same_some, set_same, set_other, contains_at}
use Rattle.fragment_graph.proofs.Numbering.{below, single}
use Rattle.rules_document.specs.declared.met_fragments.MetFragments.{MetFragments}
use Rattle.rules_document.specs.MetFragments.{IsFirst, IsKeptFor, IsMet, IsOther, NameAndSpan, Others}

-- a fragment of the document has a number
pub is_numbered : {S : Type 0} (document : List (Definition S)) (n : Numbers) (d : Definition S) → NumbersOf document n → Contains document d → IsNumbered n d
is_numbered document n (definition.Operation o) h c = tt
is_numbered document n (definition.Fragment f) h c = (h.defined f.item.name.item.now).1 (definition.Fragment f, c, refl)

-- what the test of two spans says
split : (b c : Bool) → (b && c) ≡ true → (b ≡ true) × (c ≡ true)
split true c h = (refl, h)
split false c h = absurd (true≢false (sym h))

abbrev same_places : SourcePosition → SourcePosition → Bool
same_places p q = (p.index == q.index) && ((p.line == q.line) && (p.column == q.column))

abbrev pub same_spans : Span → Span → Bool
same_spans a b = same_places a.start b.start && same_places a.end b.end

places_are : (p q : SourcePosition) → same_places p q ≡ true → p ≡ q
places_are p q h =
    let (index, rest) = split (p.index == q.index) ((p.line == q.line) && (p.column == q.column)) h in
    let (line, column) = split (p.line == q.line) (p.column == q.column) rest in
    λ i. record { index = eqb-true p.index q.index index i; line = eqb-true p.line q.line line i; column = eqb-true p.column q.column column i }

pub spans_are : (a b : Span) → true ≡ same_spans a b → a ≡ b
spans_are a b h =
    let (start, end) = split (same_places a.start b.start) (same_places a.end b.end) (sym h) in
    λ i. record { start = places_are a.start b.start start i; end = places_are a.end b.end end i }

place_itself : (p : SourcePosition) → same_places p p ≡ true
place_itself p =
    ap (λ b. b && ((p.line == p.line) && (p.column == p.column))) (eq-eqb p.index p.index refl)
    ∙ ap (λ b. b && (p.column == p.column)) (eq-eqb p.line p.line refl)
    ∙ eq-eqb p.column p.column refl

pub spans_differ : (a b : Span) → false ≡ same_spans a b → a ≡ b → ⊥
spans_differ a b h e =
    let same : same_spans a a ≡ true = ap (λ c. c && same_places a.end a.end) (place_itself a.start) ∙ place_itself a.end in
    true≢false (sym same ∙ ap (same_spans a) e ∙ sym h)

-- before any was met
module _ (n : Numbers) (met : MetFragments) (sized : length met.firsts.items ≡ length (names_of n)) (none : All (λ o. o ≡ None) met.firsts.items) (no_others : (q : NameAndSpan) → IsOther met.others q → ⊥) where
  pub nothing_met : (q : NameAndSpan) → IsMet n met q → ⊥
  nothing_met q (inl (k, named, stands)) = none_some q.1 (sym (All-contains (λ o. o ≡ None) met.firsts.items (Some q.1) none (contains_at met.firsts.items k (Some q.1) stands)))
  nothing_met q (inr other) = no_others q other

  pub nothing_kept : IsKeptFor n met
  nothing_kept = record { sized = sized; behind = λ q other. absurd (no_others q other) }

module _ (n : Numbers) (w : WellNumbered n) (p : NameAndSpan) (k : ℕ) (at : number_of n p.0 ≡ Some k) (old : MetFragments) (kept : IsKeptFor n old) where
  inside : k < length old.firsts.items
  inside = let low = below n w p.0 k at in let sized = kept.sized in omega (arith, low, sized)

  -- the number has a place
  pub has_place : k < vec_len old.firsts
  has_place = let low = inside in let long = old.firsts.ok.0 in omega (arith, low, long)

  -- what is read there
  pub read_there : (x o : Option Span) → x ≡ get_or old.firsts.items k x → x ≡ o → slice_get old.firsts.items k ≡ Some o
  read_there x o is e = slice_get_read old.firsts.items (length old.firsts.items) k x refl inside is ∙ ap Some e

  -- nothing is kept at the number
  module _ (free : slice_get old.firsts.items k ≡ Some None) where
    not_here : (s : Span) → slice_get old.firsts.items k ≡ Some (Some s) → ⊥
    not_here s stands = none_some s (same_item None (Some s) (slice_get old.firsts.items k) free stands)

    not_first : (q : NameAndSpan) → IsFirst n old.firsts.items q → q.0 ≡ p.0 → ⊥
    not_first q (j, named, stands) same =
        let e : j ≡ k = same_item j k (number_of n p.0) (subst (λ z. number_of n z ≡ Some j) same named) at in
        not_here q.1 (subst (λ i. slice_get old.firsts.items i ≡ Some (Some q.1)) e stands)

    pub unmet : IsMet n old p → ⊥
    unmet (inl first) = not_first p first refl
    unmet (inr other) = let (s, first) = kept.behind p other in not_first (p.0, s) first refl

    module _ (firsts : Vec (Option Span) Global) (set : firsts.items ≡ slice_set old.firsts.items k (Some p.1)) where
      here : slice_get firsts.items k ≡ Some (Some p.1)
      here = ap (λ zs. slice_get zs k) set ∙ set_same old.firsts.items k None (Some p.1) free

      elsewhere : (j : ℕ) → (j ≡ k → ⊥) → slice_get firsts.items j ≡ slice_get old.firsts.items j
      elsewhere j other = ap (λ zs. slice_get zs j) set ∙ set_other old.firsts.items k j (Some p.1) other

      first_kept : (q : NameAndSpan) → IsFirst n old.firsts.items q → IsFirst n firsts.items q
      first_kept q (j, named, stands) =
          (j, named, elsewhere j (λ e. not_here q.1 (subst (λ i. slice_get old.firsts.items i ≡ Some (Some q.1)) e stands)) ∙ stands)

      first_split : (q : NameAndSpan) → IsFirst n firsts.items q → IsFirst n old.firsts.items q ⊎ (p ≡ q)
      first_split q (j, named, stands) = elim (cases_eq j k) [
        | inl e ↦
            let span : p.1 ≡ q.1 = same_some p.1 q.1 (same_some (Some p.1) (Some q.1) (sym here ∙ subst (λ i. slice_get firsts.items i ≡ Some (Some q.1)) e stands)) in
            let name : p.0 ≡ q.0 = single n w p.0 q.0 k at (subst (λ i. number_of n q.0 ≡ Some i) e named) in
            inr (λ i. (name i, span i))
        | inr other ↦ inl (j, named, sym (elsewhere j other) ∙ stands)
      ]

      pub met_first : (q : NameAndSpan) → IsMet n (record old { firsts = firsts }) q ↔ (IsMet n old q ⊎ (p ≡ q))
      met_first q = (
        λ m. elim m [
          | inl first ↦ elim (first_split q first) [ inl was ↦ inl (inl was) | inr e ↦ inr e ]
          | inr other ↦ inl (inr other)
        ],
        λ m. elim m [
          | inl was ↦ elim was [ inl first ↦ inl (first_kept q first) | inr other ↦ inr other ]
          | inr e ↦ subst (λ z. IsMet n (record old { firsts = firsts }) z) e (inl (k, at, here))
        ],
      )

      pub kept_first : length firsts.items ≡ length old.firsts.items → IsKeptFor n (record old { firsts = firsts })
      kept_first same = record {
        sized = same ∙ kept.sized;
        behind = λ q other. let (s, first) = kept.behind q other in (s, first_kept (q.0, s) first);
      }

  -- something is kept there
  module _ (first : Span) (stands : slice_get old.firsts.items k ≡ Some (Some first)) where
    -- it is this one
    pub met_before : first ≡ p.1 → IsMet n old p
    met_before e = inl (k, at, stands ∙ ap (λ s. Some (Some s)) e)

    pub met_again : first ≡ p.1 → (q : NameAndSpan) → IsMet n old q ↔ (IsMet n old q ⊎ (p ≡ q))
    met_again e q = (λ m. inl m, λ m. elim m [ inl was ↦ was | inr same ↦ subst (IsMet n old) same (met_before e) ])

    -- or another
    pub unmet_before : (first ≡ p.1 → ⊥) → (IsOther old.others p → ⊥) → IsMet n old p → ⊥
    unmet_before differs none (inl (j, named, there)) =
        let e : j ≡ k = same_item j k (number_of n p.0) named at in
        differs (same_some first p.1 (same_some (Some first) (Some p.1) (sym stands ∙ subst (λ i. slice_get old.firsts.items i ≡ Some (Some p.1)) e there)))
    unmet_before differs none (inr other) = none other

    module _ (others : Others) (more : (q : NameAndSpan) → IsOther others q ↔ (IsOther old.others q ⊎ (p ≡ q))) where
      pub met_other : (q : NameAndSpan) → IsMet n (record old { others = others }) q ↔ (IsMet n old q ⊎ (p ≡ q))
      met_other q = (
        λ m. elim m [
          | inl one ↦ inl (inl one)
          | inr other ↦ elim ((more q).0 other) [ inl was ↦ inl (inr was) | inr e ↦ inr e ]
        ],
        λ m. elim m [
          | inl was ↦ elim was [ inl one ↦ inl one | inr other ↦ inr ((more q).1 (inl other)) ]
          | inr e ↦ inr ((more q).1 (inr e))
        ],
      )

      pub kept_other : IsKeptFor n (record old { others = others })
      kept_other = record {
        sized = kept.sized;
        behind = λ q other. elim ((more q).0 other) [
          | inl was ↦ kept.behind q was
          | inr e ↦ (first, (k, subst (λ (z : NameAndSpan). number_of n z.0 ≡ Some k) e at, stands))
        ];
      }
