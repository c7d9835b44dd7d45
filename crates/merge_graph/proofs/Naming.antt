-- What was built stays right where a fragment gets its number.
use Rattle.std.proofs.Common.{◌≡◌, ◌<◌, ℕ, List, [], ◌∷◌, ◌++◌, length, length-append, get_or, Option, Some, true, refl, sym, ap, subst, ◌∙◌, inl, inr, ◌⊎◌, arith}
use Rattle.std.proofs.Math.Seq.{get_or-append_seam}
use Rattle.std.specs.List.{sum_by}
use Rattle.std.proofs.lemmas.List.{get_or_append_left}
use Rattle.std.proofs.lemmas.List.Sums.{sum_by_push}
use Rattle.std.proofs.lemmas.List.Elements.{All-weaker}
use Rattle.std.proofs.lemmas.Bool.{cases_order}
use Rattle.language.specs.declared.tree.Definition.{Definition}
use Rattle.schema.specs.Catalog.{Catalog}
use Rattle.fragment_graph.specs.Spreads.{placed_spreads_of_all}
use Rattle.fragment_graph.proofs.Lists.{get_more, get_end}
use Rattle.merge_set_table.specs.declared.table.NumberedSet.{NumberedSet}
use Rattle.merge_set_table.specs.Once.{is_among}
use Rattle.merge_set_table.specs.Table.{numbered, spreads_at, IsWithin, Extends, Falling}
use Rattle.merge_set_table.proofs.Nesting.{measures_less}
use Rattle.merge_graph.specs.declared.building.Building.{Building}
use Rattle.merge_graph.specs.Definitions.{type_round, selections_of, IsLast}
use Rattle.merge_graph.specs.Sizes.{selections_share}
use Rattle.merge_graph.specs.Building.{order_at, IsFragment, AreKnown, AddsFragment, Built}
use Rattle.merge_graph.proofs.Renumbering.{AgreeOn}
use Rattle.merge_graph.proofs.Growing.{built_definition, more_taken, extends, is_set, is_low, new_listed}

-- a number below the end of a list with one element more
last_or_below : (xs : List ℕ) (x g : ℕ) → g < length (xs ++ x ∷ []) → (g ≡ length xs) ⊎ (g < length xs)
last_or_below xs x g l = let long = length-append xs (x ∷ []) in elim (cases_order g (length xs)) [
  | inl eq ↦ inl eq
  | inr o ↦ elim o [ inl lt ↦ inr lt | inr gt ↦ absurd (omega (arith, l, long, gt)) ]
]

falling_more : (sets : List NumberedSet) (fragments : List ℕ) (x : ℕ) → Falling sets fragments → Falling sets (fragments ++ x ∷ [])
falling_more sets fragments x f s = (
  (f s).0,
  All-weaker (IsWithin fragments s) (IsWithin (fragments ++ x ∷ []) s)
      (λ g h.
      let l = h.0 in
      let long = length-append fragments (x ∷ []) in
      (omega (arith, l, long), subst (λ (k : ℕ). k < s) (sym (get_or_append_left fragments (x ∷ []) 0 g h.0)) h.1))
      (spreads_at sets s) (f s).1,
)

module _ {S C : Type 0} (schema : Catalog S C) (document : List (Definition S)) (numbers : List ℕ → Option ℕ)
    (single : (q other : List ℕ) (g : ℕ) → numbers q ≡ Some g → numbers other ≡ Some g → q ≡ other)
    (names : List ℕ → Option ℕ) (name : List ℕ) (place : ℕ) (last : IsLast document name place) (b b' : Building S C) (built : Built schema document numbers b) (a : AddsFragment schema names last.is place b b')
    (are_known : AreKnown numbers (length b.fragments.items) names) (agree : AgreeOn names numbers (placed_spreads_of_all (selections_of last.is))) (rank : numbers name ≡ Some (length b.fragments.items)) where
  abbrev next : ℕ
  next = length b.fragments.items

  middle_built : Built schema document numbers a.middle
  middle_built = built_definition schema document numbers names last.is place a.set b a.middle built a.adds last.stands are_known agree

  middle_extends : Extends (numbered b.table) (numbered a.middle.table)
  middle_extends = extends schema document numbers names last.is place a.set b a.middle built a.adds

  same_fragments : a.middle.fragments.items ≡ b.fragments.items
  same_fragments = ap (λ v. v.items) a.adds.notes.fragments

  set_low : a.set < length a.middle.table.sets.items
  set_low = is_low schema document numbers names last.is place a.set b a.middle built a.adds

  low_then : (g : ℕ) → g < length (b.fragments.items ++ a.set ∷ []) → get_or (b.fragments.items ++ a.set ∷ []) g 0 < length a.middle.table.sets.items
  low_then g l = elim (last_or_below b.fragments.items a.set g l) [
    | inl eq ↦ subst (λ (k : ℕ). get_or (b.fragments.items ++ a.set ∷ []) k 0 < length a.middle.table.sets.items) (sym eq)
        (subst (λ (k : ℕ). k < length a.middle.table.sets.items) (sym (get_or-append_seam b.fragments.items a.set [] 0)) set_low)
    | inr lt ↦ subst (λ (k : ℕ). k < length a.middle.table.sets.items) (sym (get_or_append_left b.fragments.items (a.set ∷ []) 0 g lt))
        (subst (λ (fs : List ℕ). get_or fs g 0 < length a.middle.table.sets.items) same_fragments (middle_built.low g (subst (λ (fs : List ℕ). g < length fs) (sym same_fragments) lt)))
  ]

  abbrev InPlace : ℕ → Type 0
  InPlace k = (p : ℕ) × (is_among (order_at a.middle p) k ≡ true)

  listed_then : (g : ℕ) → g < length (b.fragments.items ++ a.set ∷ []) → InPlace (get_or (b.fragments.items ++ a.set ∷ []) g 0)
  listed_then g l = elim (last_or_below b.fragments.items a.set g l) [
    | inl eq ↦ subst (λ (k : ℕ). InPlace (get_or (b.fragments.items ++ a.set ∷ []) k 0)) (sym eq)
        (subst InPlace (sym (get_or-append_seam b.fragments.items a.set [] 0)) (place, new_listed schema document numbers names last.is place a.set b a.middle built a.adds))
    | inr lt ↦ subst InPlace (sym (get_or_append_left b.fragments.items (a.set ∷ []) 0 g lt))
        (subst (λ (fs : List ℕ). InPlace (get_or fs g 0)) same_fragments (middle_built.listed g (subst (λ (fs : List ℕ). g < length fs) (sym same_fragments) lt)))
  ]

  -- the name of the next number
  is_name : (q : List ℕ) (g : ℕ) → numbers q ≡ Some g → g ≡ next → name ≡ q
  is_name q g h eq = single name q g (rank ∙ ap (λ (k : ℕ). Some k) (sym eq)) h

  new_fragment : IsFragment schema document numbers (numbered a.middle.table) (b.fragments.items ++ a.set ∷ []) name next
  new_fragment = record {
    set = a.set;
    stored = get_end b.fragments.items a.set next refl;
    place = place;
    last = last;
    is = is_set schema document numbers names last.is place a.set b a.middle built a.adds agree;
  }

  old_fragment : (q : List ℕ) (g : ℕ) → IsFragment schema document numbers (numbered a.middle.table) b.fragments.items q g → IsFragment schema document numbers (numbered a.middle.table) (b.fragments.items ++ a.set ∷ []) q g
  old_fragment q g f = record { set = f.set; stored = get_more b.fragments.items (a.set ∷ []) g f.set f.stored; place = f.place; last = f.last; is = f.is }

  fragments_then : (q : List ℕ) (g : ℕ) → numbers q ≡ Some g → g < length (b.fragments.items ++ a.set ∷ []) → IsFragment schema document numbers (numbered a.middle.table) (b.fragments.items ++ a.set ∷ []) q g
  fragments_then q g h l = elim (last_or_below b.fragments.items a.set g l) [
    | inl eq ↦ subst (λ (k : ℕ). IsFragment schema document numbers (numbered a.middle.table) (b.fragments.items ++ a.set ∷ []) q k) (sym eq)
        (subst (λ (z : List ℕ). IsFragment schema document numbers (numbered a.middle.table) (b.fragments.items ++ a.set ∷ []) z next) (is_name q g h eq) new_fragment)
    | inr lt ↦ old_fragment q g (subst (λ (fs : List ℕ). IsFragment schema document numbers (numbered a.middle.table) fs q g) same_fragments
        (middle_built.fragments q g h (subst (λ (fs : List ℕ). g < length fs) (sym same_fragments) lt)))
  ]

  named_then : (g : ℕ) → g < length (b.fragments.items ++ a.set ∷ []) → (q : List ℕ) × (numbers q ≡ Some g)
  named_then g l = elim (last_or_below b.fragments.items a.set g l) [
    | inl eq ↦ (name, rank ∙ ap (λ (k : ℕ). Some k) (sym eq))
    | inr lt ↦ built.named g lt
  ]

  pub fragment_pushed : b'.fragments.items ≡ b.fragments.items ++ a.set ∷ []
  fragment_pushed = ap (λ (z : Building S C). z.fragments.items) a.is ∙ a.pushed

  built_then : Built schema document numbers (record a.middle { fragments = a.fragments })
  built_then = record {
    apart = middle_built.apart;
    order = middle_built.order;
    falling = subst (λ (fs : List ℕ). Falling a.middle.table.sets.items fs) (sym a.pushed)
        (falling_more a.middle.table.sets.items b.fragments.items a.set (subst (λ (fs : List ℕ). Falling a.middle.table.sets.items fs) same_fragments middle_built.falling));
    low = subst (λ (fs : List ℕ). (g : ℕ) → g < length fs → get_or fs g 0 < length a.middle.table.sets.items) (sym a.pushed) low_then;
    sized = middle_built.sized;
    within = middle_built.within;
    whole = middle_built.whole;
    added = middle_built.added;
    listed = subst (λ (fs : List ℕ). (g : ℕ) → g < length fs → InPlace (get_or fs g 0)) (sym a.pushed) listed_then;
    fragments = subst (λ (fs : List ℕ). (q : List ℕ) (g : ℕ) → numbers q ≡ Some g → g < length fs → IsFragment schema document numbers (numbered a.middle.table) fs q g) (sym a.pushed) fragments_then;
    named = subst (λ (fs : List ℕ). (g : ℕ) → g < length fs → (q : List ℕ) × (numbers q ≡ Some g)) (sym a.pushed) named_then;
    sets_from = middle_built.sets_from;
    fields_from = middle_built.fields_from;
    size = middle_built.size;
    nests = λ known. let n = middle_built.nests known in let had = built.nests known in record {
      count = n.count;
      few = n.few;
      fragments = λ f g m. omega (
        arith,
        had.fragments f g (measures_less schema (numbered b.table) (numbered a.middle.table) f g middle_extends m),
        m.sets numbers (type_round schema last.is) (selections_of last.is) a.set (is_set schema document numbers names last.is place a.set b a.middle built a.adds agree),
        ap (sum_by f) a.pushed,
        sum_by_push f b.fragments.items a.set,
        more_taken schema document numbers names last.is place a.set b a.middle built a.adds last.stands are_known agree selections_share,
      );
    };
  }

  pub built_fragment : Built schema document numbers b'
  built_fragment = subst (Built schema document numbers) (sym a.is) built_then
