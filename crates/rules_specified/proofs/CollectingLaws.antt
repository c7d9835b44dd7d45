-- How collecting goes on from one set and one field to the next.
use Rattle.std.specs.Prelude.{Bool, Option}
use Rattle.std.proofs.Common.{◌≡◌, ℕ, List, [], ◌∷◌, ◌++◌, map, reverse, sym, ap, ◌∙◌, refl, subst}
use Rattle.std.proofs.lemmas.List.{append-nil, append_assoc, map-append, reverse-append}
use denote.Ref.{Bor}
use Rattle.language_types.specs.References.{list_copied}
use Rattle.language_types.specs.Position.{Placed}
use Rattle.language.specs.declared.tree.Field.{Field}
use Rattle.language.specs.declared.tree.Selection.{Selection}
use Rattle.bit_matrix.specs.declared.set.BitSet.{BitSet}
use Rattle.rules_specified.specs.Collected.{at_end, at_field, at_nothing, at_set, field, inside, nothing}
use Rattle.rules_specified.specs.Collecting.{CollectsAll, CollectsAt, Leads, Marks, part_at}
use Rattle.rules_specified.specs.declared.collected.Root.{Root}

-- what is pushed waits before the rest
pub waits : {S : Type 0} (xs ys : List (Bor (List (Selection S)))) (x : Bor (List (Selection S))) → ys ≡ xs ++ x ∷ []
    → reverse (list_copied ys) ≡ x.now ∷ reverse (list_copied xs)
waits xs ys x e = ap (λ zs. reverse (list_copied zs)) e ∙ ap reverse (map-append (λ r. r.now) xs (x ∷ [])) ∙ reverse-append (list_copied xs) (x.now ∷ [])

module _ {S C : Type 0} (truth : S → Option Bool) (root : Root S C) where
  abbrev Sets : Type 0
  Sets = List (List (Selection S))

  abbrev Fields : Type 0
  Fields = List (Placed (Field S))

  -- in other words for the sets
  pub leads_as : {bits : BitSet} {fs : Fields} {names : List (List ℕ)} (old old' new new' : Sets) → old ≡ old' → new ≡ new'
      → Leads truth root bits old new fs names → Leads truth root bits old' new' fs names
  leads_as {bits = bits} {fs = fs} {names = names} old old' new new' e h l =
      subst (λ z. Leads truth root bits z new' fs names) e (subst (λ z. Leads truth root bits old z fs names) h l)

  -- nothing is done
  pub leads_same : (bits : BitSet) (sets : Sets) (names : List (List ℕ)) → Marks root.numbers bits names → Leads truth root bits sets sets [] names
  leads_same bits sets names m = record { opened = names; marks = m; leads = λ fs after h. h }

  -- a set is at its end
  pub leads_end : (bits : BitSet) (sets : Sets) (names : List (List ℕ)) → Marks root.numbers bits names → Leads truth root bits ([] ∷ sets) sets [] names
  leads_end bits sets names m = record { opened = names; marks = m; leads = λ fs after h. ([], fs, names, at_end, h, refl) }

  -- a selection gives nothing
  pub leads_nothing : (bits : BitSet) (s : Selection S) (set : List (Selection S)) (sets : Sets) (names : List (List ℕ)) → Marks root.numbers bits names
      → part_at truth root names s ≡ nothing → Leads truth root bits ((s ∷ set) ∷ sets) (set ∷ sets) [] names
  leads_nothing bits s set sets names m p = record {
    opened = names;
    marks = m;
    leads = λ fs after (first, rest, mid, c, more, is). (first, rest, mid, at_nothing p c, more, is);
  }

  -- a selection gives a field
  pub leads_field : (bits : BitSet) (s : Selection S) (f : Placed (Field S)) (set : List (Selection S)) (sets : Sets) (names : List (List ℕ))
      → Marks root.numbers bits names → part_at truth root names s ≡ field f
      → Leads truth root bits ((s ∷ set) ∷ sets) (set ∷ sets) (f ∷ []) names
  leads_field bits s f set sets names m p = record {
    opened = names;
    marks = m;
    leads = λ fs after (first, rest, mid, c, more, is). (f ∷ first, rest, mid, at_field f p c, more, ap (λ z. f ∷ z) is);
  }

  -- a selection gives a set
  pub leads_set : (bits : BitSet) (s : Selection S) (inner set : List (Selection S)) (sets : Sets) (names opened : List (List ℕ))
      → Marks root.numbers bits opened → part_at truth root names s ≡ inside inner opened
      → Leads truth root bits ((s ∷ set) ∷ sets) (inner ∷ set ∷ sets) [] names
  leads_set bits s inner set sets names opened m p = record {
    opened = opened;
    marks = m;
    leads = λ fs after (a, b, mid, c, (first, rest, left, d, more, is), all).
        (a ++ first, rest, left, at_set inner opened mid a first p c d refl, more, all ∙ ap (λ z. a ++ z) is ∙ sym (append_assoc a first rest));
  }

  -- one after the other
  pub leads_on : {bits next : BitSet} {old mid new : Sets} {fs gs : Fields} {names : List (List ℕ)} (l : Leads truth root bits old mid fs names)
      → Leads truth root next mid new gs l.opened → Leads truth root next old new (fs ++ gs) names
  leads_on {old = old} {fs = fs} {gs = gs} {names = names} l r = record {
    opened = r.opened;
    marks = r.marks;
    leads = λ hs after h. subst (λ z. CollectsAll truth root names old z after) (sym (append_assoc fs gs hs)) (l.leads (gs ++ hs) after (r.leads hs after h));
  }

  -- where nothing waits all is collected
  pub all_collected : {bits : BitSet} {set : List (Selection S)} {fs : Fields} (l : Leads truth root bits (set ∷ []) [] fs [])
      → (after : List (List ℕ)) × CollectsAt truth root [] set fs after
  all_collected {set = set} {fs = fs} l =
      let (first, rest, mid, c, (none, last), is) = l.leads [] l.opened (refl, refl) in
      let same : first ≡ fs = sym (append-nil first) ∙ ap (λ z. first ++ z) (sym none) ∙ sym is ∙ append-nil fs in
      (mid, subst (λ z. CollectsAt truth root [] set z mid) same c)
