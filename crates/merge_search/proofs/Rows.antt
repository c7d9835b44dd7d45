-- Where the roots of reports lie.
use Rattle.std.proofs.Common.{◌≡◌, ℕ, List, refl, sym, subst, ap, ◌∙◌, Bool, Some, inl, inr}
use Rattle.std.specs.List.{All, Contains}
use Rattle.std.proofs.lemmas.List.Elements.{All-contains}
use Rattle.merge_sets.specs.declared.node.Entry.{Entry}
use Rattle.merge_search.specs.declared.state.Search.{Search}
use Rattle.merge_sets.specs.Names.{named, AreListed}
use Rattle.merge_sets.specs.World.{World, own_of, set_of, Same}
use Rattle.merge_search.specs.Work.{Done, OwnPairs}
use Rattle.merge_sets.specs.Opening.{Reaches, start, step}
use Rattle.merge_sets.specs.Merging.{Stands, own, spread, below}
use Rattle.merge_search.specs.Reports.{Root, NestedRoot, AtFields, AtWith, AtNamed, AtOwn, AtSearch, AtFragments, AtFirst, AtBelow}
use Rattle.merge_search.specs.Tasks.{AtPartners}
use Rattle.merge_search.specs.declared.task.Partner.TheVariants as partner
use Rattle.merge_sets.proofs.OneName.{listed_in, named_in, named_is, named_own}

reaches_in : (w : World) (g h t : ℕ) (a : Entry) → Reaches w g h → t ≡ set_of w h → Stands w t a → Stands w (set_of w g) a
reaches_in w g h t a start is p = subst (λ u. Stands w u a) is p
reaches_in w g h t a (step {h = k} r c) is p = reaches_in w g k (set_of w k) a r refl (spread c (subst (λ u. Stands w u a) is p))

-- what stands in a fragment that g reaches stands in g
pub reached_stands : (w : World) (g h : ℕ) (a : Entry) → Reaches w g h → Stands w (set_of w h) a → Stands w (set_of w g) a
reached_stands w g h a r p = reaches_in w g h (set_of w h) a r refl p

module _ (w : World) where
  same_of : (a b : Entry) (r : Root) → (r.left ≡ a) × (r.right ≡ b) → Same a b → Same r.left r.right
  same_of a b r h same = ap (λ (x : Entry). x.response) h.0 ∙ (same ∙ sym (ap (λ (x : Entry). x.response) h.1))

  pub row_with : (a b : Entry) (j : ℕ) (r : Root) → Contains (named a.response (own_of w j)) b → AtFields a b r → AtWith w a j r
  row_with a b j r c h =
      (h.0, subst (λ x. Contains (own_of w j) x) (sym h.1) (named_own a.response (own_of w j) b c), same_of a b r h (sym (named_is a.response (own_of w j) b c)))

  pub row_named : (a : Entry) (i j n : ℕ) (r : Root) → Contains (named n (own_of w i)) a → AtWith w a j r → AtNamed w i j n r
  row_named a i j n r c h =
      (subst (λ x. Contains (own_of w i) x) (sym h.0) (named_own n (own_of w i) a c), ap (λ (x : Entry). x.response) h.0 ∙ named_is n (own_of w i) a c, h.1, h.2)

  pub row_own : (i j n : ℕ) (r : Root) → AtNamed w i j n r → AtOwn w i j r
  row_own i j n r h = (h.0, h.2, h.3)

  -- the pairs that are told, one by one
  pub tell_with : (a : Entry) (j : ℕ) (r : Root) → AtWith w a j r → (b : Entry) × Contains (named a.response (own_of w j)) b × AtFields a b r
  tell_with a j r h = (r.right, named_in a.response (own_of w j) r.right h.1 (sym h.2 ∙ ap (λ (x : Entry). x.response) h.0), (h.0, refl))

  pub tell_named : (i j n : ℕ) (r : Root) → AtNamed w i j n r → (a : Entry) × Contains (named n (own_of w i)) a × AtWith w a j r
  tell_named i j n r h = (r.left, named_in n (own_of w i) r.left h.0 h.1, (refl, h.2, h.3))

  pub tell_own : (i j : ℕ) (firsts : List Entry) → AreListed firsts (own_of w i) → (r : Root) → AtOwn w i j r → (f : Entry) × Contains firsts f × AtNamed w i j f.response r
  tell_own i j firsts l r h =
      let (f, there, same) = listed_in firsts (own_of w i) r.left l h.0 in
      (f, there, (h.0, same, h.1, h.2))

  pub own_pairs : (M : Search) (e : Bool) (i j : ℕ) (firsts : List Entry) → AreListed firsts (own_of w i)
      → All (λ f. All (λ a. All (λ b. Done w M e a b) (named a.response (own_of w j))) (named f.response (own_of w i))) firsts → OwnPairs w M e i j
  own_pairs M e i j firsts l h c d p q same =
      let (f, there, is) = listed_in firsts (own_of w i) c l p in
      All-contains (λ b. Done w M e c b) (named c.response (own_of w j)) d
      (All-contains (λ a. All (λ b. Done w M e a b) (named a.response (own_of w j))) (named f.response (own_of w i)) c
      (All-contains (λ f. All (λ a. All (λ b. Done w M e a b) (named a.response (own_of w j))) (named f.response (own_of w i))) firsts f h there)
      (named_in f.response (own_of w i) c p is)) (named_in c.response (own_of w j) d q (sym same))

  pub row_opened : (i g h : ℕ) → Reaches w g h → (r : Root) → AtOwn w i (set_of w h) r → AtSearch w i g r
  row_opened i g h at r z = (z.0, reached_stands w g h r.right at (own z.1), z.2)

  pub row_fragments : (f g : ℕ) → (f ≡ g → ⊥) → (r : Root) → AtOwn w (set_of w f) (set_of w g) r → AtFragments w f g r
  row_fragments f g ne r h = (ne, own h.0, own h.1, h.2)

  pub row_first : (f g : ℕ) → (f ≡ g → ⊥) → (r : Root) → AtFirst w f (set_of w g) r → AtFragments w f g r
  row_first f g ne r h = (ne, h.2.1, spread h.1 h.2.2, h.2.3)

  pub row_second : (f g : ℕ) → (f ≡ g → ⊥) → (r : Root) → AtPartners w (set_of w f) (partner.Second g) r → AtFragments w f g r
  row_second f g ne r h = (ne, spread h.1 h.2.1, h.2.2, h.2.3)

  pub row_below_own : (i j : ℕ) (r : Root) → AtOwn w i j r → AtBelow w i j r
  row_below_own i j r h = inl (own h.0, own h.1, h.2)

  pub row_below_forth : (i j : ℕ) (r : Root) → AtPartners w j (partner.Own i) r → AtBelow w i j r
  row_below_forth i j r h = inl (own h.2.0, spread h.1 h.2.1, h.2.2)

  pub row_below_back : (i j : ℕ) (r : Root) → AtPartners w i (partner.Own j) r → AtBelow w i j r
  row_below_back i j r h = inr (own h.2.0, spread h.1 h.2.1, h.2.2)

  pub row_below_spreads : (i j : ℕ) (r : Root) → AtPartners w i (partner.Each j) r → AtBelow w i j r
  row_below_spreads i j r h = inl (spread h.1 h.2.2.1, spread h.2.1 h.2.2.2, h.2.2.3)

  pub row_nested : (a b : Entry) (i j : ℕ) → a.below ≡ Some i → b.below ≡ Some j → (r : Root) → AtBelow w i j r → NestedRoot w a b r
  row_nested a b i j sa tb r (inl h) = inl (below sa tb h.0 h.1 h.2)
  row_nested a b i j sa tb r (inr h) = inr (below sa tb h.1 h.0 (sym h.2))
