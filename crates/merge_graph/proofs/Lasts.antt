-- The last definitions, one definition more.
use Rattle.std.proofs.Common.{◌≡◌, ◌≤◌, ℕ, List, [], ◌∷◌, ◌++◌, length, take, map, ◌<◌, ◌+◌, Option, Some, None, Bool, true, false, cond, refl, sym, ap, subst, ◌∙◌, inl, inr, arith, zero, suc, slice_get, slice_set, option_and_then}
use Rattle.std.specs.List.{All, Contains}
use Rattle.std.specs.Option.{unwrap_or}
use Rattle.std.specs.Str.{bytes_eq}
use Rattle.std.proofs.lemmas.Slice.Eq.{bytes_eq-Decides}
use Rattle.std.proofs.lemmas.Option.{slice_get_within, get_or_from_slice_get}
use Rattle.std.proofs.lemmas.List.{take_all, length-map, length-take}
use Rattle.std.proofs.lemmas.List.Elements.{All-contains}
use Rattle.language.specs.declared.tree.Definition.{Definition}
use Rattle.language.specs.declared.tree.Definition.TheVariants as definition
use Rattle.fragment_graph.specs.declared.document_graph.DocumentGraph.{DocumentGraph}
use Rattle.fragment_graph.specs.declared.numbers.Numbers.{Numbers}
use Rattle.fragment_graph.specs.DocumentGraph.{IsGraphOf}
use Rattle.fragment_graph.specs.Numbers.{number_of, names_of, defined_number, IsNamed, Defines, NumbersOf, WellNumbered}
use Rattle.fragment_graph.proofs.Lists.{same_item, same_some, none_some, get_more, get_snoc, get_end, get_some, set_same, set_other, contains_at, contains_get, contains_none}
use Rattle.fragment_graph.proofs.Joining.{next_take}
use Rattle.fragment_graph.proofs.Numbering.{below, single}
use Rattle.merge_graph.specs.Definitions.{IsLast, AreLast, last_place, noted}

unnamed : (f name : List ℕ) → bytes_eq f name ≡ false → f ≡ name → ⊥
unnamed f name e same = clash (bytes_eq f name) e ((bytes_eq-Decides f name).1 same)
  where
    clash : (b : Bool) → b ≡ false → b ≡ true → ⊥
    clash b p q = cc

length_set : {X : Type 0} (xs : List X) (k : ℕ) (x : X) → length (slice_set xs k x) ≡ length xs
length_set [] k x = refl
length_set (y ∷ xs) zero x = refl
length_set (y ∷ xs) (suc k) x = ap suc (length_set xs k x)

at_map : {X Y : Type 0} (f : X → Y) (xs : List X) (i : ℕ) (x : X) (y : Y) → slice_get xs i ≡ Some x → slice_get (map f xs) i ≡ Some y → y ≡ f x
at_map f [] i x y h k = absurd (none_some x h)
at_map f (z ∷ xs) zero x y h k = sym (same_some (f z) y k) ∙ ap f (same_some z x h)
at_map f (z ∷ xs) (suc i) x y h k = at_map f xs i x y h k

length_noted : (number : Option ℕ) (place : ℕ) (places : List (Option ℕ)) → length (noted number place places) ≡ length places
length_noted None place places = refl
length_noted (Some k) place places = length_set places k (Some place)

-- what is kept at a number, if there is one
abbrev pub kept_at : List (Option ℕ) → Option ℕ → Option ℕ
kept_at places o = option_and_then (λ k. option_and_then (λ p. p) (slice_get places k)) o

-- a place that is noted at the number of a name is kept for that name, and for no other
module _ (n : Numbers) (w : WellNumbered n) (f name : List ℕ) (k place : ℕ) (places : List (Option ℕ)) (at : number_of n f ≡ Some k) (sized : length places ≡ length (names_of n)) where
  noted_by : (o : Option ℕ) → number_of n name ≡ o → (b : Bool) → bytes_eq f name ≡ b → kept_at (slice_set places k (Some place)) o ≡ cond b (Some place) (kept_at places o)
  noted_by None h true e = absurd (none_some k (sym h ∙ ap (number_of n) (sym ((bytes_eq-Decides f name).0 e)) ∙ at))
  noted_by None h false e = refl
  noted_by (Some j) h true e =
      let is : k ≡ j = same_item k j (number_of n name) (ap (number_of n) (sym ((bytes_eq-Decides f name).0 e)) ∙ at) h in
      let low = below n w f k at in
      let (x, stands) = get_some places k (omega (arith, low, sized)) in
      subst (λ i. kept_at (slice_set places k (Some place)) (Some i) ≡ Some place) is (ap (option_and_then (λ p. p)) (set_same places k x (Some place) stands))
  noted_by (Some j) h false e =
      ap (option_and_then (λ p. p)) (set_other places k j (Some place) (λ q. unnamed f name e (single n w f name k at (h ∙ ap Some q))))

-- A fragment's name has the place now.
abbrev pub NotesPlace : {S : Type 0} → Definition S → ℕ → (List ℕ → Option ℕ) → (List ℕ → Option ℕ) → Type 0
NotesPlace (definition.Operation o) place old new = (name : List ℕ) → new name ≡ old name
NotesPlace (definition.Fragment f) place old new = (name : List ℕ) → new name ≡ cond (bytes_eq f.item.name.item.now name) (Some place) (old name)

module _ {S : Type 0} where
  notes : (document : List (Definition S)) (n : Numbers) (d : Definition S) (number : Option ℕ) (place : ℕ) (places : List (Option ℕ)) → NumbersOf document n → Contains document d → number ≡ defined_number n d
      → length places ≡ length (names_of n) → NotesPlace d place (last_place n places) (last_place n (noted number place places))
  notes document n (definition.Operation o) number place places g c is sized = λ name. ap (λ k. last_place n (noted k place places) name) is
  notes document n (definition.Fragment f) number place places g c is sized = λ name.
      let (k, at) = (g.defined f.item.name.item.now).1 (definition.Fragment f, c, refl) in
      ap (λ o. last_place n (noted o place places) name) (is ∙ at)
      ∙ noted_by n g.numbered f.item.name.item.now name k place places at sized (number_of n name) refl (bytes_eq f.item.name.item.now name) refl

  pub lasts_none : (places : List ℕ → Option ℕ) → ((name : List ℕ) → places name ≡ None) → AreLast {S = S} [] places
  lasts_none places h = record {
    each = λ name place e. absurd (none_some place (sym (h name) ∙ e));
    none_other = λ name e d. contains_none d.0 d.1;
  }

  module _ (xs : List (Definition S)) (d : Definition S) where
    last_kept : (name : List ℕ) (place : ℕ) → IsLast xs name place → (IsNamed name d → ⊥) → IsLast (xs ++ d ∷ []) name place
    last_kept name place l other = record {
      is = l.is;
      stands = get_more xs (d ∷ []) place l.is l.stands;
      named = l.named;
      last = λ k e h n. elim (get_snoc xs d k e h) [
        | inl old ↦ l.last k e old n
        | inr new ↦ absurd (other (subst (IsNamed name) (sym new.1) n))
      ];
    }

    last_new : (name : List ℕ) → IsNamed name d → IsLast (xs ++ d ∷ []) name (length xs)
    last_new name n = record {
      is = d;
      stands = get_end xs d (length xs) refl;
      named = n;
      last = λ k e h m. elim (get_snoc xs d k e h) [
        | inl old ↦ (let l = slice_get_within xs k e old in omega (arith, l))
        | inr new ↦ (let l = new.0 in omega (arith, l))
      ];
    }

    defines_old : (name : List ℕ) → (IsNamed name d → ⊥) → Defines (xs ++ d ∷ []) name → Defines xs name
    defines_old name other e =
        let k = contains_get (xs ++ d ∷ []) e.0 e.1 in
        elim (get_snoc xs d k.0 e.0 k.1) [
          | inl old ↦ (e.0, contains_at xs k.0 e.0 old, e.2)
          | inr new ↦ absurd (other (subst (IsNamed name) (sym new.1) e.2))
        ]

    -- where the definition isn't of the name
    kept_each : (old new : List ℕ → Option ℕ) → AreLast xs old → (name : List ℕ) → new name ≡ old name → (IsNamed name d → ⊥) → (place : ℕ) → new name ≡ Some place → IsLast (xs ++ d ∷ []) name place
    kept_each old new a name same other place h = last_kept name place (a.each name place (sym same ∙ h)) other

    kept_none : (old new : List ℕ → Option ℕ) → AreLast xs old → (name : List ℕ) → new name ≡ old name → (IsNamed name d → ⊥) → new name ≡ None → Defines (xs ++ d ∷ []) name → ⊥
    kept_none old new a name same other h e = a.none_other name (sym same ∙ h) (defines_old name other e)

  pub lasts_more : (xs : List (Definition S)) (d : Definition S) (old new : List ℕ → Option ℕ) → AreLast xs old → NotesPlace d (length xs) old new → AreLast (xs ++ d ∷ []) new
  lasts_more xs (definition.Operation o) old new a same = record {
    each = λ name place h. kept_each xs (definition.Operation o) old new a name (same name) (λ n. n) place h;
    none_other = λ name h e. kept_none xs (definition.Operation o) old new a name (same name) (λ n. n) h e;
  }
  lasts_more xs (definition.Fragment f) old new a updated = record {
    each = λ name place h. each_by name place h (bytes_eq f.item.name.item.now name) refl;
    none_other = λ name h e. none_by name h e (bytes_eq f.item.name.item.now name) refl;
  }
    where
      at : (name : List ℕ) (b : Bool) → bytes_eq f.item.name.item.now name ≡ b → new name ≡ cond b (Some (length xs)) (old name)
      at name b e = updated name ∙ ap (λ c. cond c (Some (length xs)) (old name)) e

      each_by : (name : List ℕ) (place : ℕ) → new name ≡ Some place → (b : Bool) → bytes_eq f.item.name.item.now name ≡ b → IsLast (xs ++ definition.Fragment f ∷ []) name place
      each_by name place h true e = subst (λ (p : ℕ). IsLast (xs ++ definition.Fragment f ∷ []) name p) (same_some (length xs) place (sym (at name true e) ∙ h)) (last_new xs (definition.Fragment f) name ((bytes_eq-Decides f.item.name.item.now name).0 e))
      each_by name place h false e = kept_each xs (definition.Fragment f) old new a name (at name false e) (unnamed f.item.name.item.now name e) place h

      none_by : (name : List ℕ) → new name ≡ None → Defines (xs ++ definition.Fragment f ∷ []) name → (b : Bool) → bytes_eq f.item.name.item.now name ≡ b → ⊥
      none_by name h d true e = none_some (length xs) (sym h ∙ at name true e)
      none_by name h d false e = kept_none xs (definition.Fragment f) old new a name (at name false e) (unnamed f.item.name.item.now name e) h d

  pub lasts_all : (xs : List (Definition S)) (k : ℕ) (places : List ℕ → Option ℕ) → length xs ≤ k → AreLast (take k xs) places → AreLast xs places
  lasts_all xs k places l a = subst (λ zs. AreLast zs places) (take_all k xs l) a

  pub last_inside : (xs : List (Definition S)) (name : List ℕ) (place : ℕ) → IsLast xs name place → place < length xs
  last_inside xs name place l = slice_get_within xs place l.is l.stands

  -- the places of the definitions that were seen
  pub record Seen (document : List (Definition S)) (n : Numbers) (place : ℕ) (places : List (Option ℕ)) : Type 0 where
    pub sized : length places ≡ length (names_of n)
    pub last : AreLast (take place document) (last_place n places)

  pub seen_none : (document : List (Definition S)) (n : Numbers) (places : List (Option ℕ)) → length places ≡ length (names_of n) → All (λ o. o ≡ None) places → Seen document n 0 places
  seen_none document n places sized none = record {
    sized = sized;
    last = lasts_none (last_place n places) (λ name. empty (number_of n name));
  }
    where
      at_none : (o : Option (Option ℕ)) (k : ℕ) → slice_get places k ≡ o → option_and_then (λ p. p) o ≡ None
      at_none None k h = refl
      at_none (Some p) k h = All-contains (λ z. z ≡ None) places p none (contains_at places k p h)

      empty : (o : Option ℕ) → kept_at places o ≡ None
      empty None = refl
      empty (Some k) = at_none (slice_get places k) k refl

  pub seen_next : (document : List (Definition S)) (g : DocumentGraph) (k : ℕ) (number : Option ℕ) (places : List (Option ℕ)) → IsGraphOf document g → slice_get g.defined.items k ≡ Some number
      → Seen document g.numbers k places → Seen document g.numbers (k + 1) (noted number k places)
  seen_next document g k number places is there h =
      let n : Numbers = g.numbers in
      let far = slice_get_within g.defined.items k number there in
      let same = ap length is.defined in
      let mapped = length-map document (defined_number n) in
      let low : k < length document = omega (arith, far, same, mapped) in
      let (d, stands) = get_some document k low in
      let long : length (take k document) ≡ k = let t = length-take k document in omega (arith, t, low) in
      let number_is = at_map (defined_number n) document k d number stands (ap (λ zs. slice_get zs k) (sym is.defined) ∙ there) in
      record {
        sized = length_noted number k places ∙ h.sized;
        last = subst (λ zs. AreLast zs (last_place n (noted number k places))) (sym (next_take document k d (sym (get_or_from_slice_get document k d d stands)) low))
            (lasts_more (take k document) d (last_place n places) (last_place n (noted number k places)) h.last
            (subst (λ (i : ℕ). NotesPlace d i (last_place n places) (last_place n (noted number k places))) (sym long)
            (notes document n d number k places is.numbers (contains_at document k d stands) number_is h.sized)));
      }

  pub seen_all : (document : List (Definition S)) (g : DocumentGraph) (k : ℕ) (places : List (Option ℕ)) → IsGraphOf document g → length g.defined.items ≤ k → Seen document g.numbers k places → AreLast document (last_place g.numbers places)
  seen_all document g k places is far h =
      let same = ap length is.defined in
      let mapped = length-map document (defined_number g.numbers) in
      lasts_all document k (last_place g.numbers places) (omega (arith, far, same, mapped)) h.last

-- the place that is kept for the name of a number
pub place_of_number : (n : Numbers) (w : WellNumbered n) (places : List (Option ℕ)) (k : ℕ) → k < length (names_of n)
    → last_place n places (unwrap_or (slice_get (names_of n) k) []) ≡ option_and_then (λ p. p) (slice_get places k)
place_of_number n w places k low =
    let (name, at) = get_some (names_of n) k low in
    ap (λ o. last_place n places (unwrap_or o [])) at ∙ ap (kept_at places) ((w name k).1 at)
