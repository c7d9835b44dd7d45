-- First definitions of variables, noted one after another.
use Rattle.std.proofs.Common.{◌≡◌, ℕ, ◌+◌, ◌<◌, List, [], ◌∷◌, ◌++◌, length, take, get_or, Option, None, Some, option_copied, Bool, true, false, cond, refl, ap, sym, ◌∙◌, subst}
use Rattle.std.proofs.lemmas.Grind.{flat_map-append}
use Rattle.std.proofs.lemmas.List.{append-nil, take_more}
use Rattle.std.specs.List.{flat_map}
use Rattle.std.proofs.lemmas.List.Folds.{find-append}
use Rattle.std.proofs.lemmas.Slice.Eq.{bytes_eq-Decides}
use Rattle.std.specs.Map.{update}
use Rattle.std.specs.Option.{option_or}
use Rattle.std.specs.Str.{bytes_eq}
use denote.Ref.{Bor}
use Rattle.events.specs.Node.{VariableEntry}
use Rattle.rules_positions.specs.DefinedVariables.{first_of}
use Rattle.rules_positions.specs.FirstVariables.{kept_first, KeepsFirst, Notes}
use Rattle.rules_positions.specs.declared.first_variables.FirstVariables.{FirstVariables}

none_some : {T : Type 0} (x : T) → Some x ≡ None → ⊥
none_some x e = cc

new_by : {T : Type 0} (b : Bool) (x : Bor T) (o : Option (Bor T)) → (b ≡ true → o ≡ None) → option_copied (cond b (Some x) o) ≡ option_or (option_copied o) (cond b (Some x.now) None)
new_by true x o h = ap (λ z. option_or (option_copied z) (Some x.now)) (sym (h refl))
new_by false x None h = refl
new_by false x (Some y) h = refl

old_by : {T : Type 0} (b : Bool) (x y : T) (o : Option T) → (b ≡ true → Some y ≡ o) → o ≡ option_or o (cond b (Some x) None)
old_by true x y None h = absurd (none_some y (h refl))
old_by false x y None h = refl
old_by b x y (Some z) h = refl

module _ {T : Type 0} (p : List ℕ → Option (Bor T)) (name : List ℕ) where
  -- a name that is new
  pub noted : (q : List ℕ → Option (Bor T)) (x : Bor T) → None ≡ p name → ((n : List ℕ) → q n ≡ update bytes_eq p name (Some x) n)
      → (n : List ℕ) → option_copied (q n) ≡ option_or (option_copied (p n)) (cond (bytes_eq name n) (Some x.now) None)
  noted q x none u n = ap option_copied (u n) ∙ new_by (bytes_eq name n) x (p n) (λ e. ap p (sym ((bytes_eq-Decides name n).0 e)) ∙ sym none)

  -- and one that is there
  pub known : (x : T) (y : Bor T) → Some y ≡ p name → (n : List ℕ) → option_copied (p n) ≡ option_or (option_copied (p n)) (cond (bytes_eq name n) (Some x) None)
  known x y is n = old_by (bytes_eq name n) x y.now (option_copied (p n)) (λ e. ap option_copied is ∙ ap (λ m. option_copied (p m)) ((bytes_eq-Decides name n).0 e))

or_none : {T : Type 0} (o : Option T) → o ≡ option_or o None
or_none None = refl
or_none (Some x) = refl

or_assoc : {T : Type 0} (o p q : Option T) → option_or (option_or o p) q ≡ option_or o (option_or p q)
or_assoc None p q = refl
or_assoc (Some x) p q = refl

module _ {S : Type 0} where
  pub notes_none : (a : FirstVariables S) → Notes [] a a
  notes_none a v = or_none (kept_first a v)

  pub notes_more : (xs ys : List (VariableEntry S)) (a b c : FirstVariables S) → Notes xs a b → Notes ys b c → Notes (xs ++ ys) a c
  notes_more xs ys a b c p q v =
      q v
      ∙ ap (λ o. option_or o (first_of ys v)) (p v)
      ∙ or_assoc (kept_first a v) (first_of xs v) (first_of ys v)
      ∙ ap (λ o. option_or (kept_first a v) o) (sym (find-append (λ (d : VariableEntry S). bytes_eq d.0.item.now v) xs ys))

  pub keeps_more : (xs ys : List (VariableEntry S)) (a b : FirstVariables S) → KeepsFirst xs a → Notes ys a b → KeepsFirst (xs ++ ys) b
  keeps_more xs ys a b k n v =
      n v ∙ ap (λ o. option_or o (first_of ys v)) (k v) ∙ sym (find-append (λ (d : VariableEntry S). bytes_eq d.0.item.now v) xs ys)

  -- those at a place more
  pub keeps_next : (f : ℕ → List (VariableEntry S)) (places : List ℕ) (i x d : ℕ) (a b : FirstVariables S) → x ≡ get_or places i d → i < length places
      → KeepsFirst (flat_map f (take i places)) a → Notes (f x) a b → KeepsFirst (flat_map f (take (i + 1) places)) b
  keeps_next f places i x d a b is l k n =
      let next : flat_map f (take (i + 1) places) ≡ flat_map f (take i places) ++ f x =
      ap (flat_map f) (take_more places i d l) ∙ flat_map-append f (take i places) (get_or places i d ∷ [])
      ∙ ap (λ z. flat_map f (take i places) ++ z) (append-nil (f (get_or places i d)) ∙ ap f (sym is))
      in
      subst (λ zs. KeepsFirst zs b) (sym next) (keeps_more (flat_map f (take i places)) (f x) a b k n)
