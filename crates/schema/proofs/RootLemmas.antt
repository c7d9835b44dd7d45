-- The roots of a schema.
use Rattle.std.proofs.Common.{◌≡◌, ℕ, List, [], ◌∷◌, ◌++◌, Bool, true, Option, Some, None, is_some, option_copied, Bor, ap, sym, refl, ◌∙◌}
use Rattle.std.specs.List.{list_all}
use Rattle.std.proofs.lemmas.Bool.{and_parts}
use Rattle.meta.specs.declared.kinds.MetaTypeOf.{MetaTypeOf}
use Rattle.schema_validation.specs.Accepted.{is_listed}
use Rattle.std.specs.Option.{option_to_list}
use Rattle.schema.specs.Catalog.{Catalog, type_in, root_in}
use Rattle.meta.specs.Kinds.{name_of_meta}
use Rattle.schema.proofs.AcceptedLemmas.{find-called}
use Rattle.schema_validation.proofs.Refusals.{all-front, all-back}

pub copied_some : {T : Type 0} (o : Option (Bor T)) → is_some (option_copied o) ≡ is_some o
copied_some None = refl
copied_some (Some x) = refl

one : (p : List ℕ → Bool) (o : Option (List ℕ)) (n : List ℕ) → o ≡ Some n → list_all p (option_to_list o) ≡ true → p n ≡ true
one p o n e h = (and_parts (p n) true (ap (λ q. list_all p (option_to_list q)) (sym e) ∙ h)).0

module _ {S C : Type 0} (c : Catalog S C) (n : List ℕ) where
  others : list_all (is_listed c.types) (option_to_list c.roots.mutation ++ option_to_list c.roots.subscription) ≡ true
  others = all-back (is_listed c.types) (c.roots.query ∷ []) (option_to_list c.roots.mutation ++ option_to_list c.roots.subscription) c.accepted.roots_listed

  pub mutation-listed : c.roots.mutation ≡ Some n → is_listed c.types n ≡ true
  mutation-listed e = one (is_listed c.types) c.roots.mutation n e (all-front (is_listed c.types) (option_to_list c.roots.mutation) (option_to_list c.roots.subscription) others)

  pub subscription-listed : c.roots.subscription ≡ Some n → is_listed c.types n ≡ true
  subscription-listed e = one (is_listed c.types) c.roots.subscription n e (all-back (is_listed c.types) (option_to_list c.roots.mutation) (option_to_list c.roots.subscription) others)

  pub root-is : (o : Option (List ℕ)) (r : Option (Bor (MetaTypeOf S C))) (k : List ℕ) → o ≡ Some n → k ≡ n → option_copied r ≡ type_in k c → option_copied r ≡ root_in o c
  root-is o r k e same h = h ∙ ap (λ w. type_in w c) same ∙ ap (λ q. root_in q c) (sym e)

  pub root-found : (r : Option (Bor (MetaTypeOf S C))) (k : List ℕ) → k ≡ n → is_listed c.types n ≡ true → option_copied r ≡ type_in k c → is_some r ≡ true
  root-found r k same h e = sym (copied_some r) ∙ ap is_some (e ∙ ap (λ w. type_in w c) same) ∙ find-called name_of_meta c.types n h
