-- The type under which a walk enters an inline fragment, and that of its fields in the set around it.
use Rattle.std.proofs.Common.{◌≡◌, ◌&&◌, List, ℕ, true, false, not, Option, Some, None, option_copied, refl, ap, subst, ◌∙◌}
use Rattle.std.specs.Option.{is_some, option_or}
use denote.Ref.{Bor}
use Rattle.meta.specs.declared.kinds.MetaTypeOf.{MetaTypeOf}
use Rattle.schema.specs.Catalog.{Catalog}
use Rattle.merge_field_pairs.specs.OwnFields.{Placed, type_inside}
use Rattle.merge_set_table.specs.Inside.{type_entered, IsConditionKnown}

module _ {S C : Type 0} (schema : Catalog S C) where
  -- they are one, unless the condition is unknown and there is a type around the fragment
  pub same_type : (e p : Option (Bor (MetaTypeOf S C))) (condition : Option (Placed (Bor (List ℕ)))) → option_copied e ≡ type_entered schema (option_copied p) condition
      → (not (is_some e) && is_some p) ≡ false → type_entered schema (option_copied p) condition ≡ type_inside schema (option_copied p) condition
  same_type e p None is test = refl
  same_type (Some m) p (Some name) is test = subst (λ r. r ≡ option_or r (option_copied p)) is refl
  same_type None None (Some name) is test = subst (λ (r : Option (MetaTypeOf S C)). r ≡ option_or r None) is refl
  same_type None (Some m) (Some name) is test = cc

  -- where they are not, the fields have the type around it
  pub type_around : (e p : Option (Bor (MetaTypeOf S C))) (condition : Option (Placed (Bor (List ℕ)))) → option_copied e ≡ type_entered schema (option_copied p) condition
      → (not (is_some e) && is_some p) ≡ true → option_copied p ≡ type_inside schema (option_copied p) condition
  type_around (Some m) p condition is test = cc
  type_around None None condition is test = cc
  type_around None (Some m) None is test = refl
  type_around None (Some m) (Some name) is test = ap (λ r. option_or r (option_copied (Some m))) is

  pub unknown_condition : (e p : Option (Bor (MetaTypeOf S C))) (condition : Option (Placed (Bor (List ℕ)))) → option_copied e ≡ type_entered schema (option_copied p) condition
      → (not (is_some e) && is_some p) ≡ true → IsConditionKnown schema condition → ⊥
  unknown_condition (Some m) p condition is test known = cc
  unknown_condition None None condition is test known = cc
  unknown_condition None (Some m) None is test known = cc
  unknown_condition None (Some m) (Some name) is test known = let k = known name refl in clash k.0 (is ∙ k.1)
    where
      clash : (x : MetaTypeOf S C) → None ≡ Some x → ⊥
      clash x e = cc
