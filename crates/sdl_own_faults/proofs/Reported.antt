-- What loops report, item by item, where the items are references or names.
use denote.Ref.{Bor}
use Rattle.std.proofs.Common.{◌≡◌, ◌∙◌, ℕ, ◌+◌, ◌<◌, List, [], ◌∷◌, ◌++◌, length, get_or, take, refl, sym, ap}
use Rattle.std.specs.List.{flat_map}
use Rattle.std.proofs.lemmas.List.{get_or_default, map-append}
use Rattle.language_types.specs.References.{list_copied}
use Rattle.sdl_directives.specs.Earlier.{each_after}
use Rattle.graphql_reader.specs.declared.type_system.TypeDefinition.{TypeDefinition}
use Rattle.sdl_directives.proofs.Earlier.{after_next, flat_mapped}
use Rattle.type_system_report.proofs.Reported.{reports_next}
use Rattle.sdl_own_faults.specs.Fault.{Written}
use Rattle.sdl_own_faults.specs.Names.{written_names}
use Rattle.sdl_own_faults.specs.declared.parts.Part.{Part}
use Rattle.sdl_own_faults.specs.Parts.{definitions_of}
pub use Rattle.type_system_report.proofs.Reported.{reports_both, reports_next}

module _ {A B : Type 0} (f : List A → A → List B) where
  at_copied : List (Bor A) → Bor A → List B
  at_copied before x = f (list_copied before) x.now

  after_copied : (before xs : List (Bor A)) → each_after at_copied before xs ≡ each_after f (list_copied before) (list_copied xs)
  unfolding at_copied
  after_copied before [] = refl
  after_copied before (x ∷ xs) =
      ap (λ z. f (list_copied before) x.now ++ z)
      (after_copied (before ++ x ∷ []) xs ∙ ap (λ b. each_after f b (list_copied xs)) (map-append (λ (r : Bor A). r.now) before (x ∷ [])))

  -- what was found at the references that were seen, each with those before it, and then at the next
  pub after_next_copied : (xs : List (Bor A)) (i : ℕ) (x d : Bor A) (r r₁ r₂ : List B) → i < length xs → x ≡ get_or xs i d
      → r₁ ≡ r ++ each_after f [] (list_copied (take i xs)) → r₂ ≡ r₁ ++ f (list_copied (take i xs)) x.now
      → r₂ ≡ r ++ each_after f [] (list_copied (take (i + 1) xs))
  unfolding at_copied
  after_next_copied xs i x d r r₁ r₂ here is seen more =
      after_next at_copied xs i x r r₁ r₂ here (is ∙ get_or_default xs i d x here) (seen ∙ ap (λ z. r ++ z) (sym (after_copied [] (take i xs)))) more
      ∙ ap (λ z. r ++ z) (after_copied [] (take (i + 1) xs))

-- what was found at the parts that were seen, and then at the next
pub parts_next : {A : Type 0} (finds : TypeDefinition → List A) (ps : List Part) (i : ℕ) (p d : Part) (r r₁ r₂ : List A) → i < length ps → p ≡ get_or ps i d
    → r₁ ≡ r ++ flat_map finds (definitions_of (take i ps)) → r₂ ≡ r₁ ++ finds p.definition.now → r₂ ≡ r ++ flat_map finds (definitions_of (take (i + 1) ps))
parts_next finds ps i p d r r₁ r₂ here is seen more =
    let at = λ (q : Part). q.definition.now in
    reports_next (λ (q : Part). finds q.definition.now) ps i p d r r₁ r₂ here is (seen ∙ ap (λ z. r ++ z) (sym (flat_mapped finds at (take i ps)))) more
    ∙ ap (λ z. r ++ z) (flat_mapped finds at (take (i + 1) ps))

as_lists : (ws : List Written) → flat_map (λ w. w.item.now ∷ []) ws ≡ written_names ws
as_lists [] = refl
as_lists (w ∷ ws) = ap (λ z. w.item.now ∷ z) (as_lists ws)

-- the names that were seen, and then the next
pub names_next : (ws : List Written) (i : ℕ) (w d : Written) (r r₁ r₂ : List (List ℕ)) → i < length ws → w ≡ get_or ws i d
    → r₁ ≡ r ++ written_names (take i ws) → r₂ ≡ r₁ ++ w.item.now ∷ [] → r₂ ≡ r ++ written_names (take (i + 1) ws)
names_next ws i w d r r₁ r₂ here is seen more =
    reports_next (λ (w : Written). w.item.now ∷ []) ws i w d r r₁ r₂ here is (seen ∙ ap (λ z. r ++ z) (sym (as_lists (take i ws)))) more
    ∙ ap (λ z. r ++ z) (as_lists (take (i + 1) ws))
