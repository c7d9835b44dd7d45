-- Operations that define no variable, of which nothing is reported.
use Rattle.std.proofs.Common.{◌≡◌, ℕ, List, [], ◌∷◌, Option, Some, None, option_copied, length, true, cond, refl, ap, sym, ◌∙◌, subst}
use denote.Ref.{Bor}
use Rattle.std.specs.BTreeMap.{btree_map_len, is_at}
use Rattle.std.specs.Cmp.Lexicographic.{slice_cmp, nat_list_eq_equiv}
use Rattle.std.specs.List.{flat_map}
use Rattle.std.specs.Map.{lookup}
use Rattle.std.specs.Ordering.{nat_cmp}
use Rattle.std.proofs.lemmas.List.{nil_from_length}
use Rattle.std.proofs.lemmas.Map.Text.{is_eq-slice_cmp}
use Rattle.language.specs.declared.tree.Definition.{Definition}
use Rattle.meta.specs.declared.kinds.MetaTypeOf.{MetaTypeOf}
use Rattle.fragment_reach.specs.Reach.{operation}
use Rattle.operation_scopes.specs.declared.index.ScopeIndex.{ScopeIndex}
use Rattle.operation_scopes.specs.Index.{IsIndexOf}
use Rattle.operation_scopes.specs.Places.{places_of}
use Rattle.operation_scopes.specs.Scopes.{same_scope, scope_of}
use Rattle.operation_scopes.proofs.InReaching.{some_reach}
use Rattle.operation_scopes.proofs.PlaceLists.{flat_places}
use Rattle.events.specs.Node.{VariableEntry}
use Rattle.walk.specs.Entering.{EachGives}
use Rattle.rules_positions.specs.DefinedVariables.{first_of, variables_at, variables_in, variables_of}
use Rattle.rules_positions.specs.FirstVariables.{KeepsFirst}
use Rattle.rules_positions.specs.JudgedUses.{JudgedIfDefined, Judgement, OperationsGive, UsesGive, uses_in}
use Rattle.rules_positions.specs.declared.first_variables.FirstVariables.{FirstVariables}

-- a map without entries keeps no definition
pub keeps_none : {S : Type 0} (f : FirstVariables S) → btree_map_len f.entries ≡ 0 → KeepsFirst [] f
keeps_none f e variable = ap (λ es. option_copied (lookup (is_at (λ k. slice_cmp nat_cmp variable k.now)) es)) (nil_from_length f.entries.entries e)

-- where no name has a definition there is no entry, since each entry's own name has one
no_entries : {S : Type 0} (entries : List (Bor (List ℕ) × Bor (VariableEntry S))) → ((variable : List ℕ) → option_copied (lookup (is_at (λ k. slice_cmp nat_cmp variable k.now)) entries) ≡ None) → length entries ≡ 0
no_entries [] none = refl
no_entries ((k, v) ∷ entries) none =
    let found : is_at (λ (n : Bor (List ℕ)). slice_cmp nat_cmp k.now n.now) k ≡ true = is_eq-slice_cmp k.now k.now ∙ nat_list_eq_equiv.refl k.now in
    let kept = ap (λ b. option_copied (cond b (Some v) (lookup (is_at (λ n. slice_cmp nat_cmp k.now n.now)) entries))) found in
    let missing = none k.now in
    cc

pub kept_none : {S : Type 0} (f : FirstVariables S) → KeepsFirst [] f → btree_map_len f.entries ≡ 0
kept_none f none = no_entries f.entries.entries none

-- where each gives nothing all of them do
each_nothing : {O R : Type 0} (gives : O → List R → Type 0) (os : List O) → ((o : O) → gives o []) → EachGives gives os []
each_nothing gives [] h = refl
each_nothing gives (o ∷ os) h = ([], [], h o, each_nothing gives os h, refl)

-- what the operations of a name define, by their places
pub own_variables : {S : Type 0} (document : List (Definition S)) (name : Option (List ℕ)) (own : List ℕ) → own ≡ places_of document (operation name) → flat_map (variables_at document) own ≡ variables_of document name
own_variables document name own e = ap (flat_map (variables_at document)) e ∙ flat_places (λ d. same_scope (scope_of d) (operation name)) variables_in document

-- no use is of a variable that is defined
pub none_misplaced : {S C U : Type 0} (variable_of : U → List ℕ) (judged : Judgement S C U) (document : List (Definition S)) (index : ScopeIndex) → IsIndexOf document index → (name : Option (List ℕ)) (types : List (MetaTypeOf S C)) (uses : List (List U))
    → ((v : List ℕ) → first_of (variables_of document name) v ≡ None) → OperationsGive variable_of judged types document uses name []
none_misplaced {S} {C} {U} variable_of judged document index h name types uses none =
    let (places, reach) = some_reach document index h name in
    let alone : (u : U) → JudgedIfDefined judged types (first_of (variables_of document name) (variable_of u)) u [] =
    λ u. subst (λ o. JudgedIfDefined judged types o u []) (sym (none (variable_of u))) refl
    in (
      places,
      reach,
      each_nothing (λ place fs. UsesGive variable_of judged types (first_of (variables_of document name)) (uses_in uses place) fs) places
          (λ place. each_nothing (λ u fs. JudgedIfDefined judged types (first_of (variables_of document name) (variable_of u)) u fs) (uses_in uses place) alone),
    )
