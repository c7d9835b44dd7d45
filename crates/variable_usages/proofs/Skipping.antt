-- What need not be looked for.
use Rattle.std.proofs.Common.{◌≡◌, ℕ, suc, List, [], ◌∷◌, ◌++◌, ◌∙◌, ◌==◌, ◌<◌, ◌≤◌, Bool, true, false, IsTrue, Vec, vec_len, length, arith, slice_get, map, refl, sym, subst, ap, append-nil, get_or, Option, None, Some, option_map}
use Rattle.std.specs.List.{Contains, flat_map}
use Rattle.language.specs.declared.tree.Definition.{Definition}
use Rattle.std.specs.Option.{option_map_or}
use Rattle.std.proofs.lemmas.Bool.{eqb-true}
use denote.Ref.{Bor}
use Rattle.std.proofs.lemmas.List.{nil_from_length}
use Rattle.std.proofs.lemmas.Option.{slice_get-get_or, slice_get_past}
use Rattle.std.specs.declared.alloc.Global.{Global}
use Rattle.fragment_graph.proofs.Lists.{contains_at, contains_get, contains_none}
use Rattle.fragment_graph.proofs.NamePaths.{get_map}
use Rattle.operation_scopes.specs.declared.index.ScopeIndex.{ScopeIndex}
use Rattle.operation_scopes.specs.Index.{IsIndexOf, operation_names}
use Rattle.operation_scopes.specs.Scopes.{IsOperationName}
use Rattle.operation_scopes.specs.Searches.{inside}
use Rattle.operation_scopes.proofs.Indexing.{some_last}
use Rattle.operation_scopes.proofs.InReaching.{some_reach}
use Rattle.operation_scopes.proofs.Once.{once_none}
use Rattle.variable_usages.specs.declared.uses.VariableUse.{VariableUse}
use Rattle.variable_usages.specs.InReachUses.{AddsPart, AllUses, InTurn, kept_uses}
use Rattle.variable_usages.specs.Names.{NameAndSpan, defined_names, is_among}
use Rattle.variable_usages.specs.Undefined.{Undefined, UndefinedIn, UndefinedNumbered, UndefinedVariables, UsesNothing, told_undefined}
use Rattle.variable_usages.specs.Unused.{DefinesNone, Unused, UnusedAmong, UnusedIn}
use Rattle.variable_usages.specs.Uses.{definition_uses, use_of}
use Rattle.variable_usages.proofs.Telling.{kept_there}

pub not_used : IsTrue false → ⊥
not_used t = cc

pub no_items : {X : Type 0} (xs : List X) (b : Bool) → b ≡ (length xs == 0) → b ≡ true → xs ≡ []
no_items xs b e t = nil_from_length xs (eqb-true (length xs) 0 (sym e ∙ t))

-- a list without uses
pub no_uses : (all : List (Vec VariableUse Global)) (k : ℕ) (v : Vec VariableUse Global) (b : Bool) → slice_get all k ≡ Some v → b ≡ (vec_len v == 0) → b ≡ true → kept_uses all k ≡ []
no_uses all k v b at e t =
    let none = eqb-true (vec_len v) 0 (sym e ∙ t) in
    let same = v.ok.0 in
    let empty : v.items ≡ [] = nil_from_length v.items (omega (arith, none, same)) in
    ap (λ o. option_map_or (λ w. map use_of w.items) o []) at ∙ ap (map use_of) empty

-- nor is there any past the last
pub past_uses : (all : List (Vec VariableUse Global)) (k : ℕ) → length all ≤ k → kept_uses all k ≡ []
past_uses all k l = ap (λ o. option_map_or (λ w. map use_of w.items) o []) (slice_get_past all k l)

no_variables : (used : List ℕ → Bool) (variables : List NameAndSpan) → variables ≡ [] → UnusedAmong used variables []
no_variables used variables e = record {
  once = once_none;
  are = λ v. (λ c. absurd (contains_none v c), λ (c, free). absurd (contains_none v (let P : List NameAndSpan → Type 0 = λ vs. Contains vs v in subst P e c)));
}

module _ {S : Type 0} (document : List (Definition S)) (index : ScopeIndex) (h : IsIndexOf document index) (name : Option (List ℕ)) where
  -- where no variable is defined none is unused
  pub none_unused : (old : List Unused) → DefinesNone document name → AddsPart (UnusedIn document name) old old
  none_unused old (last, is, none) =
      let (places, reach) = some_reach document index h name in (
        [],
        record {
          last = last;
          is_last = is;
          uses = flat_map (inside definition_uses document) places;
          used = (places, reach, refl);
          variables = [];
          unused = no_variables _ _ (ap (map (λ v. (v.0.item.now, v.0.span))) none);
          told = refl;
        },
        sym (append-nil old),
      )

  -- some list tells what is undefined, also where nobody makes it
  some_undefined : IsOperationName document name → (found : List Undefined) × UndefinedIn document name found
  some_undefined named =
      let (last, is) = some_last document name named in
      let (places, reach) = some_reach document index h name in
      let uses = flat_map (inside definition_uses document) places in
      let found = flat_map (told_undefined (is_among (defined_names last)) name last.span.start) uses in
      (found, record { last = last; is_last = is; uses = uses; used = (places, reach, refl); told = refl })

  module _ (all : List (Vec VariableUse Global)) (kept : AllUses document all) (nothing : UsesNothing all) where
    nothing_in : (places : List ℕ) → flat_map (inside definition_uses document) places ≡ []
    nothing_in [] = refl
    nothing_in (k ∷ places) = ap (λ us. us ++ flat_map (inside definition_uses document) places) (sym (kept_there document all kept k) ∙ nothing k) ∙ nothing_in places

    -- where nothing is used all is defined
    pub none_undefined : IsOperationName document name → UndefinedIn document name []
    none_undefined named =
        let (last, is) = some_last document name named in
        let (places, reach) = some_reach document index h name in record {
          last = last;
          is_last = is;
          uses = flat_map (inside definition_uses document) places;
          used = (places, reach, refl);
          told = ap (flat_map (told_undefined (is_among (defined_names last)) name last.span.start)) (sym (nothing_in places));
        }

module _ {S : Type 0} (document : List (Definition S)) (index : ScopeIndex) (h : IsIndexOf document index) where
  -- the same by the number of a name
  pub some_numbered : (i : ℕ) → i < vec_len index.names → (found : List Undefined) × UndefinedNumbered document index i found
  some_numbered i low =
      let now : Option (Bor (List ℕ)) → Option (List ℕ) = option_map (λ n. n.now) in
      let same = index.names.ok.0 in
      let item = get_or index.names.items i None in
      let at = get_map now index.names.items i item (slice_get-get_or index.names.items i None (omega (arith, low, same))) in
      let (found, is) = some_undefined document index h (now item) ((h.names.are (now item)).0 (contains_at (operation_names index) i (now item) at)) in
      (found, (now item, at, is))

module _ {S : Type 0} (document : List (Definition S)) (index : ScopeIndex) (h : IsIndexOf document index) (all : List (Vec VariableUse Global)) (kept : AllUses document all) (nothing : UsesNothing all) where
  none_of : (names : List (Option (List ℕ))) → ((name : Option (List ℕ)) → Contains names name → IsOperationName document name) → InTurn (UndefinedIn document) names []
  none_of [] are = refl
  none_of (name ∷ names) are = (
    [],
    [],
    none_undefined document index h name all kept nothing (are name (contains_at (name ∷ names) 0 name refl)),
    none_of names (λ other c. let (k, at) = contains_get names other c in are other (contains_at (name ∷ names) (suc k) other at)),
    refl,
  )

  pub all_defined : UndefinedVariables document []
  all_defined = (operation_names index, h.names, none_of (operation_names index) (λ name c. (h.names.are name).0 c))
