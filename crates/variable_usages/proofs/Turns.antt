-- The operations of each name, in turn.
use Rattle.std.proofs.Common.{◌≡◌, ℕ, ◌+◌, ◌<◌, ◌≤◌, List, ◌++◌, ◌∷◌, [], length, get_or, take, sym, subst, ◌∙◌, arith, Option, Some, option_map, slice_get, vec_len}
use denote.Ref.{Bor}
use Rattle.std.proofs.lemmas.List.{length-map, take_all}
use Rattle.language.specs.declared.tree.Definition.{Definition}
use Rattle.operation_scopes.specs.Index.{operation_names}
use Rattle.operation_scopes.specs.declared.index.ScopeIndex.{ScopeIndex}
use Rattle.operation_scopes.specs.Places.{numbered_places}
use Rattle.operation_scopes.specs.Searches.{IsReady}
use Rattle.operation_scopes.specs.declared.reach.Search.{Search}
use Rattle.variable_usages.specs.declared.document_index.DocumentIndex.{DocumentIndex}
use Rattle.variable_usages.specs.DocumentIndex.{IsDocumentIndex, MayReach}
use Rattle.variable_usages.specs.InReachUses.{AddsPart, InTurn}
use Rattle.variable_usages.specs.Undefined.{Undefined, UndefinedIn, UndefinedNumbered}
use Rattle.variable_usages.proofs.Telling.{in_turn_at, in_turn_more, mapped_at, mapped_contains, mapped_next}

module _ (index : DocumentIndex) (i end : ℕ) (all : end ≡ vec_len index.scopes.names) where
  -- those of the name at a place
  module _ (name : Option (Bor (List ℕ))) (is : name ≡ get_or index.scopes.names.items i name) (low : i < end) where
    within : i < length index.scopes.names.items
    within = let same = index.scopes.names.ok.0 in omega (arith, low, all, same)

    pub named_at : slice_get (operation_names index.scopes) i ≡ Some (option_map (λ n. n.now) name)
    named_at = mapped_at (option_map (λ n. n.now)) index.scopes.names.items i name is within

    pub may_reach : {S : Type 0} (document : List (Definition S)) (search : Search) (own : List ℕ) → IsDocumentIndex document index → IsReady index.scopes search
        → own ≡ numbered_places index.scopes.operations.items i → MayReach document index search (option_map (λ n. n.now) name) own
    may_reach document search own h ready places = record {
      index = h;
      ready = ready;
      own = places ∙ h.scopes.operations (option_map (λ n. n.now) name) i (mapped_at (option_map (λ n. n.now)) index.scopes.names.items i name is within);
      named = (h.scopes.names.are (option_map (λ n. n.now) name)).0 (mapped_contains (option_map (λ n. n.now)) index.scopes.names.items i name is within);
    }

    pub next_turn : {Y : Type 0} (gives : Option (List ℕ) → List Y → Type 0) (old new : List Y) → InTurn gives (take i (operation_names index.scopes)) old
        → AddsPart (gives (option_map (λ n. n.now) name)) old new → InTurn gives (take (i + 1) (operation_names index.scopes)) new
    next_turn gives old new before (part, given, more) =
        subst (λ xs. InTurn gives xs new) (sym (mapped_next (option_map (λ n. n.now)) index.scopes.names.items i name is within))
        (subst (InTurn gives (take i (operation_names index.scopes) ++ option_map (λ n. n.now) name ∷ [])) (sym more)
        (in_turn_more gives (take i (operation_names index.scopes)) old (option_map (λ n. n.now) name) part before given))

  -- where the names end, those of all were met
  pub all_turns : {Y : Type 0} (gives : Option (List ℕ) → List Y → Type 0) (found : List Y) → end ≤ i → InTurn gives (take i (operation_names index.scopes)) found
      → InTurn gives (operation_names index.scopes) found
  all_turns gives found past =
      let same = index.scopes.names.ok.0 in
      let none_left : length (operation_names index.scopes) ≤ i = omega (arith, past, all, same, length-map index.scopes.names.items (option_map (λ n. n.now))) in
      subst (λ xs. InTurn gives xs found) (take_all i (operation_names index.scopes) none_left)

module _ {S : Type 0} (document : List (Definition S)) (scopes : ScopeIndex) where
  -- those of the name with the next number
  pub next_numbered : (i : ℕ) (old new : List Undefined) → InTurn (UndefinedIn document) (take i (operation_names scopes)) old
      → AddsPart (UndefinedNumbered document scopes i) old new → InTurn (UndefinedIn document) (take (i + 1) (operation_names scopes)) new
  next_numbered i old new before (part, (name, at, given), more) =
      subst (InTurn (UndefinedIn document) (take (i + 1) (operation_names scopes))) (sym more)
      (in_turn_at (UndefinedIn document) (operation_names scopes) i name old part at before given)
