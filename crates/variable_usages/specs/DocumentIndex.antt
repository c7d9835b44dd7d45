-- The index of a document, for the rules that look across it.
use Rattle.std.specs.Prelude.{◌≡◌, ℕ, List, Option}
use Rattle.language.specs.declared.tree.Definition.{Definition}
use Rattle.fragment_reach.specs.Reach.{operation}
use Rattle.operation_scopes.specs.Index.{IsIndexOf}
use Rattle.operation_scopes.specs.Places.{places_of}
use Rattle.operation_scopes.specs.Scopes.{IsOperationName}
use Rattle.operation_scopes.specs.Searches.{IsReady}
use Rattle.operation_scopes.specs.declared.reach.Search.{Search}
use Rattle.variable_usages.specs.declared.document_index.DocumentIndex.{DocumentIndex}
use Rattle.variable_usages.specs.InReachUses.{AllUses}

pub record IsDocumentIndex {S : Type 0} (document : List (Definition S)) (index : DocumentIndex) : Type 0 where
  pub scopes : IsIndexOf document index.scopes
  pub uses : AllUses document index.uses.items

-- What the operations of a name reach may be looked for, by their places.
pub record MayReach {S : Type 0} (document : List (Definition S)) (all : DocumentIndex) (search : Search)
    (name : Option (List ℕ)) (places : List ℕ) : Type 0 where
  pub index : IsDocumentIndex document all
  pub ready : IsReady all.scopes search
  pub own : places ≡ places_of document (operation name)
  pub named : IsOperationName document name
