-- Uses of variables as they are recorded during the walk: a list for each definition. How a use looks, and which uses
-- stand at a node, the rule says.
use Rattle.std.specs.Prelude.{List, [], ◌∷◌, ◌++◌}
use Rattle.schema.specs.Catalog.{Catalog}
use Rattle.events.specs.Node.{Node, document, fragment_definition, operation_definition}
use Rattle.events.specs.Occurrence.{Occurrence}
use Rattle.walk.specs.ContextState.{DocumentScope}

module _ {U : Type 0} where
  -- one use more in the last list
  abbrev pub with_use : U → List (List U) → List (List U)
  with_use u [] = []
  with_use u (us ∷ []) = (us ++ u ∷ []) ∷ []
  with_use u (us ∷ (vs ∷ rest)) = us ∷ with_use u (vs ∷ rest)

  -- each of these in turn
  abbrev pub with_uses : List U → List (List U) → List (List U)
  with_uses [] lists = lists
  with_uses (u ∷ us) lists = with_uses us (with_use u lists)

  abbrev pub recorded_at : {S : Type 0} → List U → Node S → List (List U) → List (List U)
  recorded_at found (document d) lists = lists
  recorded_at found (operation_definition o) lists = lists ++ found ∷ []
  recorded_at found (fragment_definition f) lists = lists ++ found ∷ []
  recorded_at found _ lists = with_uses found lists

module _ {S C U : Type 0} (uses_at : Catalog S C → Occurrence S C → List U) where
  -- a list more at each definition, and the uses at each other node in the last list
  abbrev pub next_recorded : DocumentScope S C → Occurrence S C → List (List U) → List (List U)
  next_recorded scope o lists = recorded_at (uses_at scope.schema o) o.node lists
