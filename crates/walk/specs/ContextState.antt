-- What a context holds, as callers see it.
use Rattle.std.specs.Global.{Global}
use Rattle.std.specs.Prelude.{◌≡◌, ◌==◌, ◌||◌, nat_lt, if◌then◌else◌, ℕ, ◌+◌, ◌-◌, ◌<◌, List, [], ◌∷◌, ◌++◌, Option}
use Rattle.std.specs.Prelude.{Some, None, Bool, true, false, slice_get, length, take}
use Rattle.language.specs.declared.tree.Definition.{Definition}
use Rattle.schema.specs.Catalog.{Catalog}
use Rattle.walk.specs.ErrorValue.{ErrorValue, share, shares}
use Rattle.walk.specs.Names.{fragment_names}
use Rattle.events.specs.Typing.{Typing, untyped}

-- what it allocates by, the schema, the names of the document's fragments, the types that were pushed, what was
-- reported, how much it keeps of errors (0: all), and whether it has failed
pub record ContextState (S C : Type 0) : Type 0 where
  pub allocator : Global
  pub schema : Catalog S C
  pub known : List (List ℕ)
  pub typings : List (Typing S C)
  pub errors : List ErrorValue
  pub limit : ℕ
  pub failed : Bool

-- what stays the same in a walk: the schema, and the names of the document's fragments
pub record DocumentScope (S C : Type 0) : Type 0 where
  pub schema : Catalog S C
  pub known : List (List ℕ)

-- whether one more error is kept behind those that take so much, where so much is kept in all (0: all)
abbrev pub has_place : ℕ → ℕ → Bool
has_place limit held = (limit == 0) || nat_lt held limit

-- which of these errors are kept then, one after the other
abbrev pub fitting : ℕ → ℕ → List ErrorValue → List ErrorValue
fitting limit held [] = []
fitting limit held (e ∷ es) = if has_place limit held then e ∷ fitting limit (held + share e) es else []

module _ {S C : Type 0} where
  abbrev pub or_untyped : Option (Typing S C) → Typing S C
  or_untyped None = untyped
  or_untyped (Some t) = t

  -- the types at hand: those that were pushed last
  abbrev pub last_typing : List (Typing S C) → Typing S C
  last_typing ts = or_untyped (slice_get ts (length ts - 1))

  abbrev pub typing : ContextState S C → Typing S C
  typing w = last_typing w.typings

  -- some types are pushed
  abbrev pub HasTypes : ContextState S C → Type 0
  HasTypes w = 0 < length w.typings

  -- the context with these types pushed
  abbrev pub pushed : ContextState S C → Typing S C → ContextState S C
  pushed w t = record w { typings = w.typings ++ t ∷ [] }

  -- and without the types that were pushed last
  abbrev pub popped : ContextState S C → ContextState S C
  popped w = record w { typings = take (length w.typings - 1) w.typings }

  -- one more error is kept
  abbrev pub HasRoom : ContextState S C → Type 0
  HasRoom w = has_place w.limit (shares w.errors) ≡ true

  -- the context with more errors, as far as they are kept
  abbrev pub with_errors : ContextState S C → List ErrorValue → ContextState S C
  with_errors w es = record w { errors = w.errors ++ fitting w.limit (shares w.errors) es }

  -- the context with another limit
  abbrev pub limited : ContextState S C → ℕ → ContextState S C
  limited w n = record w { limit = n }

  -- the context once it has failed
  abbrev pub failing : ContextState S C → ContextState S C
  failing w = record w { failed = true }

  abbrev pub scope_of_context : ContextState S C → DocumentScope S C
  scope_of_context w = record { schema = w.schema; known = w.known }

  -- what is known of a document
  abbrev pub scope_of : Catalog S C → List (Definition S) → DocumentScope S C
  scope_of schema doc = record { schema = schema; known = fragment_names doc }

  -- the context was made for this document
  abbrev pub IsMadeFor : ContextState S C → List (Definition S) → Type 0
  IsMadeFor w doc = w.known ≡ fragment_names doc

  -- a context that was made for a document: no types, and nothing reported
  abbrev pub fresh_context : Global → Catalog S C → List (Definition S) → ContextState S C
  fresh_context alloc schema doc =
      record {
        allocator = alloc;
        schema = schema;
        known = fragment_names doc;
        typings = [];
        errors = [];
        limit = 0;
        failed = false;
      }

module _ {S C : Type 0} where
  -- types that are pushed and popped leave a context as it was, but for what was reported between; whatever is done
  -- between, the types are those from before if it left them as it found them
  abbrev pub LeavesTypes : ContextState S C → Typing S C → Type 0
  LeavesTypes w t =
      (popped (pushed w t) ≡ w)
      × ((es : List ErrorValue) → popped (with_errors (pushed w t) es) ≡ with_errors w es)
      × ((left : ContextState S C) → left.typings ≡ (pushed w t).typings → (popped left).typings ≡ w.typings)

-- whether there is an error
abbrev pub has_some : {X : Type 0} → List X → Bool
has_some [] = false
has_some (x ∷ xs) = true
