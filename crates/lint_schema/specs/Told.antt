-- What is told of the faults of a schema's definitions.
use Rattle.std.specs.Prelude.{◌≡◌, ◌<◌, ◌⊎◌, ◌++◌, ℕ, List, [], ◌∷◌, Option, None, Some, length}
use Rattle.std.specs.List.{AllZip}
use Rattle.language_types.specs.declared.position.SourcePosition.{SourcePosition}
use Rattle.language_types.specs.Position.{index_of, line_of, column_of}
use Rattle.lint_sources.specs.declared.faults.Fault.{Fault}
use Rattle.lint_sources.specs.declared.sources.Joined.{Joined}
use Rattle.lint_sources.specs.declared.sources.Place.{Place}
use Rattle.lint_sources.specs.declared.sources.Source.{Source}
use Rattle.lint_sources.specs.Faults.{HasPlaceMore, IsFault}
use Rattle.lint_sources.specs.Places.{place_in}
use Rattle.lint_sources.specs.ShownLines.{IsLineOf}
use Rattle.lint_sources.specs.Sources.{path_in, text_in}
use Rattle.sdl_index.specs.declared.error.PlacedFault.{PlacedFault}
use Rattle.sdl_index.specs.declared.error.SchemaReadError.{SchemaReadError}
use Rattle.sdl_index.specs.declared.error.SchemaReadError.TheVariants as read

-- the position of a text in its line alone
pub record IsInLine (p position : SourcePosition) : Type 0 where
  pub index_is : index_of position ≡ column_of p
  pub line_is : line_of position ≡ line_of p
  pub column_is : column_of position ≡ column_of p

-- a fault with its file, its place, and the line of the place
abbrev pub IsToldInLine : List Source → Place → Option (List ℕ) → Fault → Type 0
IsToldInLine sources place said fault =
    (line : List ℕ) × IsLineOf (text_in sources place.file) place.position line
    × ((position : SourcePosition) × IsInLine place.position position
    × IsFault (path_in sources place.file) line (Some position) said fault)

-- the same; the definitions of an introspection result are not its text, so their faults have no place
abbrev pub IsToldAt : List Source → Place → Option (List ℕ) → Fault → Type 0
IsToldAt sources place said fault = IsToldInLine sources place said fault ⊎ IsFault (path_in sources place.file) [] None said fault

-- it has a further place, with the line of that; unless the definitions are an introspection result
pub record HasPlaceInLine (sources : List Source) (place : Place) (old new : Fault) : Type 0 where
  pub line : List ℕ
  pub is_line : IsLineOf (text_in sources place.file) place.position line
  pub position : SourcePosition
  pub in_line : IsInLine place.position position
  pub has : HasPlaceMore (path_in sources place.file) line position old new

abbrev pub HasFurther : List Source → Place → Fault → Fault → Type 0
HasFurther sources place old new = HasPlaceInLine sources place old new ⊎ (new ≡ old)

-- it has these further places
abbrev pub HasAllFurther : List Source → Joined → List SourcePosition → Fault → Fault → Type 0
HasAllFurther sources joined [] old new = new ≡ old
HasAllFurther sources joined (p ∷ ps) old new =
    (between : Fault) × HasFurther sources (place_in joined p) old between × HasAllFurther sources joined ps between new

-- after the faults that were there came one of which this holds
pub record AddsFault (P : Fault → Type 0) (old new : List Fault) : Type 0 where
  pub fault : Fault
  pub told : P fault
  pub all : new ≡ old ++ fault ∷ []

-- a fault for each that was found, in order
abbrev pub AreToldAt : List Source → Joined → List PlacedFault → List Fault → Type 0
AreToldAt sources joined = AllZip (λ placed fault. IsToldAt sources (place_in joined placed.position) None fault)

-- after the faults that were there came those
pub record AddsFaults (sources : List Source) (joined : Joined) (found : List PlacedFault) (old new : List Fault) : Type 0 where
  pub more : List Fault
  pub told : AreToldAt sources joined found more
  pub all : new ≡ old ++ more

-- those of an error, one at least
abbrev pub AddsFaultsOf : List Source → Joined → SchemaReadError → List Fault → List Fault → Type 0
AddsFaultsOf sources joined (read.Syntax error) old new = AddsFault (IsToldAt sources (place_in joined error.position) None) old new
AddsFaultsOf sources joined (read.Faults found) old new = (0 < length found.list.items) × AddsFaults sources joined found.list.items old new
AddsFaultsOf sources joined read.OutOfMemory old new = ⊥
