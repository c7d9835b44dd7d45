-- Why a file could not be judged, as an error of this file, which may have places in others.
use Rattle.std.specs.Prelude.{◌≡◌, ◌++◌, ℕ, IfSome, List, [], ◌∷◌, Option, length, option_map, string_bytes}
use Rattle.std.specs.Option.{option_to_list}
use Rattle.language_types.specs.declared.position.SourcePosition.{SourcePosition}
use Rattle.lint_sources.specs.declared.faults.Fault.{Fault}
use Rattle.lint_sources.specs.declared.sources.Place.{Place}
use Rattle.lint_sources.specs.declared.sources.Source.{Source}

-- a file with this path and this text
pub record IsSource (path text : List ℕ) (source : Source) : Type 0 where
  pub path_is : string_bytes source.path ≡ path
  pub text_is : string_bytes source.text ≡ text

-- a place in the file, whose number is 0
abbrev pub of_file : SourcePosition → Place
of_file position = record { file = 0; position = position }

-- a fault has the file alone, the message where it is known, and the place if there is one
pub record IsFault (path text : List ℕ) (position : Option SourcePosition) (said : Option (List ℕ)) (fault : Fault) : Type 0 where
  pub source : Source
  pub is_source : IsSource path text source
  pub sources_are : fault.sources.items ≡ source ∷ []
  pub message_is : IfSome said (λ message. string_bytes fault.issue.message ≡ message)
  pub places_are : fault.issue.places.items ≡ option_to_list (option_map of_file position)
  pub file_is : fault.issue.file ≡ 0

-- it has one place more, which has a source of its own; its message and its file are as they were
pub record HasPlaceMore (path text : List ℕ) (position : SourcePosition) (old new : Fault) : Type 0 where
  pub source : Source
  pub is_source : IsSource path text source
  pub sources_are : new.sources.items ≡ old.sources.items ++ source ∷ []
  pub places_are : new.issue.places.items ≡ old.issue.places.items ++ record { file = length old.sources.items; position = position } ∷ []
  pub message_is : new.issue.message ≡ old.issue.message
  pub file_is : new.issue.file ≡ old.issue.file
