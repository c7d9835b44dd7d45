-- The texts of what is wrong with directives; those of the rules on documents.
use Rattle.std.specs.Prelude.{ℕ, List, ◌++◌, codes}
use Rattle.language_types.specs.Types.{printed}
use Rattle.sdl_directives.specs.declared.fault.DirectiveFaultOf.TheVariants as k
use Rattle.sdl_directives.specs.Fault.{KindValue}
use Rattle.sdl_directives.specs.Locations.{location_words}

abbrev pub kind_text : KindValue → List ℕ
kind_text (k.Unknown n) = codes "Unknown directive \"" ++ (n ++ codes "\"")
kind_text (k.Misplaced n l) = codes "Directive \"" ++ (n ++ (codes "\" may not be used on " ++ location_words l))
kind_text (k.Repeated n) = codes "Directive \"" ++ (n ++ codes "\" may be used only once here")
kind_text (k.UnknownArgument a n) = codes "Unknown argument \"" ++ (a ++ (codes "\" on directive \"" ++ (n ++ codes "\"")))
kind_text (k.RepeatedArgument a) = codes "There can only be one argument named \"" ++ (a ++ codes "\"")
kind_text (k.MissingArgument n a t) =
    (codes "Directive \"@" ++ (n ++ (codes "\" argument \"" ++ (a ++ codes "\""))))
    ++ (codes " of type \"" ++ (printed t ++ codes "\" is required but not provided"))
