use Rattle.std.proofs.Common.{◌∙◌, ap, cond, Some, None, sym}
use mathlib.Core.Path.{fun_ext}
use Rattle.std.specs.Str.{bytes_eq}
use Rattle.rules_support.specs.Noting.{or_else}
use Rattle.rules_support.proofs.Kept.{place_is}
use Rattle.rules_support.proofs.first_places.FirstPlaces.note.Goals as goal

pub returns-clause-first : goal.returns-clause-first
returns-clause-first c = c.in_ok-first.ensures.earlier ∙ sym (place_is c.args.self.now c.args.name.now)

pub returns-clause-kept : goal.returns-clause-kept
returns-clause-kept c = fun_ext (λ other.
    place_is _ other ∙ c.in_ok-first.ensures.noted other
    ∙ ap (λ o. or_else o (cond (bytes_eq c.args.name.now other) (Some c.args.place) None)) (sym (place_is c.args.self.now other)))
