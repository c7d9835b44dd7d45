use Rattle.std.proofs.Common.{[], ◌∷◌, List, ◌≡◌, ap, refl}
use Rattle.std.specs.List.{flat_map}
use Rattle.std.proofs.lemmas.Result.{IfOk-weaker}
use Rattle.sdl_directives.specs.Known.{directive_of}
use Rattle.sdl_directive_circles.specs.declared.circles.DirectiveCircle.{DirectiveCircle}
use Rattle.sdl_directive_circles.specs.Circles.{circle_values}
use Rattle.sdl_directive_circles.proofs.Found.{iff_none}
use Rattle.sdl_directive_circles.proofs.circles.directive_circles.Goals as goal

unmapped : (xs : List DirectiveCircle) → circle_values xs ≡ [] → xs ≡ []
unmapped [] e = refl
unmapped (x ∷ xs) e = cc

pub returns : goal.returns
returns c =
    let document = c.args.document.now in
    record {
      all = c.circles_in.ensures;
      none = IfOk-weaker c.circles_in.result _ _ (λ v h.
          let iff = iff_none document (flat_map directive_of document) (circle_values v.items) h in
          (λ e. iff.0 (ap circle_values e), λ none. unmapped v.items (iff.1 none))) c.circles_in.ensures;
    }
