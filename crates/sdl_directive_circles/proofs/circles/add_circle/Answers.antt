use Rattle.std.proofs.Common.{[], ◌∷◌, Some, ap, option_map, subst, sym, ◌∙◌}
use Rattle.std.proofs.lemmas.List.{map-append}
use Rattle.sdl_directives.specs.Known.{directive_of}
use Rattle.sdl_directive_circles.specs.Circles.{AddsCircles, IsToldOf, circle_value, circle_values}
use Rattle.sdl_directive_circles.proofs.Found.{adds_one}
use Rattle.sdl_directive_circles.proofs.circles.add_circle.Goals as goal

pub returns-in_ok-push : goal.returns-in_ok-push
returns-in_ok-push c =
    let document = c.args.document.now in
    let d = c.in-Directive.defined.item in
    let old = circle_values c.args.circles.now.items in
    let new = circle_values c.push.new.self.items in
    let one = subst (IsToldOf document d) (ap (option_map circle_value) c.in-Some.is) c.in_ok-circle.ensures in
    let more = ap circle_values c.in_ok-push.ensures.items ∙ map-append circle_value c.args.circles.now.items (c.in-Some.circle ∷ []) in
    subst (λ ds. AddsCircles document ds old new) (sym (ap directive_of c.in-Directive.is))
    (adds_one document d (Some (circle_value c.in-Some.circle)) old new one more)
