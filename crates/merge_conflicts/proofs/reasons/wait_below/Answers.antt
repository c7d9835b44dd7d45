use Rattle.std.proofs.Common.{◌≡◌, ◌∷◌, [], ◌++◌, ◌<◌, length, ap, ◌∙◌, append_assoc, rules, refl, get_or}
use Rattle.std.proofs.lemmas.List.{nil_from_length}
use Rattle.merge_conflicts.specs.declared.reasons.Task.TheVariants.{One, Others}
use Rattle.merge_conflicts.proofs.Leading.{waiting_some, waiting_none}
use Rattle.merge_conflicts.proofs.reasons.wait_below.Goals as goal

pub returns-then-is_empty : goal.returns-then-is_empty
returns-then-is_empty c = (c.in_ok-parts.parts.items, waiting_none c.in_ok-parts.parts.items c.args.tasks.now.items (nil_from_length c.in_ok-parts.parts.items (search rules)), c.in_ok-parts.ensures.parts)

pub returns : goal.returns
returns c =
    let ps = c.in_ok-parts.parts.items in
    let p = c.index-first.result.now in
    let less : 0 < length ps = search rules in
    let is : p ≡ get_or ps 0 p = search rules in (
      ps,
      waiting_some ps p c.args.tasks.now.items _ (Others c.in_ok-parts.parts 1) less is refl
          (c.in_ok-push-2.ensures.items ∙ ap (λ ts. ts ++ One p ∷ []) c.in_ok-push.ensures.items ∙ append_assoc c.args.tasks.now.items (Others c.in_ok-parts.parts 1 ∷ []) (One p ∷ [])),
      c.in_ok-parts.ensures.parts,
    )
