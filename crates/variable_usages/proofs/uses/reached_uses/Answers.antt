use Rattle.std.proofs.Common.{ap, ◌∙◌}
use Rattle.std.specs.List.{flat_map}
use Rattle.std.proofs.lemmas.Result.{on_ok_weaker}
use Rattle.variable_usages.specs.InReachUses.{kept_uses}
use Rattle.variable_usages.proofs.Telling.{kept_there}
use Rattle.variable_usages.proofs.uses.reached_uses.Goals as goal

pub returns-clause-used : goal.returns-clause-used
returns-clause-used g c =
    on_ok_weaker c.list_uses.result
    (λ e name own. (
      c.reached_definitions.new.search.found.items,
      c.in_ok-reached_definitions.ensures.reached name own,
      e ∙ ap (flat_map (kept_uses c.args.all.now)) c.found_places.ensures
          ∙ (λ i. flat_map (λ k. kept_there c.args.document.now c.args.all.now c.requires.all k i) c.reached_definitions.new.search.found.items),
    ))
    c.list_uses.ensures
