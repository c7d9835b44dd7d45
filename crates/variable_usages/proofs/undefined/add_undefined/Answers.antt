use Rattle.std.proofs.Common.{◌++◌, map, option_map, ap, ◌∙◌, refl}
use Rattle.std.specs.List.{flat_map}
use Rattle.std.proofs.lemmas.Result.{on_ok_weaker}
use Rattle.variable_usages.specs.Names.{defined_names, has_name, is_among}
use Rattle.variable_usages.specs.Undefined.{told_undefined, undefined_of}
use Rattle.variable_usages.specs.Uses.{use_of}
use Rattle.variable_usages.proofs.undefined.add_undefined.Goals as goal

pub returns-in_ok-defined-in-Some-clause-told : goal.returns-in_ok-defined-in-Some-clause-told
returns-in_ok-defined-in-Some-clause-told g c =
    let last = c.in-Some.last.now in
    let name = option_map (λ n. n.now) c.args.name in
    let us = map use_of c.reached_uses.new.search.uses.items in
    let names = c.in_ok-defined-in-Some.ensures in
    on_ok_weaker c.tell_all.result
    (λ e. (
      flat_map (told_undefined (is_among (defined_names last)) name last.span.start) us,
      record { last = last; is_last = c.in-Some.ensures.some name c.requires.own; uses = us; used = c.in_ok-reached_uses-in-Some.ensures.used name c.requires.own; told = refl },
      e ∙ ap (λ zs. map undefined_of c.args.found.now.items ++ flat_map (told_undefined (has_name c.in_ok-defined-in-Some.defined) name last.span.start) (map use_of zs)) c.as_slice.ensures.value
          ∙ (λ i. map undefined_of c.args.found.now.items ++ flat_map (told_undefined (λ n. (names n ∙ ap (λ vs. is_among (map (λ v. v.0.item.now) vs) n) c.variables.ensures) i) name last.span.start) us),
    ))
    c.tell_all.ensures

pub returns-in-None-clause-told : goal.returns-in-None-clause-told
returns-in-None-clause-told g c = absurd (c.in-None.ensures.none (option_map (λ n. n.now) c.args.name) c.requires.own c.requires.named)

pub returns-in_ok-defined-in-Some-clause-ready : goal.returns-in_ok-defined-in-Some-clause-ready
returns-in_ok-defined-in-Some-clause-ready g c = on_ok_weaker c.tell_all.result (λ e. c.in_ok-reached_uses-in-Some.ensures.ready) c.tell_all.ensures
