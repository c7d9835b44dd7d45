use Rattle.std.proofs.Common.{◌++◌, map, option_map, ap, ◌∙◌, refl}
use Rattle.std.proofs.lemmas.Result.{on_ok_weaker}
use Rattle.variable_usages.specs.Unused.{name_and_span, unused_by, unused_of}
use Rattle.variable_usages.specs.Uses.{use_of}
use Rattle.variable_usages.proofs.Variables.{unused_in}
use Rattle.variable_usages.proofs.unused.add_unused.Goals as goal

pub returns-in_ok-unused-in-Some-clause-told : goal.returns-in_ok-unused-in-Some-clause-told
returns-in_ok-unused-in-Some-clause-told g c =
    let last = c.in-Some.last.now in
    let name = option_map (λ n. n.now) c.args.name in
    let us = map use_of c.reached_uses.new.search.uses.items in
    let vs = map name_and_span c.in_ok-unused-in-Some.unused.items in
    on_ok_weaker c.tell_all.result
    (λ e. (
      map (unused_by name) vs,
      record {
        last = last;
        is_last = c.in-Some.ensures.some name c.requires.own;
        uses = us;
        used = c.in_ok-reached_uses-in-Some.ensures.used name c.requires.own;
        variables = vs;
        unused = unused_in us last c.as_slice.result.now c.in_ok-used-in-Some.used c.variables.result.now vs c.variables.ensures (ap (map use_of) c.as_slice.ensures.value) c.in_ok-used-in-Some.ensures c.in_ok-unused-in-Some.ensures;
        told = refl;
      },
      e ∙ ap (λ zs. map unused_of c.args.found.now.items ++ map (unused_by name) (map name_and_span zs)) c.as_slice-in-Some.ensures.value,
    ))
    c.tell_all.ensures

pub returns-in-None-clause-told : goal.returns-in-None-clause-told
returns-in-None-clause-told g c = absurd (c.in-None.ensures.none (option_map (λ n. n.now) c.args.name) c.requires.own c.requires.named)

pub returns-in_ok-unused-in-Some-clause-ready : goal.returns-in_ok-unused-in-Some-clause-ready
returns-in_ok-unused-in-Some-clause-ready g c = on_ok_weaker c.tell_all.result (λ e. c.in_ok-reached_uses-in-Some.ensures.ready) c.tell_all.ensures
