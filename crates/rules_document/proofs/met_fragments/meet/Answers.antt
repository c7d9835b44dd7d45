use Rattle.std.proofs.Common.{◌∙◌, length-set, refl, sym, None, Some}
use Rattle.std.specs.Vec.{with_item}
use Rattle.std.proofs.lemmas.Result.{IfOk-weaker, on_ok_weaker}
use Rattle.rules_document.specs.MetFragments.{name_and_span}
use Rattle.rules_document.proofs.FirstMeeting.{has_place, kept_first, kept_other, met_again, met_before, met_first, read_there, spans_are, spans_differ, unmet, unmet_before}
use Rattle.rules_document.proofs.met_fragments.meet.Goals as goal

pub index-requires : goal.index-requires
index-requires g c = has_place c.args.numbers.now c.requires.numbered (name_and_span c.args.fragment.now) c.args.number c.requires.number c.args.met.now c.requires.kept

pub index_mut-requires : goal.index_mut-requires
index_mut-requires g c = has_place c.args.numbers.now c.requires.numbered (name_and_span c.args.fragment.now) c.args.number c.requires.number c.args.met.now c.requires.kept

pub returns-then-eq-clause-known : goal.returns-then-eq-clause-known
returns-then-eq-clause-known g c = λ _.
    let n = c.args.numbers.now in
    let p = name_and_span c.args.fragment.now in
    let old = c.args.met.now in
    let stands = read_there n c.requires.numbered p c.args.number c.requires.number old c.requires.kept c.index.result.now (Some c.in-Some.first) c.index.ensures c.in-Some.is in
    met_before n c.requires.numbered p c.args.number c.requires.number old c.requires.kept c.in-Some.first stands (spans_are c.in-Some.first p.1 (sym c.if-eq.true ∙ c.eq.ensures))

pub returns-then-eq-clause-met : goal.returns-then-eq-clause-met
returns-then-eq-clause-met g c =
    let n = c.args.numbers.now in
    let p = name_and_span c.args.fragment.now in
    let old = c.args.met.now in
    let stands = read_there n c.requires.numbered p c.args.number c.requires.number old c.requires.kept c.index.result.now (Some c.in-Some.first) c.index.ensures c.in-Some.is in
    met_again n c.requires.numbered p c.args.number c.requires.number old c.requires.kept c.in-Some.first stands (spans_are c.in-Some.first p.1 (sym c.if-eq.true ∙ c.eq.ensures))

pub returns-in-None-clause-first : goal.returns-in-None-clause-first
returns-in-None-clause-first g c = λ _.
    let n = c.args.numbers.now in
    let p = name_and_span c.args.fragment.now in
    let old = c.args.met.now in
    let free = read_there n c.requires.numbered p c.args.number c.requires.number old c.requires.kept c.index.result.now None c.index.ensures c.in-None.is in
    unmet n c.requires.numbered p c.args.number c.requires.number old c.requires.kept free

pub returns-in-None-clause-met : goal.returns-in-None-clause-met
returns-in-None-clause-met g c =
    let n = c.args.numbers.now in
    let p = name_and_span c.args.fragment.now in
    let old = c.args.met.now in
    let free = read_there n c.requires.numbered p c.args.number c.requires.number old c.requires.kept c.index.result.now None c.index.ensures c.in-None.is in
    met_first n c.requires.numbered p c.args.number c.requires.number old c.requires.kept free (with_item old.firsts c.args.number (Some c.args.fragment.now.span)) refl

pub returns-in-None-clause-kept : goal.returns-in-None-clause-kept
returns-in-None-clause-kept g c =
    let n = c.args.numbers.now in
    let p = name_and_span c.args.fragment.now in
    let old = c.args.met.now in
    let free = read_there n c.requires.numbered p c.args.number c.requires.number old c.requires.kept c.index.result.now None c.index.ensures c.in-None.is in
    kept_first n c.requires.numbered p c.args.number c.requires.number old c.requires.kept free (with_item old.firsts c.args.number (Some c.args.fragment.now.span)) refl (length-set old.firsts.items c.args.number (Some c.args.fragment.now.span))

pub returns-else-eq-clause-first : goal.returns-else-eq-clause-first
returns-else-eq-clause-first g c =
    let n = c.args.numbers.now in
    let p = name_and_span c.args.fragment.now in
    let old = c.args.met.now in
    let stands = read_there n c.requires.numbered p c.args.number c.requires.number old c.requires.kept c.index.result.now (Some c.in-Some.first) c.index.ensures c.in-Some.is in
    IfOk-weaker c.meet_other.result _ _
    (λ first h t. unmet_before n c.requires.numbered p c.args.number c.requires.number old c.requires.kept c.in-Some.first stands (spans_differ c.in-Some.first p.1 (sym c.if-eq.false ∙ c.eq.ensures)) (h.0 t))
    c.meet_other.ensures.first

pub returns-else-eq-clause-kept : goal.returns-else-eq-clause-kept
returns-else-eq-clause-kept g c =
    let n = c.args.numbers.now in
    let p = name_and_span c.args.fragment.now in
    let old = c.args.met.now in
    let stands = read_there n c.requires.numbered p c.args.number c.requires.number old c.requires.kept c.index.result.now (Some c.in-Some.first) c.index.ensures c.in-Some.is in
    on_ok_weaker c.meet_other.result (λ more. kept_other n c.requires.numbered p c.args.number c.requires.number old c.requires.kept c.in-Some.first stands c.meet_other.new.others more) c.meet_other.ensures.met
