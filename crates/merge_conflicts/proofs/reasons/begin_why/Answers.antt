use Rattle.std.proofs.Common.{refl, map, rules, length, ◌≤◌}
use Rattle.std.proofs.lemmas.Option.{slice_get_read}
use Rattle.std.proofs.lemmas.Result.{on_ok_weaker}
use Rattle.merge_field_pairs.specs.Entries.{plain}
use Rattle.merge_conflicts.specs.Texts.{told}
use Rattle.merge_conflicts.specs.Tasks.{MeetsWhy, MeetsParts}
use Rattle.merge_conflicts.proofs.Tellings.{told_in, over_added, told_below, same_field}
use Rattle.merge_conflicts.proofs.Leading.{leads_turn, leads_parts, leads_done, direct_added, told_by, absent_field}
use Rattle.merge_conflicts.specs.declared.parts.Why.TheVariants as why
use Rattle.merge_conflicts.proofs.reasons.begin_why.Goals as goal

pub returns-in_ok-add_places-in-Below : goal.returns-in_ok-add_places-in-Below
returns-in_ok-add_places-in-Below g c =
    let fields = map plain c.args.fields.now in
    let E = g.S.PartialEq.eq in
    let schema = c.args.schema.now in
    on_ok_weaker c.wait_below.result
    (λ w. leads_turn E schema fields (MeetsParts E schema fields (w.0)) (MeetsWhy E schema fields c.args.part) _ _ c.add_places.new.account c.args.account.now _
    (λ z below u h.
    let by = told_below E schema fields c.in-Below.found h c.in-Below.is in
    over_added E schema fields _ by.4
    (same_field c.args.fields.now _ _ h.first (slice_get_read c.args.fields.now _ _ _ refl c.in-Some-Some.ensures.lookup.3.0 c.in-Some-Some.ensures.lookup.1) h.is_first)
    (same_field c.args.fields.now _ _ h.second (slice_get_read c.args.fields.now _ _ _ refl c.in-Some-Some.ensures'.lookup.3.0 c.in-Some-Some.ensures'.lookup.1) h.is_second)
    c.in_ok-add_places-in-Below.ensures
    (below (told E schema by.1) (told_in E schema fields (w.2 by.0 by.2) refl by.3)))
    (leads_parts E schema fields (w.0) c.args.tasks.now.items _ c.add_places.new.account w.1))
    c.wait_below.ensures

pub returns-in-Direct : goal.returns-in-Direct
returns-in-Direct g c =
    let fields = map plain c.args.fields.now in
    let E = g.S.PartialEq.eq in
    let schema = c.args.schema.now in
    on_ok_weaker c.add_reason.result
    (λ added. leads_done E schema fields (MeetsWhy E schema fields c.args.part) _ c.args.account.now _
    (λ u h. direct_added E schema fields _ (told_by E schema fields (why.Direct c.in-Direct.flag) h c.in-Direct.is)
    (same_field c.args.fields.now _ _ h.first (slice_get_read c.args.fields.now _ _ _ refl c.in-Some-Some.ensures.lookup.3.0 c.in-Some-Some.ensures.lookup.1) h.is_first)
    (same_field c.args.fields.now _ _ h.second (slice_get_read c.args.fields.now _ _ _ refl c.in-Some-Some.ensures'.lookup.3.0 c.in-Some-Some.ensures'.lookup.1) h.is_second)
    added))
    c.add_reason.ensures

pub returns-in_default : goal.returns-in_default
returns-in_default g c =
    let fields = map plain c.args.fields.now in
    let E = g.S.PartialEq.eq in
    let schema = c.args.schema.now in
    let past : length c.args.fields.now ≤ c.args.part.second = search rules in
    leads_done E schema fields (MeetsWhy E schema fields c.args.part) _ c.args.account.now _ (λ u h. absent_field c.args.fields.now c.args.part.second h.second past h.is_second)

pub returns-in_default-2 : goal.returns-in_default-2
returns-in_default-2 g c =
    let fields = map plain c.args.fields.now in
    let E = g.S.PartialEq.eq in
    let schema = c.args.schema.now in
    let past : length c.args.fields.now ≤ c.args.part.first = search rules in
    leads_done E schema fields (MeetsWhy E schema fields c.args.part) _ c.args.account.now _ (λ u h. absent_field c.args.fields.now c.args.part.first h.first past h.is_first)
