use Rattle.std.proofs.Common.{◌≡◌, ◌<◌, ◌+◌, length, map, rules, get_or}
use Rattle.std.proofs.lemmas.Result.{on_ok_weaker}
use Rattle.merge_field_pairs.specs.Entries.{plain}
use Rattle.merge_conflicts.specs.declared.reasons.Task.TheVariants.{Others}
use Rattle.merge_conflicts.specs.Tasks.{Meets, MeetsPart}
use Rattle.merge_conflicts.proofs.Leading.{leads_next, leads_done, others_none, others_next}
use Rattle.merge_conflicts.proofs.reasons.next_part.Goals as goal

pub returns-then-k-len : goal.returns-then-k-len
returns-then-k-len g c =
    let fields = map plain c.args.fields.now in
    let E = g.S.PartialEq.eq in
    let schema = c.args.schema.now in
    leads_done E schema fields (Meets E schema fields (Others c.args.parts c.args.k)) _ _ _ (others_none E schema fields c.args.parts.items c.args.k c.args.account.now (search rules))

pub returns : goal.returns
returns g c =
    let fields = map plain c.args.fields.now in
    let E = g.S.PartialEq.eq in
    let schema = c.args.schema.now in
    let k = c.args.k in
    let ps = c.args.parts.items in
    let p = c.index-part.result.now in
    let less : k < length ps = search rules in
    let is : p ≡ get_or ps k p = search rules in
    on_ok_weaker c.begin_part.result
    (λ go. leads_next E schema fields (MeetsPart E schema fields p) (Meets E schema fields (Others c.args.parts k)) (Others c.args.parts (k + 1)) _ _ c.args.tasks.now.items _ c.add_text.new.account c.args.account.now c.in_ok-push.ensures.items
    (λ x y one rest. others_next E schema fields ps k p c.args.account.now c.add_text.new.account x y less is c.in_ok-add_text.ensures one rest) go)
    c.begin_part.ensures
