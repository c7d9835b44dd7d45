use Rattle.std.proofs.Common.{◌∙◌, sym, map}
use Rattle.std.proofs.lemmas.Result.{on_ok_weaker}
use Rattle.merge_field_pairs.specs.Entries.{plain}
use Rattle.merge_conflicts.specs.Tasks.{MeetsPart, MeetsWhy}
use Rattle.merge_conflicts.proofs.Tellings.{response_told, nested_added}
use Rattle.merge_conflicts.proofs.Leading.{leads_turn}
use Rattle.merge_conflicts.proofs.reasons.begin_part.Goals as goal

pub returns : goal.returns
returns g c =
    let fields = map plain c.args.fields.now in
    let E = g.S.PartialEq.eq in
    let schema = c.args.schema.now in
    on_ok_weaker c.begin_why.result
    (λ go. leads_turn E schema fields (MeetsWhy E schema fields c.args.part) (MeetsPart E schema fields c.args.part) _ _ c.add_name.new.account c.args.account.now _
    (λ z why t h. nested_added t (c.response_at-name.ensures h.first h.is_first ∙ sym (response_told E schema fields h)) c.in_ok-add_name.ensures (why t h)) go)
    c.begin_why.ensures
