use Rattle.std.proofs.Common.{◌++◌, sym, ap, ◌∙◌, map}
use Rattle.merge_field_pairs.specs.Entries.{plain}
use Rattle.merge_conflicts.proofs.Tellings.{response_told}
use Rattle.merge_conflicts.proofs.Errors.{error_made}
use Rattle.merge_conflicts.proofs.conflict.conflict_of.Goals as goal

pub returns : goal.returns
returns g c t h =
    error_made t c.response_at-name.result.now c.no_account-account.result _ _ c.add_text.new.account
    (c.response_at-name.ensures h.first h.is_first ∙ sym (response_told g.S.PartialEq.eq c.args.schema.now (map plain c.args.fields.now) h))
    c.no_account-account.ensures.text c.no_account-account.ensures.lefts c.no_account-account.ensures.rights
    c.in_ok-add_name.ensures (c.in_ok-add_why.ensures t h) c.in_ok-add_text.ensures _
    (c.in_ok-extend_from_slice.ensures.items ∙ ap (λ ps. c.add_text.new.account.lefts.items ++ ps) c.as_slice.ensures.value)
