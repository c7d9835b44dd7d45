use Rattle.std.proofs.Common.{string_bytes, subst, sym}
use Rattle.std.specs.Str.{IsValidUpTo}
use Rattle.std.proofs.lemmas.Result.{IfOk-weaker}
use Rattle.answers.specs.Reports.{IsRefusal}
use Rattle.answers.proofs.bytes.not_utf8_report.Goals as goal

pub text_before-text-requires : goal.text_before-text-requires
text_before-text-requires c = subst (IsValidUpTo c.args.bytes.now) (sym c.valid_up_to-index.ensures) c.requires

pub returns : goal.returns
returns c =
    let bytes = c.args.bytes.now in
    let position = c.position_at-position.result in
    IfOk-weaker c.refusal.result _ _
    (λ report h. record {
      index = c.valid_up_to-index.result;
      first = subst (IsValidUpTo bytes) (sym c.valid_up_to-index.ensures) c.requires;
      position = position;
      place = record { index_is = c.position_at-position.ensures.index; line_is = c.position_at-position.ensures.line; column_is = c.position_at-position.ensures.column };
      refused = subst (λ text. IsRefusal text position (string_bytes report)) c.text_before-text.ensures h;
    })
    c.refusal.ensures
