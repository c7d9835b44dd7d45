use Rattle.std.proofs.Common.{◌≡◌, None, Some, ap, sym, ◌∙◌, refl, option_map, string_bytes}
use Rattle.std.proofs.lemmas.Result.{IfOk-weaker}
use Rattle.language_types.specs.Types.{borrowed_shape}
use Rattle.language_values.specs.ValuesPrinted.{printed_value}
use Rattle.literals.specs.Expected.{expected_type}
use Rattle.literals.specs.Judged.{WrittenFault, written_type}
use Rattle.literals.proofs.WrittenLaws.{fault_at, one_written}
use Rattle.literals.proofs.written.validate_written_value.Goals as goal

pub fault_of-requires : goal.fault_of-requires
fault_of-requires g c = record { known = c.in-Some.ensures.known }

pub returns-in-None : goal.returns-in-None
returns-in-None g c =
    let schema = c.args.schema.now in
    let may = g.S.CheckedScalar.may_answer in
    let shown = printed_value g.S.ScalarValue.text g.S.ScalarValue.str_of in
    let t = borrowed_shape c.args.written in
    let is : None ≡ written_type schema t = sym (ap (option_map expected_type) c.in-None.is) ∙ c.type_written.ensures.made in
    let none : WrittenFault schema may shown c.args.value.now t None = fault_at schema may shown c.args.value.now t None None is refl in
    record { fault = none; alone = λ other q. one_written schema may shown g.met.S.CheckedScalar.one_answer c.args.value.now t other None q none }

pub returns-in-Some : goal.returns-in-Some
returns-in-Some g c =
    let schema = c.args.schema.now in
    let may = g.S.CheckedScalar.may_answer in
    let shown = printed_value g.S.ScalarValue.text g.S.ScalarValue.str_of in
    let value = c.args.value.now in
    let t = borrowed_shape c.args.written in
    let w = expected_type c.in-Some.expected in
    let is : Some w ≡ written_type schema t = sym (ap (option_map expected_type) c.in-Some.is) ∙ c.type_written.ensures.made in
    record {
      fault = IfOk-weaker c.fault_of.result _ _ (λ a p. fault_at schema may shown value t (Some w) (option_map string_bytes a) is p) c.fault_of.ensures;
      alone = IfOk-weaker c.fault_of.result _ _
          (λ a p other q. one_written schema may shown g.met.S.CheckedScalar.one_answer value t other (option_map string_bytes a) q (fault_at schema may shown value t (Some w) (option_map string_bytes a) is p))
          c.fault_of.ensures;
    }
