use Rattle.std.proofs.Common.{◌∙◌, rules, subst, sym}
use Rattle.json.specs.Print.{IsNumber}
use Rattle.json.proofs.Printed.Decimals.{IsNumber-decimal}
use Rattle.error_report.proofs.error_list.write_number.Goals as goal

-- its decimal digits are a number of JSON
pub token-requires-2 : goal.token-requires-2
token-requires-2 c = subst IsNumber (sym (c.as_str.ensures.value ∙ c.in_ok-digits.ensures.ok)) (IsNumber-decimal c.args.value (search rules))
