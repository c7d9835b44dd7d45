-- Limits that a text writes.
use Rattle.std.proofs.Common.{◌≡◌, ◌∙◌, ℕ, Option, Some, ap, arith, codes, unwrap_or}
use Rattle.clap.specs.Walk.{Text}
use Rattle.lint_args.specs.Asks.{IsLimit, IsNumberOf}

pub written_1000 : (number : Option ℕ) → IsNumberOf (codes "1000") number → number ≡ Some 1000
written_1000 number is = is.some (omega arith, (omega arith, (omega arith, (omega arith, (omega arith, tt))))) (omega arith)

pub written_50 : (number : Option ℕ) → IsNumberOf (codes "50") number → number ≡ Some 50
written_50 number is = is.some (omega arith, (omega arith, (omega arith, tt))) (omega arith)

-- the limit is the number that the text writes
pub limit_from : (text : Text) (n limit : ℕ) → ((number : Option ℕ) → IsNumberOf text number → number ≡ Some n) → IsLimit (Some text) limit → limit ≡ n
limit_from text n limit written (number, is, limit_is) = limit_is ∙ ap (λ o. unwrap_or o 0) (written number is)
