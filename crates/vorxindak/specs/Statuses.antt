-- What calls answer, and what flags ask for, as numbers.
use Rattle.std.specs.Prelude.{ℕ, Option, Some, None, ◌==◌, if◌then◌else◌}
use Rattle.answers.specs.declared.choices.Choices.{Choices}
use Rattle.answers.specs.declared.reports.Verdict.{Verdict}
use Rattle.answers.specs.declared.reports.Verdict.TheVariants.{Valid, Invalid, Unreadable, NoValues, NotUtf8}
use Rattle.schema.specs.declared.model.dialect.Dialect.{Dialect}
use Rattle.schema.specs.declared.model.dialect.Dialect.TheVariants as d

abbrev pub valid : ℕ
valid = 0

abbrev pub faulty_schema : ℕ
faulty_schema = 3

abbrev pub closed : ℕ
closed = 6

abbrev pub already_open : ℕ
already_open = 7

abbrev pub too_small : ℕ
too_small = 8

abbrev pub unknown_flag : ℕ
unknown_flag = 9

abbrev pub out_of_memory : ℕ
out_of_memory = 10

-- of a verdict
abbrev pub status_in : Verdict → ℕ
status_in Valid = valid
status_in Invalid = 1
status_in Unreadable = 2
status_in NoValues = 4
status_in NotUtf8 = 5

-- the dialect that flags ask for, if they are known
abbrev pub dialect_in : ℕ → Option Dialect
dialect_in flags = if flags == 0 then Some d.October2021 else (if flags == 2 then Some d.Juniper else None)

-- what is chosen by the flag of a validation and its limit
abbrev pub choices_in : ℕ → ℕ → Choices
choices_in flags max_errors = record { is_closed = flags == 1; max_errors = max_errors }
