-- What a report counts.
use Rattle.std.specs.Prelude.{◌≡◌, ◌+◌, ◌-◌, ◌^◌, ◌++◌, ℕ, List, Bool, not, count_by, codes, min}
use Rattle.std.specs.Fmt.{decimal}
use Rattle.std.specs.Str.{bytes_eq}
use Rattle.row_files.specs.declared.report.Report.{Report}

-- a row that was judged: the lines that are expected of it and those that came, each list as it is printed
pub record Judged : Type 0 where
  pub wanted : List ℕ
  pub came : List ℕ

-- what came is what is expected, byte for byte
abbrev pub agrees : Judged → Bool
agrees judged = bytes_eq judged.came judged.wanted

abbrev pub differs : Judged → Bool
differs judged = not (agrees judged)

-- a number, as far as a counter goes
abbrev pub counted : ℕ → ℕ
counted n = min n (2 ^ 64 - 1)

-- a report has counted these rows
pub record HasCounted (all : List Judged) (report : Report) : Type 0 where
  pub agree : report.agree ≡ counted (count_by agrees all)
  pub differ : report.differ ≡ counted (count_by differs all)

-- the line that ends what is told of a file
abbrev pub counts_text : List ℕ → Report → List ℕ
counts_text file report =
    file ++ (codes ": " ++ (decimal report.agree
    ++ (codes " of " ++ (decimal (counted (report.agree + report.differ)) ++ codes " agree\n"))))
