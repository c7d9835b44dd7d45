-- What goes by the dialect.
use Rattle.schema.specs.declared.model.dialect.Dialect.{Dialect}
use Rattle.schema.specs.declared.model.dialect.Dialect.TheVariants as d

-- the first in juniper's dialect, and the second in October 2021
abbrev pub by_dialect : {A : Type 1} → A → A → Dialect → A
by_dialect of_juniper of_october d.Juniper = of_juniper
by_dialect of_juniper of_october d.October2021 = of_october
