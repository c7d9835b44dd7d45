-- The own fields of a set by its index, or as they are where it has none.
use Rattle.std.specs.Prelude.{List, Option, None, Some}
use Rattle.std.specs.Option.{option_map_or}
use Rattle.merge_sets.specs.declared.node.Entry.{Entry}
use Rattle.merge_sets.specs.declared.node.NameIndex.{NameIndex}

-- The first field of each response name.
abbrev pub firsts_of : List Entry → Option NameIndex → List Entry
firsts_of own None = own
firsts_of own (Some index) = option_map_or (λ v. v.items) index.firsts own

-- The fields by the numbers of their response names.
abbrev pub sorted_of : List Entry → Option NameIndex → List Entry
sorted_of own None = own
sorted_of own (Some index) = index.by_name.items
