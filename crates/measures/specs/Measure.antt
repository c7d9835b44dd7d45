-- Measures, and how those of the parts of a set are added up.
use Rattle.std.specs.Prelude.{ℕ, ◌+◌, ◌-◌, ◌^◌, min, max, List, [], ◌∷◌, length, Option, Vec}
use Rattle.std.specs.Option.{option_map_or}
use Rattle.std.specs.declared.alloc.Global.{Global}
use Rattle.measures.specs.declared.measure.Measures.{Measures}

-- those of an empty set
abbrev pub nothing : Measures
nothing = record {
  depth = 0;
  fields = 0;
  root_fields = 0;
  aliases = 0;
  directives = 0;
  introspection_depth = 0;
  listed_depth = 0;
}

-- those of two sets that are joined: of lengths of paths the greater, of numbers the sum
unfoldable pub together : Measures → Measures → Measures
together a b = record {
  depth = max a.depth b.depth;
  fields = a.fields + b.fields;
  root_fields = a.root_fields + b.root_fields;
  aliases = a.aliases + b.aliases;
  directives = a.directives + b.directives;
  introspection_depth = max a.introspection_depth b.introspection_depth;
  listed_depth = max a.listed_depth b.listed_depth;
}

-- those of many
abbrev pub all_together : List Measures → Measures
all_together [] = nothing
all_together (m ∷ ms) = together m (all_together ms)

-- each number, or this one where it is more
unfoldable pub at_most : ℕ → Measures → Measures
at_most bound m = record {
  depth = min m.depth bound;
  fields = min m.fields bound;
  root_fields = min m.root_fields bound;
  aliases = min m.aliases bound;
  directives = min m.directives bound;
  introspection_depth = min m.introspection_depth bound;
  listed_depth = min m.listed_depth bound;
}

-- each number as 128 bits have it
abbrev pub capped : Measures → Measures
capped = at_most (2 ^ 128 - 1)

-- how many directives there are
abbrev pub directive_count : {T : Type 0} → Option (Vec T Global) → ℕ
directive_count directives = option_map_or (λ v. length v.items) directives 0

-- directives that are on a spread or an inline fragment, beside what it opens
unfoldable pub with_directives : ℕ → Measures → Measures
with_directives count m = record m { directives = count + m.directives }

-- directives alone
unfoldable pub only_directives : ℕ → Measures
only_directives count = record nothing { directives = count }
