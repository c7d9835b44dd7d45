-- What the fields above a selection set say of its measures.
use Rattle.std.specs.Prelude.{ℕ, ◌+◌, ◌-◌, ◌^◌, min, List, true, false, ◌||◌, if◌then◌else◌}
use Rattle.measures.specs.declared.measure.Measures.{Measures}
use Rattle.measures.specs.declared.levels.Level.{Level}
use Rattle.measures.specs.Measure.{nothing}
use Rattle.measures.specs.Names.{is_entry, is_listing}

-- no field is above
abbrev pub root : Level
root = record { depth = 0; is_root = true; is_entered = false; entered = 0; listed = 0 }

-- what the measures of a set add to those of the set at the root
unfoldable pub at_level : Level → Measures → Measures
at_level level m = record {
  depth = level.depth + m.depth;
  fields = m.fields;
  root_fields = if level.is_root then m.root_fields else 0;
  aliases = m.aliases;
  directives = m.directives;
  introspection_depth = if level.is_entered then level.entered + m.listed_depth else m.introspection_depth;
  listed_depth = level.listed + m.listed_depth;
}

-- what a field adds by itself
unfoldable pub own_field : Level → ℕ → ℕ → Measures
own_field level aliases directives = record {
  depth = 0;
  fields = 1;
  root_fields = if level.is_root then 1 else 0;
  aliases = aliases;
  directives = directives;
  introspection_depth = 0;
  listed_depth = 0;
}

-- where the selection set of a field of the name is
unfoldable pub below_field : Level → List ℕ → Level
below_field level name = record {
  depth = level.depth + 1;
  is_root = false;
  is_entered = level.is_entered || is_entry name;
  entered = if level.is_entered then level.entered + (if is_listing name then 1 else 0) else 0;
  listed = level.listed + (if is_listing name then 1 else 0);
}

-- each number, or this one where it is more
unfoldable pub level_at_most : ℕ → Level → Level
level_at_most bound level =
    record level {
      depth = min level.depth bound;
      entered = min level.entered bound;
      listed = min level.listed bound;
    }

abbrev pub capped_level : Level → Level
capped_level = level_at_most (2 ^ 128 - 1)
