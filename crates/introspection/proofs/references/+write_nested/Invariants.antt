use Rattle.introspection.proofs.references.+write_nested.Given as goal

abbrev pub decreases-write_nested : goal.decreases-write_nested
decreases-write_nested l = l.levels
