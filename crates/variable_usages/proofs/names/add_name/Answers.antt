use Rattle.std.proofs.Common.{ap, cond, true, ◌∙◌}
use Rattle.std.proofs.lemmas.Map.Text.{is_eq-slice_cmp}
use Rattle.variable_usages.specs.Names.{has_name}
use Rattle.variable_usages.proofs.names.add_name.Goals as goal

pub returns : goal.returns
returns c = λ other.
    c.in_ok-insert.ensures.updates.0 (record { ref_ptr = c.args.name.ref_ptr; now = other })
    ∙ ap (λ b. cond b true (has_name c.args.set.now other)) (is_eq-slice_cmp c.args.name.now other)
