use Rattle.std.proofs.Common.{◌∙◌}
use Rattle.std.proofs.lemmas.Cmp.{nat_cmp_total}
use Rattle.std.proofs.lemmas.Map.Views.{btree_set_len-from_list}
use Rattle.lint_sources.proofs.issues.files_of.Goals as goal

pub returns : goal.returns
returns c = c.len.ensures.len ∙ btree_set_len-from_list nat_cmp_total _ _ c.in_ok-files.ensures
