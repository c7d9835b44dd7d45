use Rattle.merge_sets.proofs.Marks.{stays}
use Rattle.merge_certificates.proofs.quiet.set_apart.Goals as goal

pub returns-clause-kept : goal.returns-clause-kept
returns-clause-kept c = stays _ c.insert.new.self c.args.name c.in_ok-insert.ensures.there c.in_ok-insert.ensures.others
