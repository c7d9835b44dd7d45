use Rattle.std.proofs.Common.{map}
use Rattle.merge_field_pairs.specs.Entries.{plain}
use Rattle.merge_graph.proofs.JudgeLaws.{lawful}
use Rattle.merge_graph.proofs.judge.judge_fields.Goals as goal

pub returns-clause-lawful : goal.returns-clause-lawful
returns-clause-lawful g c = λ tidy. lawful g.S.PartialEq.eq c.args.schema.now (map plain c.args.fields.items) g.met.S.Eq.laws tidy
