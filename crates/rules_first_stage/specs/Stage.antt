-- What is known of a stage of rules, for one kind of scalars.
use Rattle.walk.specs.Rule.{Allowance, Condition, settled_by}

pub record Stage (S C : Type 0) : Type 1 where
  -- what its rules may report
  pub may_report : Allowance S C
  -- what a document is like in which they find nothing
  pub find_nothing : Condition S C

-- what its rules may report of a document, and nothing if and only if they find nothing
abbrev pub stage_reports : {S C : Type 0} → Stage S C → Allowance S C
stage_reports stage = settled_by stage.find_nothing stage.may_report
