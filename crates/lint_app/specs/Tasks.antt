-- What is told where the words ask for it.
use Prim.Native.Nat.{zero, suc}
use Rattle.std.specs.Prelude.{◌≡◌, ◌-◌, ◌==◌, ◌&&◌, if◌then◌else◌, codes, not, ℕ, Bool, List, Option, is_some, length}
use Rattle.std.specs.Prelude.{string_bytes, vec_len}
use Rattle.lint_app.specs.declared.documents.Report.{Report}
use Rattle.lint_app.specs.declared.program.Told.{Told}
use Rattle.lint_files.specs.Host.{Host}
use Rattle.lint_files.specs.Paths.{ArePathsOf, Paths}
use Rattle.lint_app.specs.Told.{GivenValues, IsReport, Root}
use Rattle.lint_files.specs.Read.{AreReadOf}
use Rattle.lint_app.specs.Rules.{SourceRules}
use Rattle.lint_sources.specs.declared.faults.Fault.{Fault}
use Rattle.lint_sources.specs.declared.issues.Issue.{Issue}
use Rattle.lint_sources.specs.declared.sources.Source.{Source}
use Rattle.lint_report.specs.Github.{github_text}
use Rattle.lint_report.specs.Json.{json_text}
use Rattle.lint_report.specs.Texts.{IsTextReport}
use Rattle.lint_args.specs.declared.task.Form.{Form}
use Rattle.lint_args.specs.declared.task.Form.TheVariants as form
use Rattle.lint_args.specs.declared.task.Task.{Task}
use Rattle.schema.specs.declared.model.dialect.Dialect.{Dialect}
use Rattle.schema.specs.declared.model.dialect.Dialect.TheVariants as d
use Rattle.sdl_faults.specs.Schema.{SourceSchema}
use Rattle.sdl_faults.specs.Valid.{IsValidSchema}

-- a text on so many files, of which so many were judged; on none it says that the schema has no fault
abbrev pub IsTextOn : ℕ → Bool → List Source → List Issue → ℕ → List ℕ → Type 0
IsTextOn zero coloured sources issues judged text = text ≡ codes "no errors in the schema\n"
IsTextOn (suc n) coloured sources issues judged text = IsTextReport coloured sources issues judged (suc n - judged) text

-- the text of a report. As text it says how many files were judged and how many weren't, and else it has the faults
abbrev pub IsTextIn : Form → Bool → ℕ → List Fault → List Source → List Issue → ℕ → List ℕ → Type 0
IsTextIn form.Text coloured files faults sources issues judged text = IsTextOn files coloured sources issues judged text
IsTextIn form.Json coloured files faults sources issues judged text = text ≡ json_text faults sources issues
IsTextIn form.Github coloured files faults sources issues judged text = text ≡ github_text faults sources issues

abbrev pub IsTextOf : Bool → Task → ℕ → List Fault → List Source → Report → List ℕ → Type 0
IsTextOf coloured task files faults sources report = IsTextIn task.form coloured files faults sources report.issues.items report.judged

-- a report on so many files is told: whether it has issues, and whether there is no fault and all files were judged
pub record IsToldOf (coloured : Bool) (task : Task) (files : ℕ) (faults : List Fault) (sources : List Source)
    (report : Report) (told : Told) : Type 0 where
  pub text : IsTextOf coloured task files faults sources report (string_bytes told.text)
  pub has_errors : told.has_errors ≡ not (vec_len report.issues == 0)
  pub is_whole : told.is_whole ≡ ((length faults == 0) && (report.judged == files))

-- the dialect that the words ask for
abbrev pub dialect_of : Task → Dialect
dialect_of task = if task.is_juniper then d.Juniper else d.October2021

-- a schema is a valid type system in this dialect
pub record IsSchemaOf (dialect : Dialect) (schema : SourceSchema) : Type 0 where
  pub valid : IsValidSchema schema
  pub dialect_is : schema.dialect ≡ dialect

-- a root node is a valid type system in that dialect, and introspection is closed exactly where the words ask for that,
-- with their limit on errors
pub record IsRootOf (task : Task) (root : Root) : Type 0 where
  pub valid : IsValidSchema root.schema
  pub dialect : root.schema.dialect ≡ dialect_of task
  pub closed : root.introspection_disabled ≡ task.is_closed
  pub limit : root.max_errors ≡ task.max_errors

-- By what is known of the rules of each dialect.
module _ (rules : SourceRules) where
  -- the files that the words name or that are below a directory were read and judged, and a report on them is told
  pub record TellsQueries (host : Host) (task : Task) (root : Root) (values : Option GivenValues) (told : Told) : Type 0 where
    pub paths : Paths
    pub are_paths : ArePathsOf host task.queries.items paths
    pub sources : List Source
    pub read : AreReadOf host paths sources
    pub report : Report
    pub reported : IsReport rules task.is_together root values sources report
    pub faults : List Fault
    pub is_told : IsToldOf host.colours.output task (length paths) faults sources report told

  -- the same with some values, exactly where the words name a file of values
  abbrev pub TellsBy : Host → Task → Root → Told → Type 0
  TellsBy host task root told =
      (values : Option GivenValues) × (is_some values ≡ is_some task.variables)
      × TellsQueries host task root values told

  -- the same by some root node that has what the words ask for
  abbrev pub TellsTask : Host → Task → Told → Type 0
  TellsTask host task told = (root : Root) × IsRootOf task root × TellsBy host task root told
