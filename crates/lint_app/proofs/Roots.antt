-- A root node of a schema, as the words ask for it.
use Rattle.std.proofs.Common.{◌≡◌, ◌∙◌, ap, false, subst, sym, true}
use Rattle.lint_app.specs.Tasks.{IsRootOf, IsSchemaOf, dialect_of}
use Rattle.lint_app.specs.Told.{Root}
use Rattle.lint_args.specs.declared.task.Task.{Task}
use Rattle.sdl_faults.specs.Schema.{SourceSchema}
use Rattle.sdl_faults.specs.Valid.{IsValidSchema}

module _ (task : Task) (schema : SourceSchema) (root : Root) (is : IsSchemaOf (dialect_of task) schema) where
  -- where introspection is closed, and where it is not
  pub closed_root : (new : Root) → root.schema ≡ schema → root.max_errors ≡ task.max_errors → task.is_closed ≡ true
      → new ≡ record root { introspection_disabled = true } → IsRootOf task new
  closed_root new of limit closed made =
      let same : new.schema ≡ schema = ap (λ r. r.schema) made ∙ of in
      record { valid = subst IsValidSchema (sym same) is.valid; dialect = ap (λ s. s.dialect) same ∙ is.dialect_is; closed = ap (λ r. r.introspection_disabled) made ∙ sym closed; limit = ap (λ r. r.max_errors) made ∙ limit }

  pub open_root : root.schema ≡ schema → root.max_errors ≡ task.max_errors → root.introspection_disabled ≡ false → task.is_closed ≡ false → IsRootOf task root
  open_root from limit shown closed =
      record { valid = subst IsValidSchema (sym from) is.valid; dialect = ap (λ s. s.dialect) from ∙ is.dialect_is; closed = shown ∙ sym closed; limit = limit }
