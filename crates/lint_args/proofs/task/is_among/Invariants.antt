use Rattle.std.proofs.Common.{◌≡◌, drop}
use Rattle.std.specs.List.{list_any}
use Rattle.std.specs.Str.{bytes_eq}
use Rattle.lint_args.proofs.task.is_among.Given as goal

abbrev pub invariant-loop-file : goal.invariant-loop-file
invariant-loop-file l =
    list_any (λ file. bytes_eq l.path file.now) l.files ≡ list_any (λ file. bytes_eq l.path file.now) (drop l.file-index l.files)
