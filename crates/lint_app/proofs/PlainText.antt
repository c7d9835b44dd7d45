-- The text of a report on no file, and on some.
use Rattle.std.proofs.Common.{◌≡◌, ◌≢◌, ℕ, ◌-◌, zero, suc, Bool, List, codes, refl, sym, subst}
use Rattle.lint_app.specs.Tasks.{IsTextOn}
use Rattle.lint_sources.specs.declared.issues.Issue.{Issue}
use Rattle.lint_sources.specs.declared.sources.Source.{Source}
use Rattle.lint_report.specs.Texts.{IsTextReport}

pub on_none : (files : ℕ) (coloured : Bool) (sources : List Source) (issues : List Issue) (judged : ℕ) (text : List ℕ) → files ≡ 0 → text ≡ codes "no errors in the schema\n"
    → IsTextOn files coloured sources issues judged text
on_none files coloured sources issues judged text none said = subst (λ n. IsTextOn n coloured sources issues judged text) (sym none) said

pub on_some : (files : ℕ) (coloured : Bool) (sources : List Source) (issues : List Issue) (judged : ℕ) (text : List ℕ) → files ≢ 0 → IsTextReport coloured sources issues judged (files - judged) text
    → IsTextOn files coloured sources issues judged text
on_some zero coloured sources issues judged text some h = absurd (some refl)
on_some (suc n) coloured sources issues judged text some h = h
