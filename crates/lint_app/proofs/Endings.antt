-- What a writer has where a run ends early.
use Rattle.std.proofs.Common.{◌≡◌, ◌∙◌, ◌-◌, ◌==◌, ◌<◌, ℕ, Bool, Err, List, [], Ok, OnOk, Option, Result, ap, arith, drop, false, inl, inr, length, length-drop, refl, subst, take}
use Rattle.std.proofs.KnownBytes.{Appends-kept, Appends-nil}
use Rattle.std.proofs.lemmas.Bool.Decides.{nat_tests}
use Rattle.std.proofs.lemmas.List.{take_all}
use Rattle.std.specs.Io.KnownBytes.{Appends, Keeps}
use Rattle.lint_app.specs.Ended.{EndsEarly, IsFaultReport, WritesPart, WritesSome}
use Rattle.lint_args.specs.declared.task.Form.{Form}
use Rattle.lint_args.specs.declared.task.Form.TheVariants as form
use Rattle.lint_sources.specs.declared.faults.Fault.{Fault}

pub slice-end : (bytes : List ℕ) (from : ℕ) → take (length bytes - from) (drop from bytes) ≡ drop from bytes
slice-end bytes from = let len = length-drop from bytes in take_all (length bytes - from) (drop from bytes) (omega arith)

-- what holds holds where a call went well
pub always : {T E P : Type 0} (r : Result T E) → P → OnOk r P
always (Ok v) h = h
always (Err e) h = tt

pub where_ok : {T E : Type 0} (r : Result T E) (v : T) (P : Type 0) → r ≡ Ok v → OnOk r P → P
where_ok r v P is h = subst (λ s. OnOk s P) is h

-- nothing was written
pub part_none : (text : List ℕ) (old : Option (List ℕ)) → WritesPart text old old
part_none text old = (0, Appends-nil old)

pub part_of : (text told : List ℕ) (old new : Option (List ℕ)) → text ≡ told → WritesPart text old new → WritesPart told old new
part_of text told old new is h = subst (λ t. WritesPart t old new) is h

-- so many bytes were taken
pub part_taken : (bytes text : List ℕ) (taken : ℕ) (old new : Option (List ℕ)) → bytes ≡ text → Appends old new (take taken bytes) → WritesPart text old new
part_taken bytes text taken old new is h = (taken, subst (λ l. Appends old new (take taken l)) is h)

-- then all stayed
pub part_kept : (text : List ℕ) (old new after : Option (List ℕ)) → WritesPart text old new → Keeps new after → WritesPart text old after
part_kept text old new after (taken, h) kept = (taken, Appends-kept old new after (take taken text) h kept)

-- all bytes were
pub whole_taken : (bytes text : List ℕ) (taken : ℕ) (old new after : Option (List ℕ)) → bytes ≡ text → taken ≡ length bytes → Appends old new (take taken bytes) → Keeps new after → Appends old after text
whole_taken bytes text taken old new after is all h kept =
    Appends-kept old new after text (subst (Appends old new) (take_all taken bytes (omega (arith, all)) ∙ is) h) kept

-- faults for which nothing was written
pub no_report : (asked : Form) (faults : List Fault) (old : Option (List ℕ)) → WritesSome (IsFaultReport asked faults) old old
no_report form.Text faults old = (_, refl, part_none _ old)
no_report form.Json faults old = (_, refl, part_none _ old)
no_report form.Github faults old = (_, refl, part_none _ old)

pub some_items : (n : ℕ) (b : Bool) → b ≡ (n == 0) → b ≡ false → 0 < n
some_items n b is none = grind (arith, nat_tests)

-- faults were told
pub ends_early : (asked : Form) (faults : List Fault) (old new : Option (List ℕ)) → 0 < length faults → WritesSome (IsFaultReport asked faults) old new → WritesSome (EndsEarly asked faults) old new
ends_early asked faults old new some (text, is, part) = (text, inl (some, is), part)

-- some text was written, which the report is
pub some_part : (asked : Form) (faults : List Fault) (report text : List ℕ) (old new : Option (List ℕ)) → IsFaultReport asked faults report → text ≡ report → WritesPart text old new → WritesSome (IsFaultReport asked faults) old new
some_part asked faults report text old new is same part = (report, is, part_of text report old new same part)

-- there was nothing to tell
pub ends_silent : (asked : Form) (faults : List Fault) (old : Option (List ℕ)) → WritesSome (EndsEarly asked faults) old old
ends_silent asked faults old = ([], inr refl, part_none [] old)
