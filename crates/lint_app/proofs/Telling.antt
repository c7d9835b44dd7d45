-- What is told of documents, as loops go on.
use mir.Val.{bool_byte}
use Rattle.std.proofs.Common.{◌≡◌, ◌↔◌, ◌∙◌, ℕ, ◌+◌, ◌<◌, ◌≤◌, ◌==◌, arith, Bool, true, false, IsPermutation, IsSorted, List, [], ◌∷◌, ◌++◌, Option, Some, None, append_assoc, length, suc, get_or, drop, take, refl, sym, subst, ap, cond, not}
use Rattle.std.specs.List.{AllZip, flat_map, count_by}
use Rattle.std.specs.Option.{IfSome, is_some}
use Rattle.std.proofs.lemmas.List.{append-nil, flat_map_more, take_more}
use Rattle.std.proofs.lemmas.List.Sums.{fold-append}
use Rattle.std.proofs.lemmas.Bool.Decides.{nat_tests}
use Rattle.std.proofs.lemmas.Slice.Zip.{all_zipped_more}
use Rattle.language_types.specs.declared.position.Span.{Span}
use Rattle.language_types.specs.declared.position.Spanning.{Spanning}
use Rattle.language.specs.declared.tree.Definition.{Definition}
use Rattle.language.specs.declared.tree.Definition.TheVariants as definition
use Rattle.language.specs.declared.tree.Fragment.{Fragment}
use Rattle.language.specs.declared.tree.Operation.{Operation}
use Rattle.lint_app.specs.Told.{Adds, AddsIf, AreErrorsOf, AreFaultsOf, AreToldAs, Document, FaultsAt, FaultsIn, FurtherOf, GivenValues, IsErrorFree, Root, TellsDocument, TellsFaultsAt, TellsFaultsIn, TellsFile, TellsFiles, issues_of, limit_notes, limit_text}
use Rattle.lint_sources.specs.declared.issues.Issue.{Issue}
use Rattle.lint_sources.specs.declared.sources.Joined.{Joined}
use Rattle.lint_sources.specs.declared.sources.Source.{Source}
use Rattle.lint_sources.specs.Issues.{IsIssueIn}
use Rattle.sdl_scalars.specs.Checks.{MayAnswer}
use Rattle.sdl_scalars.specs.declared.scalar.SourceScalar.{SourceScalar}
use Rattle.sdl_scalars.specs.SourceScalar.{source_str, source_text}
use Rattle.validation.specs.RootRules.{IsRootReportUpTo}
use Rattle.lint_app.specs.Rules.{SourceRules}
use Rattle.variable_values.proofs.InTurns.{Done, done_all, done_more}
use Rattle.variable_values.specs.Messages.{OfOperation}
use Rattle.walk.specs.ContextState.{has_place}
use Rattle.walk.specs.ErrorValue.{ErrorValue, error_cmp, shares}

-- two lists one behind the other
pub zip_append : {A B : Type 0} (R : A → B → Type 0) (xs ys : List A) (vs ws : List B) → AllZip R xs vs → AllZip R ys ws → AllZip R (xs ++ ys) (vs ++ ws)
zip_append R [] ys [] ws h k = k
zip_append R [] ys (v ∷ vs) ws h k = absurd h
zip_append R (x ∷ xs) ys [] ws h k = absurd h
zip_append R (x ∷ xs) ys (v ∷ vs) ws h k = (h.0, zip_append R xs ys vs ws h.1 k)

has_none : (b : Bool) → not b ≡ true → b ≡ false
has_none true e = cc
has_none false e = refl

has_one : (b : Bool) → not b ≡ false → b ≡ true
has_one true e = refl
has_one false e = cc

module _ (joined : Joined) (file : ℕ) where
  -- one more error is told
  pub told_more : (errors : List ErrorValue) (k : ℕ) (error : ErrorValue) (old before new : List Issue) (issue : Issue)
      → k < length errors → error ≡ get_or errors k error → IsIssueIn joined file error.message error.locations issue → new ≡ before ++ issue ∷ []
      → Adds (AreToldAs joined file (take k errors)) old before → Adds (AreToldAs joined file (take (k + 1) errors)) old new
  told_more errors k error old before new issue here is told added h =
      let next : take (k + 1) errors ≡ take k errors ++ error ∷ [] = take_more errors k error here ∙ ap (λ e. take k errors ++ e ∷ []) (sym is) in
      record {
        more = h.more ++ issue ∷ [];
        told = subst (λ es. AreToldAs joined file es (h.more ++ issue ∷ [])) (sym next)
            (all_zipped_more (λ e i. IsIssueIn joined file e.message e.locations i) (take k errors) h.more error issue h.told told);
        all = added ∙ ap (λ xs. xs ++ issue ∷ []) h.all ∙ append_assoc old h.more (issue ∷ []);
      }

  -- more errors are told
  pub told_both : (errors more : List ErrorValue) (old before new : List Issue) → Adds (AreToldAs joined file errors) old before → Adds (AreToldAs joined file more) before new → Adds (AreToldAs joined file (errors ++ more)) old new
  told_both errors more old before new h k = record {
    more = h.more ++ k.more;
    told = zip_append (λ e i. IsIssueIn joined file e.message e.locations i) errors more h.more k.more h.told k.told;
    all = k.all ∙ ap (λ xs. xs ++ k.more) h.all ∙ append_assoc old h.more k.more;
  }

  -- errors fill the limit on them, or leave a place
  pub one_note : (limit : ℕ) (errors : List ErrorValue) (full : Bool) (text : List ℕ) (issue : Issue) (old new : List Issue)
      → full ≡ not (has_place limit (shares errors)) → full ≡ true → text ≡ limit_text limit
      → IsIssueIn joined file text [] issue → new ≡ old ++ issue ∷ [] → Adds (AreToldAs joined file (limit_notes limit errors)) old new
  one_note limit errors full text issue old new fills some is told added =
      let note : ErrorValue = record { locations = []; message = limit_text limit } in
      let one : limit_notes limit errors ≡ note ∷ [] = ap (λ b. cond b [] (note ∷ [])) (has_none (has_place limit (shares errors)) (sym fills ∙ some)) in
      record {
        more = issue ∷ [];
        told = subst (λ es. AreToldAs joined file es (issue ∷ [])) (sym one) (subst (λ m. IsIssueIn joined file m [] issue) is told, tt);
        all = added;
      }

  pub no_note : (limit : ℕ) (errors : List ErrorValue) (full : Bool) (old : List Issue) → full ≡ not (has_place limit (shares errors)) → full ≡ false
      → Adds (AreToldAs joined file (limit_notes limit errors)) old old
  no_note limit errors full old fills some =
      let note : ErrorValue = record { locations = []; message = limit_text limit } in
      let none : limit_notes limit errors ≡ [] = ap (λ b. cond b [] (note ∷ [])) (has_one (has_place limit (shares errors)) (sym fills ∙ some)) in
      record {
        more = [];
        told = subst (λ es. AreToldAs joined file es []) (sym none) tt;
        all = sym (append-nil old);
      }

-- where there is an error, no value is judged
not_judged : (root : Root) (values : Option GivenValues) (document : Document) (errors : List ErrorValue) → (errors ≡ [] → ⊥)
    → FurtherOf root values document errors (limit_notes root.max_errors errors)
not_judged root values document [] h = absurd (h refl)
not_judged root values document (error ∷ errors) h = refl

-- where there is none, they are
judged : (root : Root) (values : Option GivenValues) (document : Document) (errors faults : List ErrorValue) → errors ≡ []
    → FaultsIn root values document faults → FurtherOf root values document errors faults
judged root values document errors faults none h = subst (λ es. FurtherOf root values document es faults) (sym none) h

-- whether a list has items
pub has_items : {X : Type 0} (xs : List X) (b : Bool) → b ≡ (length xs == 0) → b ≡ false → xs ≡ [] → ⊥
has_items xs b is some e = let bad : true ≡ false = ap (λ ys. length ys == 0) (sym e) ∙ sym is ∙ some in cc

zero_if : (n : ℕ) → (n == 0) ≡ true → n ≡ 0
zero_if n e = grind (arith, nat_tests)

pub no_items : {X : Type 0} (xs : List X) (b : Bool) → b ≡ (length xs == 0) → b ≡ true → xs ≡ []
no_items [] b is none = refl
no_items (x ∷ xs) b is none = let bad : suc (length xs) ≡ 0 = zero_if (length (x ∷ xs)) (sym is ∙ none) in absurd (omega (arith, bad))

module _ (rules : SourceRules) (root : Root) (values : Option GivenValues) (joined : Joined) (file : ℕ) (document : Document) where
  -- what the root node reports, where the list is seen otherwise
  pub are_errors : (errors items : List ErrorValue) → errors ≡ items
      → (pairs : ℕ) × IsRootReportUpTo (rules root.schema.dialect) root.max_errors root.introspection_disabled root.schema document items pairs
      → (items ≡ []) ↔ IsErrorFree rules root document → IsSorted error_cmp items → AreErrorsOf rules root document errors
  are_errors errors items e (pairs, reported) valid sorted = subst (AreErrorsOf rules root document) (sym e) (record { pairs = pairs; reported = reported; valid = valid; sorted = sorted })

  -- a document with errors, and whether there may be more
  pub tells_errors : (errors : List ErrorValue) (old before new : List Issue) → AreErrorsOf rules root document errors → (errors ≡ [] → ⊥) → Adds (AreToldAs joined file errors) old before
      → Adds (AreToldAs joined file (limit_notes root.max_errors errors)) before new → Adds (TellsDocument rules root values joined file document) old new
  tells_errors errors old before new are some h k =
      let notes = limit_notes root.max_errors errors in
      let both = told_both joined file errors notes old before new h k in
      record {
        more = both.more;
        told = record {
          errors = errors;
          are_errors = are;
          further = notes;
          is_further = not_judged root values document errors some;
          told = both.told;
        };
        all = both.all;
      }

  -- a document without errors
  pub tells_faults : (errors : List ErrorValue) (old before new : List Issue) → AreErrorsOf rules root document errors → errors ≡ [] → Adds (AreToldAs joined file errors) old before → Adds (TellsFaultsIn root values joined file document) before new → Adds (TellsDocument rules root values joined file document) old new
  tells_faults errors old before new are none h k =
      let both = told_both joined file errors k.told.0 old before new h (record { more = k.more; told = k.told.2; all = k.all }) in
      record {
        more = both.more;
        told = record {
          errors = errors;
          are_errors = are;
          further = k.told.0;
          is_further = judged root values document errors k.told.0 none k.told.1;
          told = both.told;
        };
        all = both.all;
      }

byte_of : (b : Bool) → bool_byte b ≡ cond b 1 0
byte_of true = refl
byte_of false = refl

-- one more at most
pub one_at_most : (b : Bool) (n : ℕ) → n ≡ bool_byte b → n ≤ 1
one_at_most true n e = subst (λ m. m ≤ 1) (sym e) (omega arith)
one_at_most false n e = subst (λ m. m ≤ 1) (sym e) (omega arith)

module _ (rules : SourceRules) (root : Root) (values : Option GivenValues) (sources : List Source) where
  -- so many files were judged, and of those that are documents these issues are told
  abbrev pub EachSoFar : ℕ → List Issue → ℕ → Type 0
  EachSoFar file issues count =
      (outcomes : List (Option (List Issue))) × Done (TellsFile rules root values) sources file outcomes × (issues ≡ flat_map issues_of outcomes) × (count ≡ count_by is_some outcomes)

  pub each_none : (issues : List Issue) → issues ≡ [] → EachSoFar 0 issues 0
  each_none issues e = ([], λ rest left. left, e, refl)

  count_more : (outcomes : List (Option (List Issue))) (outcome : Option (List Issue)) → count_by is_some (outcomes ++ outcome ∷ []) ≡ count_by is_some outcomes + cond (is_some outcome) 1 0
  count_more outcomes outcome = fold-append (λ n o. n + cond (is_some o) 1 0) 0 outcomes (outcome ∷ [])

  -- one more
  pub each_more : (file : ℕ) (source : Source) (is_document : Bool) (before new : List Issue) (count more : ℕ) → file < length sources → source ≡ get_or sources file source
      → AddsIf is_document (TellsFiles rules root values file (source ∷ [])) before new → more ≡ bool_byte is_document → EachSoFar file before count → EachSoFar (file + 1) new (count + more)
  each_more file source is_document before new count more here is adds one h = (
    h.0 ++ adds.outcome ∷ [],
    done_more (TellsFile rules root values) sources file source h.0 (adds.outcome ∷ []) here is h.1 (adds.outcome, refl, adds.told),
    adds.all ∙ ap (λ xs. xs ++ issues_of adds.outcome) h.2 ∙ flat_map_more issues_of [] h.0 adds.outcome,
    ap (λ n. n + more) h.3 ∙ ap (λ n. count_by is_some h.0 + n) (one ∙ byte_of is_document ∙ ap (λ b. cond b 1 0) adds.is) ∙ sym (count_more h.0 adds.outcome),
  )

module _ (root : Root) (values : GivenValues) (joined : Joined) (file : ℕ) where
  -- the faults of an operation, where the list is seen otherwise
  pub faults_told : (operation : Spanning (Operation SourceScalar) Span) (errors items : List ErrorValue) (old new : List Issue) → errors ≡ items
      → (found : List ErrorValue) × OfOperation root.schema MayAnswer source_text source_str values operation.item found × IsPermutation found items
      → IsSorted error_cmp items → Adds (AreToldAs joined file errors) old new → Adds (TellsFaultsAt root values joined file (definition.Operation operation)) old new
  faults_told operation errors items old new e (found, all, ordered) sorted h = record {
    more = h.more;
    told = (
      errors,
      subst (AreFaultsOf root values operation.item) (sym e) (record { found = found; all = all; ordered = ordered; sorted = sorted }),
      h.told,
    );
    all = h.all;
  }

  -- a fragment has none
  pub no_fault : (fragment : Spanning (Fragment SourceScalar) Span) (old : List Issue) → Adds (TellsFaultsAt root values joined file (definition.Fragment fragment)) old old
  no_fault fragment old = record { more = []; told = ([], refl, tt); all = sym (append-nil old) }

  module _ (document : Document) where
    -- the values were judged for so many definitions
    pub record FaultsSoFar (k : ℕ) (old new : List Issue) : Type 0 where
      pub faults : List ErrorValue
      pub judged : Done (λ index. FaultsAt root values) document k faults
      pub told : Adds (AreToldAs joined file faults) old new

    pub faults_none : (old : List Issue) → FaultsSoFar 0 old old
    faults_none old = record { faults = []; judged = λ rest left. left; told = record { more = []; told = tt; all = sym (append-nil old) } }

    -- one more
    pub faults_more : (k : ℕ) (def : Definition SourceScalar) (old before new : List Issue) → k < length document → def ≡ get_or document k def
        → FaultsSoFar k old before → Adds (TellsFaultsAt root values joined file def) before new → FaultsSoFar (k + 1) old new
    faults_more k def old before new here is h a = record {
      faults = h.faults ++ a.told.0;
      judged = done_more (λ index. FaultsAt root values) document k def h.faults a.told.0 here is h.judged a.told.1;
      told = told_both joined file h.faults a.told.0 old before new h.told (record { more = a.more; told = a.told.2; all = a.all });
    }

    -- all
    pub faults_all : (k : ℕ) (old new : List Issue) → drop k document ≡ [] → FaultsSoFar k old new → Adds (TellsFaultsIn root (Some values) joined file document) old new
    faults_all k old new e h = record {
      more = h.told.more;
      told = (h.faults, done_all (λ index. FaultsAt root values) document k h.faults e h.judged, h.told.told);
      all = h.told.all;
    }

-- what holds of an outcome, in other words
pub some_as : {X : Type 0} (P Q : X → Type 0) → ((x : X) → P x → Q x) → (o : Option X) → IfSome o P → IfSome o Q
some_as P Q f None h = tt
some_as P Q f (Some x) h = f x h
