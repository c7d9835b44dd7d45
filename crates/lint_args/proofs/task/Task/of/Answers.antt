use Rattle.std.proofs.Common.{◌≡◌, ◌∙◌, Err, IfErr, List, Ok, Result, ap, codes, inl, inr, refl, subst, sym, true}
use Rattle.std.specs.Result.{IsErrAnd}
use Rattle.clap.proofs.OnLiterals.{clap_on_literals}
use Rattle.clap.proofs.WalkLemmas.{first_value-rows}
use Rattle.clap.specs.Faults.{fault_of, is_simple_and_free}
use Rattle.clap.specs.Kinds.{HasKind}
use Rattle.clap.specs.Simple.{is_simple, matches_of}
use Rattle.clap.specs.Walk.{Text, first_of}
use Rattle.clap.specs.Words.{found_of}
use Rattle.clap.specs.declared.error.Error.{Error}
use Rattle.lint_args.specs.Asks.{IsDepth, IsLimit, IsRefusal, files_of, form_of, is_value, word_texts}
use Rattle.lint_args.specs.CommandLine.{AreKnown, Choices, lint}
use Rattle.lint_args.proofs.task.Task.of.Goals as goal

-- the command is one whose matches are known
simple : (choices : Choices) → is_simple (lint choices) ≡ true
unfolding clap_on_literals
simple choices = refl

-- and whose faults are
free : (choices : Choices) → is_simple_and_free (lint choices) ≡ true
unfolding clap_on_literals
free choices = refl

-- what an error tells of
told : {T : Type 0} (words : List Text) (result : Result T Error) (error : Error) → IsErrAnd result (λ e. e ≡ error) → IsRefusal words error
    → IfErr result (IsRefusal words)
told words (Ok task) error is refused = tt
told words (Err e) error is refused = subst (IsRefusal words) (sym is) refused

-- memory was refused, or a fault is told of
faulty : (choices : Choices) (words : List Text) (error : Error) → AreKnown choices → HasKind (fault_of (lint choices) words) error → IsRefusal words error
faulty choices words error known (inl memory) = inl memory
faulty choices words error known (inr fault) = inr (choices, known, fault)

-- the words have a fault
pub returns-in_err-matches-clause-refused : goal.returns-in_err-matches-clause-refused
returns-in_err-matches-clause-refused c =
    let words = word_texts c.args.words.now in
    let error = c.in_err-matches.field-0.0 in
    let (choices, known, is) = c.in_ok-command_line.ensures in
    let kinds = subst (λ app. HasKind (fault_of app words) error) is (c.in_err-matches.ensures.kinds (ap is_simple_and_free is ∙ free choices)) in
    told words c.from_residual-in_err-matches.result error c.from_residual-in_err-matches.ensures.1 (faulty choices words error known kinds)

-- the task has what the words match
pub returns-clause-asked : goal.returns-clause-asked
returns-clause-asked c =
    let words = word_texts c.args.words.now in
    let found = found_of c.in_ok-matches.matches in
    let (choices, known, is) = c.in_ok-command_line.ensures in
    let rows = (c.in_ok-matches.ensures.matches (ap is_simple is ∙ simple choices)).0 ∙ ap (λ app. matches_of app words) is in
    record {
      choices = choices;
      known = known;
      accepted = ap (λ app. fault_of app words) (sym is) ∙ c.in_ok-matches.ensures.kinds (ap is_simple_and_free is ∙ free choices);
      matched = record {
        schemas = c.in_ok-files_of.ensures ∙ ap (files_of (codes "schema")) rows;
        queries = c.in_ok-files_of-2.ensures ∙ ap (files_of (codes "query")) rows;
        variables = c.get_str.ensures ∙ first_value-rows found (codes "variables") ∙ ap (first_of (codes "variables")) rows;
        form = c.form_of.ensures ∙ ap form_of rows;
        closed = c.is_value.ensures ∙ ap (is_value (codes "closed") (codes "true")) rows;
        together = c.is_value-2.ensures ∙ ap (is_value (codes "together") (codes "true")) rows;
        depth = subst (λ found. IsDepth (first_of (codes "depth") found) c.depth_of.result) rows c.depth_of.ensures;
        errors = subst (λ found. IsLimit (first_of (codes "errors") found) c.limit_of.result) rows c.limit_of.ensures;
        juniper = c.is_value-3.ensures ∙ ap (is_value (codes "dialect") (codes "juniper")) rows;
      };
    }
