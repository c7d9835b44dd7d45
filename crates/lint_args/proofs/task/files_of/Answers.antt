use Rattle.std.proofs.Common.{◌≡◌, ◌∙◌, Bor, List, [], None, Option, Some, ap, refl, unwrap_or}
use Rattle.std.proofs.lemmas.Result.{IfOk-weaker}
use Rattle.std.specs.Option.{option_map}
use Rattle.clap.proofs.WalkLemmas.{raw_values-rows}
use Rattle.clap.specs.Walk.{Text, texts}
use Rattle.clap.specs.Words.{found_of}
use Rattle.lint_args.specs.Asks.{distinct}
use Rattle.lint_args.proofs.task.files_of.Goals as goal

-- the texts of what there is, or of nothing
texts_or_none : (found : Option (Bor (List (Bor Text)))) (none : Bor (List (Bor Text))) → none.now ≡ []
    → texts (unwrap_or found none).now ≡ unwrap_or (option_map (λ paths. texts paths.now) found) []
texts_or_none None none empty = ap texts empty
texts_or_none (Some paths) none empty = refl

-- the values are those of the row
pub returns : goal.returns
returns c =
    IfOk-weaker c.distinct.result _ _ (λ files are. are ∙ ap (λ paths. distinct (texts paths.now)) c.unwrap_or.ensures ∙ ap distinct (texts_or_none c.get_strs.result _ refl
    ∙ ap (λ found. unwrap_or found []) (c.get_strs.ensures ∙ raw_values-rows (found_of c.args.matches.now) c.args.id.now))) c.distinct.ensures
