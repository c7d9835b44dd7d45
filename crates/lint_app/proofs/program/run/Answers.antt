use Rattle.std.proofs.Common.{◌≡◌, List, inl, inr, subst, sym, ◌∙◌}
use Rattle.clap.specs.Values.{kind_of}
use Rattle.clap.specs.Walk.{Text}
use Rattle.clap.specs.declared.error.Error.{Error}
use Rattle.clap.specs.declared.error.kind.ErrorKind.TheVariants.{DisplayHelp, DisplayVersion, OutOfMemory}
use Rattle.lint_args.specs.Asks.{HasFault, IsRefusal, IsRequest, WantsText, word_texts}
use Rattle.lint_app.proofs.program.run.Goals as goal

-- a text is shown where the words ask for it
asked : (words : List Text) (error : Error) → IsRefusal words error → IsRequest (kind_of error) → WantsText words
asked words error (inl memory) (inl help) = let bad : OutOfMemory ≡ DisplayHelp = sym memory ∙ help in cc
asked words error (inl memory) (inr version) = let bad : OutOfMemory ≡ DisplayVersion = sym memory ∙ version in cc
asked words error (inr fault) (inl help) = inl (subst (HasFault words) help fault)
asked words error (inr fault) (inr version) = inr (subst (HasFault words) version fault)

-- the task is that which the words ask for
pub returns-in-Ok-clause-told : goal.returns-in-Ok-clause-told
returns-in-Ok-clause-told g c = λ other least. (c.in-Ok.task, c.in-Ok.ensures.asked, c.run_task.ensures.told least)

pub returns-in-Ok-clause-answered : goal.returns-in-Ok-clause-answered
returns-in-Ok-clause-answered g c = λ least. inr (c.in-Ok.task, c.in-Ok.ensures.asked, c.run_task.ensures.told least)

pub returns-in-Ok-clause-ended : goal.returns-in-Ok-clause-ended
returns-in-Ok-clause-ended g c = λ early. let (text, ends, part) = c.run_task.ensures.ended early in (text, inr (c.in-Ok.task, c.in-Ok.ensures.asked, ends), part)

-- the words are refused, or ask for a text
pub returns-in-Err-clause-answered : goal.returns-in-Err-clause-answered
returns-in-Err-clause-answered g c = λ least. inl (asked (word_texts c.args.words.now) c.in-Err.error c.in-Err.ensures.refused (c.show.ensures.text least))

pub returns-in-Err-clause-ended : goal.returns-in-Err-clause-ended
returns-in-Err-clause-ended g c = λ early. let (text, shown, part) = c.show.ensures.ended early in (text, inl (c.in-Err.error, c.in-Err.ensures.refused, shown), part)
