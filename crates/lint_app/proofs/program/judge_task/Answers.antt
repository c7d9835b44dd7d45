use Rattle.std.proofs.Common.{inl, inr, refl, string_bytes}
use Rattle.lint_app.proofs.program.judge_task.Goals as goal

-- what is told was written
pub returns-in-Ok-clause-told : goal.returns-in-Ok-clause-told
returns-in-Ok-clause-told g c = λ least. record {
  told = c.in-Ok.told;
  tells = c.in-Ok.ensures;
  whole = c.tell.ensures.whole least;
  status_is = c.tell.ensures.value least;
  written = c.tell.ensures.written least;
}

pub returns-in-Ok-clause-ended : goal.returns-in-Ok-clause-ended
returns-in-Ok-clause-ended g c = λ early. (string_bytes c.in-Ok.told.text, inr (inr (c.in-Ok.told, c.in-Ok.ensures, refl)), c.tell.ensures.part)

-- faults were told, or memory was refused
pub returns-clause-ended : goal.returns-clause-ended
returns-clause-ended g c = λ early. let (text, ends, part) = c.tell_early.ensures.ended in (text, inr (inl (c.as_slice-faults.result.now, ends)), part)
