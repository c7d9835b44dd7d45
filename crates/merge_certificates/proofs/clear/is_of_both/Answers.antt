use Rattle.std.proofs.Common.{inl, inr, sym, ◌∙◌}
use Rattle.merge_sets.proofs.Laws.{is_leaf}
use Rattle.merge_certificates.proofs.clear.is_of_both.Goals as goal

pub returns-then-is_none : goal.returns-then-is_none
returns-then-is_none c = λ yes. (sym c.if-not-contains.ensures, inl (is_leaf _ c.if-is_none.ensures))

pub returns : goal.returns
returns c = λ yes. (sym c.if-not-contains.ensures, inr (sym c.contains-2.ensures ∙ yes))
