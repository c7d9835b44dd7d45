use Rattle.std.proofs.Common.{arith}
use Rattle.std.proofs.lemmas.Grind.{common_steps}
use Rattle.language.proofs.SpreadLemmas.{spreads_of-Field, spreads_of-Spread, spreads_of-Inline}
use Rattle.language.proofs.InsideTree.{inside_field, inside_inline}
use Rattle.language.proofs.SpreadsWaiting.{put, put_less}
use Rattle.language.proofs.spreads.add_spreads_of.Goals as goal

pub returns-in_ok-push-in-Field-clause-value : goal.returns-in_ok-push-in-Field-clause-value
returns-in_ok-push-in-Field-clause-value g c =
    put c.args.selection.now c.in-Some.inner.items _ _ c.as_slice.result _ (spreads_of-Field c.args.selection.now c.in-Field.field c.in-Some.inner c.in-Field.is c.in-Some.is) c.as_slice.ensures.value c.in_ok-push-in-Field.ensures.items

pub returns-in_ok-push-in-Field-clause-less : goal.returns-in_ok-push-in-Field-clause-less
returns-in_ok-push-in-Field-clause-less g c =
    put_less c.args.selection.now c.in-Some.inner.items _ _ c.as_slice.result (inside_field c.args.selection.now c.in-Field.field c.in-Some.inner c.in-Field.is c.in-Some.is) c.as_slice.ensures.value c.in_ok-push-in-Field.ensures.items

pub returns-in_ok-push-in-FragmentSpread-clause-value : goal.returns-in_ok-push-in-FragmentSpread-clause-value
returns-in_ok-push-in-FragmentSpread-clause-value g c =
    grind (arith, common_steps, spreads_of-Spread c.args.selection.now c.in-FragmentSpread.spread c.in-FragmentSpread.is)

pub returns-in_ok-push-in-InlineFragment-clause-value : goal.returns-in_ok-push-in-InlineFragment-clause-value
returns-in_ok-push-in-InlineFragment-clause-value g c =
    put c.args.selection.now _ _ _ c.as_slice-in-InlineFragment.result _ (spreads_of-Inline c.args.selection.now c.in-InlineFragment.inline c.in-InlineFragment.is) c.as_slice-in-InlineFragment.ensures.value c.in_ok-push-in-InlineFragment.ensures.items

pub returns-in_ok-push-in-InlineFragment-clause-less : goal.returns-in_ok-push-in-InlineFragment-clause-less
returns-in_ok-push-in-InlineFragment-clause-less g c =
    put_less c.args.selection.now _ _ _ c.as_slice-in-InlineFragment.result (inside_inline c.args.selection.now c.in-InlineFragment.inline c.in-InlineFragment.is) c.as_slice-in-InlineFragment.ensures.value c.in_ok-push-in-InlineFragment.ensures.items
