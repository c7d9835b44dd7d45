use Rattle.std.proofs.Common.{[], ◌∷◌, reverse, option_copied, sym, subst}
use Rattle.std.proofs.lemmas.Result.{on_ok_weaker}
use Rattle.language.specs.declared.tree.Selection.TheVariants as selection
use Rattle.merge_set_table.specs.Known.{known_rank}
use Rattle.merge_set_table.specs.Tasks.{AddsAs, Becomes}
use Rattle.merge_set_table.proofs.Becoming.{pushed, inline_opened}
use Rattle.merge_set_table.proofs.adding.add_inline.Goals as goal

pub returns-in-Searched : goal.returns-in-Searched
returns-in-Searched g c =
    on_ok_weaker c.begin_inline.result
    (subst (λ r. Becomes c.args.schema.now (known_rank c.args.fragments.now) (reverse c.begin_inline.new.tasks.items) c.begin_inline.new.part c.begin_inline.new.table (reverse c.args.tasks.now.items)
    (λ b v. AddsAs c.args.schema.now (known_rank c.args.fragments.now) r (option_copied c.args.parent) (selection.InlineFragment c.args.inline.now ∷ []) c.args.part.now b c.args.table.now v)) (sym c.in-Searched.is))
    c.begin_inline.ensures

pub returns-in_ok-push-in-Compared : goal.returns-in_ok-push-in-Compared
returns-in_ok-push-in-Compared g c =
    subst (λ r. Becomes c.args.schema.now (known_rank c.args.fragments.now) (reverse c.push.new.self.items) c.args.part.now c.args.table.now (reverse c.args.tasks.now.items)
    (λ b v. AddsAs c.args.schema.now (known_rank c.args.fragments.now) r (option_copied c.args.parent) (selection.InlineFragment c.args.inline.now ∷ []) c.args.part.now b c.args.table.now v)) (sym c.in-Compared.is)
    (inline_opened c.args.schema.now (known_rank c.args.fragments.now) (option_copied c.args.parent) c.args.inline.now _ (reverse c.push.new.self.items) (reverse c.args.tasks.now.items) c.args.part.now c.args.table.now
    c.type_inside_fragment-parent.ensures c.as_slice-set.ensures.value c.in-Compared.is
    (pushed c.args.tasks.now.items _ _ c.in_ok-push-in-Compared.ensures.items))
