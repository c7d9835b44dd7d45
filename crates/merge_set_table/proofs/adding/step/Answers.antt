use Rattle.std.proofs.Common.{reverse, refl, sym, subst}
use Rattle.std.proofs.lemmas.Result.{on_ok_weaker}
use Rattle.merge_set_table.specs.Known.{known_rank}
use Rattle.merge_set_table.specs.Tasks.{Meets, Becomes}
use Rattle.merge_set_table.proofs.Becoming.{at_once}
use Rattle.merge_set_table.proofs.adding.step.Goals as goal

pub returns-in-Members : goal.returns-in-Members
returns-in-Members g c =
    on_ok_weaker c.add_next.result
    (λ h. subst (λ x. Becomes c.args.schema.now (known_rank c.args.fragments.now) (reverse c.add_next.new.tasks.items) c.add_next.new.part c.add_next.new.table (reverse c.args.tasks.now.items)
    (λ b v. Meets c.args.schema.now (known_rank c.args.fragments.now) x c.args.part.now b c.args.table.now v)) (sym c.in-Members.is) h)
    c.add_next.ensures

pub returns-in-Field : goal.returns-in-Field
returns-in-Field g c =
    on_ok_weaker c.end_field.result
    (λ h. at_once c.args.schema.now (known_rank c.args.fragments.now) (reverse c.args.tasks.now.items) c.end_field.new.part c.end_field.new.table _
    (subst (λ x. Meets c.args.schema.now (known_rank c.args.fragments.now) x c.args.part.now c.end_field.new.part c.args.table.now c.end_field.new.table) (sym c.in-Field.is) h))
    c.end_field.ensures

pub returns-in-Inline : goal.returns-in-Inline
returns-in-Inline g c =
    on_ok_weaker c.end_inline.result
    (λ h. at_once c.args.schema.now (known_rank c.args.fragments.now) (reverse c.args.tasks.now.items) c.end_inline.new.part c.end_inline.new.table _
    (subst (λ x. Meets c.args.schema.now (known_rank c.args.fragments.now) x c.args.part.now c.end_inline.new.part c.args.table.now c.end_inline.new.table) (sym c.in-Inline.is) h))
    c.end_inline.ensures

pub returns-in-Part : goal.returns-in-Part
returns-in-Part g c =
    at_once c.args.schema.now (known_rank c.args.fragments.now) (reverse c.args.tasks.now.items) c.end_part.new.part c.args.table.now _
    (subst (λ x. Meets c.args.schema.now (known_rank c.args.fragments.now) x c.args.part.now c.end_part.new.part c.args.table.now c.args.table.now) (sym c.in-Part.is) (c.end_part.ensures, refl))
