use Rattle.std.proofs.Common.{reverse, refl, sym, subst}
use Rattle.merge_set_table.specs.Known.{known_rank}
use Rattle.merge_set_table.specs.Adding.{IsEmptySet}
use Rattle.merge_set_table.proofs.Becoming.{three_pushed, lost_begun}
use Rattle.merge_set_table.proofs.adding.begin_lost.Goals as goal

pub returns : goal.returns
returns g c =
    lost_begun c.args.schema.now (known_rank c.args.fragments.now) c.args.inline.now c.args.entered c.args.parent c.requires.typed _ _ _
    (reverse c.push-3.new.self.items) (reverse c.args.tasks.now.items) c.args.part.now c.replace-outer.new.dest c.args.table.now c.open_set.new.table
    c.requires.lost refl refl c.as_slice-set.ensures.value refl refl c.as_slice-set.ensures.value c.replace-outer.ensures.value
    c.in_ok-place.ensures (subst IsEmptySet (sym c.replace-outer.ensures.after) c.in_ok-inner.ensures)
    (three_pushed c.args.tasks.now.items _ _ _ _ _ _ c.in_ok-push.ensures.items c.in_ok-push-2.ensures.items c.in_ok-push-3.ensures.items)
