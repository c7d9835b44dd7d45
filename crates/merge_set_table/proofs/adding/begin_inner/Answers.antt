use Rattle.std.proofs.Common.{reverse, refl}
use Rattle.merge_set_table.specs.Known.{known_rank}
use Rattle.merge_set_table.proofs.Becoming.{two_pushed, part_begun}
use Rattle.merge_set_table.proofs.adding.begin_inner.Goals as goal

pub returns : goal.returns
returns g c = λ t.
    part_begun c.args.schema.now (known_rank c.args.fragments.now) c.args.inline.now c.args.entered c.args.parent c.requires.typed _ _
    (reverse c.push-2.new.self.items) (reverse c.args.tasks.now.items) c.args.part.now c.begin_part.new.part t
    c.requires.lost refl refl c.as_slice-set.ensures.value c.in_ok-place.ensures
    (two_pushed c.args.tasks.now.items _ _ _ _ c.in_ok-push.ensures.items c.in_ok-push-2.ensures.items)
