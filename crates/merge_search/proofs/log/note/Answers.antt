use Rattle.std.proofs.Common.{refl, sym, subst}
use Rattle.merge_search.specs.Log.{in_log, Notes}
use Rattle.merge_search.proofs.Logs.{notes_flagged, notes_plain}
use Rattle.merge_search.proofs.log.note.Goals as goal

pub returns-in_ok-insert : goal.returns-in_ok-insert
returns-in_ok-insert c =
    let old = c.args.log.now in
    let new : Rattle.merge_search.specs.declared.log.Log.Log = record { flagged = c.insert.new.self; plain = old.plain } in
    subst (λ x. Notes x c.args.f c.args.g (in_log old) (in_log new)) (sym c.if-e.true) (notes_flagged c.args.f c.args.g old new refl (c.in_ok-insert.ensures.there, c.in_ok-insert.ensures.others))

pub returns-in_ok-insert-2 : goal.returns-in_ok-insert-2
returns-in_ok-insert-2 c =
    let old = c.args.log.now in
    let new : Rattle.merge_search.specs.declared.log.Log.Log = record { flagged = old.flagged; plain = c.insert-else-e.new.self } in
    subst (λ x. Notes x c.args.f c.args.g (in_log old) (in_log new)) (sym c.if-e.false) (notes_plain c.args.f c.args.g old new refl (c.in_ok-insert-2.ensures.there, c.in_ok-insert-2.ensures.others))
