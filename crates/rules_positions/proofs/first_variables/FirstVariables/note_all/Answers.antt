use Rattle.std.proofs.Common.{[], ◌∷◌, subst, sym, take}
use Rattle.fragment_graph.proofs.Joining.{next_take}
use Rattle.rules_positions.specs.FirstVariables.{Notes}
use Rattle.rules_positions.proofs.FirstDefinitions.{notes_more}
use Rattle.rules_positions.proofs.first_variables.FirstVariables.note_all.Goals as goal

pub loop-entry-preserved : goal.loop-entry-preserved
loop-entry-preserved g c =
    let entries = c.args.entries.now in
    let i = c.loop-entry.entry-index in
    let d = c.entry-item.result in
    subst (λ zs. Notes zs c.args.self.now c.note.new.self) (sym (next_take entries i d c.entry-item.is c.loop-entry-test.true))
    (notes_more (take i entries) (d ∷ []) c.args.self.now c.loop-entry.self c.note.new.self c.loop-entry.invariant c.in_ok-note.ensures)
