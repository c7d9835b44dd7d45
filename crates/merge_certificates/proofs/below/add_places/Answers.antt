use Rattle.std.proofs.Common.{◌≡◌, ℕ, Some, slice_get, subst}
use Rattle.std.specs.Bool.{OnTrue}
use Rattle.std.specs.List.{All, Contains}
use Rattle.std.proofs.lemmas.List.Elements.{All-contains}
use Rattle.merge_sets.specs.declared.node.Entry.{Entry}
use Rattle.merge_sets.specs.Clear.{AreClearBelow}
use Rattle.merge_sets.specs.World.{world}
use Rattle.merge_certificates.proofs.below.add_places.Goals as goal

pub returns-clause-merge : goal.returns-clause-merge
returns-clause-merge g c = λ before k l a b p q at to.
    let v = world g.J.Judge.judgement c.args.graph.now in
    let xs = c.args.fields.now in
    let entries = c.in_ok-entries.entries.items in
    let there = subst (λ zs. All (λ m. (y : Entry) → slice_get xs m ≡ Some y → Contains entries y) zs) c.as_slice-2.ensures.value c.in_ok-entries.ensures in
    let in_entries : (m : ℕ) (y : Entry) → Contains c.loop-k.more.items m → slice_get xs m ≡ Some y → Contains entries y = λ m y i o. All-contains (λ m. (y : Entry) → slice_get xs m ≡ Some y → Contains entries y) c.loop-k.more.items m there i y o in
    let clear = subst (λ zs. AreClearBelow v c.args.e zs zs) c.as_slice-3.ensures.value (subst (λ z. OnTrue z (AreClearBelow v c.args.e c.as_slice-3.result.now c.as_slice-3.result.now)) c.if-not-is_clear.false c.in_ok-is_clear.ensures.clear) in
    clear a b (in_entries k a p at) (in_entries l b q to)
