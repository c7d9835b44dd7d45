use Rattle.std.proofs.Common.{ℕ, ◌≡◌, ◌≤◌, None, Some, Vec, get_or, slice_get, length}
use Rattle.std.specs.declared.alloc.Global.{Global}
use Rattle.merge_sets.specs.declared.node.Entry.{Entry}
use Rattle.merge_certificates.specs.Touched.{ListsBelow}
use Rattle.merge_sets.specs.World.{world}
use Rattle.merge_certificates.proofs.touched.names_below_each.Given as goal

abbrev pub invariant-loop-k : goal.invariant-loop-k
invariant-loop-k g l =
    let w = world g.J.Judge.judgement l.graph in
    (length l.lists.items ≡ l.k)
    × ((m : ℕ) (b : Entry) (v : Vec ℕ Global) → slice_get l.fields m ≡ Some b → get_or l.lists.items m None ≡ Some v → ListsBelow w l.names b v.items)
    × (l.budget ≤ l.fn.budget)
