-- The marks on fragments, by names.
use Rattle.std.specs.Prelude.{ℕ, List, ◌≡◌, ◌↔◌, Some}
use Rattle.language.specs.declared.tree.Definition.{Definition}
use Rattle.fragment_graph.specs.Numbers.{number_of, Defines}
use Rattle.fragment_reach.specs.declared.reached.ReachedFragments.{ReachedFragments}
use Rattle.fragment_reach.specs.Reach.{IsReached}
use Rattle.fragment_reach.specs.Search.{IsMarked}

-- The number of the name is marked.
abbrev pub IsNameMarked : ReachedFragments → List ℕ → Type 0
IsNameMarked r name = (k : ℕ) × (number_of r.graph.now.numbers name ≡ Some k) × IsMarked r.marks.items k

-- A fragment of the document is marked if and only if some operation reaches it.
abbrev pub ReachedOf : {S : Type 0} → List (Definition S) → ReachedFragments → Type 0
ReachedOf document r = (name : List ℕ) → Defines document name → IsNameMarked r name ↔ IsReached document name
