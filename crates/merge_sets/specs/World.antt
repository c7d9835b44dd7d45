-- A graph as definitions see it.
use Rattle.std.specs.Prelude.{ℕ, List, Bool, ◌≡◌, ◌<◌, ◌⊎◌, get_or, length}
use Rattle.merge_sets.specs.Judgement.{Judgement}
use Rattle.merge_sets.specs.Graph.{own_at, spreads_at}
use Rattle.merge_sets.specs.declared.node.Entry.{Entry}
use Rattle.merge_sets.specs.declared.node.SetNode.{SetNode}
use Rattle.merge_sets.specs.declared.graph.Graph.{Graph}
use Rattle.merge_sets.specs.declared.finding.Finding.{Finding}

pub record World : Type 0 where
  pub judgement : Judgement
  pub sets : List SetNode
  pub fragments : List ℕ
  pub limit : ℕ

abbrev pub world : {J : Type 0} → (J → Judgement) → Graph J → World
world judgement graph = record {
  judgement = judgement graph.judge;
  sets = graph.sets.items;
  fragments = graph.fragments.items;
  limit = graph.limit;
}

abbrev pub own_of : World → ℕ → List Entry
own_of w s = own_at w.sets s

-- The fragments that a set spreads.
abbrev pub spreads_of : World → ℕ → List ℕ
spreads_of w s = spreads_at w.sets s

-- The set of a fragment.
abbrev pub set_of : World → ℕ → ℕ
set_of w f = get_or w.fragments f 0

abbrev pub exclusive_of : World → Bool → Entry → Entry → Bool
exclusive_of w e a b = w.judgement.exclusive e a.field b.field

abbrev pub conflict_of : World → Bool → Entry → Entry → Bool
conflict_of w e a b = w.judgement.conflict e a.field b.field

-- More findings are asked for: there is no limit on them, or it isn't reached.
abbrev pub HasRoom : World → List Finding → Type 0
HasRoom w found = (w.limit ≡ 0) ⊎ (length found < w.limit)

-- One response name.
abbrev pub Same : Entry → Entry → Type 0
Same a b = a.response ≡ b.response
