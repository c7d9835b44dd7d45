-- What fragments pay that are compared.
use Rattle.std.proofs.Common.{[], ◌≡◌, ◌*◌, ◌<◌, ◌≤◌, ℕ, Bool, false, List, Option, None, Some, arith, length, subst}
use Rattle.std.specs.Prelude.{slice_get, sum_by}
use Rattle.std.specs.Option.{option_map_or}
use Rattle.merge_sets.specs.declared.node.SetNode.{SetNode}
use Rattle.merge_search.specs.declared.state.Search.{Search}
use Rattle.merge_search.specs.declared.task.Task.{Task}
use Rattle.merge_search.specs.declared.task.Task.TheVariants.{Own, Mark}
use Rattle.merge_sets.specs.Graph.{Falling, firsts_at}
use Rattle.merge_sets.specs.Indexed.{firsts_of}
use Rattle.merge_search.specs.Log.{covers_of}
use Rattle.merge_sets.specs.Names.{HaveOwnNames}
use Rattle.merge_search.specs.Spending.{CostsMore, Pays, Spends, Takes, sets_cost, task_cost, tasks_cost}
use Rattle.merge_search.specs.Opened.{OpensCounted}
use Rattle.merge_search.specs.State.{CountsStay, Keeps, NotesPair}
use Rattle.merge_search.specs.Weight.{fragment_weight, weight}
use Rattle.merge_search.specs.Work.{pair_in}
use Rattle.merge_sets.specs.World.{World, set_of}
use Rattle.merge_search.proofs.Costs.{begun_spends, credit_same}
use Rattle.merge_sets.proofs.Naming.{own_names_none}
use Rattle.merge_search.proofs.OwnNames.{sets_within}
use Rattle.merge_search.proofs.Worth.{pair_pays}

own_names_of : (o : Option SetNode) → HaveOwnNames (option_map_or (λ n. firsts_of n.own.items n.index) o [])
own_names_of None = own_names_none
own_names_of (Some n) = n.once

module _ (w : World) (falling : Falling w.sets w.fragments) where
  -- the own fields of a set and of a fragment
  own_cost : (i j g : ℕ) → j ≡ set_of w g → sets_cost w i j (firsts_at w.sets i) ≤ weight w i * fragment_weight w g
  own_cost i j g is = subst (λ (k : ℕ). sets_cost w i j (firsts_at w.sets i) ≤ weight w i * weight w k) is (sets_within w falling i j (firsts_at w.sets i) (own_names_of (slice_get w.sets i)))

  -- one that a search has opened
  pub one_pays : (e : Bool) (i g j n : ℕ) (ts vs us : List Task) (s t : Search) → j ≡ set_of w g → CostsMore w (task_cost w (Mark i n)) ts vs → Pays w (task_cost w (Own i j e 0)) vs us s t
      → Pays w (8 * (weight w i * fragment_weight w g)) ts us s t
  one_pays e i g j n ts vs us s t is more p = record { paid = omega (arith, p.paid, more.most, own_cost i j g is) }

  -- two fragments pay for themselves
  pub two_pay : (e : Bool) (f g i j : ℕ) (ts vs xs us : List Task) (s t u : Search) → i ≡ set_of w f → j ≡ set_of w g → covers_of (pair_in s) e f g ≡ false
      → f < length w.fragments → g < length w.fragments → NotesPair f g e s t → CostsMore w 0 ts vs → CostsMore w 0 vs xs → Pays w (task_cost w (Own i j e 0)) xs us t u → Pays w 0 ts us s u
  two_pay e f g i j ts vs xs us s t u left right fresh lf lg noted more again p =
      let own = subst (λ (k : ℕ). sets_cost w i j (firsts_at w.sets i) ≤ weight w k * fragment_weight w g) left (own_cost i j g right) in
      record { paid = omega (arith, p.paid, more.most, again.most, noted.judged, own, pair_pays w s t f g e noted fresh lf lg) }

  -- a search that opens fragments costs nothing more
  pub search_pays_all : (e : Bool) (i g : ℕ) (hs : List ℕ) (ts us : List Task) (s t u : Search) → OpensCounted w e i g hs s t
      → Pays w (8 * (weight w i * sum_by (fragment_weight w) hs)) ts us t u → Pays w 0 ts us s u
  search_pays_all e i g hs ts us s t u o p =
      let c = o.counts in
      record { paid = omega (arith, p.paid, o.opens.asks.pays, o.opens.asks.judged, c.judged, credit_same w o.mid t c.pairs c.searched c.repeated) }

  -- the own fields of two sets
  pub own_spends : (i j : ℕ) (e : Bool) (ts us : List Task) (s t u v : Search) → Keeps s t → CountsStay s t → ts ≡ [] → Pays w (task_cost w (Own i j e 0)) ts us t u
      → Takes w (tasks_cost w us) u v → Spends w (weight w i * weight w j) s v
  own_spends i j e ts us s t u v k c none p q =
      let within = sets_within w falling i j (firsts_at w.sets i) (own_names_of (slice_get w.sets i)) in
      begun_spends w (task_cost w (Own i j e 0)) (weight w i * weight w j) ts us s t u v k c none (omega (arith, within)) p q
