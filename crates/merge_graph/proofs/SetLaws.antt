-- A search's sets fall, and stand in an order, as the table's do.
use Rattle.std.proofs.Common.{◌≡◌, ◌==◌, ◌||◌, ◌≤◌, ℕ, List, [], ◌∷◌, length, map, get_or, Option, Some, None, option_map, slice_get, refl, sym, ap, subst, ◌∙◌, arith}
use Rattle.std.specs.List.{All, list_any}
use Rattle.std.specs.Option.{option_map_or}
use Rattle.std.proofs.lemmas.List.{length-map}
use Rattle.std.proofs.lemmas.Option.{slice_get-map}
use Rattle.merge_sets.specs.declared.node.SetNode.{SetNode}
use Rattle.merge_sets.specs.Graph as searched
use Rattle.merge_set_table.specs.declared.table.NumberedSet.{NumberedSet}
use Rattle.merge_set_table.specs.Once.{is_among}
use Rattle.merge_set_table.specs.Table.{own_at, spreads_at, IsWithin, Falling}
use Rattle.merge_graph.specs.Sets.{PlainSet, plain_row, plain_node}
use Rattle.merge_graph.specs.TableGraph.{AreListed}

same_test : (m n : ℕ) → (m == n) ≡ (n == m)
same_test m n = grind arith

flip_any : (xs : List ℕ) (k : ℕ) → is_among xs k ≡ list_any (λ t. k == t) xs
flip_any [] k = refl
flip_any (x ∷ xs) k = ap (λ b. b || is_among xs k) (same_test x k) ∙ ap (λ b. (k == x) || b) (flip_any xs k)

node_own : (o : Option SetNode) → option_map_or (λ n. n.own.items) o [] ≡ option_map_or (λ (s : PlainSet). s.own) (option_map plain_node o) []
node_own None = refl
node_own (Some n) = refl

row_own : (o : Option NumberedSet) → option_map_or (λ (s : PlainSet). s.own) (option_map plain_row o) [] ≡ option_map_or (λ n. n.own.items) o []
row_own None = refl
row_own (Some n) = refl

node_spreads : (o : Option SetNode) → option_map_or (λ n. n.spreads.items) o [] ≡ option_map_or (λ (s : PlainSet). s.spreads) (option_map plain_node o) []
node_spreads None = refl
node_spreads (Some n) = refl

row_spreads : (o : Option NumberedSet) → option_map_or (λ (s : PlainSet). s.spreads) (option_map plain_row o) [] ≡ option_map_or (λ n. n.spreads.items) o []
row_spreads None = refl
row_spreads (Some n) = refl

module _ (nodes : List SetNode) (rows : List NumberedSet) (same : map plain_node nodes ≡ map plain_row rows) where
  same_at : (s : ℕ) → option_map plain_node (slice_get nodes s) ≡ option_map plain_row (slice_get rows s)
  same_at s = sym (slice_get-map plain_node nodes s) ∙ ap (λ xs. slice_get xs s) same ∙ slice_get-map plain_row rows s

  pub own_same : (s : ℕ) → searched.own_at nodes s ≡ own_at rows s
  own_same s = node_own (slice_get nodes s) ∙ ap (λ o. option_map_or (λ (x : PlainSet). x.own) o []) (same_at s) ∙ row_own (slice_get rows s)

  pub spreads_same : (s : ℕ) → searched.spreads_at nodes s ≡ spreads_at rows s
  spreads_same s = node_spreads (slice_get nodes s) ∙ ap (λ o. option_map_or (λ (x : PlainSet). x.spreads) o []) (same_at s) ∙ row_spreads (slice_get rows s)

  pub equally_many : length nodes ≡ length rows
  equally_many = sym (length-map nodes plain_node) ∙ ap length same ∙ length-map rows plain_row

  pub falling : (fragments : List ℕ) → Falling rows fragments → searched.Falling nodes fragments
  falling fragments f s = (
    subst (All (λ a. searched.height a ≤ s)) (sym (own_same s)) (f s).0,
    subst (All (IsWithin fragments s)) (sym (spreads_same s)) (f s).1,
  )

-- the sets of the fragments stand in the order
pub listed : (fragments order : List ℕ) → AreListed fragments order → searched.AreListed fragments order
listed fragments order w g l = sym (flip_any order (get_or fragments g 0)) ∙ w g l
