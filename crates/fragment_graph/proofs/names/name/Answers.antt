use Rattle.std.proofs.Common.{◌≡◌, ℕ, [], List, Option, ap, option_map, slice_get, sym, ◌∙◌}
use Rattle.std.specs.Option.{unwrap_or}
use Rattle.std.proofs.lemmas.Option.{slice_get-map}
use denote.Ref.{Bor}
use Rattle.name_tables.specs.declared.map.NameMap.{NameMap}
use Rattle.name_tables.specs.Maps.{entries_of}
use Rattle.fragment_graph.specs.declared.numbers.Numbers.{Numbers}
use Rattle.fragment_graph.specs.Numbers.{names_of}
use Rattle.fragment_graph.proofs.names.name.Goals as goal

module _ (n : Numbers) (k : ℕ) where
  -- the name of a number, by the entry of the map
  named : (m : NameMap (Unit {0})) (o : Option (Bor (List ℕ) × Unit {0})) → m ≡ n.map.value → o ≡ slice_get (entries_of m) k
      → unwrap_or (option_map (λ e. e.0.now) o) [] ≡ unwrap_or (slice_get (names_of n) k) []
  named m o e h =
      ap (λ z. unwrap_or (option_map (λ e. e.0.now) z) []) (h ∙ ap (λ w. slice_get (entries_of w) k) e)
      ∙ sym (ap (λ z. unwrap_or z []) (slice_get-map (λ e. e.0.now) (entries_of n.map.value) k))

pub returns-in-Some : goal.returns-in-Some
returns-in-Some c = named c.args.numbers.now c.args.number _ _ c.deref.ensures (sym c.in-Some.is ∙ c.entry.ensures)

pub returns-in-None : goal.returns-in-None
returns-in-None c = named c.args.numbers.now c.args.number _ _ c.deref.ensures (sym c.in-None.is ∙ c.entry.ensures)
