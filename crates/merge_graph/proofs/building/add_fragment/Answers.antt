use Rattle.std.proofs.Common.{List, ℕ, ◌++◌, ◌∷◌, [], refl, ap, ◌∙◌}
use Rattle.merge_graph.proofs.building.add_fragment.Goals as goal

pub returns : goal.returns
returns g c =
    let added = c.in_ok-set.ensures in
    record {
      middle = c.add_definition.new.building;
      set = c.in_ok-set.set;
      adds = added;
      fragments = c.push.new.self;
      is = refl;
      pushed = ◌∙◌ {A = List ℕ} {b = c.add_definition.new.building.fragments.items ++ c.in_ok-set.set ∷ []} c.in_ok-push.ensures.items (ap (λ v. v.items ++ c.in_ok-set.set ∷ []) added.notes.fragments);
    }
