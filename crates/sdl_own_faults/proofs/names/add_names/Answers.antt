use denote.Ref.{Bor}
use Rattle.std.proofs.Common.{ℕ, List, [], ◌∷◌, ap, refl, ◌∙◌}
use Rattle.std.proofs.lemmas.List.{map-append}
use Rattle.language_types.specs.References.{list_copied}
use Rattle.sdl_own_faults.proofs.Reported.{names_next}
use Rattle.sdl_own_faults.proofs.names.add_names.Goals as goal

pub loop-name-preserved : goal.loop-name-preserved
loop-name-preserved c =
    names_next c.args.written.now c.loop-name.name-index _ _ _ _ _ c.loop-name-test.true refl c.loop-name.invariant (ap list_copied c.in_ok-push.ensures.items ∙ map-append (λ (r : Bor (List ℕ)). r.now) c.loop-name.names.items (_ ∷ []))
