-- What was told, if memory did not run out.
use Rattle.std.proofs.Common.{◌≡◌, List, Vec, map, subst, sym, ◌∙◌}
use Rattle.std.specs.Prelude.{Result, Ok, Err, IfOk}
use Rattle.std.specs.declared.alloc.Global.{Global}
use Rattle.meta.specs.declared.kinds.MetaTypeOf.{MetaTypeOf}
use Rattle.schema.specs.Catalog.{Catalog}
use Rattle.type_system_circles.specs.declared.search.Circle.{Circle}
use Rattle.type_system_inputs.specs.declared.circles.InputCircle.{InputCircle}
use Rattle.type_system_inputs.specs.Graph.{field_of}
use Rattle.type_system_inputs.specs.Inputs.{FindsInputCircles}
use Rattle.type_system_inputs.specs.Told.{circles_told}

pub finds : {S C E : Type 0} (schema : Catalog S C) (ts : List (MetaTypeOf S C)) (circles cs : List Circle) (r : Result (Vec InputCircle Global) E) → schema.types ≡ ts → circles ≡ cs
    → FindsInputCircles schema (map (λ c. map (field_of schema.types) c.links.items) circles)
    → IfOk r (λ v. circles_told v ≡ map (λ c. map (field_of ts) c.links.items) cs) → IfOk r (λ v. FindsInputCircles schema (circles_told v))
finds schema ts circles cs (Ok v) types same h told =
    let is : map (λ c. map (field_of schema.types) c.links.items) circles ≡ circles_told v = (λ i. map (λ c. map (field_of (types i)) c.links.items) (same i)) ∙ sym told in
    subst (FindsInputCircles schema) is h
finds schema ts circles cs (Err e) types same h told = told
