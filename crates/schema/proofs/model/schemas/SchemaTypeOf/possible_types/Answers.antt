use Rattle.std.proofs.Common.{◌≡◌, Some, map}
use Rattle.std.proofs.lemmas.Result.{IfOk-weaker}
use Rattle.meta.specs.Kinds.{name_of_meta}
use Rattle.schema.specs.Possible.{possible_names, types_named}
use Rattle.schema.proofs.PossibleLemmas.{possible-names}
use Rattle.schema.proofs.model.schemas.SchemaTypeOf.possible_types.Goals as goal

pub returns-clause-names : goal.returns-clause-names
returns-clause-names g c =
    let s = c.args.self.now in
    let t = c.args.meta.now in
    λ n e. IfOk-weaker c.types_of_possible_names.result
    (λ v. map (λ r. r.now) v.items ≡ types_named s.types (possible_names s.types t))
    (λ v. map (λ r. name_of_meta r.now) v.items ≡ map (λ k. Some k) (possible_names s.types t))
    (λ v h. possible-names s t n v.items c.requires e h) c.types_of_possible_names.ensures
