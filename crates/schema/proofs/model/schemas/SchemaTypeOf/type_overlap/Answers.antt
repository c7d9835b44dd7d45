use Rattle.std.proofs.Common.{◌≡◌, arith, ◌∙◌}
use Rattle.std.proofs.lemmas.Grind.{common_steps}
use Rattle.schema.specs.Possible.{do_overlap}
use Rattle.schema.proofs.PossibleLemmas.{overlap-sym}
use Rattle.schema.proofs.model.schemas.SchemaTypeOf.type_overlap.Goals as goal

pub returns-else-have_same_name-clause-symmetric :
    goal.returns-else-have_same_name-clause-symmetric
returns-else-have_same_name-clause-symmetric g c =
    let ts = c.args.self.now.types in
    let here : c.do_possible_meet.result ≡ do_overlap ts c.args.t1.now c.args.t2.now = grind (arith, common_steps) in
    here ∙ overlap-sym ts c.args.t1.now c.args.t2.now
