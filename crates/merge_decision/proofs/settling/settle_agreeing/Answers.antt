use Rattle.std.proofs.Common.{rules, arith, ◌≡◌, ◌≤◌, [], Some, length, slice_get}
use Rattle.std.proofs.lemmas.Grind.{common_steps}
use Rattle.merge_sets.specs.World.{world}
use Rattle.merge_decision.proofs.Deciding.{none_settled, only_first, settled_leaves, settled_one, settles_same}
use Rattle.merge_decision.proofs.settling.settle_agreeing.Goals as goal

pub returns-then-are_leaves : goal.returns-then-are_leaves
returns-then-are_leaves g c =
    let w = world g.J.Judge.judgement c.args.graph.now in
    let v = c.args.work.now in
    settles_same w v c.args.x c.args.fields.now (settled_leaves w v.unions.items c.args.x c.args.fields.now c.requires c.if-are_leaves.ensures)

pub returns-in_default : goal.returns-in_default
returns-in_default g c =
    let w = world g.J.Judge.judgement c.args.graph.now in
    let v = c.args.work.now in
    let none : c.args.fields.now ≡ [] = first_of (search rules, grind (arith, common_steps)) in
    settles_same w v c.args.x c.args.fields.now (none_settled w v.unions.items c.args.x c.args.fields.now none)

pub returns : goal.returns
returns g c =
    let w = world g.J.Judge.judgement c.args.graph.now in
    let fields = c.args.fields.now in
    let new = c.add_below.new.work in
    let first : slice_get fields 0 ≡ Some c.in-Some.field.now = first_of (search rules, grind (arith, common_steps)) in
    let few : length fields ≤ 1 = first_of (omega arith, grind (arith, common_steps)) in
    let told = c.in_ok-add_below.ensures in
    record {
      grows = told.grows;
      settled = λ sound. settled_one w (g.J.Judge.exclusive_stays c.args.graph.now.judge) new.unions.items c.args.x c.in-Some.field.now fields
          (λ a p. only_first fields c.in-Some.field.now a few first p) c.requires (told.holds sound);
    }
