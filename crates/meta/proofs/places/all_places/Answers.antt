use Rattle.std.proofs.Common.{◌<◌, ◌≤◌, map, ap, ◌∙◌, length, arith}
use Rattle.std.specs.Prelude.{find}
use Rattle.std.proofs.lemmas.List.{length-map, take_all}
use Rattle.meta.specs.Places.{first_place, is_at}
use Rattle.meta.proofs.PlaceLemmas.{listed_more}
use Rattle.meta.proofs.places.all_places.Goals as goal

pub returns : goal.returns
returns g c = λ name.
    let names = map g.T.Named.name_of c.args.items.now in
    let over : length names ≤ c.loop-i.i = let same = length-map c.args.items.now g.T.Named.name_of in let test = c.loop-i-test.false in omega (arith, same, test) in
    c.loop-i.invariant name ∙ ap (first_place name) (take_all c.loop-i.i names over)

pub loop-i-preserved : goal.loop-i-preserved
loop-i-preserved g c = λ name.
    let names = map g.T.Named.name_of c.args.items.now in
    let here : c.loop-i.i < length names = let same = length-map c.args.items.now g.T.Named.name_of in let test = c.loop-i-test.true in omega (arith, same, test) in
    ap (find (is_at names name)) c.in_ok-push.ensures.items ∙ listed_more names name c.loop-i.places.items c.loop-i.i here (c.loop-i.invariant name)
