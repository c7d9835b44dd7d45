use Rattle.std.proofs.Common.{refl}
use Rattle.events.specs.Outline.{outline_of_set_if_there}
use Rattle.events.specs.EventValue.{typing_of}
use Rattle.events.proofs.Pushed.{pushed_of, pushed_none}
use Rattle.events.proofs.cursor.push_written_set.Goals as goal

pub returns-in-Some : goal.returns-in-Some
returns-in-Some g c =
    pushed_of c.push_set.result
    (λ schema. outline_of_set_if_there schema (typing_of c.args.types.now))
    c.args.frames.now c.push_set.new.frames c.in-Some.is c.push_set.ensures

pub returns-in-None : goal.returns-in-None
returns-in-None g c =
    pushed_none (λ schema. outline_of_set_if_there schema (typing_of c.args.types.now))
    c.args.frames.now c.in-None.is (λ schema. refl)
