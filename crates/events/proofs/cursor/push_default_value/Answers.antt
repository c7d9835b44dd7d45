use Rattle.std.proofs.Common.{refl}
use Rattle.events.specs.Outline.{if_there, outline_of_value}
use Rattle.events.specs.EventValue.{typing_of}
use Rattle.events.proofs.Pushed.{pushed_of, pushed_none}
use Rattle.events.proofs.cursor.push_default_value.Goals as goal

pub returns-in-Some : goal.returns-in-Some
returns-in-Some g c =
    pushed_of c.push_part.result
    (λ schema. if_there (outline_of_value schema (typing_of c.args.types.now)))
    c.args.frames.now c.push_part.new.frames c.in-Some.is
    c.push_part.ensures

pub returns-in-None : goal.returns-in-None
returns-in-None g c =
    pushed_none (λ schema. if_there (outline_of_value schema (typing_of c.args.types.now)))
    c.args.frames.now c.in-None.is (λ schema. refl)
