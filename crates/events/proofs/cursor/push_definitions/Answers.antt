use Rattle.events.specs.Outline.{each, outline_of_definition}
use Rattle.events.specs.EventValue.{typing_of}
use Rattle.events.proofs.Pushed.{pushed_of, pushed_empty}
use Rattle.events.proofs.cursor.push_definitions.Goals as goal

pub returns-in-Some : goal.returns-in-Some
returns-in-Some g c =
    pushed_of c.push_part.result
    (λ schema. each (outline_of_definition schema (typing_of c.args.types.now)))
    c.args.frames.now c.push_part.new.frames c.in-Some.ensures.cases.0 c.push_part.ensures

pub returns-in-None : goal.returns-in-None
returns-in-None g c =
    pushed_empty (λ schema. outline_of_definition schema (typing_of c.args.types.now))
    c.args.frames.now _ c.in-None.ensures.cases
