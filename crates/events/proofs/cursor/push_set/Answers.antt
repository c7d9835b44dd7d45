use Rattle.std.proofs.Common.{sym}
use Rattle.events.specs.Outline.{outline_of_set}
use Rattle.events.specs.EventValue.{typing_of}
use Rattle.events.proofs.Pushed.{pushed_of}
use Rattle.events.proofs.cursor.push_set.Goals as goal

pub returns : goal.returns
returns g c =
    pushed_of c.push_part.result
    (λ schema. outline_of_set schema (typing_of c.args.types.now))
    c.args.frames.now c.push_part.new.frames (sym c.as_slice.ensures.value) c.push_part.ensures
