use Rattle.std.proofs.Common.{sym, refl}
use Rattle.events.specs.Outline.{each, outline_of_directive, outline_of_directives}
use Rattle.events.specs.EventValue.{typing_of}
use Rattle.events.proofs.Pushed.{pushed_of, pushed_none}
use Rattle.events.proofs.cursor.push_written_directives.Goals as goal

pub returns-in-Some : goal.returns-in-Some
returns-in-Some g c =
    pushed_of c.push_directives.result
    (λ schema. outline_of_directives schema (typing_of c.args.types.now))
    c.args.frames.now c.push_directives.new.frames c.in-Some.is
    (pushed_of c.push_directives.result
    (λ schema. each (outline_of_directive schema (typing_of c.args.types.now)))
    c.args.frames.now c.push_directives.new.frames (sym c.as_slice.ensures.value) c.push_directives.ensures)

pub returns-in-None : goal.returns-in-None
returns-in-None g c =
    pushed_none (λ schema. outline_of_directives schema (typing_of c.args.types.now))
    c.args.frames.now c.in-None.is (λ schema. refl)
