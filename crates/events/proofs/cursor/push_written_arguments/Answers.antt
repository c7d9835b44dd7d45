use Rattle.std.proofs.Common.{sym, refl}
use Rattle.std.specs.Option.{option_copied}
use Rattle.events.specs.Outline.{each, outline_of_argument, outline_of_arguments}
use Rattle.events.specs.EventValue.{typing_of}
use Rattle.events.proofs.Pushed.{pushed_of, pushed_none}
use Rattle.events.proofs.cursor.push_written_arguments.Goals as goal

pub returns-in-Some : goal.returns-in-Some
returns-in-Some g c =
    pushed_of c.push_arguments.result
    (λ schema. outline_of_arguments schema (option_copied c.args.known) (typing_of c.args.types.now))
    c.args.frames.now c.push_arguments.new.frames c.in-Some.is
    (pushed_of c.push_arguments.result
    (λ schema. each (outline_of_argument schema (option_copied c.args.known) (typing_of c.args.types.now)))
    c.args.frames.now c.push_arguments.new.frames (sym c.as_slice.ensures.value) c.push_arguments.ensures)

pub returns-in-None : goal.returns-in-None
returns-in-None g c =
    pushed_none (λ schema. outline_of_arguments schema (option_copied c.args.known) (typing_of c.args.types.now))
    c.args.frames.now c.in-None.is (λ schema. refl)
