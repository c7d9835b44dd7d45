use Rattle.std.proofs.Common.{refl, sym, ap}
use Rattle.std.specs.Option.{option_copied}
use Rattle.events.specs.Outline.{each, outline_of_value, outline_of_object_field, outline_of_argument}
use Rattle.events.specs.Outline.{outline_of_directive, outline_of_variable_definition, outline_of_selection}
use Rattle.events.specs.Outline.{outline_of_definition}
use Rattle.events.specs.EventValue.{typing_of}
use Rattle.events.proofs.Pushed.{pushed_of}
use Rattle.events.proofs.cursor.push_rest.Goals as goal

pub returns-in-Exit : goal.returns-in-Exit
returns-in-Exit g c = rw c.in-Exit.is (λ schema. refl)

pub returns-in-Definitions : goal.returns-in-Definitions
returns-in-Definitions g c =
    rw c.in-Definitions.is
    (pushed_of c.push_definitions.result (λ schema. each (outline_of_definition schema
    (typing_of c.args.types.now))) c.args.frames.now c.push_definitions.new.frames
    (ap (λ s. s.now) (sym c.behind.ensures)) c.push_definitions.ensures)

pub returns-in-Variables : goal.returns-in-Variables
returns-in-Variables g c =
    rw c.in-Variables.is
    (pushed_of c.push_variables.result (λ schema. each (outline_of_variable_definition schema
    (typing_of c.args.types.now))) c.args.frames.now c.push_variables.new.frames
    (ap (λ s. s.now) (sym c.behind-in-Variables.ensures)) c.push_variables.ensures)

pub returns-in-Directives : goal.returns-in-Directives
returns-in-Directives g c =
    rw c.in-Directives.is
    (pushed_of c.push_directives.result (λ schema. each (outline_of_directive schema
    (typing_of c.args.types.now))) c.args.frames.now c.push_directives.new.frames
    (ap (λ s. s.now) (sym c.behind-in-Directives.ensures)) c.push_directives.ensures)

pub returns-in-Arguments : goal.returns-in-Arguments
returns-in-Arguments g c =
    rw c.in-Arguments.is
    (pushed_of c.push_arguments.result (λ schema. each (outline_of_argument schema (option_copied c.in-Arguments.known)
    (typing_of c.args.types.now))) c.args.frames.now c.push_arguments.new.frames
    (ap (λ s. s.now) (sym c.behind-in-Arguments.ensures)) c.push_arguments.ensures)

pub returns-in-Set : goal.returns-in-Set
returns-in-Set g c = rw c.in-Set.is (λ schema. refl)

pub returns-in-Selections : goal.returns-in-Selections
returns-in-Selections g c =
    rw c.in-Selections.is
    (pushed_of c.push_selections.result (λ schema. each (outline_of_selection schema
    (typing_of c.args.types.now))) c.args.frames.now c.push_selections.new.frames
    (ap (λ s. s.now) (sym c.behind-in-Selections.ensures)) c.push_selections.ensures)

pub returns-in-Value : goal.returns-in-Value
returns-in-Value g c = rw c.in-Value.is (λ schema. refl)

pub returns-in-Items : goal.returns-in-Items
returns-in-Items g c =
    rw c.in-Items.is
    (pushed_of c.push_items.result (λ schema. each (outline_of_value schema
    (typing_of c.args.types.now))) c.args.frames.now c.push_items.new.frames
    (ap (λ s. s.now) (sym c.behind-in-Items.ensures)) c.push_items.ensures)

pub returns-in-Entries : goal.returns-in-Entries
returns-in-Entries g c =
    rw c.in-Entries.is
    (pushed_of c.push_entries.result (λ schema. each (outline_of_object_field schema
    (typing_of c.args.types.now))) c.args.frames.now c.push_entries.new.frames
    (ap (λ s. s.now) (sym c.behind-in-Entries.ensures)) c.push_entries.ensures)
