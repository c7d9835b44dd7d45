use Rattle.std.proofs.Common.{refl, subst}
use Rattle.std.specs.Prelude.{OnOk}
use Rattle.events.specs.Node
use Rattle.events.specs.Outline.{outline_of_set}
use Rattle.events.specs.TypedEvent.{events_of}
use Rattle.events.specs.EventValue.{typing_of}
use Rattle.events.specs.Place.{entered}
use Rattle.events.specs.Cursor.{EntersIn}
use Rattle.std.proofs.lemmas.Result.{on_ok_weaker}
use Rattle.events.proofs.cursor.enter_first.Goals as goal

pub returns-in-Exit : goal.returns-in-Exit
returns-in-Exit g c = rw c.in-Exit.is refl

pub returns-in-Definitions : goal.returns-in-Definitions
returns-in-Definitions g c = rw c.in-Definitions.is c.enter_definition.ensures

pub returns-in-Variables : goal.returns-in-Variables
returns-in-Variables g c = rw c.in-Variables.is (on_ok_weaker c.enter_variable.result (λ h. h c.args.schema.now) c.enter_variable.ensures)

pub returns-in-Directives : goal.returns-in-Directives
returns-in-Directives g c = rw c.in-Directives.is c.enter_directive.ensures

pub returns-in-Arguments : goal.returns-in-Arguments
returns-in-Arguments g c = rw c.in-Arguments.is (on_ok_weaker c.enter_argument.result (λ h. h c.args.schema.now) c.enter_argument.ensures)

pub returns-in-Set : goal.returns-in-Set
returns-in-Set g c =
    let schema = c.args.schema.now in
    rw c.in-Set.is
    (subst (λ s. OnOk c.enter_set.result (EntersIn schema (entered
    (Node.selection_set s.now)) c.enter_set.new.at c.args.frames.now c.enter_set.new.frames (events_of (outline_of_set schema
    (typing_of c.args.at.now) s.now))))
    c.behind.ensures
    (on_ok_weaker c.enter_set.result (λ h. h schema) c.enter_set.ensures))

pub returns-in-Selections : goal.returns-in-Selections
returns-in-Selections g c = rw c.in-Selections.is c.enter_selection.ensures

pub returns-in-Value : goal.returns-in-Value
returns-in-Value g c = rw c.in-Value.is (on_ok_weaker c.enter_value.result (λ h. h c.args.schema.now) c.enter_value.ensures)

pub returns-in-Items : goal.returns-in-Items
returns-in-Items g c = rw c.in-Items.is (on_ok_weaker c.enter_value-in-Items.result
    (λ h. h c.args.schema.now) c.enter_value-in-Items.ensures)

pub returns-in-Entries : goal.returns-in-Entries
returns-in-Entries g c = rw c.in-Entries.is c.enter_entry.ensures
