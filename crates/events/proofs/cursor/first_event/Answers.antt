use Rattle.std.proofs.Common.{refl, ap}
use Rattle.events.specs.Node
use Rattle.events.specs.Place.{entered}
use Rattle.events.proofs.cursor.first_event.Goals as goal

pub returns-in-Exit : goal.returns-in-Exit
returns-in-Exit g c = rw c.in-Exit.is c.left_place.ensures

pub returns-in-Definitions : goal.returns-in-Definitions
returns-in-Definitions g c = rw c.in-Definitions.is c.entered_definition.ensures

pub returns-in-Variables : goal.returns-in-Variables
returns-in-Variables g c = rw c.in-Variables.is (λ t. refl)

pub returns-in-Directives : goal.returns-in-Directives
returns-in-Directives g c = rw c.in-Directives.is (λ t. refl)

pub returns-in-Arguments : goal.returns-in-Arguments
returns-in-Arguments g c = rw c.in-Arguments.is (λ t. refl)

pub returns-in-Set : goal.returns-in-Set
returns-in-Set g c = rw c.in-Set.is (λ t. ap (λ s. entered (Node.selection_set s.now) t) c.behind.ensures)

pub returns-in-Selections : goal.returns-in-Selections
returns-in-Selections g c = rw c.in-Selections.is c.entered_selection.ensures

pub returns-in-Value : goal.returns-in-Value
returns-in-Value g c = rw c.in-Value.is c.entered_value.ensures

pub returns-in-Items : goal.returns-in-Items
returns-in-Items g c = rw c.in-Items.is c.entered_value-in-Items.ensures

pub returns-in-Entries : goal.returns-in-Entries
returns-in-Entries g c = rw c.in-Entries.is c.entered_entry.ensures
