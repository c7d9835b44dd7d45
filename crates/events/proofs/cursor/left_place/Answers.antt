use Rattle.std.proofs.Common.{refl, ap}
use Rattle.events.specs.Node
use Rattle.events.specs.Place.{left}
use Rattle.events.proofs.cursor.left_place.Goals as goal

pub returns-in-Operation : goal.returns-in-Operation
returns-in-Operation g c = rw c.in-Operation.is (λ t. refl)

pub returns-in-Fragment : goal.returns-in-Fragment
returns-in-Fragment g c = rw c.in-Fragment.is (λ t. refl)

pub returns-in-Variable : goal.returns-in-Variable
returns-in-Variable g c = rw c.in-Variable.is (λ t. refl)

pub returns-in-Directive : goal.returns-in-Directive
returns-in-Directive g c = rw c.in-Directive.is (λ t. refl)

pub returns-in-Argument : goal.returns-in-Argument
returns-in-Argument g c = rw c.in-Argument.is (λ t. refl)

pub returns-in-Set : goal.returns-in-Set
returns-in-Set g c = rw c.in-Set.is (λ t. ap (λ s. left (Node.selection_set s.now) t) c.behind.ensures)

pub returns-in-Field : goal.returns-in-Field
returns-in-Field g c = rw c.in-Field.is (λ t. refl)

pub returns-in-Spread : goal.returns-in-Spread
returns-in-Spread g c = rw c.in-Spread.is (λ t. refl)

pub returns-in-Inline : goal.returns-in-Inline
returns-in-Inline g c = rw c.in-Inline.is (λ t. refl)

pub returns-in-Value : goal.returns-in-Value
returns-in-Value g c = rw c.in-Value.is c.left_value.ensures

pub returns-in-Entry : goal.returns-in-Entry
returns-in-Entry g c = rw c.in-Entry.is c.left_entry.ensures
