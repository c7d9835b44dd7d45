use Rattle.std.proofs.Common.{◌≡◌, ◌↔◌, Some, option_map, subst}
use Rattle.language_types.specs.Types.{TypeShape, borrowed_shape, IsItemType}
use Rattle.language_types.proofs.types.Type.borrow_list_inner.Goals as goal

pub returns-clause-exactly : goal.returns-clause-exactly
returns-clause-exactly c = λ u.
    let P : TypeShape → Type 0 = λ t. (option_map borrowed_shape c.borrow_list_inner.result ≡ Some u) ↔ IsItemType u t in
    subst P c.as_borrowed.ensures (c.borrow_list_inner.ensures.exactly u)
