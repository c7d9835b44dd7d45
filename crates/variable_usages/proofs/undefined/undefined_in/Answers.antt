use Rattle.std.proofs.Common.{inl, inr, map, subst, sym}
use Rattle.operation_scopes.specs.Index.{operation_names}
use Rattle.variable_usages.specs.Undefined.{UndefinedIn, UndefinedVariables, UsesNothing, undefined_of}
use Rattle.variable_usages.proofs.Skipping.{all_defined, not_used}
use Rattle.variable_usages.proofs.Turns.{all_turns, next_numbered}
use Rattle.variable_usages.proofs.undefined.undefined_in.Goals as goal

pub loop-number-preserved : goal.loop-number-preserved
loop-number-preserved g c = (
  next_numbered c.args.document.now c.args.index.now.scopes c.loop-number.number (map undefined_of c.loop-number.found.items) (map undefined_of c.add_numbered.new.found.items)
      c.loop-number.invariant.0 c.in_ok-add_numbered.ensures.told,
  c.in_ok-add_numbered.ensures.ready,
)

pub returns : goal.returns
returns g c = (
  operation_names c.args.index.now.scopes,
  c.requires.scopes.names,
  all_turns c.args.index.now c.loop-number.number _ c.len-number-end.ensures (UndefinedIn c.args.document.now) (map undefined_of c.loop-number.found.items) c.loop-number-test.false c.loop-number.invariant.0,
)

pub returns-then-not-is_any_used : goal.returns-then-not-is_any_used
returns-then-not-is_any_used g c =
    let doc = c.args.document.now in
    let index = c.args.index.now in
    elim c.if-not-is_any_used.ensures.none [
      | inl used ↦ absurd (not_used used)
      | inr nothing ↦
          subst (λ xs. UndefinedVariables doc (map undefined_of xs)) (sym c.new-found.ensures.items)
          (all_defined doc index.scopes c.requires.scopes index.uses.items c.requires.uses (subst UsesNothing c.as_slice-all.ensures.value nothing))
    ]
