use Rattle.std.proofs.Common.{◌≡◌, Result, Ok, Err, IfErr, IfOk, OnOk, subst, sym}
use Rattle.schema_validation.specs.Accepted.{IsAccepted, IsTrueRefusal}
use Rattle.schema_validation.specs.Added.{IsExtended}
use Rattle.schema_validation.specs.RootNames.{roots_asked}
use Rattle.schema_validation.specs.declared.error.SchemaError.{SchemaError}
use Rattle.schema_validation.proofs.SwapLemmas.{accepted-extended}
use Rattle.schema.proofs.model.schemas.SchemaTypeOf.from_list.Goals as goal

on_ok_known : {T E P : Type 0} (r : Result T E) → P → OnOk r P
on_ok_known (Ok x) p = p
on_ok_known (Err e) p = tt

-- five facts of one value make another
five : {T E : Type 0} {A B C D F Q : T → Type 0} (r : Result T E) → ((x : T) → A x → B x → C x → D x → F x → Q x)
    → IfOk r A → IfOk r B → IfOk r C → IfOk r D → IfOk r F → IfOk r Q
five (Ok x) f a b c d e = f x a b c d e
five (Err y) f a b c d e = tt

err_known : {T E : Type 0} {P Q : E → Type 0} (r : Result T E) → ((e : E) → P e → Q e) → IfErr r P → IfErr r Q
err_known (Ok x) f p = tt
err_known (Err e) f p = f e p

pub from_accepted-requires : goal.from_accepted-requires
from_accepted-requires g c =
    let roots = roots_asked c.args.roots in
    let accepted : IsAccepted roots c.args.types.items = subst (IsAccepted roots) c.as_slice.ensures.value c.in_ok-check_types.ensures.ok in
    accepted-extended roots c.args.roots.query.now c.args.types.items c.in_ok-types.types.items c.in_ok-types.ensures.extended accepted

pub returns-clause-accepted : goal.returns-clause-accepted
returns-clause-accepted g c = on_ok_known c.from_accepted.result (subst (IsAccepted (roots_asked c.args.roots)) c.as_slice.ensures.value c.in_ok-check_types.ensures.ok)

pub returns-clause-built : goal.returns-clause-built
returns-clause-built g c =
    let roots = roots_asked c.args.roots in
    five c.from_accepted.result
    (λ s types roots_are directives description dialect. record {
      types = subst (IsExtended roots.query c.args.types.items) (sym types) c.in_ok-types.ensures.extended;
      roots_kept = roots_are;
      directives = directives;
      no_description = description;
      dialect = dialect;
    })
    c.from_accepted.ensures.types c.from_accepted.ensures.roots c.from_accepted.ensures.directives c.from_accepted.ensures.description c.from_accepted.ensures.dialect

pub returns-clause-refused : goal.returns-clause-refused
returns-clause-refused g c =
    err_known c.from_accepted.result (λ e is. subst (λ (x : SchemaError). IsTrueRefusal (roots_asked c.args.roots) c.args.types.items x) (sym is) tt) c.from_accepted.ensures.err
