-- When the rule finds nothing at a node. In specs/, since ghost members of an impl cite nothing else.
use Rattle.std.proofs.Common.{◌≡◌, ◌↔◌, ℕ, zero, suc, List, [], ◌∷◌, refl, ap, sym, ◌∙◌, subst, arith}
use Rattle.std.specs.Prelude.{Bool, Option, Some, None, true, false, ◌||◌}
use Rattle.std.specs.List.{Contains, list_any}
use Rattle.std.specs.declared.alloc.Global.{Global}
use Rattle.std.specs.declared.vec.Vec.{Vec}
use Rattle.std.proofs.lemmas.List.Elements.{Contains-append_right}
use Rattle.std.proofs.lemmas.Slice.Eq.{bytes_eq-Decides}
use Rattle.language.specs.declared.tree.Directive.{Directive}
use Rattle.schema.specs.Catalog.{Catalog, directive_in}
use Rattle.schema_validation.specs.Locations.{location_words}
use Rattle.schema_validation.specs.declared.directives.DirectiveLocation.{DirectiveLocation}
use Rattle.schema_validation.specs.declared.directives.DirectiveLocation.TheVariants as l
use Rattle.schema_validation.specs.declared.directives.DirectiveType.{DirectiveType}
use Rattle.walk.specs.ContextState.{DocumentScope}
use Rattle.events.specs.Node.{Node, Placed, operation_definition, fragment_definition, variable_definition, field}
use Rattle.events.specs.Node.{fragment_spread, inline_fragment}
use Rattle.events.specs.Occurrence.{Occurrence}
use Rattle.rules_support.specs.FoundLaws.{none_among, none_unless}
use Rattle.rules_arguments.specs.KnownDirectives.{is_listed, is_one_place, operation_place, unsuitable, unsuitable_by}
use Rattle.rules_arguments.specs.KnownDirectives.{unsuitable_among, unsuitable_at, unsuitable_directives, IsSuitable}
use Rattle.rules_arguments.specs.KnownDirectives.{AreSuitable, HasSuitable}

-- places of one name are the same
one_place : (a b : DirectiveLocation) → is_one_place a b ≡ true → a ≡ b
one_place l.Query l.Query e = refl
one_place l.Mutation l.Mutation e = refl
one_place l.Subscription l.Subscription e = refl
one_place l.Field l.Field e = refl
one_place l.Scalar l.Scalar e = refl
one_place l.FragmentDefinition l.FragmentDefinition e = refl
one_place l.FieldDefinition l.FieldDefinition e = refl
one_place l.VariableDefinition l.VariableDefinition e = refl
one_place l.FragmentSpread l.FragmentSpread e = refl
one_place l.InlineFragment l.InlineFragment e = refl
one_place l.EnumValue l.EnumValue e = refl
one_place l.Schema l.Schema e = refl
one_place l.Object l.Object e = refl
one_place l.ArgumentDefinition l.ArgumentDefinition e = refl
one_place l.Interface l.Interface e = refl
one_place l.Union l.Union e = refl
one_place l.Enum l.Enum e = refl
one_place l.InputObject l.InputObject e = refl
one_place l.InputFieldDefinition l.InputFieldDefinition e = refl
one_place _ _ e = absurd cc

listed_first : (b : Bool) (x place : DirectiveLocation) (ls : List DirectiveLocation) → is_one_place x place ≡ b
    → (b || is_listed place ls) ≡ true
    → (is_listed place ls ≡ true → Contains ls place) → Contains (x ∷ ls) place
listed_first true x place ls h e rest = (0, omega arith, one_place x place h)
listed_first false x place ls h e rest = Contains-append_right (x ∷ []) ls place (rest e)

listed_stands : (place : DirectiveLocation) (ls : List DirectiveLocation) → is_listed place ls ≡ true → Contains ls place
listed_stands place [] e = absurd cc
listed_stands place (x ∷ ls) e = listed_first (is_one_place x place) x place ls refl e (listed_stands place ls)

or_true : (b : Bool) → (b || true) ≡ true
or_true true = refl
or_true false = refl

stands_listed : (place : DirectiveLocation) (ls : List DirectiveLocation) → Contains ls place → is_listed place ls ≡ true
stands_listed place [] (k, within, at) = absurd (omega (arith, within))
stands_listed place (x ∷ ls) (zero, within, at) =
    ap (λ b. b || is_listed place ls) ((bytes_eq-Decides (location_words x) (location_words place)).1 (ap location_words at))
stands_listed place (x ∷ ls) (suc k, within, at) =
    ap (λ b. is_one_place x place || b) (stands_listed place ls (k, omega (arith, within), at)) ∙ or_true (is_one_place x place)

same_known : {T : Type 0} (k known : T) → Some known ≡ Some k → k ≡ known
same_known k known is = cc

module _ {S C : Type 0} (schema : Catalog S C) where
  none_by : (place : DirectiveLocation) (d : Placed (Directive S)) (known : Option (DirectiveType S))
      → (unsuitable_by place d known ≡ []) ↔ ((k : DirectiveType S) × (known ≡ Some k)
      × Contains k.locations.items place)
  none_by place d None = (λ e. absurd cc, λ (k, is, there). absurd cc)
  none_by place d (Some known) =
      let unless = none_unless (is_listed place known.locations.items) _ in (
        λ e. (known, refl, listed_stands place known.locations.items (unless.0 e)),
        λ (k, is, there). unless.1 (stands_listed place known.locations.items
            (subst (λ z. Contains z.locations.items place) (same_known k known is) there)),
      )

  none_of : (place : DirectiveLocation) (written : Option (Vec (Placed (Directive S)) Global))
      → (unsuitable_among schema place written ≡ []) ↔ AreSuitable schema place written
  none_of place None = (λ e. tt, λ u. refl)
  none_of place (Some ds) =
      none_among (unsuitable schema place) (IsSuitable schema place)
      (λ d. none_by place d (directive_in d.item.name.item.now schema)) ds.items

  none_at : (n : Node S) → (unsuitable_at schema n ≡ []) ↔ HasSuitable schema n
  none_at (operation_definition o) = none_of (operation_place o.item.operation_type) o.item.directives
  none_at (fragment_definition f) = none_of l.FragmentDefinition f.item.directives
  none_at (variable_definition d) = none_of l.VariableDefinition d.1.directives
  none_at (field f) = none_of l.Field f.item.directives
  none_at (fragment_spread s) = none_of l.FragmentSpread s.item.directives
  none_at (inline_fragment i) = none_of l.InlineFragment i.item.directives
  none_at _ = (λ e. tt, λ u. refl)

-- nothing is found at an occurrence if and only if the directives there are suitable
pub none_unsuitable : {S C : Type 0} (scope : DocumentScope S C) (o : Occurrence S C)
    → (unsuitable_directives scope o ≡ []) ↔ HasSuitable scope.schema o.node
none_unsuitable scope o = none_at scope.schema o.node
