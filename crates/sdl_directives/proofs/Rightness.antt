-- Nothing is found if and only if each directive is right.
use Rattle.std.proofs.Common.{◌≡◌, ◌↔◌, List, [], ◌∷◌, ◌++◌, Bool, true, false, not, Option, None, Some, refl, sym, ap, ◌∙◌, subst}
use Rattle.std.specs.List.{All, flat_map}
use Rattle.std.proofs.lemmas.List.Elements.{All-cons, All-head, All-nil, All-tail}
use Rattle.graphql_reader.specs.declared.type_system.DirectiveDefinition.{DirectiveDefinition}
use Rattle.graphql_reader.specs.declared.type_system.DirectivePlace.{DirectivePlace}
use Rattle.graphql_reader.specs.declared.type_system.InputValueDefinition.{InputValueDefinition}
use Rattle.graphql_reader.specs.declared.type_system.TypeSystemDefinition.{TypeSystemDefinition}
use Rattle.language_types.specs.declared.position.SourcePosition.{SourcePosition}
use Rattle.language_types.specs.Types.{shape}
use Rattle.sdl_directives.specs.declared.fault.DirectiveFaultOf.TheVariants as k
use Rattle.sdl_directives.specs.Arguments.{Given, argument_faults, argument_judged, arguments_of, has_argument, is_missing, is_parameter, missing_argument, missing_arguments}
use Rattle.sdl_directives.specs.Earlier.{EachAfter, each_after}
use Rattle.sdl_directives.specs.Fault.{FaultValue, KindValue, fault_if}
use Rattle.sdl_directives.specs.Judged.{applied_name, document_faults, is_repeated, judged, judged_by, judged_known, misplaced, repeated, site_faults}
use Rattle.sdl_directives.specs.Known.{directive_named, known_directives}
use Rattle.sdl_directives.specs.Locations.{is_listed}
use Rattle.sdl_directives.specs.Right.{HasRightDirectives, IsRightArgument, IsRightDirective, IsRightSite, SuitsDefinition}
use Rattle.sdl_directives.specs.Sites.{Applied, SiteValue, definition_sites}

none_if : (b : Bool) (p : SourcePosition) (fault : KindValue) → (fault_if b p fault ≡ []) ↔ (b ≡ false)
none_if true p fault = (λ e. cc, λ e. cc)
none_if false p fault = (λ e. refl, λ e. refl)

none_unless : (b : Bool) (p : SourcePosition) (fault : KindValue) → (fault_if (not b) p fault ≡ []) ↔ (b ≡ true)
none_unless true p fault = (λ e. refl, λ e. refl)
none_unless false p fault = (λ e. cc, λ e. cc)

left_none : {X : Type 0} (xs ys : List X) → xs ++ ys ≡ [] → xs ≡ []
left_none [] ys e = refl
left_none (x ∷ xs) ys e = cc

right_none : {X : Type 0} (xs ys : List X) → xs ++ ys ≡ [] → ys ≡ []
right_none [] ys e = e
right_none (x ∷ xs) ys e = cc

both_none : {X : Type 0} (xs ys : List X) → xs ≡ [] → ys ≡ [] → xs ++ ys ≡ []
both_none xs ys e d = ap (λ z. z ++ ys) e ∙ d

module _ {A B : Type 0} (f : A → List B) (P : A → Type 0) (iff : (x : A) → (f x ≡ []) ↔ P x) where
  pub none_of : (xs : List A) → flat_map f xs ≡ [] → All P xs
  none_of [] e = All-nil P
  none_of (x ∷ xs) e = All-cons P x xs ((iff x).0 (left_none (f x) (flat_map f xs) e)) (none_of xs (right_none (f x) (flat_map f xs) e))

  pub none_from : (xs : List A) → All P xs → flat_map f xs ≡ []
  none_from [] h = refl
  none_from (x ∷ xs) h = both_none (f x) (flat_map f xs) ((iff x).1 (All-head P x xs h)) (none_from xs (All-tail P x xs h))

module _ {A B : Type 0} (f : List A → A → List B) (P : List A → A → Type 0) (iff : (before : List A) (x : A) → (f before x ≡ []) ↔ P before x) where
  none_after : (before xs : List A) → each_after f before xs ≡ [] → EachAfter P before xs
  none_after before [] e = tt
  none_after before (x ∷ xs) e =
      let rest = each_after f (before ++ x ∷ []) xs in
      ((iff before x).0 (left_none (f before x) rest e), none_after (before ++ x ∷ []) xs (right_none (f before x) rest e))

  after_none : (before xs : List A) → EachAfter P before xs → each_after f before xs ≡ []
  after_none before [] h = refl
  after_none before (x ∷ xs) h = both_none (f before x) (each_after f (before ++ x ∷ []) xs) ((iff before x).1 h.0) (after_none (before ++ x ∷ []) xs h.1)

module _ (defined : DirectiveDefinition) where
  right_argument : (before : List Given) (a : Given) → (argument_judged defined before a ≡ []) ↔ IsRightArgument defined before a
  right_argument before a =
      let n = a.0.item.now in
      let unknown = none_unless (is_parameter n defined.arguments.items) a.0.span.start (k.UnknownArgument n defined.name.item.now) in
      let again = none_if (has_argument n before) a.0.span.start (k.RepeatedArgument n) in (
        λ e. record { known = unknown.0 (left_none _ _ e); once = again.0 (right_none _ _ e) },
        λ h. both_none _ _ (unknown.1 h.known) (again.1 h.once),
      )

  given_argument : (x : Applied) (a : InputValueDefinition) → (missing_argument defined x a ≡ []) ↔ (is_missing a (arguments_of x.item) ≡ false)
  given_argument x a = none_if (is_missing a (arguments_of x.item)) x.span.start (k.MissingArgument defined.name.item.now a.name.item.now (shape a.value_type.item))

  suits : (location : DirectivePlace) (before : List Applied) (x : Applied) → (judged_known defined location before x ≡ []) ↔ SuitsDefinition defined location before x
  suits location before x =
      let misplaced_ = misplaced defined location x in
      let repeated_ = repeated defined before x in
      let arguments_ = argument_faults defined x.item in
      let missing_ = missing_arguments defined x in
      let placed = none_unless (is_listed location defined.locations.items) x.span.start (k.Misplaced (applied_name x) location) in
      let once = none_if (is_repeated defined before (applied_name x)) x.span.start (k.Repeated (applied_name x)) in
      let given = arguments_of x.item in
      let wanted = defined.arguments.items in
      let is_given : InputValueDefinition → Type 0 = λ a. is_missing a given ≡ false in (
        λ e.
            let three : (misplaced_ ++ repeated_) ++ arguments_ ≡ [] = left_none ((misplaced_ ++ repeated_) ++ arguments_) missing_ e in
            let two : misplaced_ ++ repeated_ ≡ [] = left_none (misplaced_ ++ repeated_) arguments_ three in
            record {
              placed = placed.0 (left_none misplaced_ repeated_ two);
              once = once.0 (right_none misplaced_ repeated_ two);
              arguments = none_after (argument_judged defined) (IsRightArgument defined) right_argument [] given (right_none (misplaced_ ++ repeated_) arguments_ three);
              required = none_of (missing_argument defined x) is_given (given_argument x) wanted (right_none ((misplaced_ ++ repeated_) ++ arguments_) missing_ e);
            },
        λ h.
            let two : misplaced_ ++ repeated_ ≡ [] = both_none misplaced_ repeated_ (placed.1 h.placed) (once.1 h.once) in
            let arguments = after_none (argument_judged defined) (IsRightArgument defined) right_argument [] given h.arguments in
            let three : (misplaced_ ++ repeated_) ++ arguments_ ≡ [] = both_none (misplaced_ ++ repeated_) arguments_ two arguments in
            both_none ((misplaced_ ++ repeated_) ++ arguments_) missing_ three (none_from (missing_argument defined x) is_given (given_argument x) wanted h.required),
      )

none_some : (d : DirectiveDefinition) → None ≡ Some d → ⊥
none_some d e = cc

same : (a b : DirectiveDefinition) → Some a ≡ Some b → a ≡ b
same a b e = cc

module _ (known : List DirectiveDefinition) (location : DirectivePlace) where
  by_definition : (found : Option DirectiveDefinition) (before : List Applied) (x : Applied) → directive_named known (applied_name x) ≡ found
      → (judged_by found location before x ≡ []) ↔ IsRightDirective known location before x
  by_definition None before x is = (λ e. cc, λ h. absurd (none_some _ (sym is ∙ h.is_defined)))
  by_definition (Some d) before x is = (
    λ e. record { defined = d; is_defined = is; suits = (suits d location before x).0 e },
    λ h. (suits d location before x).1 (subst (λ y. SuitsDefinition y location before x) (same _ _ (sym h.is_defined ∙ is)) h.suits),
  )

  right_directive : (before : List Applied) (x : Applied) → (judged known location before x ≡ []) ↔ IsRightDirective known location before x
  right_directive before x = by_definition (directive_named known (applied_name x)) before x refl

right_site : (known : List DirectiveDefinition) (s : SiteValue) → (site_faults known s ≡ []) ↔ IsRightSite known s
right_site known s = (
  none_after (judged known s.location) (IsRightDirective known s.location) (right_directive known s.location) [] s.directives,
  after_none (judged known s.location) (IsRightDirective known s.location) (right_directive known s.location) [] s.directives,
)

pub iff_right : (document standard : List TypeSystemDefinition) → (document_faults document standard ≡ []) ↔ HasRightDirectives document standard
iff_right document standard =
    let known = known_directives document standard in
    let sites = flat_map definition_sites document in
    (none_of (site_faults known) (IsRightSite known) (right_site known) sites, none_from (site_faults known) (IsRightSite known) (right_site known) sites)
