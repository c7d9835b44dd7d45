use Rattle.std.proofs.Common.{◌≡◌, ◌++◌, ◌∷◌, [], ◌∙◌, None, Some, ap, arith, cond, length, map, option_map, refl, subst, sym}
use Rattle.std.proofs.lemmas.List.{length-map, map-append}
use Rattle.fragment_graph.specs.Numbers.{or_else}
use Rattle.fragment_reach.specs.Reach.{same_name}
use Rattle.operation_scopes.specs.declared.index.ScopeIndex.{ScopeIndex}
use Rattle.operation_scopes.specs.Index.{AddsPlace, operation_names}
use Rattle.operation_scopes.specs.OperationNumbers.{number_at}
use Rattle.operation_scopes.proofs.index.add_operation.Goals as goal

pub returns-in_ok-push-in-None-3 : goal.returns-in_ok-push-in-None-3
returns-in_ok-push-in-None-3 c =
    let old = c.args.index.now in
    let new : ScopeIndex = record { names = c.push-in-None.new.self; operations = c.push-in-None-2.new.self; fragments = old.fragments; graph = old.graph; spreads = old.spreads } in
    let n = c.args.numbers.now in
    let name = option_map (λ m. m.now) c.args.name in
    let next : c.len-next.result ≡ length (operation_names old) =
    let e = c.len-next.ensures in let same = old.names.ok.0 in omega (arith, e, same, length-map old.names.items (option_map (λ m. m.now)))
    in
    let none : None ≡ number_at n name = sym c.in-None.is ∙ c.in_ok-number.ensures.earlier in
    record {
      numbers = λ other. c.in_ok-number.ensures.noted other ∙ ap (λ k. or_else (number_at n other) (cond (same_name name other) (Some k) None)) next;
      places = subst (λ k. AddsPlace name c.args.place k old new) none (
        ap (map (option_map (λ m. m.now))) c.in_ok-push-in-None-2.ensures.items ∙ map-append (option_map (λ m. m.now)) old.names.items (c.args.name ∷ []),
        c.push.new.self,
        c.in_ok-push-in-None.ensures.items ∙ ap (λ zs. zs ++ c.args.place ∷ []) c.new-places.ensures.items,
        c.in_ok-push-in-None-3.ensures.items,
      );
      fragments = refl;
      graph = refl;
      spreads = refl;
    }
