use Rattle.std.proofs.Common.{◌≡◌, ◌∙◌, ◌&&◌, ℕ, true, false, leb, length, ltb, ltb-false, ltb-true, rules, ap, sym}
use Rattle.std.specs.List.{list_any}
use Rattle.std.specs.List.Sorted.{IsPartitionPoint}
use Rattle.std.proofs.lemmas.List.Sorted.{IsPartitionPoint-from_clause, IsPartitionedBy-ltb}
use Rattle.language_types.specs.Position.{index_of}
use Rattle.sdl_mending.proofs.Ascending.{first_decides, none_decides}
use Rattle.sdl_mending.proofs.places.has_reason.Goals as goal

pub returns-in-Some : goal.returns-in-Some
returns-in-Some c =
    let xs = c.args.places.now in
    let i = c.partition_point-first.result in
    let s = c.index-start.result in
    let e = c.index.result in
    let at : IsPartitionPoint (λ (k : ℕ). ltb k s ≡ true) (λ k. ltb k s ≡ false) xs i =
    IsPartitionPoint-from_clause (λ (k : ℕ). ltb k s) xs i c.partition_point-first.ensures.partitioned (IsPartitionedBy-ltb (λ (k : ℕ). k) xs s c.requires) (λ a r q k. search rules) in
    ap (λ v. ltb v e) c.in-Some.ensures.lookup.1
    ∙ first_decides xs i s e c.requires at c.in-Some.place.now (ltb-true i (length xs) (sym c.in-Some.ensures.lookup.0))
    ∙ ap (λ z. list_any (λ k. leb z k && ltb k e) xs) c.index-start.ensures
    ∙ ap (λ z. list_any (λ k. leb (index_of c.args.span.start) k && ltb k z) xs) c.index.ensures

pub returns-in-None : goal.returns-in-None
returns-in-None c =
    let xs = c.args.places.now in
    let i = c.partition_point-first.result in
    let s = c.index-start.result in
    let at : IsPartitionPoint (λ (k : ℕ). ltb k s ≡ true) (λ k. ltb k s ≡ false) xs i =
    IsPartitionPoint-from_clause (λ (k : ℕ). ltb k s) xs i c.partition_point-first.ensures.partitioned (IsPartitionedBy-ltb (λ (k : ℕ). k) xs s c.requires) (λ a r q k. search rules) in
    none_decides xs i s (index_of c.args.span.end) c.requires at (ltb-false i (length xs) (sym c.in-None.ensures.lookup.0))
    ∙ ap (λ z. list_any (λ k. leb z k && ltb k (index_of c.args.span.end)) xs) c.index-start.ensures
