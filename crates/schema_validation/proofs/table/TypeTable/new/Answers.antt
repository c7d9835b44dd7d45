use Rattle.std.proofs.Common.{◌≡◌, ◌+◌, ◌≤◌, [], ◌∷◌, ◌++◌, true, Some, None, take, drop, ap, sym, subst, ◌∙◌, arith}
use Rattle.std.specs.Prelude.{count_by, option_copied}
use Rattle.std.proofs.lemmas.List.{take_all, take_more}
use Rattle.meta.specs.Kinds.{name_of_meta}
use Rattle.schema_validation.specs.Accepted.{is_named}
use Rattle.schema_validation.specs.Named.{are_distinct}
use Rattle.schema_validation.specs.Repeated.{repeated_name}
use Rattle.schema_validation.specs.Tables.{HasTypes}
use Rattle.schema_validation.proofs.ExtendLemmas.{split-at}
use Rattle.schema_validation.proofs.Refusals.{alone}
use Rattle.schema_validation.proofs.TableLemmas.{distinct-push, again-twice}
use Rattle.schema_validation.proofs.table.TypeTable.new.Goals as goal

pub returns-in-Some-clause-err : goal.returns-in-Some-clause-err
returns-in-Some-clause-err g c = λ roots.
    let types = c.args.types.now in
    let i = c.loop-meta.meta-index in
    let meta = c.meta-item.result in
    let n = c.in-Some.name.now in
    let again : Some n ≡ repeated_name meta (take i types) = sym (ap option_copied c.in-Some.is) ∙ c.in_ok-again.ensures.earlier (take i types) c.loop-meta.invariant.0 in
    let whole : types ≡ take i types ++ meta ∷ drop (i + 1) types = split-at types i meta (omega arith) c.meta-item.is in
    subst (λ k. 2 ≤ count_by (is_named k) types) (sym c.in_ok-from_str.ensures.ok) (subst (λ ts. 2 ≤ count_by (is_named n) ts) (sym whole) (again-twice (take i types) meta (drop (i + 1) types) n again))

pub loop-meta-preserved : goal.loop-meta-preserved
loop-meta-preserved g c =
    let types = c.args.types.now in
    let i = c.loop-meta.meta-index in
    let meta = c.meta-item.result in
    let has = c.loop-meta.invariant.0 in
    let more : take (i + 1) types ≡ take i types ++ meta ∷ [] = take_more types i meta (omega arith) ∙ ap (λ t. take i types ++ t ∷ []) (sym c.meta-item.is) in
    let new : None ≡ repeated_name meta (take i types) = sym (ap option_copied c.in_default.is) ∙ c.in_ok-again.ensures.earlier (take i types) has in (
      subst (λ ts. HasTypes ts c.add_type.new.map) (sym more) (c.in_ok-again.ensures.added (take i types) has),
      ap (are_distinct name_of_meta) more ∙ distinct-push name_of_meta (take i types) meta c.loop-meta.invariant.1 (alone (take i types) meta new),
    )

pub invariant_of-result : goal.invariant_of-result
invariant_of-result g c =
    let types = c.args.types.now in
    let all : take c.loop-meta.meta-index types ≡ types = take_all c.loop-meta.meta-index types c.loop-meta-test.false in
    record {
      mapped = subst (λ ts. HasTypes ts c.loop-meta.by_name) all c.loop-meta.invariant.0;
      distinct = subst (λ ts. are_distinct name_of_meta ts ≡ true) all c.loop-meta.invariant.1;
    }
