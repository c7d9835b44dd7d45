-- Lists of references in the order of what they refer to.
use Rattle.std.proofs.Common.{◌≡◌, ℕ, ◌+◌, ◌<◌, List, [], ◌∷◌, Bool, length, map, Bor, refl, ap, sym, ◌∙◌, arith}
use Rattle.std.specs.Prelude.{IsSorted}
use Rattle.std.specs.declared.cmp.Ordering.{Ordering}
use Rattle.std.specs.Cmp.{IsTotalOrder, IsStrictWeakOrder}
use Rattle.std.specs.Cmp.{then_total, on_total, nat_cmp_total}
use Rattle.std.specs.Cmp.Lexicographic.{nat_list_cmp_total}
use Rattle.std.specs.Fn.{Called, ComparesAs}
use Rattle.std.specs.List.Sorted.{IsSortedBy}
use Rattle.std.specs.Ordering.{is_lt}
use Rattle.std.proofs.lemmas.List.{get_or-map, length-map}
use Rattle.std.proofs.lemmas.List.Sorted.{ranks_by, answers_always}
use denote.Param.Members.{Mut}
use Rattle.std.specs.Prelude.{string_bytes}
use Rattle.meta.specs.declared.kinds.MetaTypeOf.{MetaTypeOf}
use Rattle.schema_validation.specs.declared.directives.DirectiveType.{DirectiveType}
use Rattle.schema.specs.declared.model.types.TypeTypeOf.{TypeTypeOf}
use Rattle.schema.specs.Ordered.{kind_rank, name_bytes, type_cmp, directive_cmp, metas_of}
use Rattle.schema.specs.Wrapped.{WrappedMeta, plain_meta, wrapped_of}
use Rattle.schema.proofs.PossibleLemmas.{map-now}

pub sorted-map : {A X : Type 0} (f : A → X) (lt : X → X → Bool) (xs : List A) → IsSortedBy (λ a b. lt (f a) (f b)) xs → IsSortedBy lt (map f xs)
sorted-map f lt [] h k d low high = absurd (omega arith)
sorted-map f lt (x ∷ xs) h k d low high =
    let long : k + 1 < length (x ∷ xs) = omega (arith, length-map (x ∷ xs) f) in
    rw (get_or-map f (x ∷ xs) (k + 1) x d long, get_or-map f (x ∷ xs) k x d (omega arith)) (h k x low long)

-- what `sort_by` ensures of references, where each call compares what they refer to by a total order
pub sorted-refs : {X : Type 0} (R : X → X → Ordering) → IsTotalOrder R → {F : Type 0} {g : Mut F (Bor (Bor X) × (Bor (Bor X) × Unit {0})) Ordering} {f : F} (xs : List (Bor X))
    → ((lt : Bor X → Bor X → Bool) → IsStrictWeakOrder lt → ComparesAs g lt f → IsSortedBy lt xs)
    → ((f : F) (a : Bor (Bor X) × (Bor (Bor X) × Unit {0})) (r : Ordering) (f' : F) → Called g f a r f' → r ≡ R a.0.now.now a.1.0.now.now) → IsSorted R (map (λ r. r.now) xs)
sorted-refs {X} R total {F} {g} {f} xs up says =
    let key : Bor X → X = λ r. r.now in
    let lt : Bor X → Bor X → Bool = λ a b. is_lt (R a.now b.now) in
    sorted-map key (λ a b. is_lt (R a b)) xs
    (up lt (ranks_by total key) (answers_always g (λ a r. is_lt r ≡ lt a.0.now a.1.0.now) f (λ f a r f' k. ap is_lt (says f a r f' k))))

pub type_cmp-total : {S C : Type 0} → IsTotalOrder (type_cmp {S = S} {C = C})
type_cmp-total = then_total (on_total kind_rank nat_cmp_total) (on_total name_bytes nat_list_cmp_total)

pub directive_cmp-total : {S : Type 0} → IsTotalOrder (directive_cmp {S = S})
directive_cmp-total {S} = let name : DirectiveType S → List ℕ = λ d. string_bytes d.name in on_total name nat_list_cmp_total

module _ {S C : Type 0} (vs : List (TypeTypeOf S C)) (rs : List (Bor (MetaTypeOf S C))) (plain : map wrapped_of vs ≡ map (λ r. plain_meta r.now) rs) where
  metas_parts : (ts : List (TypeTypeOf S C)) → metas_of ts ≡ map (λ w. w.meta) (map wrapped_of ts)
  metas_parts [] = refl
  metas_parts (t ∷ ts) = ap (λ l. (wrapped_of t).meta ∷ l) (metas_parts ts)

  plain_parts : (qs : List (Bor (MetaTypeOf S C))) → map (λ w. w.meta) (map (λ r. plain_meta r.now) qs) ≡ map (λ r. r.now) qs
  plain_parts [] = refl
  plain_parts (q ∷ qs) = ap (λ l. q.now ∷ l) (plain_parts qs)

  -- the metadata of types without modifiers
  pub metas-plain : metas_of vs ≡ map (λ r. r.now) rs
  metas-plain = metas_parts vs ∙ ap (map (λ (w : WrappedMeta S C). w.meta)) plain ∙ plain_parts rs

  pub plain-metas : map wrapped_of vs ≡ map plain_meta (metas_of vs)
  plain-metas = plain ∙ map-now plain_meta rs ∙ ap (map plain_meta) (sym metas-plain)
