-- The sets that are begun, all in one list.
use Rattle.std.proofs.Math.Seq.{drop-append_seam, get_or-append_seam, set-append_seam, take-append_seam}
use Rattle.std.proofs.lemmas.List.{length-append}
use Rattle.std.proofs.Common.{◌≡◌, ◌<◌, ◌+◌, ◌-◌, arith, ℕ, Option, suc, Bool, true, false, List, [], ◌∷◌, ◌++◌, append_assoc, drop, length, slice_index_or, slice_set, take, refl, sym, ap, subst, ◌∙◌}
use Rattle.language.specs.declared.tree.Selection.{Selection as Node}
use Rattle.sdl_scalars.specs.declared.scalar.SourceScalar.{SourceScalar}
use Rattle.graphql_lexer.specs.Ahead.{ahead_of, last_end_of, IsTaken}
use Rattle.graphql_lexer.specs.Lexical as token
use Rattle.graphql_lexer.specs.declared.error.ReadError.{ReadError}
use Rattle.graphql_lexer.specs.declared.lexer.Punctuator.TheVariants.{BraceOpen, BraceClose}
use Rattle.graphql_lexer.specs.declared.tokens.Tokens.{Tokens}
use Rattle.value_reader.specs.Grammar.{may_nest}
use Rattle.graphql_reader.specs.Languages.{ASelection, ASet, Anything, BegunSet, Nothing, IsFault, Leaves}
use Rattle.graphql_reader.specs.OpenSets.{Adds, Begun, GoingOn, IsPart, IsPartFault, LeavesPart, Nodes, Spelled, Standing, first_of, firsts_of, given_set, laid}
use Rattle.graphql_reader.specs.Passed.{Reads}
use Rattle.graphql_reader.specs.Selections.{SpellsSet, nodes_seen, selection_seen}
use Rattle.graphql_reader.proofs.ArgumentLaws.{not_none}
use Rattle.graphql_reader.proofs.LeavesLaws.{fault_behind, leaves_then}
use Rattle.graphql_reader.proofs.SelectionLaws.{selection_more, set_begun, set_ended, set_opened, whole_set}
use Rattle.graphql_reader.proofs.SelectionLeaveLaws.{outer_begun, part_added, part_begun, part_stuck, part_unbegun, rests_some, set_closed, set_goes_on}

-- ---- lists of places
no_first : {k : ℕ} {ks : List ℕ} → k ∷ ks ≡ [] → ⊥
no_first h = cc

same_first : {k m : ℕ} {ks ms : List ℕ} → k ∷ ks ≡ m ∷ ms → k ≡ m
same_first h = cc

same_others : {k m : ℕ} {ks ms : List ℕ} → k ∷ ks ≡ m ∷ ms → ks ≡ ms
same_others h = cc

-- ---- the list
laid_more : (xs : List Begun) (a b : Nodes) → laid xs (a ++ b) ≡ laid xs a ++ b
laid_more [] a b = refl
laid_more (x ∷ xs) a b =
    ap (laid xs) (sym (append_assoc x.before (x.holder ∷ a) b)) ∙ laid_more xs (x.before ++ x.holder ∷ a) b

-- the innermost set stands behind the selection that it belongs to
laid_inner : (x : Begun) (xs : List Begun) (own : Nodes) → laid (x ∷ xs) own ≡ laid xs (x.before ++ x.holder ∷ []) ++ own
laid_inner x xs own =
    ap (laid xs) (sym (append_assoc x.before (x.holder ∷ []) own)) ∙ laid_more xs (x.before ++ x.holder ∷ []) own

laid_count : (begun : List Begun) (own : Nodes) → length (laid begun own) ≡ first_of (firsts_of begun) + length own
laid_count [] own = omega arith
laid_count (x ∷ xs) own = ap length (laid_inner x xs own) ∙ length-append (laid xs (x.before ++ x.holder ∷ [])) own

firsts_count : (begun : List Begun) → length (firsts_of begun) ≡ length begun
firsts_count [] = refl
firsts_count (x ∷ xs) = ap suc (firsts_count xs)

counted : (begun : List Begun) (own nodes : Nodes) (firsts : List ℕ) → firsts ≡ firsts_of begun → nodes ≡ laid begun own → length nodes ≡ first_of firsts + length own
counted begun own nodes firsts f n = ap length n ∙ laid_count begun own ∙ ap (λ fs. first_of fs + length own) (sym f)

own_some : (begun : List Begun) (own nodes : Nodes) (firsts : List ℕ) → firsts ≡ firsts_of begun → nodes ≡ laid begun own → first_of firsts < length nodes → own ≡ [] → ⊥
own_some begun own nodes firsts f n some e = omega (arith, some, counted begun own nodes firsts f n, ap length e)

some_more : (begun : List Begun) (own nodes : Nodes) (firsts : List ℕ) → firsts ≡ firsts_of begun → nodes ≡ laid begun own → (own ≡ [] → ⊥) → first_of firsts < length nodes
some_more begun [] nodes firsts f n some = absurd (some refl)
some_more begun (x ∷ xs) nodes firsts f n some = omega (arith, counted begun (x ∷ xs) nodes firsts f n)

-- ---- the last of a list
last_at : (before nodes : Nodes) (x : Node SourceScalar) (n : ℕ) → nodes ≡ before ++ x ∷ [] → n ≡ length nodes → n - 1 ≡ length before
last_at before nodes x n e count = omega (arith, count, ap length e, length-append before (x ∷ []))

pub last_was : (before nodes : Nodes) (x y : Node SourceScalar) (n : ℕ) → nodes ≡ before ++ x ∷ [] → n ≡ length nodes → y ≡ slice_index_or nodes (n - 1) y → y ≡ x
last_was before nodes x y n e count is =
    is ∙ ap (λ k. slice_index_or nodes k y) (last_at before nodes x n e count) ∙ ap (λ zs. slice_index_or zs (length before) y) e ∙ get_or-append_seam before x [] y

pub last_set : (before nodes : Nodes) (x y : Node SourceScalar) (n : ℕ) → nodes ≡ before ++ x ∷ [] → n ≡ length nodes → slice_set nodes (n - 1) y ≡ before ++ y ∷ []
last_set before nodes x y n e count =
    ap (λ k. slice_set nodes k y) (last_at before nodes x n e count) ∙ ap (λ zs. slice_set zs (length before) y) e ∙ set-append_seam before x [] y

-- ---- the outermost set
pub stands_first : {limit : Option ℕ} {first now : Tokens} (firsts : List ℕ) (nodes : Nodes) → firsts ≡ [] → nodes ≡ []
    → may_nest limit 0 ≡ true → IsTaken (token.punctuator BraceOpen) first now → Leaves limit Anything (ASet 0) (BegunSet 0) first now
    → Standing limit first firsts nodes now
stands_first {limit} {first} {now} firsts nodes f n nest t h = ([], [], f, n, set_opened limit first now nest t, outer_begun h)

-- ---- a selection more
pub goes_on : {limit : Option ℕ} {first a b : Tokens} {firsts : List ℕ} {nodes : Nodes} → Standing limit first firsts nodes a → b ≡ a
    → (first_of firsts < length nodes → (ahead_of a).token ≡ token.punctuator BraceClose → ⊥) → GoingOn limit first firsts nodes b
goes_on {limit} {first} {a} {b} {firsts} {nodes} (begun, own, f, n, s, l) same other =
    (begun, own, f, n, subst (Spelled limit first begun own) (sym same) s, leaves_then l (set_goes_on a b (length begun) own same (λ some. other (some_more begun own nodes firsts f n some))))

abbrev Part : Option ℕ → Tokens → Tokens → Nodes → Nodes → Bool → Type 0
Part limit mid now old new begins = Adds (IsPart limit mid now begins) old new × LeavesPart ASelection limit mid now begins

whole_more : {limit : Option ℕ} {first mid now : Tokens} {firsts : List ℕ} {old new : Nodes} → GoingOn limit first firsts old mid
    → Part limit mid now old new false → Standing limit first firsts new now
whole_more {limit} {first} {mid} {now} (begun, own, f, n, s, l) ((node, grown, part), leaves) = (
  begun,
  own ++ node ∷ [],
  f,
  grown ∙ ap (λ zs. zs ++ node ∷ []) n ∙ sym (laid_more begun own (node ∷ [])),
  selection_more limit begun own node first mid now s part,
  leaves_then l (part_added (length begun) (length begun) (own ++ node ∷ []) refl (not_none own node) (leaves (suc (length begun)))),
)

pub part_whole : {limit : Option ℕ} {first mid now : Tokens} {firsts : List ℕ} {old new : Nodes} (begins : Bool) → begins ≡ false
    → GoingOn limit first firsts old mid → Adds (IsPart limit mid now begins) old new → LeavesPart ASelection limit mid now begins
    → Standing limit first firsts new now
part_whole {limit} {first} {mid} {now} {firsts} {old} {new} begins none going added leaves =
    whole_more {mid = mid} {old = old} going (subst (Part limit mid now old new) none (added, leaves))

begun_more : {limit : Option ℕ} {first mid between now : Tokens} {firsts more : List ℕ} {old new : Nodes} (k : ℕ) → GoingOn limit first firsts old mid
    → Part limit mid between old new true → more ≡ length new ∷ firsts → k ≡ suc (length firsts)
    → may_nest limit k ≡ true → IsTaken (token.punctuator BraceOpen) between now → Leaves limit Anything (ASet k) (BegunSet k) between now
    → Standing limit first more new now
begun_more {limit} {first} {mid} {between} {now} {firsts} {more} {old} {new} k (begun, own, f, n, s, l) ((node, grown, part), leaves) m e nest t h =
    let x : Begun = record { before = own; holder = node } in
    let count : k ≡ suc (length begun) = e ∙ ap (λ fs. suc (length fs)) f ∙ ap suc (firsts_count begun) in
    let all : new ≡ laid begun (own ++ node ∷ []) = grown ∙ ap (λ zs. zs ++ node ∷ []) n ∙ sym (laid_more begun own (node ∷ [])) in (
      x ∷ begun,
      [],
      m ∙ ap (λ zs. length zs ∷ firsts) all ∙ ap (λ fs. length (laid begun (own ++ node ∷ [])) ∷ fs) f,
      all,
      set_begun limit x begun first mid between now s part (subst (λ d. may_nest limit d ≡ true) count nest) t,
      leaves_then l (part_begun (length begun) (suc (length begun)) [] refl refl (leaves (suc (length begun))) (subst (λ d. Leaves limit Anything (ASet d) (BegunSet d) between now) count h)),
    )

pub part_begins : {limit : Option ℕ} {first mid between now : Tokens} {firsts more : List ℕ} {old new : Nodes} (k : ℕ) (begins : Bool) → begins ≡ true
    → GoingOn limit first firsts old mid → Adds (IsPart limit mid between begins) old new → LeavesPart ASelection limit mid between begins
    → more ≡ length new ∷ firsts → k ≡ suc (length firsts) → may_nest limit k ≡ true → IsTaken (token.punctuator BraceOpen) between now
    → Leaves limit Anything (ASet k) (BegunSet k) between now → Standing limit first more new now
part_begins {limit} {first} {mid} {between} {now} {firsts} {more} {old} {new} k begins some going added leaves m e nest t h =
    begun_more {mid = mid} {between = between} {firsts = firsts} {old = old} k going (subst (Part limit mid between old new) some (added, leaves)) m e nest t h

deep : {limit : Option ℕ} {first mid between now : Tokens} {firsts : List ℕ} {old : Nodes} {e : ReadError} (k : ℕ) → GoingOn limit first firsts old mid
    → LeavesPart ASelection limit mid between true → k ≡ suc (length firsts) → IsFault limit Anything (ASet k) between now e → IsFault limit Anything (ASet 0) first now e
deep k (begun, own, f, n, s, l) leaves e h =
    fault_behind l (part_unbegun (length begun) k (e ∙ ap (λ fs. suc (length fs)) f ∙ ap suc (firsts_count begun)) (leaves (suc (length begun))) h)

pub part_deep : {limit : Option ℕ} {first mid between now : Tokens} {firsts : List ℕ} {old : Nodes} {e : ReadError} (k : ℕ) (begins : Bool) → begins ≡ true
    → GoingOn limit first firsts old mid → LeavesPart ASelection limit mid between begins → k ≡ suc (length firsts)
    → IsFault limit Anything (ASet k) between now e → IsFault limit Anything (ASet 0) first now e
part_deep {limit} {mid = mid} {between = between} {old = old} k begins some going leaves e h =
    deep {mid = mid} {between = between} {old = old} k going (subst (LeavesPart ASelection limit mid between) some leaves) e h

pub part_fault : {limit : Option ℕ} {first mid now : Tokens} {firsts : List ℕ} {nodes : Nodes} {e : ReadError} → GoingOn limit first firsts nodes mid
    → IsPartFault ASelection limit mid now e → IsFault limit Anything (ASet 0) first now e
part_fault (begun, own, f, n, s, l) h = fault_behind l (part_stuck (length begun) (h (suc (length begun))))

-- ---- a set that ends
pub outermost_ends : {limit : Option ℕ} {first mid now : Tokens} (firsts : List ℕ) (nodes set : Nodes) → Standing limit first firsts nodes mid
    → IsTaken (token.punctuator BraceClose) mid now → first_of firsts < length nodes → firsts ≡ [] → set ≡ drop (first_of firsts) nodes
    → Reads (SpellsSet limit 0 (nodes_seen set)) first now × Leaves limit Anything (ASet 0) Nothing first now
outermost_ends {limit} {first} {mid} {now} firsts nodes set ([], own, f, n, s, l) t some none is =
    let same : set ≡ own = is ∙ ap (λ fs. drop (first_of fs) nodes) none ∙ n in
    let there = own_some [] own nodes firsts f n some in (
      subst (λ zs. Reads (SpellsSet limit 0 (nodes_seen zs)) first now) (sym same) (whole_set limit own first mid now there s t),
      leaves_then l (set_closed {b = now} 0 own there t),
    )
outermost_ends firsts nodes set (x ∷ xs, own, f, n, s, l) t some none is = absurd (no_first (sym f ∙ none))

-- the others: those that are kept end with the selection that the set belongs to
pub inner_ends : {limit : Option ℕ} {first mid now : Tokens} (k : ℕ) (rest : List ℕ) (nodes kept set new : Nodes) → Standing limit first (k ∷ rest) nodes mid
    → IsTaken (token.punctuator BraceClose) mid now → k < length nodes → kept ≡ take k nodes → set ≡ drop k nodes
    → ((before : Nodes) (holder : Node SourceScalar) → kept ≡ before ++ holder ∷ []
    → Adds (λ n. selection_seen n ≡ given_set (selection_seen holder) (nodes_seen set) (last_end_of now)) before new)
    → Standing limit first rest new now
inner_ends k rest nodes kept set new ([], own, f, n, s, l) t some front back given = absurd (no_first f)
inner_ends {limit} {first} {mid} {now} k rest nodes kept set new (x ∷ xs, own, f, n, s, l) t some front back given =
    let here : Nodes = laid xs (x.before ++ x.holder ∷ []) in
    let at : k ≡ length here = same_first f in
    let parts : nodes ≡ here ++ own = n ∙ laid_inner x xs own in
    let inner : set ≡ own = back ∙ ap (λ m. drop m nodes) at ∙ ap (drop (length here)) parts ∙ drop-append_seam here own in
    let outer : kept ≡ laid xs x.before ++ x.holder ∷ [] =
    front ∙ ap (λ m. take m nodes) at ∙ ap (take (length here)) parts ∙ take-append_seam here own ∙ laid_more xs x.before (x.holder ∷ []) in
    let (node, grown, is) = given (laid xs x.before) x.holder outer in
    let there = own_some (x ∷ xs) own nodes (k ∷ rest) f n some in (
      xs,
      x.before ++ node ∷ [],
      same_others f,
      grown ∙ sym (laid_more xs x.before (node ∷ [])),
      set_ended limit x xs own node first mid now there s t (is ∙ ap (λ zs. given_set (selection_seen x.holder) (nodes_seen zs) (last_end_of now)) inner),
      leaves_then l (rests_some (length xs) (x.before ++ node ∷ []) (not_none x.before node) (set_closed {b = now} (suc (length xs)) own there t)),
    )
