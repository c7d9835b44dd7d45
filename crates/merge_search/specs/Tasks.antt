-- What the tasks of a search make of its state.
use Rattle.std.specs.Prelude.{ℕ, ◌<◌, ◌≤◌, ◌-◌, List, [], ◌∷◌, length, drop, reverse, Bool, Some, true, false, ◌≡◌, ◌⊎◌}
use Rattle.std.specs.Prelude.{slice_get}
use Rattle.std.specs.List.{All, Contains}
use Rattle.bit_matrix.specs.Set.{has}
use Rattle.bit_matrix.specs.declared.set.BitSet.{BitSet}
use Rattle.merge_sets.specs.declared.node.Entry.{Entry}
use Rattle.merge_search.specs.declared.state.Search.{Search}
use Rattle.merge_sets.specs.declared.finding.Finding.TheVariants.{Nested}
use Rattle.merge_search.specs.declared.task.Task.{Task}
use Rattle.merge_search.specs.declared.task.Task.TheVariants.{With, Listed, Rows, Own, Close, Opened, Mark, Spreads}
use Rattle.merge_search.specs.declared.task.Partner.{Partner}
use Rattle.merge_search.specs.declared.task.Partner.TheVariants as partner
use Rattle.merge_sets.specs.Clear.{IsClear}
use Rattle.merge_sets.specs.Names.{named}
use Rattle.merge_sets.specs.Graph.{firsts_at}
use Rattle.merge_sets.specs.World.{World, own_of, spreads_of, set_of, conflict_of, exclusive_of}
use Rattle.merge_sets.specs.Opening.{Reaches}
use Rattle.merge_search.specs.State.{Keeps, Reports}
use Rattle.merge_search.specs.Work.{Did, Done, OwnPairs, Pair, SearchDone, SetsDone}
use Rattle.merge_search.specs.Reports.{Root, Finds, FindsAll, AtFields, AtWith, AtNamed, AtOwn, AtSearch, AtFragments, AtFirst, AtBelow, AtLists, AtRest}
use Rattle.merge_certificates.specs.TwoSets.{KnowsRows, rights_of}

-- From old to new D was done, what was found stands at P, and each pair of Q that fails of itself has a report of its
-- own.
pub record Compares (w : World) (e : Bool) (D : Search → Type 0) (P Q : Root → Type 0) (old new : Search) : Type 0 where
  pub done : Did w D old new
  pub real : FindsAll w e P Q old new

-- D was done, and what was found stands at P.
pub record Searches (w : World) (e : Bool) (D : Search → Type 0) (P : Root → Type 0) (old new : Search) : Type 0 where
  pub done : Did w D old new
  pub real : Finds w e P old new

-- The same of each of some fields.
abbrev pub ComparesEach : World → Bool → (Entry → Search → Type 0) → (Root → Type 0) → (Entry → Root → Type 0)
    → List Entry → Search → Search → Type 0
ComparesEach w e D P Q items = Compares w e (λ M. All (λ x. D x M) items) P (λ r. (x : Entry) × Contains items x × Q x r)

abbrev pub MeetsFields : World → Bool → Entry → Entry → Search → Search → Type 0
MeetsFields w e a b = Compares w e (λ M. Done w M e a b) (AtFields a b) (AtFields a b)

abbrev pub MeetsBelow : World → Bool → ℕ → ℕ → Search → Search → Type 0
MeetsBelow w e i j = Searches w e (λ M. SetsDone w M e i j) (AtBelow w i j)

-- The sets below two fields that don't conflict by themselves.
pub record MeetsNested (w : World) (e : Bool) (a b : Entry) (i j : ℕ) (old new : Search) : Type 0 where
  pub done : Did w (λ M. SetsDone w M (exclusive_of w e a b) i j) old new
  pub real : conflict_of w e a b ≡ false → a.below ≡ Some i → b.below ≡ Some j → Finds w e (AtFields a b) old new

-- What is done of a field and a set, and of a response name and a set.
abbrev pub WithDone : World → Bool → ℕ → Entry → Search → Type 0
WithDone w e j a M = All (λ b. Done w M e a b) (named a.response (own_of w j))

abbrev pub NameDone : World → Bool → ℕ → ℕ → Entry → Search → Type 0
NameDone w e i j f M = All (λ a. All (λ b. Done w M e a b) (named a.response (own_of w j))) (named f.response (own_of w i))

abbrev pub MeetsNamed : World → Bool → ℕ → ℕ → ℕ → Search → Search → Type 0
MeetsNamed w e i j n = Compares w e (λ M. All (λ a. WithDone w e j a M) (named n (own_of w i))) (AtNamed w i j n) (AtNamed w i j n)

abbrev pub MeetsWith : World → Bool → Entry → ℕ → Search → Search → Type 0
MeetsWith w e a j = Compares w e (WithDone w e j a) (AtWith w a j) (AtWith w a j)

-- Some fields, each with the own fields of a set that have its response name.
abbrev pub AtRows : World → ℕ → List Entry → Root → Type 0
AtRows w j fields r = (a : Entry) × Contains fields a × AtWith w a j r

abbrev pub MeetsRows : World → Bool → ℕ → List Entry → Search → Search → Type 0
MeetsRows w e j fields = ComparesEach w e (WithDone w e j) (AtRows w j fields) (λ a. AtWith w a j) fields

-- A field and those of a list, from a place on.
abbrev pub MeetsList : World → Bool → Entry → List Entry → ℕ → Search → Search → Type 0
MeetsList w e a others n = ComparesEach w e (λ b M. Done w M e a b) (AtRest a others) (λ b. AtFields a b) (drop n others)

-- The fields of a list, from a place on, and those of another.
abbrev pub RowDone : World → Bool → List Entry → Entry → Search → Type 0
RowDone w e right a M = All (λ b. Done w M e a b) right

abbrev pub MeetsBoth : World → Bool → List Entry → List Entry → ℕ → Search → Search → Type 0
MeetsBoth w e left right k = ComparesEach w e (RowDone w e right) (AtLists left right) (λ a. AtRest a right) (drop k left)

-- Each field whose place is listed merges with those of the set.
abbrev pub AreClearWith : World → Bool → ℕ → List Entry → BitSet → Type 0
AreClearWith w e j fields rows =
    (k : ℕ) (a : Entry) → slice_get fields k ≡ Some a → has rows k ≡ true → IsClear w e a (named a.response (own_of w j))

-- The own fields of a set, and those of a fragment; and the fragment written out.
abbrev pub MeetsOne : World → Bool → ℕ → ℕ → Search → Search → Type 0
MeetsOne w e i g = Searches w e (λ M. OwnPairs w M e i (set_of w g)) (AtOwn w i (set_of w g))

abbrev pub MeetsSearch : World → Bool → ℕ → ℕ → Search → Search → Type 0
MeetsSearch w e i g = Searches w e (λ M. SearchDone w M e i g) (AtSearch w i g)

abbrev pub MeetsFragments : World → Bool → ℕ → ℕ → Search → Search → Type 0
MeetsFragments w e f g old new =
    f < length w.fragments → g < length w.fragments → Searches w e (λ M. Pair M e f g) (AtFragments w f g) old new

-- A fragment that is a partner is one of the graph.
abbrev pub IsThere : World → Partner → Type 0
IsThere w (partner.Own i) = Unit {0}
IsThere w (partner.First g) = g < length w.fragments
IsThere w (partner.Second g) = g < length w.fragments
IsThere w (partner.Each j) = Unit {0}

-- What is done of a fragment and its partner, and where what was found stands.
abbrev pub PartnerDone : World → Bool → Partner → ℕ → Search → Type 0
PartnerDone w e (partner.Own i) h M = SearchDone w M e i h
PartnerDone w e (partner.First g) h M = Pair M e g h
PartnerDone w e (partner.Second g) h M = Pair M e h g
PartnerDone w e (partner.Each j) h M = All (λ k. Pair M e h k) (spreads_of w j)

abbrev pub AtPartner : World → Partner → ℕ → Root → Type 0
AtPartner w (partner.Own i) h = AtSearch w i h
AtPartner w (partner.First g) h = AtFragments w g h
AtPartner w (partner.Second g) h = AtFragments w h g
AtPartner w (partner.Each j) h = AtFirst w h j

abbrev pub AtPartners : World → ℕ → Partner → Root → Type 0
AtPartners w s p r = (h : ℕ) × Contains (spreads_of w s) h × AtPartner w p h r

abbrev pub MeetsPartner : World → Bool → ℕ → Partner → Search → Search → Type 0
MeetsPartner w e h p old new = IsThere w p → Searches w e (PartnerDone w e p h) (AtPartner w p h) old new

-- What was found since the start stands below the two fields; if it is something, they are reported.
abbrev pub Closes : Entry → Entry → ℕ → Search → Search → Type 0
Closes a b start old new =
    ((length old.found.items ≤ start) × (new ≡ old))
    ⊎ ((start < length old.found.items) × Reports (Nested a b (length old.found.items - start)) old new)

-- What a task makes of the state.
abbrev pub Meets : World → Task → Search → Search → Type 0
Meets w (With a j e n) old new = MeetsList w e a (named a.response (own_of w j)) n old new
Meets w (Listed a list e n) old new = MeetsList w e a list.items n old new
Meets w (Rows rows e k) old new = KnowsRows w e rows → MeetsBoth w e rows.left.items (rights_of rows) k old new
Meets w (Own i j e k) old new =
    ComparesEach w e (NameDone w e i j) (AtOwn w i j) (λ f. AtNamed w i j f.response)
    (drop k (firsts_at w.sets i)) old new
Meets w (Close a b start) old new = Closes a b start old new
Meets w (Opened i g e opening k) old new =
    All (Reaches w g) opening.order.items
    → Searches w e (λ M. All (λ h. OwnPairs w M e i (set_of w h)) (drop k opening.order.items)) (AtSearch w i g) old new
Meets w (Mark i start) old new = Keeps old new
Meets w (Spreads s p e k) old new =
    IsThere w p → Searches w e (λ M. All (λ h. PartnerDone w e p h M) (drop k (spreads_of w s)))
    (AtPartners w s p) old new

-- What the tasks make of it one after the other, the first one next.
abbrev pub MeetsAll : World → List Task → Search → Search → Type 0
MeetsAll w [] old new = old ≡ new
MeetsAll w (t ∷ ts) old new = (mid : Search) × Meets w t old mid × MeetsAll w ts mid new

-- Who does the one list of tasks from now on has done R from old on, and then the other list.
abbrev pub Leads : World → List Task → Search → (Search → Search → Type 0) → List Task → Search → Type 0
Leads w ts now R us old = (end : Search) → MeetsAll w ts now end → (mid : Search) × R old mid × MeetsAll w us mid end

-- The same from any state on, since nothing was done yet.
abbrev pub Waits : World → List Task → (Search → Search → Type 0) → List Task → Type 0
Waits w ts R us = (now : Search) → Leads w ts now R us now

-- From the old tasks and state to the new ones R was begun: it is done once the tasks that were added are.
abbrev pub Turns : World → (Search → Search → Type 0) → List Task → List Task → Search → Search → Type 0
Turns w R us ts old now = Leads w (reverse ts) now R (reverse us) old
