use Rattle.std.proofs.Common.{◌≡◌, ◌∙◌, ◌-◌, ℕ, zero, suc, Bool, true, false, cond, List, Some, ap, sym, refl, arith, slice_get}
use Rattle.name_tables.specs.Looking.{Entries, Others, index_held, is_named, other_index}
use Rattle.name_tables.proofs.map.NameMap.index_held.Goals as goal

one_less : (n : ℕ) → (n ≡ 0 → ⊥) → n ≡ suc (n - 1)
one_less zero ne = absurd (ne refl)
one_less (suc n) ne = omega arith

by_held : {T : Type 0} (es : Entries T) (others : Others) (name : List ℕ) (held : ℕ) (b : Bool) → (held ≡ 0 → ⊥) → b ≡ is_named (slice_get es (held - 1)) name
    → cond b (Some (held - 1)) (other_index others name) ≡ index_held es others name held
by_held es others name held b ne e = ap (λ z. cond z (Some (held - 1)) (other_index others name)) e ∙ ap (index_held es others name) (sym (one_less held ne))

pub returns-then-held-eq0 : goal.returns-then-held-eq0
returns-then-held-eq0 g c = ap (index_held c.args.self.now.entries.items c.args.self.now.others c.args.name.now) (sym c.if-held-eq0.true)

pub returns-then-is_at : goal.returns-then-is_at
returns-then-is_at g c = by_held c.args.self.now.entries.items c.args.self.now.others c.args.name.now c.args.held true c.if-held-eq0.false (sym c.if-is_at.true ∙ c.is_at.ensures)

pub returns : goal.returns
returns g c = c.other.ensures ∙ by_held c.args.self.now.entries.items c.args.self.now.others c.args.name.now c.args.held false c.if-held-eq0.false (sym c.if-is_at.false ∙ c.is_at.ensures)
