-- One entry more in the choice of the entering column, and what is chosen when all entries have been gone along.
use Rattle.std.proofs.Common.{◌≡◌, ◌≢◌, ℕ, suc, ◌+◌, ◌<◌, ◌≤◌, sym, ap, ◌∙◌, subst, List, Option, Some, None, MatchOption, below_more, get_or, length, arith}
use Rattle.fractions.specs.Rational.{ℚ, zero_ℚ, ◌<ℚ◌}
use Rattle.fractions.proofs.Order.{ne_of_lt}
use Rattle.dictionaries.specs.Dictionary.{Dictionary}
use Rattle.dictionaries.specs.Bland.{Improves, IsOptimal, Enters}
use Rattle.tableau.specs.Entries.{pair_at, AreEntries}
use Rattle.simplex.specs.Choices.{EntersOf, EntersAmong}

-- the column of an entry improves, as its pair says
pub improves_there : (d : Dictionary) (row : List ℚ) (kept : List (ℕ × ℚ)) (n : ℕ) (one two : ℕ × ℚ) → AreEntries row kept → n < length kept → length row ≡ length d.nonbasic + 1
    → pair_at kept n ≡ one → pair_at kept n ≡ two → get_or d.nonbasic one.0 0 ≢ 0 → zero_ℚ <ℚ two.1 → Improves d row (pair_at kept n).0
improves_there d row kept n one two a h w e f v p = record {
  column = omega (arith, (a.each n h).within, w);
  variable = λ q. v (sym (ap (λ (t : ℕ × ℚ). get_or d.nonbasic t.0 0) e) ∙ q);
  entry = subst (λ x. zero_ℚ <ℚ x) (sym (ap (λ (t : ℕ × ℚ). t.1) f) ∙ (a.each n h).value) p;
}

pub enters_first : (d : Dictionary) (row : List ℚ) (kept : List (ℕ × ℚ)) (n : ℕ) → Improves d row (pair_at kept n).0
    → ((k : ℕ) → k < n → Improves d row (pair_at kept k).0 → ⊥) → EntersOf d row kept (n + 1) (pair_at kept n).0
enters_first d row kept n i f = record {
  improves = i;
  least = below_more (λ k. Improves d row (pair_at kept k).0 → get_or d.nonbasic (pair_at kept n).0 0 ≤ get_or d.nonbasic (pair_at kept k).0 0) n (λ k l j. absurd (f k l j)) (λ j. omega arith);
}

pub enters_less : (d : Dictionary) (row : List ℚ) (kept : List (ℕ × ℚ)) (n b : ℕ) → EntersOf d row kept n b → Improves d row (pair_at kept n).0
    → get_or d.nonbasic (pair_at kept n).0 0 < get_or d.nonbasic b 0 → EntersOf d row kept (n + 1) (pair_at kept n).0
enters_less d row kept n b o i l = record {
  improves = i;
  least = below_more (λ k. Improves d row (pair_at kept k).0 → get_or d.nonbasic (pair_at kept n).0 0 ≤ get_or d.nonbasic (pair_at kept k).0 0) n (λ k m j. omega (arith, l, o.least k m j)) (λ j. omega arith);
}

-- a column that improves has an entry
has_entry : (d : Dictionary) (row : List ℚ) (kept : List (ℕ × ℚ)) (c : ℕ) → AreEntries row kept → length row ≡ length d.nonbasic + 1 → Improves d row c
    → (i : ℕ) × (i < length kept) × ((pair_at kept i).0 ≡ c)
has_entry d row kept c a w i = let h : suc c < length row = omega (arith, i.column, w) in a.all c h (λ e. ne_of_lt _ _ i.entry (sym e))

pub all_gone_along : (d : Dictionary) (row : List ℚ) (kept : List (ℕ × ℚ)) (best : Option ℕ) → AreEntries row kept → length row ≡ length d.nonbasic + 1
    → EntersAmong d row kept (length kept) best → MatchOption best (IsOptimal d row) (λ c. Enters d row c)
all_gone_along d row kept None a w f = λ c i. let t = has_entry d row kept c a w i in f t.0 t.1 (subst (Improves d row) (sym t.2) i)
all_gone_along d row kept (Some b) a w o = record {
  improves = o.improves;
  least = λ k i.
      let t = has_entry d row kept k a w i in
      subst (λ j. get_or d.nonbasic b 0 ≤ get_or d.nonbasic j 0) t.2 (o.least t.0 t.1 (subst (Improves d row) (sym t.2) i));
}
