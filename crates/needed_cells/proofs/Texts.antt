-- Cells with a text that are gathered.
use Rattle.std.specs.Prelude.{◌↔◌, ◌||◌, if◌then◌else◌}
use Rattle.std.proofs.Common.{◌≡◌, ℕ, zero, suc, ◌+◌, ◌<◌, Bool, true, false, List, [], ◌∷◌, ◌++◌, get_or, length, take, Option, Some, None, Contains, refl, sym, ap, subst, ◌∙◌, arith, ◌⊎◌, inl, inr}
use Rattle.std.specs.Cmp.{tied_itself}
use Rattle.std.specs.FinMap.{contains_key}
use Rattle.std.specs.List.{list_any}
use Rattle.std.specs.Ordering.{ordering_reverse}
use Rattle.std.specs.declared.cmp.Ordering.{Ordering}
use Rattle.std.specs.declared.cmp.Ordering.TheVariants.{Less, Equal, Greater}
use Rattle.std.proofs.lemmas.List.{append-nil}
use Rattle.std.proofs.lemmas.List.Elements.{Contains-append_left, Contains-push, Contains-push_cases}
use Rattle.std.proofs.lemmas.List.Folds.{list_any_more}
use Rattle.std.proofs.lemmas.List.FromFn.{get_or-map-range_with_len, length-map-range_with_len}
use Rattle.cell_refs.specs.Areas.{Area, area_len, cell_at, cells_of, within}
use Rattle.cell_refs.specs.declared.cell.Cell.{Cell}
use Rattle.cell_refs.specs.Cells.{cell_cmp}
use Rattle.cell_refs.proofs.Order.{cells_total, exact_cells}
use Rattle.formula_ast.specs.Tree.{Listed}
use Rattle.formula_ast.specs.Tree as tree
use Rattle.recalculation.specs.Entries.{Book}
use Rattle.recalculation.proofs.Lists.{both, first_true, second_true}
use Rattle.recalculation.proofs.WithinAreas.{referred_are_cells}
use Rattle.workbook.specs.Contents.{IsLast, IsNext, IsPast}
use Rattle.extract.specs.Knowing.{is_open_text}
use Rattle.needed_cells.specs.Finding.{is_open_within}

-- ---- cells that are seen one by one
module _ (test : Cell → Bool) (old : List Cell) where
  -- of the cells that were seen those that pass are gathered behind the old ones
  abbrev pub IsGathered : (Cell → Type 0) → List Cell → Type 0
  IsGathered Seen found = (b : Cell) → Contains found b ↔ (Contains old b ⊎ (Seen b × (test b ≡ true)))

  pub none_gathered : (Seen : Cell → Type 0) → ((b : Cell) → Seen b → ⊥) → IsGathered Seen old
  none_gathered Seen none b = ((λ h. inl h), (λ h. elim h as (λ _. Contains old b) [ inl w ↦ w | inr w ↦ absurd (none b w.0) ]))

  module _ (Seen Now : Cell → Type 0) (found : List Cell) (cell : Cell) (g : IsGathered Seen found) (cases : (b : Cell) → Now b → Seen b ⊎ (cell ≡ b)) (still : (b : Cell) → Seen b → Now b) (here : Now cell) where
    later : (b : Cell) → Contains old b ⊎ (Seen b × (test b ≡ true)) → Contains old b ⊎ (Now b × (test b ≡ true))
    later b h = elim h as (λ _. Contains old b ⊎ (Now b × (test b ≡ true))) [ inl w ↦ inl w | inr w ↦ inr (still b w.0, w.1) ]

    added : test cell ≡ true → IsGathered Now (found ++ cell ∷ [])
    added t b = (
      λ h. elim (Contains-push_cases found cell b h) as (λ _. Contains old b ⊎ (Now b × (test b ≡ true))) [
        | inl w ↦ later b ((g b).0 w)
        | inr e ↦ inr (subst Now e here, ap test (sym e) ∙ t)
      ],
      λ h. elim h as (λ _. Contains (found ++ cell ∷ []) b) [
        | inl w ↦ Contains-append_left found (cell ∷ []) b ((g b).1 (inl w))
        | inr w ↦ elim (cases b w.0) as (λ _. Contains (found ++ cell ∷ []) b) [
          | inl v ↦ Contains-append_left found (cell ∷ []) b ((g b).1 (inr (v, w.1)))
          | inr e ↦ subst (Contains (found ++ cell ∷ [])) e (Contains-push found cell)
        ]
      ],
    )

    left : test cell ≡ false → IsGathered Now found
    left t b = (
      λ h. later b ((g b).0 h),
      λ h. elim h as (λ _. Contains found b) [
        | inl w ↦ (g b).1 (inl w)
        | inr w ↦ elim (cases b w.0) as (λ _. Contains found b) [
          | inl v ↦ (g b).1 (inr (v, w.1))
          | inr e ↦ let f : test b ≡ false = ap test (sym e) ∙ t in let y = w.1 in cc
        ]
      ],
    )

    pub one_gathered : (now : List Cell) → now ≡ (if test cell then found ++ cell ∷ [] else found) → IsGathered Now now
    one_gathered now h = by (test cell) refl h
      where
        by : (t : Bool) → test cell ≡ t → now ≡ (if t then found ++ cell ∷ [] else found) → IsGathered Now now
        by true e h = subst (IsGathered Now) (sym h) (added e)
        by false e h = subst (IsGathered Now) (sym h) (left e)

  -- where all that pass were seen
  pub all_gathered : (Seen : Cell → Type 0) (found : List Cell) → IsGathered Seen found → ((b : Cell) → test b ≡ true → Seen b) → (b : Cell) → Contains found b ↔ (Contains old b ⊎ (test b ≡ true))
  all_gathered Seen found g all b = (
    λ h. elim ((g b).0 h) as (λ _. Contains old b ⊎ (test b ≡ true)) [ inl w ↦ inl w | inr w ↦ inr w.1 ],
    λ h. (g b).1 (elim h as (λ _. Contains old b ⊎ (Seen b × (test b ≡ true))) [ inl w ↦ inl w | inr w ↦ inr (all b w, w) ]),
  )

-- ---- the first cells of an area
abbrev pub IsBefore : Area → ℕ → Cell → Type 0
IsBefore a n b = (p : ℕ) × (p < n) × (cell_at a p ≡ b)

pub before_first : (a : Area) (b : Cell) → IsBefore a 0 b → ⊥
before_first a b h = absurd (omega (arith, h.1))

same_or_less : (p i : ℕ) → p < i + 1 → (p < i) ⊎ (p ≡ i)
same_or_less zero zero h = inr refl
same_or_less zero (suc i) h = inl (omega arith)
same_or_less (suc p) zero h = absurd (omega (arith, h))
same_or_less (suc p) (suc i) h = elim (same_or_less p i (omega (arith, h))) as (λ _. (suc p < suc i) ⊎ (suc p ≡ suc i)) [ inl w ↦ inl (omega (arith, w)) | inr w ↦ inr (ap suc w) ]

pub next_before : (a : Area) (i : ℕ) (b : Cell) → IsBefore a (i + 1) b → IsBefore a i b ⊎ (cell_at a i ≡ b)
next_before a i b h = elim (same_or_less h.0 i h.1) as (λ _. IsBefore a i b ⊎ (cell_at a i ≡ b)) [ inl w ↦ inl (h.0, w, h.2) | inr e ↦ inr (ap (cell_at a) (sym e) ∙ h.2) ]

pub still_before : (a : Area) (i : ℕ) (b : Cell) → IsBefore a i b → IsBefore a (i + 1) b
still_before a i b h = (h.0, omega (arith, h.1), h.2)

pub here_before : (a : Area) (i : ℕ) → IsBefore a (i + 1) (cell_at a i)
here_before a i = (i, omega arith, refl)

-- ---- the texts up to a cell
abbrev pub IsSeen : Book → Option Cell → Cell → Type 0
IsSeen book after b = (contains_key book.texts b ≡ true) × (IsPast after b → ⊥)

pub none_seen : (book : Book) (b : Cell) → IsSeen book None b → ⊥
none_seen book b h = h.1 tt

module _ (book : Book) (after : Option Cell) (cell : Cell) (next : IsNext book.texts after cell) where
  pub next_seen : (b : Cell) → IsSeen book (Some cell) b → IsSeen book after b ⊎ (cell ≡ b)
  next_seen b h = by (cell_cmp cell b) refl
    where
      by : (o : Ordering) → cell_cmp cell b ≡ o → IsSeen book after b ⊎ (cell ≡ b)
      by Less e = absurd (h.1 e)
      by Equal e = inr (exact_cells cell b e)
      by Greater e = inl (h.0, λ p. next.least b h.0 p (cells_total.antisymm b cell ∙ ap ordering_reverse e))

  past_next : (o : Option Cell) (b : Cell) → IsPast o cell → cell_cmp cell b ≡ Less → IsPast o b
  past_next None b h k = tt
  past_next (Some a) b h k = cells_total.trans a cell b h k

  pub still_seen : (b : Cell) → IsSeen book after b → IsSeen book (Some cell) b
  still_seen b h = (h.0, λ k. h.1 (past_next after b next.past k))

  pub here_seen : IsSeen book (Some cell) cell
  here_seen = (next.text, λ k. let e = tied_itself cells_total cell in cc)

pub all_seen : (book : Book) (after : Option Cell) (decisions : List Cell) (a : Area) → IsLast book.texts after → (b : Cell) → is_open_within book decisions a b ≡ true → IsSeen book after b
all_seen book after decisions a last b h =
    let text = second_true _ (contains_key book.texts b) (first_true (is_open_text book decisions b) (within a b) h) in
    (text, last b text)

-- ---- all cells of an area
or_false : (p : Bool) → (p || false) ≡ p
or_false true = refl
or_false false = refl

pub all_before : (decisions : List Cell) (book : Book) (a : Area) (b : Cell) → is_open_within book decisions a b ≡ true → IsBefore a (area_len a) b
all_before decisions book a b h =
    let inside : (within a b || false) ≡ true = or_false (within a b) ∙ second_true (is_open_text book decisions b) (within a b) h in
    let there = (referred_are_cells (tree.Reference (record { start = 0; end = 0 }) (Listed a ∷ [])) b).0 inside in
    let listed : Contains (cells_of a) b = subst (λ l. Contains l b) (append-nil (cells_of a)) there in
    let few : listed.0 < area_len a = omega (arith, listed.1, length-map-range_with_len (cell_at a) 0 (area_len a)) in
    (listed.0, few, sym (get_or-map-range_with_len (cell_at a) 0 (area_len a) listed.0 listed.0 b few (omega arith)) ∙ listed.2)

-- ---- the areas of a tree
-- the open texts in one of some areas
abbrev pub AreWithin : Book → List Cell → List Area → List Cell → Type 0
AreWithin book decisions areas found = (b : Cell) → Contains found b ↔ ((is_open_text book decisions b ≡ true) × (list_any (λ a. within a b) areas ≡ true))

pub none_within : (book : Book) (decisions : List Cell) (found : List Cell) → found ≡ [] → AreWithin book decisions [] found
none_within book decisions found e b = ((λ h. let l = ap length e in absurd (omega (arith, h.1, l))), (λ h. let f = h.1 in cc))

module _ (book : Book) (decisions : List Cell) (areas : List Area) (i : ℕ) (d : Area) (found now : List Cell) (inside : i < length areas) where
  pub one_within : AreWithin book decisions (take i areas) found
      → ((b : Cell) → Contains now b ↔ (Contains found b ⊎ (is_open_within book decisions (get_or areas i d) b ≡ true))) → AreWithin book decisions (take (i + 1) areas) now
  one_within before after b = (there, back)
    where
      more : list_any (λ a. within a b) (take (i + 1) areas) ≡ (list_any (λ a. within a b) (take i areas) || within (get_or areas i d) b)
      more = list_any_more (λ a. within a b) areas i d inside

      either : (p q : Bool) → (p || q) ≡ true → (p ≡ true) ⊎ (q ≡ true)
      either true q h = inl refl
      either false q h = inr h

      or_true : (p : Bool) → (p || true) ≡ true
      or_true true = refl
      or_true false = refl

      there : Contains now b → (is_open_text book decisions b ≡ true) × (list_any (λ a. within a b) (take (i + 1) areas) ≡ true)
      there h = elim ((after b).0 h) as (λ _. (is_open_text book decisions b ≡ true) × (list_any (λ a. within a b) (take (i + 1) areas) ≡ true)) [
        | inl w ↦ let k = (before b).0 w in (k.0, more ∙ ap (λ t. t || within (get_or areas i d) b) k.1)
        | inr w ↦ (
          first_true (is_open_text book decisions b) (within (get_or areas i d) b) w,
          more ∙ ap (λ t. list_any (λ a. within a b) (take i areas) || t) (second_true (is_open_text book decisions b) (within (get_or areas i d) b) w) ∙ or_true _,
        )
      ]

      back : (is_open_text book decisions b ≡ true) × (list_any (λ a. within a b) (take (i + 1) areas) ≡ true) → Contains now b
      back h = (after b).1 (elim (either _ (within (get_or areas i d) b) (sym more ∙ h.1)) as (λ _. Contains found b ⊎ (is_open_within book decisions (get_or areas i d) b ≡ true)) [
        | inl w ↦ inl ((before b).1 (h.0, w))
        | inr w ↦ inr (both (is_open_text book decisions b) (within (get_or areas i d) b) h.0 w)
      ])
