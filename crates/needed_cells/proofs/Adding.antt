-- Cells that are added to those that are found.
use Rattle.std.specs.Prelude.{if◌then◌else◌}
use Rattle.std.proofs.Common.{◌≡◌, ℕ, zero, suc, ◌+◌, ◌<◌, ◌≤◌, Bool, true, false, List, [], ◌∷◌, ◌++◌, get_or, length, take, Contains, refl, sym, ap, subst, ◌∙◌, arith, ◌⊎◌, inl, inr, length-append}
use Rattle.std.specs.FinSet as set
use Rattle.std.proofs.lemmas.List.{take_more}
use Rattle.std.proofs.lemmas.List.Elements.{Contains-append_left, Contains-append_right, Contains-append_cases}
use Rattle.cell_refs.specs.declared.cell.Cell.{Cell}
use Rattle.cell_refs.specs.Cells.{cell_cmp}
use Rattle.dep_table.proofs.Sets.{had, has_new, has_old}
use Rattle.needed_cells.specs.Finding.{AreAdded, Has, not_found}

abbrev pub CellSet : Type 0
CellSet = set.FinSet cell_cmp

-- the only cell of a list of one
pub only_one : (x c : Cell) → Contains (x ∷ []) c → x ≡ c
only_one x c (zero, i, e) = e
only_one x c (suc n, i, e) = absurd (omega (arith, i))

pub that_one : (x c : Cell) → x ≡ c → Contains (x ∷ []) c
that_one x c e = (0, omega arith, e)

-- ---- how many aren't found yet
module _ (found later : CellSet) (kept : (c : Cell) → Has found c → Has later c) where
  no_more : (texts : List Cell) → not_found texts later ≤ not_found texts found
  unfolding not_found
  no_more [] = omega arith
  no_more (x ∷ texts) =
      let rest = no_more texts in
      by (set.contains found x) refl (set.contains later x) refl rest
    where
      by : (b : Bool) → set.contains found x ≡ b → (l : Bool) → set.contains later x ≡ l → not_found texts later ≤ not_found texts found
          → (if l then 0 else 1) + not_found texts later ≤ (if b then 0 else 1) + not_found texts found
      by true e true f rest = omega (arith, rest)
      by true e false f rest = let g = kept x e in cc
      by false e true f rest = omega (arith, rest)
      by false e false f rest = omega (arith, rest)

  fewer : (c : Cell) → set.contains found c ≡ false → Has later c → (texts : List Cell) → Contains texts c → not_found texts later < not_found texts found
  unfolding not_found
  fewer c new h [] i = absurd (omega (arith, i.1))
  fewer c new h (x ∷ texts) (zero, i, e) =
      let rest = no_more texts in
      let one : ◌≡◌ {A = ℕ} (if set.contains found x then 0 else 1) 1 = ap (λ b. if b then 0 else 1) (ap (set.contains found) e ∙ new) in
      let none : ◌≡◌ {A = ℕ} (if set.contains later x then 0 else 1) 0 = ap (λ b. if b then 0 else 1) (ap (set.contains later) e ∙ h) in
      omega (arith, rest, one, none)
  fewer c new h (x ∷ texts) (suc n, i, e) =
      by (set.contains found x) refl (set.contains later x) refl (fewer c new h texts (n, omega (arith, i), e))
    where
      by : (b : Bool) → set.contains found x ≡ b → (l : Bool) → set.contains later x ≡ l → not_found texts later < not_found texts found
          → (if l then 0 else 1) + not_found texts later < (if b then 0 else 1) + not_found texts found
      by true e true f rest = omega (arith, rest)
      by true e false f rest = let g = kept x e in cc
      by false e true f rest = omega (arith, rest)
      by false e false f rest = omega (arith, rest)

-- ---- no cell, one, and more
pub none_added : (found : CellSet) (pending : List Cell) → AreAdded [] found pending found pending
none_added found pending = record {
  kept = λ c h. h;
  added = λ c h. absurd (omega (arith, h.1));
  only = λ c h. inl h;
  still = λ c h. h;
  fresh = λ c h. inl h;
  from = λ c h. inl h;
  fewer = λ texts h. omega arith;
}

pub one_there : (cell : Cell) (found : CellSet) (pending : List Cell) → Has found cell → AreAdded (cell ∷ []) found pending found pending
one_there cell found pending there = record {
  kept = λ c h. h;
  added = λ c h. subst (Has found) (only_one cell c h) there;
  only = λ c h. inl h;
  still = λ c h. h;
  fresh = λ c h. inl h;
  from = λ c h. inl h;
  fewer = λ texts h. omega arith;
}

pub one_new : (cell : Cell) (found : CellSet) (pending : List Cell) → set.contains found cell ≡ false
    → AreAdded (cell ∷ []) found pending (set.insert found cell) (pending ++ cell ∷ [])
one_new cell found pending new = record {
  kept = has_old found cell;
  added = λ c h. subst (Has (set.insert found cell)) (only_one cell c h) (has_new found cell);
  only = λ c h. elim (had found cell c h) as (λ _. Has found c ⊎ Contains (cell ∷ []) c) [ inl e ↦ inr (that_one cell c (sym e)) | inr k ↦ inl k ];
  still = λ c h. Contains-append_left pending (cell ∷ []) c h;
  fresh = λ c h. elim (had found cell c h) as (λ _. Has found c ⊎ Contains (pending ++ cell ∷ []) c) [
    | inl e ↦ inr (Contains-append_right pending (cell ∷ []) c (that_one cell c (sym e)))
    | inr k ↦ inl k
  ];
  from = λ c h. Contains-append_cases pending (cell ∷ []) c h;
  fewer = λ texts h.
      let less = fewer found (set.insert found cell) (has_old found cell) cell new (has_new found cell) texts (h cell (that_one cell cell refl)) in
      let longer = length-append pending (cell ∷ []) in
      omega (arith, less, longer);
}

pub both_added : (xs ys : List Cell) (found later last : CellSet) (pending waiting left : List Cell) → AreAdded xs found pending later waiting → AreAdded ys later waiting last left
    → AreAdded (xs ++ ys) found pending last left
both_added xs ys found later last pending waiting left a b = record {
  kept = λ c h. b.kept c (a.kept c h);
  added = λ c h. elim (Contains-append_cases xs ys c h) as (λ _. Has last c) [ inl w ↦ b.kept c (a.added c w) | inr w ↦ b.added c w ];
  only = λ c h. elim (b.only c h) as (λ _. Has found c ⊎ Contains (xs ++ ys) c) [
    | inl w ↦ elim (a.only c w) as (λ _. Has found c ⊎ Contains (xs ++ ys) c) [ inl v ↦ inl v | inr v ↦ inr (Contains-append_left xs ys c v) ]
    | inr w ↦ inr (Contains-append_right xs ys c w)
  ];
  still = λ c h. b.still c (a.still c h);
  fresh = λ c h. elim (b.fresh c h) as (λ _. Has found c ⊎ Contains left c) [
    | inl w ↦ elim (a.fresh c w) as (λ _. Has found c ⊎ Contains left c) [ inl v ↦ inl v | inr v ↦ inr (b.still c v) ]
    | inr w ↦ inr w
  ];
  from = λ c h. elim (b.from c h) as (λ _. Contains pending c ⊎ Contains (xs ++ ys) c) [
    | inl w ↦ elim (a.from c w) as (λ _. Contains pending c ⊎ Contains (xs ++ ys) c) [ inl v ↦ inl v | inr v ↦ inr (Contains-append_left xs ys c v) ]
    | inr w ↦ inr (Contains-append_right xs ys c w)
  ];
  fewer = λ texts h.
      let first = a.fewer texts (λ c k. h c (Contains-append_left xs ys c k)) in
      let second = b.fewer texts (λ c k. h c (Contains-append_right xs ys c k)) in
      omega (arith, first, second);
}

-- one more of a list
pub more_added : (cells : List Cell) (i : ℕ) (d : Cell) (found later last : CellSet) (pending waiting left : List Cell) → i < length cells
    → AreAdded (take i cells) found pending later waiting → AreAdded (get_or cells i d ∷ []) later waiting last left → AreAdded (take (i + 1) cells) found pending last left
more_added cells i d found later last pending waiting left within a b =
    subst (λ xs. AreAdded xs found pending last left) (sym (take_more cells i d within))
    (both_added (take i cells) (get_or cells i d ∷ []) found later last pending waiting left a b)
