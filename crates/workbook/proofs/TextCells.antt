-- The cells with a text, as they are listed.
use Rattle.std.proofs.Common.{◌≡◌, ◌≢◌, ◌∙◌, ◌↔◌, ℕ, zero, suc, true, List, [], ◌∷◌, map, Option, Some, None, refl, sym, ap, subst, arith}
use Rattle.std.specs.Prelude.{All, Contains, option_map, unwrap_or}
use Rattle.std.proofs.lemmas.Map.Views.{All-after_first, Contains-keys_from_lookup, IsSome-lookup_from_Contains, tells_apart}
use Rattle.std.proofs.lemmas.Simd.{map-map}
use Rattle.std.specs.Cmp.{eq_by_cmp_equiv, tied_itself}
use Rattle.std.specs.Ordering.{ordering_reverse}
use Rattle.std.specs.declared.cmp.Ordering.TheVariants.{Less, Equal, Greater}
use Rattle.std.specs.FinMap.{contains_key}
use Rattle.std.specs.List.Sorted.{IsStrictlySortedBy}
use Rattle.std.specs.Map.{keys_of}
use Rattle.cell_refs.specs.declared.cell.Cell.{Cell}
use Rattle.cell_refs.specs.Cells.{cell_cmp}
use Rattle.cell_refs.proofs.Order.{cells_total, exact_cells}
use Rattle.formula_ast.specs.Tree.{Tree}
use Rattle.recalculation.specs.Entries.{Contents, entry}
use Rattle.workbook.specs.declared.held.Held.{Held}
use Rattle.workbook.specs.declared.kind.Kind.{Kind}
use Rattle.workbook.specs.declared.text_cell.TextCell.{TextCell}
use Rattle.workbook.specs.Contents.{IsLast, IsNext, IsPast, content_of, kind_of, tree_of}
use Rattle.workbook.specs.Held.{IsKept, contents_of, entry_of, held_at}
use Rattle.workbook.specs.Kinds.{book_of}
use Rattle.workbook.specs.State.{Name}
use Rattle.workbook.specs.TextCells.{AreTextCells, IsRead, listed_cells}
use Rattle.workbook.proofs.Keeping.{HeldCells, content_held, entry_held, has_text, says_held, text_held, the_state}

-- what is read of a cell
abbrev pub Read : Type 0
Read = Cell × List ℕ × Kind × Option Tree

abbrev pub read_of : TextCell → Read
read_of e = (e.cell, e.text.now, e.kind, option_map (λ t. t.now) e.tree)

abbrev pub read_held : Cell × Held → Read
read_held e = (e.0, e.1.text, kind_of (Some (entry_of e.1.text e.1.said)), tree_of (Some (entry_of e.1.text e.1.said)))

with_first : {X : Type 0} (P : X → Type 0) (x : X) (xs : List X) → P x → All P xs → All P (x ∷ xs)
with_first P x xs here there zero d l = here
with_first P x xs here there (suc k) d l = there k d (omega (arith, l))

-- the cells that are read are those that are held
same_cells : (es : HeldCells) (found : List TextCell) → map read_of found ≡ map read_held es → listed_cells found ≡ keys_of es
same_cells es found same = sym (map-map (λ (r : Read). r.0) read_of found) ∙ ap (map (λ (r : Read). r.0)) same ∙ map-map (λ (r : Read). r.0) read_held es

is_listed : (es : HeldCells) (q : Cell) → Contains (keys_of es) q ↔ (contains_key (contents_of es) q ≡ true)
is_listed es q = (
  (λ there. has_text es q ∙ IsSome-lookup_from_Contains (eq_by_cmp_equiv cells_total) q es there),
  (λ some. Contains-keys_from_lookup (tells_apart exact_cells) q es (sym (has_text es q) ∙ some)),
)

pub are_text_cells : (es : HeldCells) (found : List TextCell) → IsStrictlySortedBy cell_cmp (keys_of es) → map read_of found ≡ map read_held es
    → AreTextCells (contents_of es) (listed_cells found)
are_text_cells es found sorted same = subst (AreTextCells (contents_of es)) (sym (same_cells es found same)) (record { sorted = sorted; all = is_listed es })

-- ---- cells that come one after another
-- each is the next behind the one before it, and the last of all comes last
abbrev pub IsChain : Contents → Option Cell → List Cell → Type 0
IsChain contents after [] = IsLast contents after
IsChain contents after (cell ∷ cells) = IsNext contents after cell × IsChain contents (Some cell) cells

past_both : (after : Option Cell) (cell q : Cell) → IsPast after cell → cell_cmp cell q ≡ Less → IsPast after q
past_both None cell q past less = tt
past_both (Some b) cell q past less = cells_total.trans b cell q past less

not_itself : (cell q : Cell) → cell ≡ q → cell_cmp cell q ≢ Less
not_itself cell q same less = let e : cell_cmp cell q ≡ Equal = ap (cell_cmp cell) (sym same) ∙ tied_itself cells_total cell in cc

not_both : (cell q : Cell) → cell_cmp cell q ≡ Less → cell_cmp q cell ≢ Less
not_both cell q less other = let e : cell_cmp cell q ≡ Greater = cells_total.antisymm cell q ∙ ap ordering_reverse other in cc

behind_first : (cell : Cell) (cells : List Cell) (q : Cell) → Contains (cell ∷ cells) q → cell ≢ q → Contains cells q
behind_first cell cells q (zero, l, at) other = absurd (other at)
behind_first cell cells q (suc k, l, at) other = (k, omega (arith, l), at)

later : (cell : Cell) (cells : List Cell) (q : Cell) → All (λ c. cell_cmp cell c ≡ Less) cells → Contains cells q → cell_cmp cell q ≡ Less
later cell cells q all (k, l, at) = ap (cell_cmp cell) (sym at) ∙ all k q l

before_none : (cell : Cell) (cells : List Cell) (q : Cell) → All (λ c. cell_cmp cell c ≡ Less) cells → Contains (cell ∷ cells) q → cell_cmp q cell ≢ Less
before_none cell cells q all (zero, l, at) = λ less. not_itself q cell (sym at) less
before_none cell cells q all (suc k, l, at) = not_both cell q (later cell cells q all (k, omega (arith, l), at))

chain_behind : (contents : Contents) (after : Option Cell) (cells : List Cell) → IsStrictlySortedBy cell_cmp cells → All (IsPast after) cells
    → ((q : Cell) → Contains cells q → contains_key contents q ≡ true) → ((q : Cell) → contains_key contents q ≡ true → IsPast after q → Contains cells q)
    → IsChain contents after cells
unfolding IsStrictlySortedBy
chain_behind contents after [] sorted past has all = λ q text behind. let found = all q text behind in absurd (omega (arith, found.1))
chain_behind contents after (cell ∷ cells) sorted past has all =
    let behind = All-after_first cell_cmp cell cells sorted in (
      (record {
        text = has cell (0, omega arith, refl);
        past = past 0 cell (omega arith);
        least = λ q text gone. before_none cell cells q behind (all q text gone);
      }),
      chain_behind contents (Some cell) cells sorted.1 behind (λ q there. has q (suc there.0, omega (arith, there.1), there.2))
          (λ q text less. behind_first cell cells q (all q text (past_both after cell q (past 0 cell (omega arith)) less)) (λ same. not_itself cell q same less)),
    )

-- the cells with a text come one after another
pub are_chain : (contents : Contents) (cells : List Cell) → AreTextCells contents cells → IsChain contents None cells
are_chain contents cells are = chain_behind contents None cells are.sorted (λ k d l. tt) (λ q there. (are.all q).0 there) (λ q text past. (are.all q).1 text)

-- ---- what is read
module _ (sheets : List (List ℕ)) (names : List Name) (es : HeldCells) (formulas : ℕ) (kept : IsKept sheets names es formulas) where
  is_read : (e : TextCell) (f : Cell × Held) → read_of e ≡ read_held f → held_at es f.0 ≡ Some f.1 → IsRead (the_state sheets (contents_of es) names) e
  is_read e f same at =
      let said : entry (book_of (the_state sheets (contents_of es) names)) f.0 ≡ Some (entry_of f.1.text f.1.said) = entry_held sheets names es f.0 formulas kept ∙ ap says_held at in
      let cell : e.cell ≡ f.0 = ap (λ (r : Read). r.0) same in
      record {
        text = ap (λ (r : Read). r.1) same ∙ ap (λ o. unwrap_or (text_held o) []) (sym at) ∙ sym (content_held es f.0) ∙ ap (content_of (contents_of es)) (sym cell);
        kind = ap (λ (r : Read). r.2) same ∙ ap kind_of (sym said) ∙ ap (λ c. kind_of (entry (book_of (the_state sheets (contents_of es) names)) c)) (sym cell);
        tree = ap (λ (r : Read). r.3) same ∙ ap tree_of (sym said) ∙ ap (λ c. tree_of (entry (book_of (the_state sheets (contents_of es) names)) c)) (sym cell);
      }

  pub all_read : (fs : HeldCells) (found : List TextCell) → All (λ (f : Cell × Held). held_at es f.0 ≡ Some f.1) fs → map read_of found ≡ map read_held fs
      → All (IsRead (the_state sheets (contents_of es) names)) found
  all_read [] [] at same = λ k d l. absurd (omega (arith, l))
  all_read [] (e ∷ found) at same = absurd cc
  all_read (f ∷ fs) [] at same = absurd cc
  all_read (f ∷ fs) (e ∷ found) at same =
      let first : read_of e ≡ read_held f = cc in
      let others : map read_of found ≡ map read_held fs = cc in
      with_first (IsRead (the_state sheets (contents_of es) names)) e found (is_read e f first (at 0 f (omega arith)))
      (all_read fs found (λ k d l. at (suc k) d (omega (arith, l))) others)
