-- Formulas gathered cell by cell.
use Rattle.std.proofs.Common.{◌≡◌, ℕ, zero, suc, ◌+◌, ◌<◌, ◌≤◌, Bool, true, false, ◌&&◌, cond, List, [], ◌∷◌, ◌++◌, length, map, refl, sym, ap, subst, ◌∙◌, arith, ◌⊎◌, inl, inr}
use Rattle.std.specs.Prelude.{not, Option, None, Some, is_some, option_map, slice_get, ◌||◌}
use Rattle.std.specs.Cmp.{tied_itself}
use Rattle.std.specs.FinMap.{contains_key, find, get-from_entries, keys}
use Rattle.std.specs.FinMap.Entries.{find-append}
use Rattle.std.specs.List.{list_any}
use Rattle.std.specs.Ordering.{eq_by_cmp, is_eq, is_lt, ordering_reverse}
use Rattle.std.specs.declared.cmp.Ordering.TheVariants.{Less, Equal, Greater}
use Rattle.std.proofs.lemmas.Option.{same_Some, slice_get-map}
use Rattle.cell_refs.specs.Areas.{Area}
use Rattle.cell_refs.specs.declared.cell.Cell.{Cell}
use Rattle.cell_refs.specs.Cells.{cell_cmp}
use Rattle.cell_refs.proofs.Order.{cells_total, exact_cells}
use Rattle.formula_ast.specs.Measures.{references_of}
use Rattle.recalculation.specs.Entries.{Book, Entry, Constant, Formula as FormulaEntry, Malformed, entry}
use Rattle.recalculation.proofs.Circles.{entry_there, found_text}
use Rattle.recalculation.proofs.Lists.{both}
use Rattle.workbook.specs.declared.text_cell.TextCell.{TextCell}
use Rattle.workbook.specs.Contents.{IsLast, IsNext, IsPast, tree_of}
use Rattle.workbook.specs.Kinds.{book_of}
use Rattle.workbook.specs.State.{State}
use Rattle.workbook.specs.TextCells.{AreTextCells, IsRead, listed_cells}
use Rattle.workbook.proofs.TextCells.{IsChain, are_chain}
use Rattle.column_strips.specs.declared.formulas.Formula.{Formula}
use Rattle.dep_table.specs.Formulas.{AreSorted, pair_of, references_in, with_areas}
use Rattle.dep_table.proofs.Orderings.{is_less, refused}
use Rattle.dep_table.specs.References.{AreReferencesOf, areas_said}

abbrev pub Pairs : Type 0
Pairs = List (Cell × List Area)

-- whether a cell stands behind another, where one is given
abbrev pub is_past : Option Cell → Cell → Bool
is_past None a = true
is_past (Some after) a = is_lt (cell_cmp after a)

past : (after : Option Cell) (a : Cell) → is_past after a ≡ true → IsPast after a
past None a h = tt
past (Some b) a h = is_less _ h

-- what isn't behind a cell comes before what is
comes_before : (after : Option Cell) (a c : Cell) → is_past after a ≡ false → IsPast after c → cell_cmp a c ≡ Less
comes_before None a c h k = cc
comes_before (Some b) a c h k =
    elim (cell_cmp b a) as (λ o. cell_cmp b a ≡ o → is_lt o ≡ false → cell_cmp a c ≡ Less) [
      | Less ↦ λ e h. cc
      | Equal ↦ λ e h. sym (cells_total.congr b a c e) ∙ k
      | Greater ↦ λ e h. cells_total.trans a b c (cells_total.antisymm a b ∙ ap ordering_reverse e) k
    ] refl h

not_past : (c a : Cell) → cell_cmp a c ≡ Less → is_lt (cell_cmp c a) ≡ false
not_past c a h = ap is_lt (cells_total.antisymm c a ∙ ap ordering_reverse h)

not_tied : (a c : Cell) → cell_cmp a c ≡ Less → eq_by_cmp cell_cmp a c ≡ false
not_tied a c h = ap is_eq h

not_tied_back : (a c : Cell) → cell_cmp a c ≡ Less → eq_by_cmp cell_cmp c a ≡ false
not_tied_back a c h = ap is_eq (cells_total.antisymm c a ∙ ap ordering_reverse h)

up_to : (a c : Cell) → is_lt (cell_cmp c a) ≡ false → (cell_cmp a c ≡ Less) ⊎ (a ≡ c)
up_to a c h =
    elim (cell_cmp c a) as (λ o. cell_cmp c a ≡ o → is_lt o ≡ false → (cell_cmp a c ≡ Less) ⊎ (a ≡ c)) [
      | Less ↦ λ e h. cc
      | Equal ↦ λ e h. inr (sym (exact_cells c a e))
      | Greater ↦ λ e h. inl (cells_total.antisymm a c ∙ ap ordering_reverse e)
    ] refl h

-- a list with one more: what stands at a place of it
get_push : {A : Type 0} (xs : List A) (y x : A) (i : ℕ) → slice_get (xs ++ y ∷ []) i ≡ Some x → ((i < length xs) × (slice_get xs i ≡ Some x)) ⊎ ((i ≡ length xs) × (y ≡ x))
get_push [] y x zero h = inr (refl, same_Some y x h)
get_push [] y x (suc i) h = cc
get_push (z ∷ xs) y x zero h = inl (omega arith, h)
get_push {A} (z ∷ xs) y x (suc i) h =
    elim (get_push xs y x i h) as (λ _. ((suc i < suc (length xs)) × (slice_get xs i ≡ Some x)) ⊎ ((suc i ≡ suc (length xs)) × (y ≡ x))) [
      | inl w ↦ inl (omega (arith, w.0), w.1)
      | inr w ↦ inr (ap suc w.0, w.1)
    ]

-- nothing is found at a cell before which all stand
none_found : (es : Pairs) (q : Cell) → ((i : ℕ) (p : Cell × List Area) → slice_get es i ≡ Some p → cell_cmp p.0 q ≡ Less) → find cell_cmp q es ≡ None
none_found [] q h = refl
none_found (e ∷ es) q h =
    ap (λ b. cond b (Some e.1) (find cell_cmp q es)) (not_tied_back e.0 q (h 0 e refl)) ∙ none_found es q (λ i p at. h (suc i) p at)

-- the pairs of the cells up to one
pub record ArePairsUpTo (book : Book) (after : Option Cell) (es : Pairs) : Type 0 where
  pub sorted : (i j : ℕ) (p q : Cell × List Area) → i < j → slice_get es i ≡ Some p → slice_get es j ≡ Some q → cell_cmp p.0 q.0 ≡ Less
  pub behind : (i : ℕ) (p : Cell × List Area) → slice_get es i ≡ Some p → is_past after p.0 ≡ false
  pub before : (a : Cell) → is_past after a ≡ false → find cell_cmp a es ≡ areas_said (entry book a)

pub none_yet : (book : Book) → ArePairsUpTo book None []
none_yet book = record { sorted = λ i j p q h x y. cc; behind = λ i p x. cc; before = λ a h. cc }

-- a cell without a text says nothing
nothing_said : (e : Option Entry) → is_some e ≡ false → areas_said e ≡ None
nothing_said None h = refl
nothing_said (Some e) h = cc

no_areas : (book : Book) (a : Cell) → (contains_key book.texts a ≡ true → ⊥) → areas_said (entry book a) ≡ None
no_areas book a h = nothing_said (entry book a) (refused (is_some (entry book a)) (λ e. h (sym (entry_there book a) ∙ e)))

module _ (book : Book) (after : Option Cell) (cell : Cell) (es : Pairs) (u : ArePairsUpTo book after es) (next : IsNext book.texts after cell) where
  all_before : (i : ℕ) (p : Cell × List Area) → slice_get es i ≡ Some p → cell_cmp p.0 cell ≡ Less
  all_before i p at = comes_before after p.0 cell (u.behind i p at) next.past

  -- at a cell before the next one
  found_before : (a : Cell) → cell_cmp a cell ≡ Less → find cell_cmp a es ≡ areas_said (entry book a)
  found_before a less =
      elim (is_past after a) as (λ b. is_past after a ≡ b → find cell_cmp a es ≡ areas_said (entry book a)) [
        | true ↦ λ h.
            let gone = past after a h in
            none_found es a (λ i p at. comes_before after p.0 a (u.behind i p at) gone) ∙ sym (no_areas book a (λ t. next.least a t gone less))
        | false ↦ λ h. u.before a h
      ] refl

  none_there : find cell_cmp cell es ≡ None
  none_there = none_found es cell all_before

  kept : areas_said (entry book cell) ≡ None → ArePairsUpTo book (Some cell) es
  kept none = record {
    sorted = u.sorted;
    behind = λ i p at. not_past cell p.0 (all_before i p at);
    before = λ a h. elim (up_to a cell h) as (λ _. find cell_cmp a es ≡ areas_said (entry book a)) [
      | inl less ↦ found_before a less
      | inr e ↦ ap (λ x. find cell_cmp x es) e ∙ none_there ∙ sym (ap (λ x. areas_said (entry book x)) e ∙ none)
    ];
  }

  added : (areas : List Area) → areas_said (entry book cell) ≡ Some areas → ArePairsUpTo book (Some cell) (es ++ (cell, areas) ∷ [])
  added areas said = record {
    sorted = λ i j p q h x y. elim (get_push es (cell, areas) q j y) as (λ _. cell_cmp p.0 q.0 ≡ Less) [
      | inl w ↦ elim (get_push es (cell, areas) p i x) as (λ _. cell_cmp p.0 q.0 ≡ Less) [
        | inl v ↦ u.sorted i j p q h v.1 w.1
        | inr v ↦ absurd (omega (arith, v.0, w.0))
      ]
      | inr w ↦ elim (get_push es (cell, areas) p i x) as (λ _. cell_cmp p.0 q.0 ≡ Less) [
        | inl v ↦ ap (λ (z : Cell × List Area). cell_cmp p.0 z.0) (sym w.1) ∙ all_before i p v.1
        | inr v ↦ absurd (omega (arith, v.0, w.0))
      ]
    ];
    behind = λ i p x. elim (get_push es (cell, areas) p i x) as (λ _. is_lt (cell_cmp cell p.0) ≡ false) [
      | inl v ↦ not_past cell p.0 (all_before i p v.1)
      | inr v ↦ ap (λ (z : Cell × List Area). is_lt (cell_cmp cell z.0)) (sym v.1) ∙ ap is_lt (tied_itself cells_total cell)
    ];
    before = λ a h. find-append cell_cmp cells_total es cell areas a none_there
        ∙ elim (up_to a cell h) as (λ _. cond (eq_by_cmp cell_cmp a cell) (Some areas) (find cell_cmp a es) ≡ areas_said (entry book a)) [
          | inl less ↦ ap (λ b. cond b (Some areas) (find cell_cmp a es)) (not_tied a cell less) ∙ found_before a less
          | inr e ↦
              ap (λ x. cond (eq_by_cmp cell_cmp x cell) (Some areas) (find cell_cmp a es)) e
              ∙ ap (λ b. cond b (Some areas) (find cell_cmp a es)) (ap is_eq (tied_itself cells_total cell))
              ∙ sym (ap (λ x. areas_said (entry book x)) e ∙ said)
        ];
  }

-- with what the next cell says
pub with_next : (book : Book) (after : Option Cell) (cell : Cell) (es fs : Pairs) → ArePairsUpTo book after es → IsNext book.texts after cell
    → fs ≡ with_areas es cell (areas_said (entry book cell)) → ArePairsUpTo book (Some cell) fs
with_next book after cell es fs u next same =
    elim (areas_said (entry book cell)) as (λ o. areas_said (entry book cell) ≡ o → fs ≡ with_areas es cell o → ArePairsUpTo book (Some cell) fs) [
      | None ↦ λ e h. subst (ArePairsUpTo book (Some cell)) (sym h) (kept book after cell es u next e)
      | Some areas ↦ λ e h. subst (ArePairsUpTo book (Some cell)) (sym h) (added book after cell es u next areas e)
    ] refl same

-- where no cell is left these are the references of the workbook
pub all_gathered : (book : Book) (after : Option Cell) (formulas : List Formula) → ArePairsUpTo book after (map pair_of formulas) → IsLast book.texts after
    → AreReferencesOf (references_in formulas) book
all_gathered book after formulas u last a =
    get-from_entries cells_total (map pair_of formulas) a
    ∙ elim (is_past after a) as (λ b. is_past after a ≡ b → find cell_cmp a (map pair_of formulas) ≡ areas_said (entry book a)) [
      | true ↦ λ h.
          let gone = past after a h in
          none_found (map pair_of formulas) a (λ i p at. comes_before after p.0 a (u.behind i p at) gone) ∙ sym (no_areas book a (λ t. last a t gone))
      | false ↦ λ h. u.before a h
    ] refl

pub are_sorted : (book : Book) (after : Option Cell) (formulas : List Formula) → ArePairsUpTo book after (map pair_of formulas) → AreSorted formulas
are_sorted book after formulas u i j f g h x y =
    u.sorted i j (pair_of f) (pair_of g) h (slice_get-map pair_of formulas i ∙ ap (option_map pair_of) x) (slice_get-map pair_of formulas j ∙ ap (option_map pair_of) y)

-- ---- cells that are listed
-- the formulas of the cells before those of a list
abbrev pub HasCome : State → List TextCell → Pairs → Type 0
HasCome state left es = (after : Option Cell) × ArePairsUpTo (book_of state) after es × IsChain state.contents after (listed_cells left)

pub at_first : (state : State) (found : List TextCell) → AreTextCells state.contents (listed_cells found) → HasCome state found []
at_first state found are = (None, none_yet (book_of state), are_chain state.contents (listed_cells found) are)

mapped_twice : {A B C : Type 0} (g : B → C) (f : A → B) (o : Option A) → option_map g (option_map f o) ≡ option_map (λ a. g (f a)) o
mapped_twice g f None = refl
mapped_twice g f (Some a) = refl

-- what a formula's tree says
said_by : (e : Option Entry) → option_map references_of (tree_of e) ≡ areas_said e
said_by None = refl
said_by (Some (Constant v)) = refl
said_by (Some (FormulaEntry t)) = refl
said_by (Some Malformed) = refl

pub with_cell : (state : State) (e : TextCell) (left : List TextCell) (es fs : Pairs) → IsRead state e → HasCome state (e ∷ left) es
    → fs ≡ with_areas es e.cell (option_map (λ t. references_of t.now) e.tree) → HasCome state left fs
with_cell state e left es fs read has same = (
  Some e.cell,
  with_next (book_of state) has.0 e.cell es fs has.1 has.2.0
      (same ∙ ap (with_areas es e.cell) (sym (mapped_twice references_of (λ t. t.now) e.tree) ∙ ap (option_map references_of) read.tree ∙ said_by (entry (book_of state) e.cell))),
  has.2.1,
)

pub all_come : (state : State) (formulas : List Formula) → HasCome state [] (map pair_of formulas) → AreReferencesOf (references_in formulas) (book_of state)
all_come state formulas has = all_gathered (book_of state) has.0 formulas has.1 has.2

pub sorted_come : (state : State) (left : List TextCell) (formulas : List Formula) → HasCome state left (map pair_of formulas) → AreSorted formulas
sorted_come state left formulas has = are_sorted (book_of state) has.0 formulas has.1

-- ---- fewer cells are left
-- how many cells pass a test
abbrev pub passing : (Cell → Bool) → List Cell → ℕ
passing p [] = 0
passing p (x ∷ xs) = cond (p x) 1 0 + passing p xs

no_more : (p q : Cell → Bool) → ((x : Cell) → q x ≡ true → p x ≡ true) → (xs : List Cell) → passing q xs ≤ passing p xs
no_more p q w [] = omega arith
no_more p q w (x ∷ xs) =
    let rest = no_more p q w xs in
    elim (q x) as (λ t. q x ≡ t → cond t 1 0 + passing q xs ≤ cond (p x) 1 0 + passing p xs) [
      | true ↦ λ e. let f : ◌≡◌ {A = ℕ} (cond (p x) 1 0) 1 = ap (λ t. cond t 1 0) (w x e) in omega (arith, f, rest)
      | false ↦ λ e. omega (arith, rest)
    ] refl

fewer : (p q : Cell → Bool) → ((x : Cell) → q x ≡ true → p x ≡ true) → (xs : List Cell) → list_any (λ x. p x && not (q x)) xs ≡ true → passing q xs < passing p xs
fewer p q w [] h = cc
fewer p q w (x ∷ xs) h =
    elim (p x) as (λ t. p x ≡ t → ((t && not (q x)) || list_any (λ x. p x && not (q x)) xs) ≡ true → cond (q x) 1 0 + passing q xs < cond t 1 0 + passing p xs) [
      | true ↦ λ e. elim (q x) as (λ t. (not t || list_any (λ x. p x && not (q x)) xs) ≡ true → cond t 1 0 + passing q xs < 1 + passing p xs) [
        | true ↦ λ h. let rest = fewer p q w xs h in omega (arith, rest)
        | false ↦ λ h. let rest = no_more p q w xs in omega (arith, rest)
      ]
      | false ↦ λ e h.
          let rest = fewer p q w xs h in
          elim (q x) as (λ t. q x ≡ t → cond t 1 0 + passing q xs < 0 + passing p xs) [
            | true ↦ λ f. let g = w x f in cc
            | false ↦ λ f. omega (arith, rest)
          ] refl
    ] refl h

is_behind : (after : Option Cell) (c : Cell) → IsPast after c → is_past after c ≡ true
is_behind None c h = refl
is_behind (Some b) c h = ap is_lt h

still_past : (after : Option Cell) (c x : Cell) → IsPast after c → is_lt (cell_cmp c x) ≡ true → is_past after x ≡ true
still_past None c x h k = refl
still_past (Some b) c x h k = ap is_lt (cells_total.trans b c x h (is_less _ k))

pub fewer_left : (book : Book) (after : Option Cell) (cell : Cell) → IsNext book.texts after cell
    → passing (is_past (Some cell)) (keys book.texts) < passing (is_past after) (keys book.texts)
fewer_left book after cell next =
    fewer (is_past after) (is_past (Some cell)) (λ x h. still_past after cell x next.past h) (keys book.texts)
    (found_text book cell (λ x. is_past after x && not (is_past (Some cell) x)) next.text
    (both (is_past after cell) _ (is_behind after cell next.past) (ap (λ o. not (is_lt o)) (tied_itself cells_total cell))))
