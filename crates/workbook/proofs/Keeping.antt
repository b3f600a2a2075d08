-- What holds of a workbook goes on holding where a text is put or taken away.
use Rattle.std.proofs.Common.{◌≡◌, ℕ, suc, ◌+◌, ◌≤◌, ◌-◌, Bool, true, false, cond, List, [], ◌∷◌, map, length, Option, Some, None, refl, sym, ap, subst, ◌∙◌, arith}
use Rattle.std.specs.Prelude.{◌&&◌, ◌==◌, All, filter, nat_le, nat_lt, not, option_map, unwrap_or, is_some}
use Rattle.std.proofs.lemmas.Bool.{eqb-true}
use Rattle.std.proofs.lemmas.Bool.Decides.{nat_tests}
use Rattle.std.specs.Ordering.{is_eq}
use Rattle.std.specs.declared.cmp.Ordering.{Ordering}
use Rattle.std.specs.declared.cmp.Ordering.TheVariants.{Less, Equal, Greater}
use Rattle.std.specs.Cmp.{eq_by_cmp_equiv}
use Rattle.std.specs.Map.{lookup}
use Rattle.std.specs.BTreeMap.{is_at}
use Rattle.std.specs.FinMap.{empty, get, insert, remove, len-empty, contains_key, len-entries, len-insert, len-remove, get-remove, same_map, entries}
use Rattle.cell_refs.specs.declared.cell.Cell.{Cell}
use Rattle.cell_refs.specs.Cells.{cell_cmp}
use Rattle.cell_refs.proofs.Order.{cells_total, exact_cells, get_cell, one_given}
use Rattle.recalculation.specs.Entries.{Contents, Entry}
use Rattle.workbook.specs.declared.held.Held.{Held}
use Rattle.cell_refs.specs.declared.limits.TheConstants.{FORMULAS, TEXTS}
use Rattle.workbook.specs.Contents.{content_of}
use Rattle.workbook.specs.Held.{IsHeld, IsKept, contents_of, entry_of, held_at, text_entry}
use Rattle.workbook.specs.Room.{HasRoom}
use Rattle.workbook.specs.Kinds.{says}
use Rattle.workbook.specs.State.{Name, State, formula_count, is_formula_text, text_count, with_text}
use Rattle.workbook.specs.Scoped.{IsShort}
use Rattle.workbook.proofs.Gathering.{few_formulas}
use Rattle.workbook.proofs.Counting.{formulas_put, formulas_removed, one}

abbrev pub HeldCells : Type 0
HeldCells = List (Cell × Held)

abbrev pub text_held : Option Held → Option (List ℕ)
text_held o = option_map (λ (h : Held). h.text) o

abbrev pub the_state : List (List ℕ) → Contents → List Name → State
the_state sheets contents names = record { sheets = sheets; contents = contents; names = names }

-- ---- what is found
mapped : (b : Bool) (h : Held) (o : Option Held) → cond b (Some h.text) (text_held o) ≡ text_held (cond b (Some h) o)
mapped true h o = refl
mapped false h o = refl

pub lookup-texts : (t : Cell → Bool) (es : List (Cell × Held)) → lookup t (map text_entry es) ≡ text_held (lookup t es)
lookup-texts t [] = refl
lookup-texts t (e ∷ es) = ap (cond (t e.0) (Some e.1.text)) (lookup-texts t es) ∙ mapped (t e.0) e.1 (lookup t es)

pub get_text : (es : List (Cell × Held)) (q : Cell) → get (contents_of es) q ≡ text_held (lookup (is_at (cell_cmp q)) es)
get_text es q = get_cell (map text_entry es) q ∙ lookup-texts (is_at (cell_cmp q)) es

-- ---- texts that are put or taken away
pub text_put : (es fs : List (Cell × Held)) (k : Cell) (h : Held)
    → ((q : Cell) → lookup (is_at (cell_cmp q)) fs ≡ cond (is_at (cell_cmp k) q) (Some h) (lookup (is_at (cell_cmp q)) es))
    → contents_of fs ≡ insert (contents_of es) k h.text
text_put es fs k h is = one_given (map text_entry es) (map text_entry fs) k h.text (λ q.
    lookup-texts (is_at (cell_cmp q)) fs ∙ ap text_held (is q) ∙ sym (mapped (is_at (cell_cmp k) q) h (lookup (is_at (cell_cmp q)) es))
    ∙ ap (cond (is_at (cell_cmp k) q) (Some h.text)) (sym (lookup-texts (is_at (cell_cmp q)) es)))

none_mapped : (b : Bool) (o : Option Held) → text_held (cond b None o) ≡ cond b None (text_held o)
none_mapped true o = refl
none_mapped false o = refl

pub text_taken : (es fs : List (Cell × Held)) (k : Cell)
    → ((q : Cell) → lookup (is_at (cell_cmp q)) fs ≡ cond (is_at (cell_cmp k) q) None (lookup (is_at (cell_cmp q)) es))
    → contents_of fs ≡ remove (contents_of es) k
text_taken es fs k is = same_map cells_total exact_cells (contents_of fs) (remove (contents_of es) k) (λ q.
    get_text fs q ∙ ap text_held (is q) ∙ none_mapped (is_at (cell_cmp k) q) (lookup (is_at (cell_cmp q)) es)
    ∙ ap (cond (is_at (cell_cmp k) q) None) (sym (get_text es q))
    ∙ ap (λ b. cond b None (get (contents_of es) q)) ((eq_by_cmp_equiv cells_total).symm k q)
    ∙ sym (get-remove cells_total (contents_of es) k q))

-- ---- what holds
some_is : (o : Option Held) → is_some (text_held o) ≡ is_some o
some_is None = refl
some_is (Some h) = refl

pub equal_of : (r : Ordering) → is_eq r ≡ true → r ≡ Equal
equal_of Less e = absurd cc
equal_of Equal e = refl
equal_of Greater e = absurd cc

pub same_held : (a b : Held) → Some a ≡ Some b → a ≡ b
same_held a b e = ap (λ o. unwrap_or o a) e

-- whether the cell has a text
pub has_text : (m : HeldCells) (k : Cell) → contains_key (contents_of m) k ≡ is_some (held_at m k)
has_text m k = ap is_some (get_text m k) ∙ some_is (held_at m k)

pub content_held : (m : HeldCells) (k : Cell) → content_of (contents_of m) k ≡ unwrap_or (text_held (held_at m k)) []
content_held m k = ap (λ o. unwrap_or o []) (get_text m k)

pub count_put : (c : Contents) (k : Cell) (v : List ℕ) → text_count (insert c k v) ≡ cond (contains_key c k) (text_count c) (text_count c + 1)
count_put c k v = sym (len-entries (insert c k v)) ∙ len-insert cells_total c k v ∙ ap (λ n. cond (contains_key c k) n (n + 1)) (len-entries c)

pub count_removed : (c : Contents) (k : Cell) → text_count (remove c k) ≡ cond (contains_key c k) (text_count c - 1) (text_count c)
count_removed c k = sym (len-entries (remove c k)) ∙ len-remove cells_total c k ∙ ap (λ n. cond (contains_key c k) (n - 1) n) (len-entries c)

one_more : (b : Bool) (a n m : ℕ) → a ≡ n + cond b 0 1 → m ≡ n → a ≡ cond b m (m + 1)
one_more true a n m e f = omega arith
one_more false a n m e f = omega arith

one_less : (b : Bool) (a n m : ℕ) → a + cond b 1 0 ≡ n → m ≡ n → a ≡ cond b (m - 1) m
one_less true a n m e f = omega arith
one_less false a n m e f = omega arith

module _ (sheets : List (List ℕ)) (names : List Name) (m n : HeldCells) (k : Cell) (formulas count : ℕ) (kept : IsKept sheets names m formulas) where
  module _ (h : Held) (own : IsHeld sheets names k h) (room : HasRoom (contents_of m) k h.text)
      (is : (q : Cell) → held_at n q ≡ cond (is_at (cell_cmp k) q) (Some h) (held_at m q))
      (longer : length n ≡ length m + cond (is_some (held_at m k)) 0 1)
      (sum : count + one (is_formula_text (content_of (contents_of m) k)) ≡ formulas + one (is_formula_text h.text)) where
    at_key : (q : Cell) (g : Held) → is_eq (cell_cmp k q) ≡ true → Some h ≡ Some g → IsHeld sheets names q g
    at_key q g same e = subst (IsHeld sheets names q) (same_held h g e) (subst (λ a. IsHeld sheets names a h) (exact_cells k q (equal_of (cell_cmp k q) same)) own)

    each : (q : Cell) (g : Held) (b : Bool) → is_at (cell_cmp k) q ≡ b → cond b (Some h) (held_at m q) ≡ Some g → IsHeld sheets names q g
    each q g true t e = at_key q g t e
    each q g false t e = kept.held q g e

    put_contents : contents_of n ≡ insert (contents_of m) k h.text
    put_contents = text_put m n k h is

    put_length : length n ≡ text_count (contents_of n)
    put_length =
        one_more (is_some (held_at m k)) (length n) (length m) (text_count (contents_of m)) longer (sym kept.counted)
        ∙ ap (λ b. cond b (text_count (contents_of m)) (text_count (contents_of m) + 1)) (sym (has_text m k))
        ∙ sym (ap text_count put_contents ∙ count_put (contents_of m) k h.text)

    put_number : count ≡ formula_count (contents_of n)
    put_number =
        let a = formulas_put (contents_of m) k h.text in
        let b = kept.numbered in
        let c : formula_count (contents_of n) ≡ formula_count (insert (contents_of m) k h.text) = ap formula_count put_contents in
        omega arith

    pub kept_put : IsKept sheets names n count
    kept_put = record {
      short = kept.short;
      held = λ q g e. each q g (is_at (cell_cmp k) q) refl (sym (is q) ∙ e);
      counted = put_length;
      few = let a = room.texts in let b = put_length in let c : text_count (contents_of n) ≡ text_count (insert (contents_of m) k h.text) = ap text_count put_contents in omega arith;
      numbered = put_number;
      few_formulas = let a = room.formulas in let b = put_number in let c : formula_count (contents_of n) ≡ formula_count (insert (contents_of m) k h.text) = ap formula_count put_contents in omega arith;
    }

  module _ (is : (q : Cell) → held_at n q ≡ cond (is_at (cell_cmp k) q) None (held_at m q))
      (shorter : length n + cond (is_some (held_at m k)) 1 0 ≡ length m)
      (sum : count + one (is_formula_text (content_of (contents_of m) k)) ≡ formulas) where
    other : (q : Cell) (g : Held) (b : Bool) → cond b None (held_at m q) ≡ Some g → IsHeld sheets names q g
    other q g true e = absurd cc
    other q g false e = kept.held q g e

    taken_contents : contents_of n ≡ remove (contents_of m) k
    taken_contents = text_taken m n k is

    taken_length : length n ≡ text_count (contents_of n)
    taken_length =
        one_less (is_some (held_at m k)) (length n) (length m) (text_count (contents_of m)) shorter (sym kept.counted)
        ∙ ap (λ b. cond b (text_count (contents_of m) - 1) (text_count (contents_of m))) (sym (has_text m k))
        ∙ sym (ap text_count taken_contents ∙ count_removed (contents_of m) k)

    taken_number : count ≡ formula_count (contents_of n)
    taken_number =
        let a = formulas_removed (contents_of m) k in
        let b = kept.numbered in
        let c : formula_count (contents_of n) ≡ formula_count (remove (contents_of m) k) = ap formula_count taken_contents in
        omega arith

    pub kept_taken : IsKept sheets names n count
    kept_taken = record {
      short = kept.short;
      held = λ q g e. other q g (is_at (cell_cmp k) q) (sym (is q) ∙ e);
      counted = taken_length;
      few = let a = kept.few in omega arith;
      numbered = taken_number;
      few_formulas = let a = kept.few_formulas in omega arith;
    }

-- ---- what is there
-- a cell whose text begins a formula is counted
pub had_fits : (sheets : List (List ℕ)) (names : List Name) (es : HeldCells) (k : Cell) (formulas : ℕ) → IsKept sheets names es formulas
    → one (is_formula_text (content_of (contents_of es) k)) ≤ formulas
had_fits sheets names es k formulas kept = let a = formulas_removed (contents_of es) k in let b = kept.numbered in omega arith

abbrev pub says_held : Option Held → Option Entry
says_held o = option_map (λ (h : Held). entry_of h.text h.said) o

-- what a cell says is held
pub entry_held : (sheets : List (List ℕ)) (names : List Name) (es : HeldCells) (k : Cell) (formulas : ℕ) → IsKept sheets names es formulas
    → option_map (says sheets names k) (get (contents_of es) k) ≡ says_held (held_at es k)
entry_held sheets names es k formulas kept = ap (option_map (says sheets names k)) (get_text es k) ∙ by_case (held_at es k) refl
  where
    by_case : (o : Option Held) → held_at es k ≡ o → option_map (says sheets names k) (text_held o) ≡ says_held o
    by_case None h = refl
    by_case (Some g) h = ap Some (sym (kept.held k g h).agrees)

-- ---- what would be too many
within : (m n : ℕ) → n ≤ m → false ≡ nat_lt m n
within m n h = grind (arith, nat_tests)

pub one_past : (b : Bool) (m n : ℕ) → n ≤ m → (nat_le m n && not b) ≡ nat_lt m (cond b n (n + 1))
one_past true m n h = grind (arith, nat_tests)
one_past false m n h = grind (arith, nat_tests)

removed_less : (b : Bool) (n : ℕ) → cond b (n - 1) n ≤ n
removed_less true n = omega arith
removed_less false n = omega arith

given : (c : Contents) (k : Cell) (text : List ℕ) → (length text == 0) ≡ false → with_text c k text ≡ insert c k text
given c k [] some = absurd (let e : true ≡ false = some in cc)
given c k (b ∷ text) some = refl

gone : (c : Contents) (k : Cell) (text : List ℕ) → (length text == 0) ≡ true → with_text c k text ≡ remove c k
gone c k [] e = refl
gone c k (b ∷ text) e = absurd (let k : suc (length text) ≡ 0 = eqb-true (suc (length text)) 0 e in omega arith)

pub counts : (is was : Bool) (m n after : ℕ) → n ≤ m → after + one was ≡ n + one is → (nat_le m n && (is && not was)) ≡ nat_lt m after
counts true true m n after h e = grind (arith, nat_tests)
counts true false m n after h e = grind (arith, nat_tests)
counts false true m n after h e = grind (arith, nat_tests)
counts false false m n after h e = grind (arith, nat_tests)

module _ (sheets : List (List ℕ)) (names : List Name) (es : HeldCells) (k : Cell) (formulas : ℕ) (kept : IsKept sheets names es formulas) (text : List ℕ) where
  pub empty_fits : (length text == 0) ≡ true → false ≡ nat_lt TEXTS (text_count (with_text (contents_of es) k text))
  empty_fits e = within TEXTS _
      (let a = count_removed (contents_of es) k in
      let b = removed_less (contains_key (contents_of es) k) (text_count (contents_of es)) in
      let c = kept.counted in
      let d = kept.few in
      let f : text_count (with_text (contents_of es) k text) ≡ text_count (remove (contents_of es) k) = ap text_count (gone (contents_of es) k text e) in
      omega arith)

  pub empty_counts : (length text == 0) ≡ true → false ≡ nat_lt FORMULAS (formula_count (with_text (contents_of es) k text))
  empty_counts e = within FORMULAS _
      (let a = formulas_removed (contents_of es) k in
      let c = kept.numbered in
      let d = kept.few_formulas in
      let f : formula_count (with_text (contents_of es) k text) ≡ formula_count (remove (contents_of es) k) = ap formula_count (gone (contents_of es) k text e) in
      omega arith)

  pub text_fits : (length text == 0) ≡ false → (nat_le TEXTS (length es) && not (is_some (held_at es k))) ≡ nat_lt TEXTS (text_count (with_text (contents_of es) k text))
  text_fits some =
      one_past (is_some (held_at es k)) TEXTS (length es) kept.few
      ∙ ap (λ b. nat_lt TEXTS (cond b (length es) (length es + 1))) (sym (has_text es k))
      ∙ ap (λ n. nat_lt TEXTS (cond (contains_key (contents_of es) k) n (n + 1))) kept.counted
      ∙ ap (nat_lt TEXTS) (sym (count_put (contents_of es) k text))
      ∙ ap (λ c. nat_lt TEXTS (text_count c)) (sym (given (contents_of es) k text some))

  pub text_counts : (length text == 0) ≡ false → (nat_le FORMULAS formulas && (is_formula_text text && not (is_formula_text (content_of (contents_of es) k))))
      ≡ nat_lt FORMULAS (formula_count (with_text (contents_of es) k text))
  text_counts some =
      counts (is_formula_text text) (is_formula_text (content_of (contents_of es) k)) FORMULAS formulas (formula_count (insert (contents_of es) k text)) kept.few_formulas
      (formulas_put (contents_of es) k text ∙ ap (λ n. n + one (is_formula_text text)) (sym kept.numbered))
      ∙ ap (λ c. nat_lt FORMULAS (formula_count c)) (sym (given (contents_of es) k text some))

-- nothing is held of a workbook without texts
pub kept_empty : (sheets : List (List ℕ)) (names : List Name) (es : HeldCells) → All IsShort names → es ≡ [] → IsKept sheets names es 0
kept_empty sheets names es short is = subst (λ l. IsKept sheets names l 0) (sym is) (record {
  short = short;
  held = λ k g e. absurd cc;
  counted = sym none;
  few = omega arith;
  numbered = let a = few_of (entries (empty {X = List ℕ} {R = cell_cmp})) in let b = none in omega arith;
  few_formulas = omega arith;
})
  where
    none : text_count empty ≡ 0
    none = sym (len-entries (empty {X = List ℕ} {R = cell_cmp})) ∙ len-empty cell_cmp (List ℕ)

    few_of : (texts : List (Cell × List ℕ)) → length (filter (λ (e : Cell × List ℕ). is_formula_text e.1) texts) ≤ length texts
    few_of texts = few_formulas texts
