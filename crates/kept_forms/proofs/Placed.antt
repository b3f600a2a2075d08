-- Tables at their places in a list, where no two are of one sheet.
use Rattle.std.specs.Prelude.{◌==◌, ◌||◌, not, map, find, option_map, slice_get, slice_set, Contains}
use Rattle.std.proofs.Common.{◌≡◌, ◌<◌, ◌+◌, ℕ, zero, suc, Bool, true, false, if◌then◌else◌, cond, List, [], ◌∷◌, ◌++◌, length, get_or, take, drop, Some, None, refl, sym, ap, ap₂, ◌∙◌, append_assoc, eq-eqb, arith}
use Rattle.std.specs.List.{AllByRecursion, IsDistinct}
use Rattle.std.proofs.lemmas.Bool.{eqb-true}
use Rattle.std.proofs.lemmas.List.{take-append-le, drop-append-le, drop_more}
use Rattle.recalculation.proofs.Lists.{either_first, either_second}
use Rattle.kept_tables.specs.Settled.{SheetForms, in_place_of, sheets_of, without_table}
use Rattle.kept_tables.specs.Tables.{first_idle, has_sheet}
use Rattle.kept_forms.specs.Tables.{SheetKept, all_forms, forms_in, kept_of, sheets_in}

-- ---- elements at places
module _ {X : Type 0} where
  pub at_place : (xs : List X) (i : ℕ) (x : X) → i < length xs → x ≡ get_or xs i x → slice_get xs i ≡ Some x
  at_place [] i x h e = absurd (omega (arith, h))
  at_place (y ∷ ys) zero x h e = ap Some (sym e)
  at_place (y ∷ ys) (suc i) x h e = at_place ys i x (omega (arith, h)) e

  pub inside : (xs : List X) (i : ℕ) (x : X) → slice_get xs i ≡ Some x → i < length xs
  inside [] i x e = cc
  inside (y ∷ ys) zero x e = omega arith
  inside (y ∷ ys) (suc i) x e = omega (arith, inside ys i x e)

  pub put_back : (xs : List X) (i : ℕ) (x : X) → slice_get xs i ≡ Some x → slice_set xs i x ≡ xs
  put_back [] i x e = cc
  put_back (y ∷ ys) zero x e = let q : y ≡ x = cc in ap (λ z. z ∷ ys) (sym q)
  put_back (y ∷ ys) (suc i) x e = ap (λ zs. y ∷ zs) (put_back ys i x e)

  pub at_put : (xs : List X) (i : ℕ) (x : X) → i < length xs → slice_get (slice_set xs i x) i ≡ Some x
  at_put [] i x h = absurd (omega (arith, h))
  at_put (y ∷ ys) zero x h = refl
  at_put (y ∷ ys) (suc i) x h = at_put ys i x (omega (arith, h))

  pub at_end : (xs : List X) (x : X) → slice_get (xs ++ x ∷ []) (length xs) ≡ Some x
  at_end [] x = refl
  at_end (y ∷ ys) x = at_end ys x

  -- one is taken out before another that stands last
  pub out_before_last : (xs : List X) (x : X) (i : ℕ) → i < length xs → take i (xs ++ x ∷ []) ++ drop (suc i) (xs ++ x ∷ []) ≡ (take i xs ++ drop (suc i) xs) ++ x ∷ []
  out_before_last xs x i h =
      ap₂ (λ us vs. us ++ vs) (take-append-le i xs (x ∷ []) (omega (arith, h))) (drop-append-le (suc i) xs (x ∷ []) (omega (arith, h)))
      ∙ sym (append_assoc (take i xs) (drop (suc i) xs) (x ∷ []))

-- ---- sheets
pub sheets_of_forms : (tables : List SheetKept) → sheets_of (all_forms tables) ≡ sheets_in tables
sheets_of_forms [] = refl
sheets_of_forms (t ∷ tables) = ap (λ s. t.sheet ∷ s) (sheets_of_forms tables)

pub sheets_stay : (tables : List SheetKept) (i : ℕ) (was now : SheetKept) → slice_get tables i ≡ Some was → now.sheet ≡ was.sheet → sheets_in (slice_set tables i now) ≡ sheets_in tables
sheets_stay [] i was now e own = refl
sheets_stay (t ∷ tables) zero was now e own = let q : t ≡ was = cc in ap (λ s. s ∷ sheets_in tables) (own ∙ ap (λ (t : SheetKept). t.sheet) (sym q))
sheets_stay (t ∷ tables) (suc i) was now e own = ap (λ s. t.sheet ∷ s) (sheets_stay tables i was now e own)

pub sheet_there : (tables : List SheetKept) (i : ℕ) (was : SheetKept) → slice_get tables i ≡ Some was → has_sheet (sheets_in tables) was.sheet ≡ true
sheet_there [] i was e = cc
sheet_there (t ∷ tables) zero was e = let q : t ≡ was = cc in either_first _ _ (eq-eqb t.sheet was.sheet (ap (λ (t : SheetKept). t.sheet) q))
sheet_there (t ∷ tables) (suc i) was e = either_second _ _ (sheet_there tables i was e)

-- ---- one table more
pub has_more : (tables : List SheetKept) (i : ℕ) (t : SheetKept) (sheet : ℕ) → i < length tables → t ≡ get_or tables i t
    → has_sheet (sheets_in (drop i tables)) sheet ≡ ((t.sheet == sheet) || has_sheet (sheets_in (drop (i + 1) tables)) sheet)
has_more tables i t sheet h e =
    ap (λ us. has_sheet (sheets_in us) sheet) (drop_more tables i t h)
    ∙ ap (λ (u : SheetKept). (u.sheet == sheet) || has_sheet (sheets_in (drop (i + 1) tables)) sheet) (sym e)

pub idle_more : (searching : ℕ → Bool) (tables : List SheetKept) (i : ℕ) (t : SheetKept) → i < length tables → t ≡ get_or tables i t
    → first_idle searching (sheets_in (drop i tables)) ≡ cond (not (searching t.sheet)) (Some t.sheet) (first_idle searching (sheets_in (drop (i + 1) tables)))
idle_more searching tables i t h e =
    ap (λ us. first_idle searching (sheets_in us)) (drop_more tables i t h)
    ∙ ap (λ (u : SheetKept). cond (not (searching u.sheet)) (Some u.sheet) (first_idle searching (sheets_in (drop (i + 1) tables)))) (sym e)

-- ---- no two of one sheet
abbrev pub Apart : List SheetKept → Type 0
Apart tables = IsDistinct (λ s t. s == t) (sheets_in tables)

abbrev Unlike : ℕ → List SheetKept → Type 0
Unlike sheet tables = AllByRecursion (λ t. (sheet == t) ≡ false) (sheets_in tables)

turned : (s t : ℕ) → (s == t) ≡ false → (t == s) ≡ false
turned s t n = elim (t == s) as (λ w. (t == s) ≡ w → w ≡ false) [ true ↦ λ e. let q : (s == t) ≡ true = eq-eqb s t (sym (eqb-true t s e)) in cc | false ↦ λ _. refl ] refl

pub none_apart : Apart []
unfolding IsDistinct
none_apart = tt

pub first_unlike : (t : SheetKept) (tables : List SheetKept) → Apart (t ∷ tables) → Unlike t.sheet tables
unfolding IsDistinct
first_unlike t tables d = d.0

pub others_apart : (t : SheetKept) (tables : List SheetKept) → Apart (t ∷ tables) → Apart tables
unfolding IsDistinct
others_apart t tables d = d.1

unlike_at : (sheet : ℕ) (tables : List SheetKept) (i : ℕ) (was : SheetKept) → Unlike sheet tables → slice_get tables i ≡ Some was → (sheet == was.sheet) ≡ false
unlike_at sheet [] i was n e = cc
unlike_at sheet (t ∷ tables) zero was n e = let q : t ≡ was = cc in ap (λ (t : SheetKept). sheet == t.sheet) (sym q) ∙ n.0
unlike_at sheet (t ∷ tables) (suc i) was n e = unlike_at sheet tables i was n.1 e

unlike_in : (sheet : ℕ) (tables : List SheetKept) (u : SheetForms) → Unlike sheet tables → Contains (all_forms tables) u → (sheet == u.sheet) ≡ false
unlike_in sheet [] u n i = absurd (omega (arith, i.1))
unlike_in sheet (t ∷ tables) u n (zero, i, e) = ap (λ (u : SheetForms). sheet == u.sheet) (sym e) ∙ n.0
unlike_in sheet (t ∷ tables) u n (suc k, i, e) = unlike_in sheet tables u n.1 (k, omega (arith, i), e)

apart_from : {A : Type 0} (s t : ℕ) → (s == t) ≡ false → s ≡ t → A
apart_from s t n e = let q : (s == t) ≡ true = eq-eqb s t e in cc

-- ---- a table that is put
none_replaced : (sheet : ℕ) (tables : List SheetKept) (t : SheetForms) → Unlike sheet tables → sheet ≡ t.sheet → map (in_place_of t) (all_forms tables) ≡ all_forms tables
none_replaced sheet [] t n e = refl
none_replaced sheet (u ∷ tables) t n e =
    ap₂ ◌∷◌ (ap (λ w. if w then t else forms_in u) (ap (λ s. u.sheet == s) (sym e) ∙ turned sheet u.sheet n.0)) (none_replaced sheet tables t n.1 e)

-- it is in the place of that of its sheet
pub put_at : (tables : List SheetKept) (i : ℕ) (was t : SheetKept) → Apart tables → slice_get tables i ≡ Some was → was.sheet ≡ t.sheet → all_forms (slice_set tables i t) ≡ map (in_place_of (forms_in t)) (all_forms tables)
put_at [] i was t d e own = refl
put_at (u ∷ tables) zero was t d e own =
    let q : u ≡ was = cc in
    let s : u.sheet ≡ t.sheet = ap (λ (t : SheetKept). t.sheet) q ∙ own in
    ap₂ ◌∷◌ (sym (ap (λ w. if w then forms_in t else forms_in u) (eq-eqb u.sheet t.sheet s))) (sym (none_replaced u.sheet tables (forms_in t) (first_unlike u tables d) s))
put_at (u ∷ tables) (suc i) was t d e own =
    ap₂ ◌∷◌ (sym (ap (λ w. if w then forms_in t else forms_in u) (ap (λ s. u.sheet == s) (sym own) ∙ unlike_at u.sheet tables i was (first_unlike u tables d) e)))
    (put_at tables i was t (others_apart u tables d) e own)

-- ---- a table that is dropped
none_dropped : (sheet x : ℕ) (tables : List SheetKept) → Unlike sheet tables → sheet ≡ x → without_table (Some x) (all_forms tables) ≡ all_forms tables
none_dropped sheet x [] n e = refl
none_dropped sheet x (u ∷ tables) n e =
    ap (λ w. cond (not w) (forms_in u ∷ without_table (Some x) (all_forms tables)) (without_table (Some x) (all_forms tables))) (ap (λ s. u.sheet == s) (sym e) ∙ turned sheet u.sheet n.0)
    ∙ ap (λ us. forms_in u ∷ us) (none_dropped sheet x tables n.1 e)

-- the others stay
pub without_at : (tables : List SheetKept) (i : ℕ) (was : SheetKept) → Apart tables → slice_get tables i ≡ Some was → all_forms (take i tables ++ drop (suc i) tables) ≡ without_table (Some was.sheet) (all_forms tables)
without_at [] i was d e = cc
without_at (u ∷ tables) zero was d e =
    let q : u ≡ was = cc in
    let s : u.sheet ≡ was.sheet = ap (λ (t : SheetKept). t.sheet) q in
    sym
    (ap (λ w. cond (not w) (forms_in u ∷ without_table (Some was.sheet) (all_forms tables)) (without_table (Some was.sheet) (all_forms tables))) (eq-eqb u.sheet was.sheet s)
    ∙ none_dropped u.sheet was.sheet tables (first_unlike u tables d) s)
without_at (u ∷ tables) (suc i) was d e =
    ap (λ us. forms_in u ∷ us) (without_at tables i was (others_apart u tables d) e)
    ∙ sym (ap (λ w. cond (not w) (forms_in u ∷ without_table (Some was.sheet) (all_forms tables)) (without_table (Some was.sheet) (all_forms tables))) (unlike_at u.sheet tables i was (first_unlike u tables d) e))

-- ---- a sheet's own table
-- it is the only one of the sheet
pub only_own : (tables : List SheetKept) (i : ℕ) (was : SheetKept) (u : SheetForms) → Apart tables → slice_get tables i ≡ Some was → Contains (all_forms tables) u → u.sheet ≡ was.sheet → u ≡ forms_in was
only_own [] i was u d e c own = cc
only_own (t ∷ tables) zero was u d e (zero, h, f) own = let q : t ≡ was = cc in sym f ∙ ap forms_in q
only_own (t ∷ tables) zero was u d e (suc n, h, f) own =
    let q : t ≡ was = cc in
    apart_from t.sheet u.sheet (unlike_in t.sheet tables u (first_unlike t tables d) (n, omega (arith, h), f)) (ap (λ (t : SheetKept). t.sheet) q ∙ sym own)
only_own (t ∷ tables) (suc i) was u d e (zero, h, f) own =
    apart_from t.sheet was.sheet (unlike_at t.sheet tables i was (first_unlike t tables d) e) (ap (λ (u : SheetForms). u.sheet) f ∙ own)
only_own (t ∷ tables) (suc i) was u d e (suc n, h, f) own = only_own tables i was u (others_apart t tables d) e (n, omega (arith, h), f) own

-- it is one of them
pub among : (tables : List SheetKept) (i : ℕ) (was : SheetKept) → slice_get tables i ≡ Some was → Contains (all_forms tables) (forms_in was)
among [] i was e = cc
among (t ∷ tables) zero was e = let q : t ≡ was = cc in (0, omega arith, ap forms_in q)
among (t ∷ tables) (suc i) was e = let c = among tables i was e in (suc c.0, omega (arith, c.1), c.2)

-- and is found
pub own_found : (tables : List SheetKept) (i : ℕ) (was : SheetKept) (sheet : ℕ) → Apart tables → slice_get tables i ≡ Some was → was.sheet ≡ sheet → kept_of tables sheet ≡ Some was.kept
own_found [] i was sheet d e own = cc
own_found (t ∷ tables) zero was sheet d e own =
    let q : t ≡ was = cc in
    ap (λ w. option_map (λ (t : SheetKept). t.kept) (cond w (Some t) (find (λ (t : SheetKept). t.sheet == sheet) tables))) (eq-eqb t.sheet sheet (ap (λ (t : SheetKept). t.sheet) q ∙ own))
    ∙ ap (λ (t : SheetKept). Some t.kept) q
own_found (t ∷ tables) (suc i) was sheet d e own =
    ap (λ w. option_map (λ (t : SheetKept). t.kept) (cond w (Some t) (find (λ (t : SheetKept). t.sheet == sheet) tables)))
    (ap (λ s. t.sheet == s) (sym own) ∙ unlike_at t.sheet tables i was (first_unlike t tables d) e)
    ∙ own_found tables i was sheet (others_apart t tables d) e own

-- a sheet without a table has none
pub none_found : (tables : List SheetKept) (sheet : ℕ) → has_sheet (sheets_in tables) sheet ≡ false → kept_of tables sheet ≡ None
none_found [] sheet n = refl
none_found (t ∷ tables) sheet n =
    elim (t.sheet == sheet) as (λ w. (w || has_sheet (sheets_in tables) sheet) ≡ false → option_map (λ (t : SheetKept). t.kept) (cond w (Some t) (find (λ (t : SheetKept). t.sheet == sheet) tables)) ≡ None) [
      | true ↦ λ n. cc
      | false ↦ λ n. none_found tables sheet n
    ] n
