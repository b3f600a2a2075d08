-- Texts that are put into cells, and names that get texts, one after the other.
use Rattle.std.proofs.Common.{◌≡◌, ◌≢◌, ◌<◌, ◌+◌, ◌++◌, ℕ, zero, suc, List, [], ◌∷◌, length, map, refl, sym, ap, subst, ◌∙◌, append_assoc, arith}
use Rattle.std.specs.List.{flat_map, range_with_len}
use Rattle.std.specs.FinMap.{FinMap, insert}
use Rattle.std.proofs.lemmas.List.{append-nil}
use Rattle.std.proofs.lemmas.List.FromFn.{map-range_with_len_more}
use Rattle.cell_refs.specs.Cells.{cell_cmp}
use Rattle.workbook.specs.Edits.{after_set}
use Rattle.workbook.specs.Naming.{after_name}
use Rattle.workbook.specs.Several.{with_texts}
use Rattle.workbook.specs.State.{State}
use Rattle.std.specs.Prelude.{Some}
use Rattle.made_up_books.specs.MadeUp.{TextInCell, at, below}
use Rattle.made_up_books.specs.Putting.{with_cells, with_named}

-- ---- texts in cells
abbrev pub Contents : Type 0
Contents = FinMap cell_cmp (List ℕ)

texts_in_turn : (contents : Contents) (xs ys : List TextInCell) → with_texts contents (xs ++ ys) ≡ with_texts (with_texts contents xs) ys
texts_in_turn contents [] ys = refl
texts_in_turn contents (x ∷ xs) ys = texts_in_turn (insert contents x.0 x.1) xs ys

pub cells_in_turn : (state : State) (xs ys : List TextInCell) → with_cells (with_cells state xs) ys ≡ with_cells state (xs ++ ys)
unfolding with_cells
cells_in_turn state xs ys = ap (λ c. record state { contents = c }) (sym (texts_in_turn state.contents xs ys))

pub no_cells : (state : State) → with_cells state [] ≡ state
unfolding with_cells
no_cells state = refl

-- two texts, of which the first is known by another name
pub two_cells : (s0 s1 s2 : State) (row column : ℕ) (text wanted : List ℕ) (y : TextInCell) → text ≡ wanted
    → s1 ≡ with_cells s0 (at row column text ∷ []) → s2 ≡ with_cells s1 (y ∷ []) → s2 ≡ with_cells s0 (at row column wanted ∷ y ∷ [])
two_cells s0 s1 s2 row column text wanted y same e1 e2 =
    e2 ∙ ap (λ s. with_cells s (y ∷ [])) (e1 ∙ ap (λ t. with_cells s0 (at row column t ∷ [])) same)
    ∙ cells_in_turn s0 (at row column wanted ∷ []) (y ∷ [])

-- the sheets stay
still_listed : (state : State) (xs : List TextInCell) → 0 < length state.sheets → 0 < length (with_cells state xs).sheets
unfolding with_cells
still_listed state xs h = h

pub listed_after : (state after : State) (xs : List TextInCell) → after ≡ with_cells state xs → 0 < length state.sheets → 0 < length after.sheets
listed_after state after xs e h = let P : State → Type 0 = λ s. 0 < length s.sheets in subst P (sym e) (still_listed state xs h)

-- putting a text that isn't empty
pub one_cell : (state : State) (row column : ℕ) (text : List ℕ) → text ≢ [] → after_set state (at row column text).0 text ≡ with_cells state (at row column text ∷ [])
unfolding with_cells
one_cell state row column [] h = absurd (h refl)
one_cell state row column (b ∷ text) h = refl

-- ---- loops
pub row_goes_on : (f : ℕ → TextInCell) (state mid after : State) (i : ℕ) (x : TextInCell) → mid ≡ with_cells state (map f (below i))
    → after ≡ with_cells mid (x ∷ []) → x ≡ f i → after ≡ with_cells state (map f (below (i + 1)))
row_goes_on f state mid after i x before put same =
    put ∙ ap (λ s. with_cells s (x ∷ [])) before ∙ cells_in_turn state (map f (below i)) (x ∷ [])
    ∙ ap (λ y. with_cells state (map f (below i) ++ y ∷ [])) same ∙ ap (with_cells state) (sym (map-range_with_len_more f 0 i i (omega arith)))

flat_range_more : {A : Type 0} (f : ℕ → List A) (a n j : ℕ) → a + n ≡ j → flat_map f (range_with_len a (suc n)) ≡ flat_map f (range_with_len a n) ++ f j
flat_range_more f a zero j e = let same : a ≡ j = omega arith in append-nil (f a) ∙ ap f same
flat_range_more f a (suc n) j e =
    ap (λ ys. f a ++ ys) (flat_range_more f (a + 1) n j (omega arith)) ∙ sym (append_assoc (f a) (flat_map f (range_with_len (a + 1) n)) (f j))

pub rows_go_on : (f : ℕ → List TextInCell) (state mid after : State) (i : ℕ) (xs : List TextInCell) → mid ≡ with_cells state (flat_map f (below i))
    → after ≡ with_cells mid xs → xs ≡ f i → after ≡ with_cells state (flat_map f (below (i + 1)))
rows_go_on f state mid after i xs before put same =
    let e : i + 1 ≡ suc i = omega arith in
    let more : flat_map f (below i) ++ f i ≡ flat_map f (below (i + 1)) = rw e (sym (flat_range_more f 0 i i (omega arith))) in
    put ∙ ap (λ s. with_cells s xs) before ∙ cells_in_turn state (flat_map f (below i)) xs
    ∙ ap (λ ys. with_cells state (flat_map f (below i) ++ ys)) same ∙ ap (with_cells state) more

-- ---- names
pub sheets_of_named : (state : State) (es : List (List ℕ × List ℕ)) → (with_named state es).sheets ≡ state.sheets
unfolding with_named
sheets_of_named state [] = refl
sheets_of_named state (e ∷ es) = sheets_of_named (after_name state (Some 0) e.0 e.1) es

pub listed_after_names : (state after : State) (es : List (List ℕ × List ℕ)) → after ≡ with_named state es → 0 < length state.sheets → 0 < length after.sheets
listed_after_names state after es e h =
    let same : length after.sheets ≡ length state.sheets = ap (λ (s : State). length s.sheets) e ∙ ap length (sheets_of_named state es) in
    omega arith

in_three : (state : State) (a b c : List ℕ × List ℕ) → with_named (with_named (with_named state (a ∷ [])) (b ∷ [])) (c ∷ []) ≡ with_named state (a ∷ b ∷ c ∷ [])
unfolding with_named
in_three state a b c = refl

-- three names, of which the first and the last get texts that are known by other names
pub three_names : (s0 s1 s2 s3 : State) (k1 t1 w1 k2 t2 k3 t3 w3 : List ℕ) → t1 ≡ w1 → t3 ≡ w3 → s1 ≡ with_named s0 ((k1, t1) ∷ [])
    → s2 ≡ with_named s1 ((k2, t2) ∷ []) → s3 ≡ with_named s2 ((k3, t3) ∷ []) → s3 ≡ with_named s0 ((k1, w1) ∷ (k2, t2) ∷ (k3, w3) ∷ [])
three_names s0 s1 s2 s3 k1 t1 w1 k2 t2 k3 t3 w3 d1 d3 e1 e2 e3 =
    let f1 : s1 ≡ with_named s0 ((k1, w1) ∷ []) = e1 ∙ ap (λ t. with_named s0 ((k1, t) ∷ [])) d1 in
    let f2 : s2 ≡ with_named (with_named s0 ((k1, w1) ∷ [])) ((k2, t2) ∷ []) = e2 ∙ ap (λ s. with_named s ((k2, t2) ∷ [])) f1 in
    e3 ∙ ap (λ t. with_named s2 ((k3, t) ∷ [])) d3 ∙ ap (λ s. with_named s ((k3, w3) ∷ [])) f2 ∙ in_three s0 (k1, w1) (k2, t2) (k3, w3)

-- four names, of which the first two do
pub four_names : (s0 s1 s2 s3 s4 : State) (k1 t1 w1 k2 t2 w2 k3 t3 k4 t4 : List ℕ) → t1 ≡ w1 → t2 ≡ w2 → s1 ≡ with_named s0 ((k1, t1) ∷ [])
    → s2 ≡ with_named s1 ((k2, t2) ∷ []) → s3 ≡ with_named s2 ((k3, t3) ∷ []) → s4 ≡ with_named s3 ((k4, t4) ∷ [])
    → s4 ≡ with_named s0 ((k1, w1) ∷ (k2, w2) ∷ (k3, t3) ∷ (k4, t4) ∷ [])
unfolding with_named
four_names s0 s1 s2 s3 s4 k1 t1 w1 k2 t2 w2 k3 t3 k4 t4 d1 d2 e1 e2 e3 e4 =
    let f1 : s1 ≡ with_named s0 ((k1, w1) ∷ []) = e1 ∙ ap (λ t. with_named s0 ((k1, t) ∷ [])) d1 in
    let f2 : s2 ≡ with_named (with_named s0 ((k1, w1) ∷ [])) ((k2, w2) ∷ []) =
    e2 ∙ ap (λ t. with_named s1 ((k2, t) ∷ [])) d2 ∙ ap (λ s. with_named s ((k2, w2) ∷ [])) f1 in
    let f3 : s3 ≡ with_named s0 ((k1, w1) ∷ (k2, w2) ∷ (k3, t3) ∷ []) =
    e3 ∙ ap (λ s. with_named s ((k3, t3) ∷ [])) f2 ∙ in_three s0 (k1, w1) (k2, w2) (k3, t3) in
    e4 ∙ ap (λ s. with_named s ((k4, t4) ∷ [])) f3
