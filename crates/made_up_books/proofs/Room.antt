-- How many texts and names there are after some are put.
use Rattle.std.proofs.Common.{◌≡◌, ◌≤◌, ◌+◌, ◌*◌, ℕ, List, [], ◌∷◌, length, length-append, Some, refl, sym, ap, ◌∙◌, arith}
use Rattle.std.specs.FinMap.{empty, insert, len-empty, len-entries}
use Rattle.std.specs.Prelude.{codes, decimal, map, slice_index}
use Rattle.std.specs.List.{flat_map}
use Rattle.std.proofs.lemmas.List.FromFn.{length-map-range_with_len, length-range_with_len}
use Rattle.cell_refs.specs.Cells.{cell_cmp}
use Rattle.workbook.specs.Naming.{after_name}
use Rattle.workbook.specs.Several.{with_texts}
use Rattle.workbook.specs.State.{State, text_count}
use Rattle.workbook.proofs.Filling.{texts_grow}
use Rattle.made_up_books.specs.MadeUp.{TextInCell, at, below, sent_cells, supply_cells}
use Rattle.made_up_books.specs.Putting.{HasRoomFor, demand_pair, demand_pairs, number_cells, number_row, sent_row, supply_pair, with_cells, with_named}
use Rattle.made_up_books.proofs.InTurn.{Contents}
use Rattle.made_up_books.proofs.NoFault.{names_grow}
use Rattle.made_up_books.proofs.Whole.{blank}

-- ---- texts
texts_of_cells : (contents : Contents) (xs : List TextInCell) → text_count (with_texts contents xs) ≤ text_count contents + length xs
texts_of_cells contents [] = omega arith
texts_of_cells contents (x ∷ xs) =
    let a = texts_of_cells (insert contents x.0 x.1) xs in
    let b = texts_grow contents x.0 x.1 in
    omega arith

pub texts_after : (state after : State) (xs : List TextInCell) → after ≡ with_cells state xs → text_count after.contents ≤ text_count state.contents + length xs
unfolding with_cells
texts_after state after xs e =
    let a = texts_of_cells state.contents xs in
    let b : text_count after.contents ≡ text_count (with_texts state.contents xs) = ap (λ (s : State). text_count s.contents) e in
    omega arith

length_below : (n : ℕ) → length (below n) ≡ n
length_below n = length-range_with_len 0 n

pub in_row : (f : ℕ → TextInCell) (n : ℕ) → length (map f (below n)) ≡ n
in_row f n = length-map-range_with_len f 0 n

in_rows : (f : ℕ → List TextInCell) (most : ℕ) → ((i : ℕ) → length (f i) ≤ most) → (is : List ℕ) → length (flat_map f is) ≤ most * length is
in_rows f most h [] = omega arith
in_rows f most h (i ∷ is) =
    let a = length-append (f i) (flat_map f is) in
    let b = h i in
    let c = in_rows f most h is in
    omega arith

-- a row
pub texts_of_row : (f : ℕ → TextInCell) (n : ℕ) (state after : State) → after ≡ with_cells state (map f (below n)) → text_count after.contents ≤ text_count state.contents + n
texts_of_row f n state after e = let a = texts_after state after _ e in let b = in_row f n in omega arith

-- rows
pub texts_of_rows : (f : ℕ → List TextInCell) (most n : ℕ) (state after : State) → ((i : ℕ) → length (f i) ≤ most) → after ≡ with_cells state (flat_map f (below n))
    → text_count after.contents ≤ text_count state.contents + most * n
texts_of_rows f most n state after h e =
    let a = texts_after state after _ e in
    let b = in_rows f most h (below n) in
    let c : most * length (below n) ≡ most * n = ap (λ m. most * m) (length_below n) in
    omega arith

pub texts_of_costs : (n : ℕ) (numbers : List ℕ) (state after : State) → n ≤ 12 → after ≡ with_cells state (number_cells n numbers)
    → text_count after.contents ≤ text_count state.contents + 144
unfolding number_cells
texts_of_costs n numbers state after few e =
    let each : (i : ℕ) → length (number_row n numbers i) ≤ 12 = (λ i. let a = in_row (λ j. at i j (decimal (slice_index numbers (i * n + j)))) n in omega arith) in
    let a = texts_of_rows (number_row n numbers) 12 n state after each e in
    omega arith

pub texts_of_sent : (n : ℕ) (state after : State) → n ≤ 12 → after ≡ with_cells state (sent_cells n) → text_count after.contents ≤ text_count state.contents + 144
texts_of_sent n state after few e =
    let each : (i : ℕ) → length (sent_row n i) ≤ 12 = (λ i. let a = in_row (λ j. at (n + i) j (codes "0")) n in omega arith) in
    let a = texts_of_rows (sent_row n) 12 n state after each e in
    omega arith

pub texts_of_supplies : (n : ℕ) (state after : State) → n ≤ 12 → after ≡ with_cells state (supply_cells n) → text_count after.contents ≤ text_count state.contents + 24
texts_of_supplies n state after few e =
    let a = texts_of_rows (λ i. supply_pair n (n + i)) 2 n state after (λ i. omega arith) e in
    omega arith

pub texts_of_demands : (n : ℕ) (numbers : List ℕ) (state after : State) → n ≤ 12 → after ≡ with_cells state (demand_pairs n numbers)
    → text_count after.contents ≤ text_count state.contents + 24
unfolding demand_pairs
texts_of_demands n numbers state after few e =
    let a = texts_of_rows (λ j. demand_pair n j (slice_index numbers j)) 2 n state after (λ j. omega arith) e in
    omega arith

-- none
no_texts : text_count empty ≡ 0
no_texts = sym (len-entries (empty {X = List ℕ} {R = cell_cmp})) ∙ len-empty cell_cmp (List ℕ)

pub room_at_first : (book : State) → book ≡ blank → HasRoomFor 337 book
room_at_first book e =
    let a : text_count book.contents ≡ text_count empty = ap (λ (s : State). text_count s.contents) e in
    let b = no_texts in
    omega arith

-- ---- names
names_stay : (state : State) (xs : List TextInCell) → (with_cells state xs).names ≡ state.names
unfolding with_cells
names_stay state xs = refl

pub no_names : (book after : State) (xs : List TextInCell) → book ≡ blank → after ≡ with_cells book xs → length after.names ≡ 0
no_names book after xs e f =
    ap (λ (s : State). length s.names) f ∙ ap length (names_stay book xs) ∙ ap (λ (s : State). length s.names) e

names_of : (es : List (List ℕ × List ℕ)) (state : State) → length (with_named state es).names ≤ length state.names + length es
unfolding with_named
names_of [] state = omega arith
names_of (e ∷ es) state =
    let a = names_of es (after_name state (Some 0) e.0 e.1) in
    let b = names_grow state (Some 0) e.0 e.1 in
    omega arith

pub names_after_names : (state after : State) (es : List (List ℕ × List ℕ)) → after ≡ with_named state es → length after.names ≤ length state.names + length es
names_after_names state after es e =
    let a = names_of es state in
    let b = ap (λ (s : State). length s.names) e in
    omega arith
