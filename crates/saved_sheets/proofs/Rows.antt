-- Rows, one after the other.
use Rattle.std.proofs.Common.{◌≡◌, ◌+◌, ◌<◌, ◌≤◌, ℕ, zero, suc, List, [], ◌∷◌, ◌++◌, length, map, refl, sym, ap, ◌∙◌, arith}
use denote.Ref.{Bor}
use Rattle.std.specs.List.{range_with_len}
use Rattle.std.proofs.lemmas.List.{map-append}
use Rattle.std.proofs.lemmas.List.FromFn.{length-map-range_with_len, map-range_with_len_more}
use Rattle.recalculation.specs.Entries.{Contents}
use Rattle.sheet_csv.specs.Sheet.{Record}
use Rattle.saved_sheets.specs.Saving.{columns_used, fields_to, rows_used, saved_row, saved_rows, text_at}
use Rattle.saved_sheets.specs.Widths.{used_widths}

-- one more value of a function
pub one_more : {X : Type 0} (f : ℕ → X) (n : ℕ) (old now : List X) (x : X) → old ≡ map f (range_with_len 0 n) → now ≡ old ++ x ∷ [] → x ≡ f n
    → now ≡ map f (range_with_len 0 (n + 1))
one_more f n old now x before added is = added ∙ ap (λ xs. xs ++ x ∷ []) before ∙ ap (λ y. map f (range_with_len 0 n) ++ y ∷ []) is
    ∙ sym (map-range_with_len_more f 0 n n (omega arith))

-- the same of texts that are borrowed
pub one_more_text : (f : ℕ → List ℕ) (n : ℕ) (old now : List (Bor (List ℕ))) (t : Bor (List ℕ)) → map (λ (b : Bor (List ℕ)). b.now) old ≡ map f (range_with_len 0 n)
    → now ≡ old ++ t ∷ [] → t.now ≡ f n → map (λ (b : Bor (List ℕ)). b.now) now ≡ map f (range_with_len 0 (n + 1))
one_more_text f n old now t before added is =
    one_more f n (map (λ (b : Bor (List ℕ)). b.now) old) (map (λ (b : Bor (List ℕ)). b.now) now) t.now before
    (ap (map (λ (b : Bor (List ℕ)). b.now)) added ∙ map-append (λ (b : Bor (List ℕ)). b.now) old (t ∷ [])) is

-- the fields of a row that reaches to a column
pub fields_there : (contents : Contents) (sheet row n : ℕ) → 0 < n → map (text_at contents sheet row) (range_with_len 0 n) ≡ fields_to contents sheet row n
fields_there contents sheet row zero h = absurd (omega (arith, h))
fields_there contents sheet row (suc n) h = refl

pub all_rows : (contents : Contents) (sheet : ℕ) (widths : List ℕ) → widths ≡ used_widths contents sheet → (rows : List Record) (n : ℕ) → n ≤ length widths → length widths ≤ n
    → rows ≡ map (saved_row contents sheet) (range_with_len 0 n) → rows ≡ saved_rows contents sheet
all_rows contents sheet widths are rows n most least so_far =
    let used = ap length are ∙ length-map-range_with_len (columns_used contents sheet) 0 (rows_used contents sheet) in
    let all : n ≡ rows_used contents sheet = omega (arith, used, most, least) in
    so_far ∙ ap (λ k. map (saved_row contents sheet) (range_with_len 0 k)) all
