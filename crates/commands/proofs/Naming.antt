-- Names of sheets that stand in quotes.
use Rattle.std.proofs.Common.{◌≡◌, ◌≢◌, ◌∙◌, ◌<◌, ◌≤◌, ◌+◌, ℕ, zero, suc, Bool, true, false, cond, List, [], ◌∷◌, Option, Some, None, refl, sym, ap, arith, length, drop, get_or}
use Rattle.std.specs.Prelude.{◌==◌, IfSome, is_some, option_and_then, option_map, slice_get}
use Rattle.std.specs.Option.{option_map_or}
use Rattle.std.proofs.lemmas.Bool.{ne_eqb}
use Rattle.cell_refs.specs.Names.{place_in, same_letters}
use Rattle.cell_refs.specs.Sheets.{behind_quote, in_quotes, unquoted}

-- a name that is read is this one but for the case of its letters
abbrev pub is_name : List ℕ → Option (List ℕ) → Bool
is_name own o = option_map_or (same_letters own) o false

-- ---- a text from a place on
pub from : (text : List ℕ) (i b : ℕ) → i < length text → get_or text i 0 ≡ b → drop i text ≡ b ∷ drop (i + 1) text
from [] i b lt is = absurd (omega (arith, lt))
from (x ∷ text) zero b lt is = ap (λ c. c ∷ text) is
from (x ∷ text) (suc i) b lt is =
    let one_more : suc (i + 1) ≡ suc i + 1 = omega arith in
    from text i b (omega (arith, lt)) is ∙ ap (λ n. b ∷ drop n (x ∷ text)) one_more

-- ---- closing quotes
mapped_name : (b : ℕ) (o : Option (List ℕ)) → is_name [] (option_map (λ name. b ∷ name) o) ≡ false
mapped_name b None = refl
mapped_name b (Some name) = refl

pub not_closing : (text : List ℕ) → 2 ≤ length text → option_map_or (same_letters []) (unquoted text) false ≡ false
not_closing [] some = absurd (omega (arith, some))
not_closing (a ∷ []) some = absurd (omega (arith, some))
not_closing (a ∷ b ∷ text) some =
    elim (a == 39) as (λ x. is_name [] (cond x (behind_quote (b ∷ text)) (option_map (λ name. a ∷ name) (unquoted (b ∷ text)))) ≡ false) [
      | true ↦ elim (b == 39) as (λ y. is_name [] (cond y (option_map (λ name. 39 ∷ name) (unquoted text)) None) ≡ false) [
        | true ↦ mapped_name 39 (unquoted text)
        | false ↦ refl
      ]
      | false ↦ mapped_name a (unquoted (b ∷ text))
    ]

-- ---- names up to case
longer : (a : ℕ) (own : List ℕ) (o : Option (List ℕ)) → IfSome o (λ name. name ≡ []) → is_name (a ∷ own) o ≡ false
longer a own None ended = refl
longer a own (Some name) ended = ap (same_letters (a ∷ own)) ended

pub ended_before : (own : List ℕ) (i : ℕ) (now : Option (List ℕ)) (total : Bool) → i < length own → IfSome now (λ name. name ≡ [])
    → is_name (drop i own) now ≡ total → false ≡ total
ended_before own i now total lt ended so_far =
    sym (ap (λ l. is_name l now) (from own i (get_or own i 0) lt refl) ∙ longer (get_or own i 0) (drop (i + 1) own) now ended) ∙ so_far

-- ---- the first of the sheets
pub first_named : (names : List (List ℕ)) (o : Option (List ℕ)) (place : ℕ) (own : List ℕ) → slice_get names place ≡ Some own → is_name own o ≡ true
    → ((k : ℕ) → k < place → (other : List ℕ) → slice_get names k ≡ Some other → is_name other o ≡ false) → Some place ≡ option_and_then (place_in names) o
first_named names None place own there is before = cc is
first_named names (Some name) place own there is before = sym (found names name place own there is before)
  where
    behind : (t : Bool) (o : Option ℕ) → t ≡ false → cond t (Some 0) (option_map suc o) ≡ option_map suc o
    behind true o e = cc e
    behind false o e = refl

    found : (names : List (List ℕ)) (name : List ℕ) (place : ℕ) (own : List ℕ) → slice_get names place ≡ Some own → same_letters own name ≡ true
        → ((k : ℕ) → k < place → (other : List ℕ) → slice_get names k ≡ Some other → same_letters other name ≡ false) → place_in names name ≡ Some place
    found [] name place own there is before = cc there
    found (x ∷ names) name zero own there is before =
        let e : x ≡ own = cc there in
        ap (λ t. cond t (Some 0) (option_map suc (place_in names name))) (ap (λ l. same_letters l name) e ∙ is)
    found (x ∷ names) name (suc place) own there is before =
        behind (same_letters x name) (place_in names name) (before 0 (omega arith) x refl)
        ∙ ap (option_map suc) (found names name place own there is (λ k lt other at. before (suc k) (omega (arith, lt)) other at))

pub none_named : (names : List (List ℕ)) (o : Option (List ℕ)) → ((k : ℕ) → k < length names → (other : List ℕ) → slice_get names k ≡ Some other → is_name other o ≡ false)
    → None ≡ option_and_then (place_in names) o
none_named names None before = refl
none_named [] (Some name) before = refl
none_named (x ∷ names) (Some name) before =
    ap (option_map suc) (none_named names (Some name) (λ k lt other at. before (suc k) (omega (arith, lt)) other at))
    ∙ sym (ap (λ t. cond t (Some 0) (option_map suc (place_in names name))) (before 0 (omega arith) x refl))

-- ---- the whole text
known : {A B : Type 0} (f : A → Option B) (o : Option A) → is_some o ≡ true → option_map f o ≡ Some (option_and_then f o)
known f None is = cc is
known f (Some x) is = refl

unknown : {A B : Type 0} (f : A → B) (o : Option A) → is_some o ≡ false → option_map f o ≡ None
unknown f None is = refl
unknown f (Some x) is = cc is

-- a text in quotes that is closed
pub closed_name : (sheets : List (List ℕ)) (text : List ℕ) → 1 ≤ length text → get_or text 0 0 ≡ 39 → is_some (unquoted (drop 1 text)) ≡ true
    → option_map (place_in sheets) (in_quotes text) ≡ Some (option_and_then (place_in sheets) (unquoted (drop 1 text)))
closed_name sheets [] some is closed = absurd (omega (arith, some))
closed_name sheets (b ∷ text) some is closed = ap (λ c. option_map (place_in sheets) (in_quotes (c ∷ text))) is ∙ known (place_in sheets) (unquoted text) closed

-- one that isn't
pub open_name : (sheets : List (List ℕ)) (text : List ℕ) → 1 ≤ length text → get_or text 0 0 ≡ 39 → is_some (unquoted (drop 1 text)) ≡ false
    → option_map (place_in sheets) (in_quotes text) ≡ None
open_name sheets [] some is open_one = absurd (omega (arith, some))
open_name sheets (b ∷ text) some is open_one = ap (λ c. option_map (place_in sheets) (in_quotes (c ∷ text))) is ∙ unknown (place_in sheets) (unquoted text) open_one

-- and one that isn't in quotes
pub no_quotes : (sheets : List (List ℕ)) (text : List ℕ) → get_or text 0 0 ≢ 39 → option_map (place_in sheets) (in_quotes text) ≡ None
no_quotes sheets [] other = refl
no_quotes sheets (b ∷ text) other = ap (λ t. option_map (place_in sheets) (cond t (unquoted text) None)) (ne_eqb b 39 other)
