-- Texts with commas between them, and what is said of a model and of prices.
use Rattle.std.proofs.Common.{◌≡◌, ◌∙◌, ℕ, ◌≤◌, ◌-◌, false, List, [], ◌∷◌, ◌++◌, length, drop, refl, sym, ap, append-nil, append_assoc, arith}
use Rattle.std.specs.Prelude.{Option, Some, None, bytes_eq, codes, map, slice_index_or, take}
use Rattle.std.specs.List.{join_with_byte}
use Rattle.std.proofs.lemmas.List.{take_all}
use Rattle.optimality.specs.Problem.{Goal, greatest, least, reach}
use Rattle.affine_forms.specs.Forms.{AffineForm}
use Rattle.cell_refs.specs.declared.cell.Cell.{Cell}
use Rattle.model_lines.specs.Lines.{ModelLines, aim_line, model_text}
use Rattle.frac128.specs.Printed.{printed}
use Rattle.commands.specs.declared.answer.PathStep.{PathStep}
use Rattle.commands.specs.declared.price_lines.PriceLines.{PriceLines}
use Rattle.commands.specs.Preceded.{preceded}
use Rattle.commands.specs.Prices.{prices_text}
use Rattle.commands.specs.Refusals.{path_text, step_text}

-- the first text, and each further one behind a comma
joined : (t : List ℕ) (texts : List (List ℕ)) → join_with_byte 44 (t ∷ texts) ≡ t ++ preceded texts
joined t [] = sym (append-nil t)
joined t (u ∷ texts) = ap (λ l. t ++ (44 ∷ l)) (joined u texts)

-- what stands behind the first
abbrev pub behind : {A : Type 0} → List A → List A
behind xs = take (length xs - 1) (drop 1 xs)

behind_first : {A : Type 0} (x : A) (xs : List A) → behind (x ∷ xs) ≡ xs
behind_first x xs = take_all (length (x ∷ xs) - 1) xs (omega arith)

-- of a list that isn't empty
pub with_commas : {A : Type 0} (f : A → List ℕ) (xs : List A) (d : A) → 1 ≤ length xs → f (slice_index_or xs 0 d) ++ preceded (map f (behind xs)) ≡ join_with_byte 44 (map f xs)
with_commas f [] d some = absurd (omega (arith, some))
with_commas f (x ∷ xs) d some = ap (λ l. f x ++ preceded (map f l)) (behind_first x xs) ∙ sym (joined (f x) (map f xs))

-- ---- pivots
-- of steps
pub path_said : (sheets : List (List ℕ)) (path : List PathStep) (d : PathStep) → 1 ≤ length path
    → step_text sheets (slice_index_or path 0 d) ++ preceded (map (step_text sheets) (behind path)) ≡ path_text sheets path
path_said sheets [] d some = absurd (omega (arith, some))
path_said sheets (s ∷ steps) d some = with_commas (step_text sheets) (s ∷ steps) d some

-- a pivot's parts one after the other
pub pivot_said : (old begun path_end mid basis_end row_end new first path second basis third row fourth column : List ℕ)
    → begun ≡ old ++ first → path_end ≡ begun ++ path → mid ≡ path_end ++ second → basis_end ≡ mid ++ basis → row_end ≡ basis_end ++ (third ++ row) → new ≡ row_end ++ (fourth ++ column)
    → new ≡ old ++ (first ++ (path ++ (second ++ (basis ++ (third ++ (row ++ (fourth ++ column)))))))
pivot_said old begun path_end mid basis_end row_end new first path second basis third row fourth column h i j k l m =
    let regrouped : (((((old ++ first) ++ path) ++ second) ++ basis) ++ (third ++ row)) ++ (fourth ++ column)
    ≡ old ++ (first ++ (path ++ (second ++ (basis ++ (third ++ (row ++ (fourth ++ column))))))) = simp append_assoc in
    m ∙ ap (λ t. t ++ (fourth ++ column)) (l ∙ ap (λ t. t ++ (third ++ row)) (k ∙ ap (λ t. t ++ basis) (j ∙ ap (λ t. t ++ second) (i ∙ ap (λ t. t ++ path) h)))) ∙ regrouped

-- ---- models
-- lines begin with the first of them
pub begun : (l : List ℕ) (lines : List (List ℕ)) → (rest : List ℕ) × (join_with_byte 10 (l ∷ lines) ≡ l ++ rest)
begun l [] = ([], sym (append-nil l))
begun l (m ∷ lines) = (10 ∷ join_with_byte 10 (m ∷ lines), refl)

no_refusal : (sheets : List (List ℕ)) (decisions : List Cell) (aim : Option (Goal × AffineForm)) (rest : List ℕ)
    → bytes_eq (take 8 (aim_line sheets decisions aim ++ rest)) (codes "refused ") ≡ false
no_refusal sheets decisions None rest = refl
no_refusal sheets decisions (Some (greatest, f)) rest = refl
no_refusal sheets decisions (Some (least, f)) rest = refl
no_refusal sheets decisions (Some (reach v, f)) rest = refl

-- a model doesn't begin with the word `refused`
pub not_refused : (sheets : List (List ℕ)) (m : ModelLines) → bytes_eq (take 8 (model_text sheets m)) (codes "refused ") ≡ false
not_refused sheets m =
    let all = begun (aim_line sheets m.decisions m.aim) _ in
    ap (λ l. bytes_eq (take 8 l) (codes "refused ")) all.1 ∙ no_refusal sheets m.decisions m.aim all.0

-- nor do prices
pub prices_not_refused : (p : PriceLines) → bytes_eq (take 8 (prices_text p)) (codes "refused ") ≡ false
prices_not_refused p =
    let all = begun (codes "optimal " ++ printed p.value) _ in
    ap (λ l. bytes_eq (take 8 l) (codes "refused ")) all.1
