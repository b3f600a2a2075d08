-- Trees in a list, one by one.
use Rattle.std.proofs.Common.{◌≡◌, ◌+◌, ◌<◌, ◌∙◌, ℕ, zero, suc, Bool, true, false, List, [], ◌∷◌, ◌++◌, length, take, get_or, arith, refl, sym, ap}
use Rattle.std.specs.Prelude.{◌&&◌}
use Rattle.std.proofs.lemmas.List.{take_more}
use Rattle.formula_ast.specs.Tree.{Tree, trees}
use Rattle.plain_formulas.specs.Plain.{are_plain, is_plain}

alone : (b : Bool) → (b && true) ≡ b
alone true = refl
alone false = refl

grouped : (a b c : Bool) → (a && (b && c)) ≡ ((a && b) && c)
grouped true b c = refl
grouped false b c = refl

last : (ts : List Tree) (t : Tree) → are_plain (trees (ts ++ t ∷ [])) ≡ (are_plain (trees ts) && is_plain t)
last [] t = alone (is_plain t)
last (x ∷ ts) t = ap (λ b. is_plain x && b) (last ts t) ∙ grouped (is_plain x) (are_plain (trees ts)) (is_plain t)

-- one more that is plain
pub more_plain : (ts : List Tree) (i : ℕ) (t : Tree) → i < length ts → t ≡ get_or ts i t → are_plain (trees (take i ts)) ≡ true → true ≡ is_plain t → are_plain (trees (take (i + 1) ts)) ≡ true
more_plain ts i t h at before here =
    ap (λ l. are_plain (trees l)) (take_more ts i t h) ∙ last (take i ts) (get_or ts i t) ∙ ap (λ b. b && is_plain (get_or ts i t)) before ∙ ap is_plain (sym at) ∙ sym here

none : (b : Bool) → false ≡ (b && false)
none true = refl
none false = refl

-- one that isn't
pub not_plain : (ts : List Tree) (i : ℕ) (t : Tree) → i < length ts → t ≡ get_or ts i t → false ≡ is_plain t → false ≡ are_plain (trees ts)
not_plain [] i t h at here = absurd (omega arith)
not_plain (x ∷ ts) zero t h at here = ap (λ b. b && are_plain (trees ts)) (here ∙ ap is_plain at)
not_plain (x ∷ ts) (suc i) t h at here = none (is_plain x) ∙ ap (λ b. is_plain x && b) (not_plain ts i t (omega arith) at here)
