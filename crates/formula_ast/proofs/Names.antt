-- The functions by their names.
use Rattle.std.proofs.Common.{◌≡◌, ◌<◌, ◌≤◌, ◌+◌, ℕ, List, [], ◌∷◌, false, cond, length, drop, get_or, map, refl, ap, ◌∙◌}
use Rattle.std.specs.Prelude.{Option, Some, None, bytes_eq}
use Rattle.std.specs.Char.{to_ascii_lowercase}
use Rattle.std.proofs.lemmas.List.{at_drop_more, at_drop_all}
use Rattle.std.proofs.lemmas.Bool.{false_from_ne_true}
use Rattle.std.proofs.lemmas.Slice.Eq.{bytes_eq-Decides}
use Rattle.formula_ast.specs.declared.func.Func.{Func}
use Rattle.formula_ast.specs.declared.func.Func.TheVariants as func
use Rattle.formula_ast.specs.declared.func.TheConstants.Func.{ALL}
use Rattle.formula_ast.specs.Functions.{IsNameOf, name_of}

-- a text in small letters
abbrev pub small : List ℕ → List ℕ
small text = map to_ascii_lowercase text

-- the first of the functions whose name is the text, which is in small letters
abbrev pub named : List ℕ → List Func → Option Func
named text [] = None
named text (f ∷ fs) = cond (bytes_eq text (small (name_of f))) (Some f) (named text fs)

-- a name leads to its function among all of them
named_name : (f : Func) → named (small (name_of f)) ALL ≡ Some f
named_name func.Sum = refl
named_name func.Average = refl
named_name func.Count = refl
named_name func.SumProduct = refl
named_name func.MMult = refl
named_name func.Transpose = refl
named_name func.Index = refl
named_name func.Match = refl
named_name func.VLookup = refl
named_name func.HLookup = refl
named_name func.Choose = refl
named_name func.SumIf = refl
named_name func.CountIf = refl
named_name func.If = refl
named_name func.IfError = refl
named_name func.And = refl
named_name func.Or = refl
named_name func.Not = refl
named_name func.True = refl
named_name func.False = refl
named_name func.Abs = refl
named_name func.Min = refl
named_name func.Max = refl
named_name func.Int = refl
named_name func.Mod = refl
named_name func.Round = refl
named_name func.Power = refl
named_name func.N = refl
named_name func.IsNumber = refl
named_name func.IsBlank = refl
named_name func.Rows = refl
named_name func.Columns = refl

-- so does the name in any case of letters
pub named-is : (f : Func) (text : List ℕ) → IsNameOf f text → named (small text) ALL ≡ Some f
named-is f text is = ap (λ t. named t ALL) is ∙ named_name f

-- no two functions have one name
pub one_named : (f g : Func) (text : List ℕ) → IsNameOf f text → IsNameOf g text → g ≡ f
one_named f g text is is' =
    let first = named-is f text is in
    let second = named-is g text is' in
    cc

-- a function of another name is passed
pub named-pass : (fs : List Func) (i : ℕ) (d : Func) (text : List ℕ) → i < length fs → (IsNameOf (get_or fs i d) text → ⊥)
    → named (small text) (drop i fs) ≡ named (small text) (drop (i + 1) fs)
named-pass fs i d text within other =
    let differ : bytes_eq (small text) (small (name_of (get_or fs i d))) ≡ false = false_from_ne_true _ (λ e. other ((bytes_eq-Decides _ _).0 e)) in
    at_drop_more (named (small text)) fs i d within
    ∙ ap (λ b. cond b (Some (get_or fs i d)) (named (small text) (drop (i + 1) fs))) differ

-- where no function is left, none has the name
pub named-none : (i : ℕ) (text : List ℕ) → length ALL ≤ i → named (small text) (drop i ALL) ≡ named (small text) ALL → (f : Func) → IsNameOf f text → ⊥
named-none i text past same f is =
    let none : named (small text) (drop i ALL) ≡ None = at_drop_all (named (small text)) ALL i past in
    let some = named-is f text is in
    cc
