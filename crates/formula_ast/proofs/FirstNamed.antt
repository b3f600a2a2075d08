-- The first function of a name.
use Rattle.std.proofs.Common.{◌≡◌, ℕ, List, [], ◌∷◌, Bool, true, false, Option, Some, None, refl, sym, ap, ◌∙◌, map, if◌then◌else◌}
use Rattle.std.specs.Prelude.{IfSome, IfNone}
use Rattle.std.specs.Char.{to_ascii_lowercase}
use Rattle.cell_refs.specs.Names.{same_letters}
use Rattle.cell_refs.proofs.Places.{other, same}
use Rattle.formula_ast.specs.declared.func.Func.{Func}
use Rattle.formula_ast.specs.declared.func.Func.TheVariants as func
use Rattle.formula_ast.specs.Functions.{IsNameOf, first_named, func_in, functions, name_of}
use Rattle.formula_ast.proofs.Names.{one_named}

abbrev OfAll : (Func → Type 0) → List Func → Type 0
OfAll P [] = Unit {0}
OfAll P (f ∷ fs) = P f × OfAll P fs

-- what holds of all functions holds of each
each : (P : Func → Type 0) → OfAll P functions → (f : Func) → P f
each P h func.Sum = h.0
each P h func.Average = h.1.0
each P h func.Count = h.1.1.0
each P h func.SumProduct = h.1.1.1.0
each P h func.MMult = h.1.1.1.1.0
each P h func.Transpose = h.1.1.1.1.1.0
each P h func.Index = h.1.1.1.1.1.1.0
each P h func.Match = h.1.1.1.1.1.1.1.0
each P h func.VLookup = h.1.1.1.1.1.1.1.1.0
each P h func.HLookup = h.1.1.1.1.1.1.1.1.1.0
each P h func.Choose = h.1.1.1.1.1.1.1.1.1.1.0
each P h func.SumIf = h.1.1.1.1.1.1.1.1.1.1.1.0
each P h func.CountIf = h.1.1.1.1.1.1.1.1.1.1.1.1.0
each P h func.If = h.1.1.1.1.1.1.1.1.1.1.1.1.1.0
each P h func.IfError = h.1.1.1.1.1.1.1.1.1.1.1.1.1.1.0
each P h func.And = h.1.1.1.1.1.1.1.1.1.1.1.1.1.1.1.0
each P h func.Or = h.1.1.1.1.1.1.1.1.1.1.1.1.1.1.1.1.0
each P h func.Not = h.1.1.1.1.1.1.1.1.1.1.1.1.1.1.1.1.1.0
each P h func.True = h.1.1.1.1.1.1.1.1.1.1.1.1.1.1.1.1.1.1.0
each P h func.False = h.1.1.1.1.1.1.1.1.1.1.1.1.1.1.1.1.1.1.1.0
each P h func.Abs = h.1.1.1.1.1.1.1.1.1.1.1.1.1.1.1.1.1.1.1.1.0
each P h func.Min = h.1.1.1.1.1.1.1.1.1.1.1.1.1.1.1.1.1.1.1.1.1.0
each P h func.Max = h.1.1.1.1.1.1.1.1.1.1.1.1.1.1.1.1.1.1.1.1.1.1.0
each P h func.Int = h.1.1.1.1.1.1.1.1.1.1.1.1.1.1.1.1.1.1.1.1.1.1.1.0
each P h func.Mod = h.1.1.1.1.1.1.1.1.1.1.1.1.1.1.1.1.1.1.1.1.1.1.1.1.0
each P h func.Round = h.1.1.1.1.1.1.1.1.1.1.1.1.1.1.1.1.1.1.1.1.1.1.1.1.1.0
each P h func.Power = h.1.1.1.1.1.1.1.1.1.1.1.1.1.1.1.1.1.1.1.1.1.1.1.1.1.1.0
each P h func.N = h.1.1.1.1.1.1.1.1.1.1.1.1.1.1.1.1.1.1.1.1.1.1.1.1.1.1.1.0
each P h func.IsNumber = h.1.1.1.1.1.1.1.1.1.1.1.1.1.1.1.1.1.1.1.1.1.1.1.1.1.1.1.1.0
each P h func.IsBlank = h.1.1.1.1.1.1.1.1.1.1.1.1.1.1.1.1.1.1.1.1.1.1.1.1.1.1.1.1.1.0
each P h func.Rows = h.1.1.1.1.1.1.1.1.1.1.1.1.1.1.1.1.1.1.1.1.1.1.1.1.1.1.1.1.1.1.0
each P h func.Columns = h.1.1.1.1.1.1.1.1.1.1.1.1.1.1.1.1.1.1.1.1.1.1.1.1.1.1.1.1.1.1.1.0

by_test : (b : Bool) (f g : Func) (o : Option Func) (text : List ℕ) → same_letters (name_of f) text ≡ b → (o ≡ Some g → IsNameOf g text)
    → (if b then Some f else o) ≡ Some g → IsNameOf g text
by_test true f g o text e go h = let k : f ≡ g = cc h in ap (λ x. map to_ascii_lowercase text) k ∙ sym (other (name_of f) text e) ∙ ap (λ x. map to_ascii_lowercase (name_of x)) k
by_test false f g o text e go h = go h

-- the first that is found has the name
found_is : (fs : List Func) (g : Func) (text : List ℕ) → first_named fs text ≡ Some g → IsNameOf g text
found_is [] g text h = cc h
found_is (f ∷ fs) g text h = by_test (same_letters (name_of f) text) f g (first_named fs text) text refl (found_is fs g text) h

none_by : (b : Bool) (f : Func) (o : Option Func) → (if b then Some f else o) ≡ None → (b ≡ false) × (o ≡ None)
none_by true f o h = cc h
none_by false f o h = (refl, h)

-- where none is found, none has the name
none_is : (fs : List Func) (text : List ℕ) → first_named fs text ≡ None → OfAll (λ f. same_letters (name_of f) text ≡ false) fs
none_is [] text h = tt
none_is (f ∷ fs) text h = let k = none_by (same_letters (name_of f) text) f (first_named fs text) h in (k.0, none_is fs text k.1)

here : (f : Func) (text : List ℕ) → IsNameOf f text → func_in text ≡ Some f
here f text is = by (func_in text) refl
  where
    by : (o : Option Func) → func_in text ≡ o → func_in text ≡ Some f
    by (Some g) e = e ∙ ap Some (one_named f g text is (found_is functions g text e))
    by None e =
        let differ = each (λ g. same_letters (name_of g) text ≡ false) (none_is functions text e) f in
        let agree = same (name_of f) text (sym is) in
        cc

nowhere : (text : List ℕ) → ((f : Func) → IsNameOf f text → ⊥) → func_in text ≡ None
nowhere text none = by (func_in text) refl
  where
    by : (o : Option Func) → func_in text ≡ o → func_in text ≡ None
    by (Some g) e = absurd (none g (found_is functions g text e))
    by None e = e

-- so an answer that tells the function of a name is that function
pub told : (text : List ℕ) (r : Option Func) → IfSome r (λ f. IsNameOf f text) → IfNone r ((f : Func) → IsNameOf f text → ⊥) → r ≡ func_in text
told text None some none = sym (nowhere text none)
told text (Some f) some none = sym (here f text some)
