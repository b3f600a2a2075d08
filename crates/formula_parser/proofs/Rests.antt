-- What is left of symbols.
use Rattle.std.proofs.Common.{◌≡◌, ℕ, zero, suc, ◌-◌, List, [], ◌∷◌, length, take, drop, refl, sym, subst, arith}
use Rattle.std.proofs.lemmas.Grind.{common_steps}
use Rattle.formula_grammar.specs.declared.symbol.Symbol.{Symbol}
use Rattle.formula_parser.specs.Placed.{AreSymbols}
use Rattle.formula_parser.proofs.Order.{others_are}

whole_rest : (ss : List Symbol) (n : ℕ) → take (length ss - n) (drop n ss) ≡ drop n ss
whole_rest ss n = grind (arith, common_steps)

dropped : (text : List ℕ) (ss : List Symbol) (n : ℕ) → AreSymbols text ss → AreSymbols text (drop n ss)
dropped text ss zero h = h
dropped text [] (suc n) h = h
dropped text (s ∷ ss) (suc n) h = dropped text ss n (others_are text s ss (s ∷ ss) refl h)

-- what stands behind the first symbols is symbols of the text
pub rest_are : (text : List ℕ) (ss : List Symbol) (n : ℕ) → AreSymbols text ss → AreSymbols text (take (length ss - n) (drop n ss))
rest_are text ss n h = subst (AreSymbols text) (sym (whole_rest ss n)) (dropped text ss n h)
