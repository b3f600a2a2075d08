-- How many brackets are open.
use Rattle.std.specs.Prelude.{ℕ, suc, ◌-◌, List, [], ◌∷◌, max}
use Rattle.formula_grammar.specs.declared.symbol.Sign.{Sign}
use Rattle.formula_grammar.specs.declared.symbol.Sign.TheVariants as sign
use Rattle.formula_grammar.specs.declared.symbol.Symbol.{Symbol}

-- how many are open behind a sign
abbrev pub opened : Sign → ℕ → ℕ
opened sign.Open n = suc n
opened sign.OpenSquare n = suc n
opened sign.OpenBrace n = suc n
opened sign.Close n = n - 1
opened sign.CloseSquare n = n - 1
opened sign.CloseBrace n = n - 1
opened _ n = n

-- the most that are open at a place, where n are open before
abbrev pub most_open : ℕ → List Symbol → ℕ
most_open n [] = n
most_open n (s ∷ ss) = max n (most_open (opened s.sign n) ss)
