-- Symbols with many open brackets.
use Rattle.std.proofs.Common.{◌≡◌, ℕ, suc, ◌<◌, max, List, ◌∷◌, drop, get_or, drop-cons, length, ap, arith}
use Rattle.formula_grammar.specs.declared.symbol.Symbol.{Symbol}
use Rattle.formula_grammar.specs.Depth.{opened, most_open}
use Rattle.formula_grammar.proofs.Signs.{open_least}

-- where too many are open behind a symbol, too many are open at a place
pub deep_here : (ss : List Symbol) (i n total : ℕ) (d : Symbol) → i < length ss → 64 < opened (get_or ss i d).sign n → max 64 (most_open n (drop i ss)) ≡ max 64 total → 64 < total
deep_here ss i n total d lt deep e =
    let split : most_open n (drop i ss) ≡ most_open n (get_or ss i d ∷ drop (suc i) ss) = ap (most_open n) (drop-cons ss i d lt) in
    let least = open_least (opened (get_or ss i d).sign n) (drop (suc i) ss) in
    omega arith
