-- What the functions of the code return, as what reading gives.
use Rattle.std.specs.Prelude.{◌≡◌, ◌<◌, true, ℕ, suc, Bool, List, [], ◌∷◌, Option, Some, None, Result, Ok, Err, if◌then◌else◌}
use Rattle.std.specs.Option.{option_map_or}
use Rattle.cell_refs.specs.declared.op.Op.{Op}
use Rattle.formula_grammar.specs.declared.symbol.Sign.{Sign}
use Rattle.formula_grammar.specs.declared.symbol.Symbol.{Symbol}
use Rattle.formula_grammar.specs.Symbols.{Setting}
use Rattle.formula_grammar.specs.Parts.{level_of, operator_of, prefix_of}
use Rattle.formula_grammar.specs.Loops.{Reader}
use Rattle.formula_grammar.specs.Reading.{formula_at, primary_at, hundredths_at}
use Rattle.formula_parser.specs.declared.branch.Part.{Part}
use Rattle.formula_parser.specs.declared.stop.Stop.{Stop}
use Rattle.formula_parser.specs.declared.stop.Stop.TheVariants as stops
use Rattle.formula_parser.specs.Built.{built}

-- want of memory says nothing, and where nothing is spelled nothing is read
abbrev pub Fails : {Y : Type 0} → Stop → Option Y → Type 0
Fails stops.Memory read = Unit {0}
Fails stops.Syntax read = read ≡ None

-- what a function returned, seen by a view, is what reading gives, unless memory ran out
abbrev pub Gives : {X Y : Type 0} → (X → Y) → Result X Stop → Option Y → Type 0
Gives view (Ok x) read = read ≡ Some (view x)
Gives view (Err e) read = Fails e read

-- the first symbol, if it is such a one, and the others
abbrev pub next_where : (Sign → Bool) → List Symbol → Option (Symbol × List Symbol)
next_where test [] = None
next_where test (s ∷ ss) = if test s.sign then Some (s, ss) else None

-- such a symbol stands at the front, before the rest
pub record StartsWith (test : Sign → Bool) (symbols rest : List Symbol) : Type 0 where
  pub first : Symbol
  pub front : symbols ≡ first ∷ rest
  pub passes : test first.sign ≡ true

-- the operator in front, and the others
abbrev pub next_operator : List Symbol → Option (Op × List Symbol)
next_operator [] = None
next_operator (s ∷ ss) = option_map_or (λ op. Some (op, ss)) (operator_of s.sign) None

-- an operator in front binds more loosely than a level
abbrev pub IsLooser : ℕ → List Symbol → Type 0
IsLooser level ss = (op : Op) (others : List Symbol) → next_operator ss ≡ Some (op, others) → level < level_of op

-- how many prefix signs stand at the front
unfoldable pub prefix_count : List Symbol → ℕ
prefix_count [] = 0
prefix_count (s ∷ ss) = option_map_or (λ prefix. suc (prefix_count ss)) (prefix_of s.sign) 0

-- reading of formulas, of parts without operators and of parts with % as the code makes them
abbrev pub formulas : Setting → ℕ → Reader Part
formulas S depth = formula_at S (built S) depth

abbrev pub primaries : Setting → ℕ → Reader Part
primaries S depth = primary_at S (built S) (formulas S depth)

abbrev pub hundredths : Setting → ℕ → Reader Part
hundredths S depth = hundredths_at (built S) (primaries S depth)
