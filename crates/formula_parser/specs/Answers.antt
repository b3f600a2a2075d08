-- What parsing answers.
use Rattle.std.specs.Prelude.{◌≡◌, ◌⊎◌, ◌<◌, ◌≤◌, Bool, true, false, ◌&&◌, bytes_eq, if◌then◌else◌, nat_eq, nat_lt, List, [], ◌∷◌, Option, Some, None, Result, Ok, Err, codes}
use Rattle.formula_ast.specs.Measures.{height_of}
use Rattle.formula_ast.specs.Tree.{Tree}
use Rattle.formula_grammar.specs.declared.symbol.Symbol.{Symbol}
use Rattle.formula_grammar.specs.declared.symbol.Sign.{Sign}
use Rattle.formula_grammar.specs.declared.symbol.Sign.TheVariants as sign
use Rattle.formula_grammar.specs.Symbols.{Setting, bytes_of}
use Rattle.formula_grammar.specs.Depth.{most_open}
use Rattle.formula_grammar.specs.Faults.{has_part, is_lost, is_miscounted, is_wide}
use Rattle.formula_grammar.specs.Formula.{IsTooDeep, SpellsFormula, SpellsText}
use Rattle.formula_grammar.specs.LeafReading.{is_colon, is_word}
use Rattle.formula_parser.specs.declared.branch.Branch.{Branch}
use Rattle.formula_parser.specs.declared.fault.ParseFault.{ParseFault}
use Rattle.formula_parser.specs.declared.fault.ParseFault.TheVariants as fault

-- the first fault of a tree, in their order, if it has one
abbrev pub fault_of : Tree → Option ParseFault
fault_of t =
    if nat_lt 512 (height_of t) then Some fault.TooDeep
    else if has_part is_lost t then Some fault.UnknownSheet
    else if has_part is_miscounted t then Some fault.ArgumentCount
    else if has_part is_wide t then Some fault.WideNumeral
    else None

-- what is answered of a text: its tree, where it has one without faults; TooDeep where too many brackets are open; Syntax where
-- no tree has that text; and else the first fault of its tree
abbrev pub Answers : Setting → Result Tree ParseFault → Type 0
Answers S (Ok t) = (IsTooDeep S → ⊥) × SpellsText S t × (fault_of t ≡ None)
Answers S (Err fault.Memory) = Unit {0}
Answers S (Err fault.Syntax) = (IsTooDeep S → ⊥) × ((t : Tree) → SpellsText S t → ⊥)
Answers S (Err fault.TooDeep) = IsTooDeep S ⊎ ((t : Tree) × SpellsText S t × (fault_of t ≡ Some fault.TooDeep))
Answers S (Err f) = (IsTooDeep S → ⊥) × ((t : Tree) × SpellsText S t × (fault_of t ≡ Some f))

-- the same of the symbols of a text
abbrev pub SymbolAnswers : Setting → List Symbol → Result Tree ParseFault → Type 0
SymbolAnswers S ss (Ok t) = (most_open 0 ss ≤ 64) × SpellsFormula S ss t × (fault_of t ≡ None)
SymbolAnswers S ss (Err fault.Memory) = Unit {0}
SymbolAnswers S ss (Err fault.Syntax) = (most_open 0 ss ≤ 64) × ((t : Tree) → SpellsFormula S ss t → ⊥)
SymbolAnswers S ss (Err fault.TooDeep) = (64 < most_open 0 ss) ⊎ ((t : Tree) × SpellsFormula S ss t × (fault_of t ≡ Some fault.TooDeep))
SymbolAnswers S ss (Err f) = (most_open 0 ss ≤ 64) × ((t : Tree) × SpellsFormula S ss t × (fault_of t ≡ Some f))

-- what becomes of a branch in the end: its tree, where it is low enough and has no fault, and else the first fault
abbrev pub Settles : Branch → Result Tree ParseFault → Type 0
Settles b (Ok t) = (b.expr ≡ Some t) × (b.height ≤ 512) × (b.faults.lost ≡ false) × (b.faults.miscounted ≡ false)
Settles b (Err fault.TooDeep) = 512 < b.height
Settles b (Err fault.UnknownSheet) = (b.height ≤ 512) × (b.faults.lost ≡ true)
Settles b (Err fault.ArgumentCount) = (b.height ≤ 512) × (b.faults.lost ≡ false) × (b.faults.miscounted ≡ true)
Settles b (Err fault.WideNumeral) = (b.height ≤ 512) × (b.faults.lost ≡ false) × (b.faults.miscounted ≡ false) × (b.expr ≡ None)
Settles b (Err _) = ⊥

-- whether two symbols are the word of and a colon, with no blank between
abbrev pub is_of : Setting → Symbol → Symbol → Bool
is_of S s t = is_word s.sign && (is_colon t.sign && (nat_eq t.span.start s.span.end && bytes_eq (bytes_of S s) (codes "of")))

abbrev pub is_equal : Sign → Bool
is_equal sign.Equal = true
is_equal _ = false

-- what stands behind one equals sign, or two
abbrev pub behind_equals : List Symbol → Option (List Symbol)
behind_equals [] = None
behind_equals (s ∷ []) = if is_equal s.sign then Some [] else None
behind_equals (s ∷ t ∷ ss) = if is_equal s.sign then (if is_equal t.sign then Some ss else Some (t ∷ ss)) else None

-- what stands behind the mark of a formula
abbrev pub behind_mark : Setting → List Symbol → Option (List Symbol)
behind_mark S [] = None
behind_mark S (s ∷ []) = behind_equals (s ∷ [])
behind_mark S (s ∷ t ∷ ss) = if is_of S s t then behind_equals ss else behind_equals (s ∷ t ∷ ss)
