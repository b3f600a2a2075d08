-- Where symbols and parts stand in the text.
use Rattle.std.specs.Prelude.{◌≤◌, ◌<◌, ℕ, List, [], ◌∷◌, length, All, IfSome}
use Rattle.std.specs.Str.{IsCharBoundary}
use Rattle.cell_refs.specs.declared.span.Span.{Span}
use Rattle.formula_ast.specs.Sound.{IsWithin}
use Rattle.formula_ast.specs.Tree.{span_of}
use Rattle.formula_grammar.specs.declared.symbol.Symbol.{Symbol}
use Rattle.formula_parser.specs.declared.branch.Branch.{Branch}
use Rattle.formula_parser.specs.declared.branch.Part.{Part}

-- a symbol is a piece of the text
pub record IsInText (text : List ℕ) (s : Symbol) : Type 0 where
  pub some : s.span.start < s.span.end
  pub within : s.span.end ≤ length text
  pub first : IsCharBoundary text s.span.start
  pub last : IsCharBoundary text s.span.end

-- symbols stand in order from a byte on
abbrev pub InOrder : ℕ → List Symbol → Type 0
InOrder from [] = Unit {0}
InOrder from (s ∷ ss) = (from ≤ s.span.start) × InOrder s.span.end ss

-- they are pieces of the text, in order
abbrev pub AreSymbols : List ℕ → List Symbol → Type 0
AreSymbols text ss = All (IsInText text) ss × InOrder 0 ss

-- the tree of a branch, if there is one, lies within a place
abbrev pub IsBetween : Span → Branch → Type 0
IsBetween place b = IfSome b.expr (λ t. IsWithin (span_of t) place)

-- a part's tree lies within its place
pub record IsPlaced (p : Part) : Type 0 where
  pub forward : p.place.start ≤ p.place.end
  pub within : IsBetween p.place p.branch

-- a part that was read stands at the front of the symbols, before the rest
pub record IsInFront (symbols : List Symbol) (p : Part) (rest : List Symbol) : Type 0 where
  pub placed : IsPlaced p
  pub starts : (from : ℕ) → InOrder from symbols → from ≤ p.place.start
  pub ends : (from : ℕ) → InOrder from symbols → InOrder p.place.end rest

-- branches that were read stand one after the other from a byte on, before the rest
pub record AreBefore (before : ℕ) (branches : List Branch) (rest : List Symbol) : Type 0 where
  pub last : ℕ
  pub order : before ≤ last
  pub within : All (IsBetween (record { start = before; end = last })) branches
  pub ends : InOrder last rest
