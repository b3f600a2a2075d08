-- Reading symbols from left to right.
use Rattle.std.specs.Prelude.{ℕ, zero, suc, Bool, true, false, ◌||◌, List, [], ◌∷◌, ◌++◌, Option, Some, None, nat_eq, if◌then◌else◌}
use Rattle.std.specs.Option.{option_map_or, option_and_then}
use Rattle.cell_refs.specs.declared.op.Op.{Op}
use Rattle.formula_grammar.specs.declared.symbol.Sign.{Sign}
use Rattle.formula_grammar.specs.declared.symbol.Sign.TheVariants as sign
use Rattle.formula_grammar.specs.declared.symbol.Symbol.{Symbol}
use Rattle.formula_grammar.specs.Parts.{operator_of, level_of, prefix_of, is_percent, is_separator, is_close}
use Rattle.formula_grammar.specs.Making.{Making}
use Rattle.formula_grammar.specs.Symbols.{Setting}
use Rattle.formula_grammar.specs.Loops.{Found, Reader, Turn, Stop, Go, go_on, all_turns, ◌>>=◌}
use Rattle.formula_grammar.specs.LeafReading.{leaf_at}

-- ---- infix operators

abbrev pub at_level : ℕ → Op → Option Op
at_level level op = if nat_eq (level_of op) level then Some op else None

abbrev pub operator_at : ℕ → Symbol → Option Op
operator_at level s = option_and_then (at_level level) (operator_of s.sign)

abbrev pub infix_turn : (M : Making) → Reader M.Made → ℕ → M.Made → List Symbol → Turn M.Made
infix_turn M operand level x [] = Stop
infix_turn M operand level x (s ∷ ss) = option_map_or (λ op. go_on (M.joined op x) (operand ss)) (operator_at level s) Stop

unfoldable pub level_at : (M : Making) → Reader M.Made → ℕ → Reader M.Made
level_at M base zero ss = base ss
level_at M base (suc n) ss = do
  x ← level_at M base n ss
  all_turns (infix_turn M (level_at M base n) (suc n)) x.0 x.1

-- ---- percent and prefix signs

abbrev pub percent_turn : (M : Making) → M.Made → List Symbol → Turn M.Made
percent_turn M x [] = Stop
percent_turn M x (s ∷ ss) = if is_percent s.sign then Go (M.in_hundredths x s) ss else Stop

unfoldable pub signed_at : (M : Making) → Reader M.Made → Reader M.Made
signed_at M primary [] = None
signed_at M primary (s ∷ ss) = option_map_or (λ prefix. signed_at M primary ss >>= λ x. Some (M.prefixed prefix s x.0, x.1)) (prefix_of s.sign) (primary (s ∷ ss))

unfoldable pub hundredths_at : (M : Making) → Reader M.Made → Reader M.Made
hundredths_at M primary ss = do
  x ← signed_at M primary ss
  all_turns (percent_turn M) x.0 x.1

-- ---- arguments

unfoldable pub close_at : Reader Symbol
close_at [] = None
close_at (s ∷ ss) = if is_close s.sign then Some (s, ss) else None

abbrev pub ends_arg : List Symbol → Bool
ends_arg [] = true
ends_arg (s ∷ ss) = is_separator s.sign || is_close s.sign

unfoldable pub arg_at : (M : Making) → Reader M.Made → ℕ → Reader M.Arg
arg_at M inner before ss = if ends_arg ss then Some (M.missing before, ss) else (inner ss >>= λ x. Some (M.given x.0, x.1))

abbrev pub arg_turn : (M : Making) → Reader M.Made → List M.Arg → List Symbol → Turn (List M.Arg)
arg_turn M inner xs [] = Stop
arg_turn M inner xs (s ∷ ss) = if is_separator s.sign then go_on (λ x. xs ++ x ∷ []) (arg_at M inner s.span.end ss) else Stop

unfoldable pub args_at : (M : Making) → Reader M.Made → ℕ → Reader (List M.Arg)
args_at M inner before ss = do
  x ← arg_at M inner before ss
  all_turns (arg_turn M inner) (x.0 ∷ []) x.1

-- from the symbol after the opening parenthesis on
abbrev pub starts_close : List Symbol → Bool
starts_close [] = false
starts_close (s ∷ ss) = is_close s.sign

unfoldable pub call_at : (M : Making) → Reader M.Made → Symbol → ℕ → Reader M.Made
call_at M inner s before ss = do
  xs ← if starts_close ss then Some ([], ss) else args_at M inner before ss
  t ← close_at xs.1
  Some (M.called s xs.0 t.0, t.1)

-- ---- what stands alone

-- a part without parts of its own
unfoldable pub leaf_of : (S : Setting) (M : Making) → Reader M.Made
leaf_of S M ss = leaf_at S ss >>= λ x. Some (M.leaf x.0, x.1)

abbrev pub word_by : (S : Setting) (M : Making) → Reader M.Made → Symbol → Sign → Symbol → List Symbol → Found M.Made
word_by S M inner s sign.Open t ss = call_at M inner s t.span.end ss
word_by S M inner s _ t ss = leaf_of S M (s ∷ t ∷ ss)

unfoldable pub word_at : (S : Setting) (M : Making) → Reader M.Made → Symbol → Reader M.Made
word_at S M inner s [] = leaf_of S M (s ∷ [])
word_at S M inner s (t ∷ ss) = word_by S M inner s t.sign t ss

unfoldable pub parens_at : (M : Making) → Reader M.Made → Symbol → Reader M.Made
parens_at M inner s ss = do
  x ← inner ss
  t ← close_at x.1
  Some (M.enclosed s x.0 t.0, t.1)

abbrev pub primary_by : (S : Setting) (M : Making) → Reader M.Made → Sign → Symbol → List Symbol → Found M.Made
primary_by S M inner sign.Word s ss = word_at S M inner s ss
primary_by S M inner sign.Open s ss = parens_at M inner s ss
primary_by S M inner _ s ss = leaf_of S M (s ∷ ss)

unfoldable pub primary_at : (S : Setting) (M : Making) → Reader M.Made → Reader M.Made
primary_at S M inner [] = None
primary_at S M inner (s ∷ ss) = primary_by S M inner s.sign s ss

-- ---- formulas

-- below at most so many brackets, and one more around the whole
unfoldable pub formula_at : (S : Setting) (M : Making) → ℕ → Reader M.Made
formula_at S M zero ss = None
formula_at S M (suc depth) ss = level_at M (hundredths_at M (primary_at S M (formula_at S M depth))) 5 ss
