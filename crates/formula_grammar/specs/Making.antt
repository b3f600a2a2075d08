-- What reading makes of the parts of a formula, whatever that is.
use Rattle.std.specs.Prelude.{◌≡◌, ℕ, List, map}
use Rattle.cell_refs.specs.declared.op.Op.{Op}
use Rattle.formula_ast.specs.Tree.{Tree, Missing}
use Rattle.formula_grammar.specs.declared.symbol.Symbol.{Symbol}
use Rattle.formula_grammar.specs.Parts as parts
use Rattle.formula_grammar.specs.Parts.{Part, Prefix}
use Rattle.formula_grammar.specs.Symbols.{Setting, at_byte}

pub record Making : Type 1 where
  pub Made : Type 0
  pub Arg : Type 0
  pub joined : Op → Made → Made → Made
  pub prefixed : Prefix → Symbol → Made → Made
  pub in_hundredths : Made → Symbol → Made
  pub enclosed : Symbol → Made → Symbol → Made
  pub leaf : Tree → Made
  pub called : Symbol → List Arg → Symbol → Made
  pub missing : ℕ → Arg
  pub given : Made → Arg

-- the trees themselves
abbrev pub plain : Setting → Making
plain S = record {
  Made = Part;
  Arg = Tree;
  joined = parts.joined;
  prefixed = parts.prefixed;
  in_hundredths = parts.in_hundredths;
  enclosed = parts.enclosed;
  leaf = parts.leaf;
  called = parts.called S;
  missing = λ before. Missing (at_byte before);
  given = λ x. x.tree;
}

-- what is made shows the tree
pub record Shows (S : Setting) (M : Making) : Type 0 where
  pub show : Part → M.Made
  pub show_arg : Tree → M.Arg
  pub joined : (op : Op) (x y : Part) → show (parts.joined op x y) ≡ M.joined op (show x) (show y)
  pub prefixed : (prefix : Prefix) (s : Symbol) (x : Part) → show (parts.prefixed prefix s x) ≡ M.prefixed prefix s (show x)
  pub in_hundredths : (x : Part) (s : Symbol) → show (parts.in_hundredths x s) ≡ M.in_hundredths (show x) s
  pub enclosed : (s : Symbol) (x : Part) (t : Symbol) → show (parts.enclosed s x t) ≡ M.enclosed s (show x) t
  pub leaf : (x : Tree) → show (parts.leaf x) ≡ M.leaf x
  pub called : (s : Symbol) (xs : List Tree) (t : Symbol) → show (parts.called S s xs t) ≡ M.called s (map show_arg xs) t
  pub missing : (before : ℕ) → show_arg (Missing (at_byte before)) ≡ M.missing before
  pub given : (x : Part) → show_arg x.tree ≡ M.given (show x)
