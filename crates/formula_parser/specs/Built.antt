-- What the code keeps of a tree: the tree where it is whole, its height up to a limit, and its faults.
use Rattle.std.specs.Prelude.{ℕ, suc, min, max, Bool, false, not, ◌&&◌, ◌||◌, nat_le, if◌then◌else◌, List, [], ◌∷◌, length, Option, Some, None}
use Rattle.std.specs.Option.{option_map, option_and_then}
use Rattle.cell_refs.specs.declared.span.Span.{Span}
use Rattle.formula_ast.specs.declared.func.Func.{Func}
use Rattle.formula_ast.specs.Functions.{func_in}
use Rattle.formula_ast.specs.Measures.{height_of}
use Rattle.formula_ast.specs.Tree.{Tree, Infix, Missing, Percent, span_of}
use Rattle.formula_grammar.specs.declared.symbol.Symbol.{Symbol}
use Rattle.formula_grammar.specs.Symbols.{Setting, at_byte, bytes_of, from_to}
use Rattle.formula_grammar.specs.Parts.{Prefix, call_tree, prefix_tree}
use Rattle.formula_grammar.specs.Parts as grammar
use Rattle.formula_grammar.specs.Making.{Making}
use Rattle.formula_grammar.specs.Faults.{has_part, is_lost, is_miscounted, is_wide, takes}
use Rattle.formula_parser.specs.declared.branch.Faults.{Faults}
use Rattle.formula_parser.specs.declared.branch.Branch.{Branch}
use Rattle.formula_parser.specs.declared.branch.Part.{Part}

abbrev pub no_faults : Faults
no_faults = record { lost = false; miscounted = false; wide = false }

-- the faults of a tree
abbrev pub faults_of : Tree → Faults
faults_of t = record { lost = has_part is_lost t; miscounted = has_part is_miscounted t; wide = has_part is_wide t }

abbrev pub either : Faults → Faults → Faults
either a b = record { lost = a.lost || b.lost; miscounted = a.miscounted || b.miscounted; wide = a.wide || b.wide }

-- low enough, and without faults
abbrev pub is_whole : ℕ → Faults → Bool
is_whole height faults = nat_le height 512 && not (faults.lost || (faults.miscounted || faults.wide))

abbrev pub branch : Option Tree → ℕ → Faults → Branch
branch tree height faults = record { expr = if is_whole height faults then tree else None; height = height; faults = faults }

abbrev pub taller : ℕ → ℕ
taller n = min 513 (suc n)

-- what is kept of a tree
abbrev pub branch_of : Tree → Branch
branch_of t = branch (Some t) (min 513 (height_of t)) (faults_of t)

abbrev pub part_of : grammar.Part → Part
part_of x = record { branch = branch_of x.tree; place = x.place }

abbrev pub both : (Tree → Tree → Tree) → Option Tree → Option Tree → Option Tree
both f a b = option_and_then (λ x. option_map (f x) b) a

abbrev pub all_trees : List Branch → Option (List Tree)
all_trees [] = Some []
all_trees (x ∷ xs) = option_and_then (λ t. option_map (λ ts. t ∷ ts) (all_trees xs)) x.expr

abbrev pub most_of : List Branch → ℕ
most_of [] = 0
most_of (x ∷ xs) = max x.height (most_of xs)

abbrev pub any_faults : List Branch → Faults
any_faults [] = no_faults
any_faults (x ∷ xs) = either x.faults (any_faults xs)

-- over one part, over two, and over the arguments of a call
abbrev pub over_one : (Tree → Tree) → Branch → Branch
over_one f x = branch (option_map f x.expr) (taller x.height) x.faults

abbrev pub over_two : (Tree → Tree → Tree) → Branch → Branch → Branch
over_two f x y = branch (both f x.expr y.expr) (taller (max x.height y.height)) (either x.faults y.faults)

-- whether a function doesn't take so many arguments
abbrev pub refuses : Option Func → ℕ → Bool
refuses (Some f) n = not (takes f n)
refuses None n = false

abbrev pub miscounts : Bool → Faults → Faults
miscounts b faults = record { lost = faults.lost; miscounted = b || faults.miscounted; wide = faults.wide }

abbrev pub over_call : Option Func → List ℕ → Span → List Branch → Branch
over_call f name at xs = branch (option_map (call_tree f name at) (all_trees xs)) (taller (most_of xs)) (miscounts (refuses f (length xs)) (any_faults xs))

-- what the code makes of the parts of a formula
abbrev pub built : Setting → Making
built S = record {
  Made = Part;
  Arg = Branch;
  joined = λ op x y. let at = from_to x.place y.place in record { branch = over_two (Infix at op) x.branch y.branch; place = at };
  prefixed = λ prefix s x. let at = from_to s.span x.place in record { branch = over_one (prefix_tree prefix at) x.branch; place = at };
  in_hundredths = λ x s. let at = from_to x.place s.span in record { branch = over_one (Percent at) x.branch; place = at };
  enclosed = λ s x t. record { branch = x.branch; place = from_to s.span t.span };
  leaf = λ x. record { branch = branch_of x; place = span_of x };
  called = λ s xs t. let at = from_to s.span t.span in record { branch = over_call (func_in (bytes_of S s)) (bytes_of S s) at xs; place = at };
  missing = λ before. branch_of (Missing (at_byte before));
  given = λ x. x.branch;
}

-- a part with a sign before it, if there is one
abbrev pub prefixed_by : (M : Making) → Option Prefix → Symbol → M.Made → M.Made
prefixed_by M None s x = x
prefixed_by M (Some prefix) s x = M.prefixed prefix s x
