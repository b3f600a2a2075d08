-- The grammar: which symbols spell which tree (OpenDocument 1.2 part 2, sections 5.2 to 5.6).
use Rattle.std.specs.Prelude.{◌≡◌, ◌≢◌, ℕ, zero, suc, true, List, [], ◌∷◌, ◌++◌, Some}
use Rattle.cell_refs.specs.declared.op.Op.{Op}
use Rattle.formula_ast.specs.Tree.{Tree, Missing}
use Rattle.formula_grammar.specs.declared.symbol.Sign.TheVariants as sign
use Rattle.formula_grammar.specs.declared.symbol.Symbol.{Symbol}
use Rattle.formula_grammar.specs.Parts.{Part, operator_of, level_of, Prefix, prefix_of, is_percent, is_separator, joined, prefixed, in_hundredths, enclosed, called}
use Rattle.formula_grammar.specs.Parts.{leaf as part_of_leaf}
use Rattle.formula_grammar.specs.Symbols.{Setting, at_byte}
use Rattle.formula_grammar.specs.Leaves.{SpellsLeaf}

-- Level 5 is a comparison, 4 a chain of texts, 3 a sum, 2 a product, 1 a power, and 0 has percent signs at its end.
pub data Kind : Type 0 where
  Level : (n : ℕ) → Kind
  Signed : Kind
  Primary : Kind

mutual
  pub data Spells (S : Setting) : Kind → List Symbol → Part → Type 0 where
    -- infix operators associate to the left
    alone : {n : ℕ} {a : List Symbol} {x : Part} → Spells S (Level n) a x → Spells S (Level (suc n)) a x
    infixed : {n : ℕ} {a b : List Symbol} {x y : Part} (s : Symbol) (op : Op) → operator_of s.sign ≡ Some op → level_of op ≡ suc n
        → Spells S (Level (suc n)) a x → Spells S (Level n) b y → Spells S (Level (suc n)) (a ++ s ∷ b) (joined op x y)
    -- percent signs come after the rest
    whole : {a : List Symbol} {x : Part} → Spells S Signed a x → Spells S (Level zero) a x
    percent : {a : List Symbol} {x : Part} (s : Symbol) → is_percent s.sign ≡ true
        → Spells S (Level zero) a x → Spells S (Level zero) (a ++ s ∷ []) (in_hundredths x s)
    unsigned : {a : List Symbol} {x : Part} → Spells S Primary a x → Spells S Signed a x
    signed : {a : List Symbol} {x : Part} (s : Symbol) (prefix : Prefix) → prefix_of s.sign ≡ Some prefix
        → Spells S Signed a x → Spells S Signed (s ∷ a) (prefixed prefix s x)
    leaf : {a : List Symbol} {x : Tree} → SpellsLeaf S a x → Spells S Primary a (part_of_leaf x)
    parens : {a : List Symbol} {x : Part} (s t : Symbol) → s.sign ≡ sign.Open → t.sign ≡ sign.Close
        → Spells S (Level 5) a x → Spells S Primary (s ∷ (a ++ t ∷ [])) (enclosed s x t)
    -- () is no argument
    no_args : (s t u : Symbol) → s.sign ≡ sign.Word → t.sign ≡ sign.Open → u.sign ≡ sign.Close
        → Spells S Primary (s ∷ t ∷ u ∷ []) (called S s [] u)
    call : {a : List Symbol} {xs : List Tree} (s t u : Symbol) → s.sign ≡ sign.Word → t.sign ≡ sign.Open → u.sign ≡ sign.Close → a ≢ []
        → SpellsArgs S t.span.end a xs → Spells S Primary (s ∷ t ∷ (a ++ u ∷ [])) (called S s xs u)

  -- Arguments, behind the byte before
  pub data SpellsArgs (S : Setting) : ℕ → List Symbol → List Tree → Type 0 where
    first : {before : ℕ} {a : List Symbol} {x : Tree} → SpellsArg S before a x → SpellsArgs S before a (x ∷ [])
    next : {before : ℕ} {a b : List Symbol} {xs : List Tree} {y : Tree} (s : Symbol) → is_separator s.sign ≡ true
        → SpellsArgs S before a xs → SpellsArg S s.span.end b y → SpellsArgs S before (a ++ s ∷ b) (xs ++ y ∷ [])

  pub data SpellsArg (S : Setting) : ℕ → List Symbol → Tree → Type 0 where
    missing : {before : ℕ} → SpellsArg S before [] (Missing (at_byte before))
    given : {before : ℕ} {a : List Symbol} {x : Part} → Spells S (Level 5) a x → SpellsArg S before a x.tree
