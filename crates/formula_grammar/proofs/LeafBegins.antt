-- How leaves begin, and that the brackets of a leaf are closed.
use Rattle.std.proofs.Common.{◌≡◌, ◌≢◌, ◌⊎◌, ℕ, false, List, [], ◌∷◌, ◌++◌, Some, None, refl, sym, ap, subst, ◌∙◌, inl, inr}
use Rattle.std.specs.Prelude.{◌||◌}
use Rattle.formula_ast.specs.Tree.{Tree, Referred}
use Rattle.formula_grammar.specs.declared.symbol.Sign.{Sign}
use Rattle.formula_grammar.specs.declared.symbol.Sign.TheVariants as sign
use Rattle.formula_grammar.specs.declared.symbol.Symbol.{Symbol}
use Rattle.formula_grammar.specs.Symbols.{Setting}
use Rattle.formula_grammar.specs.Words.{Corner, sheet_by}
use Rattle.formula_grammar.specs.Parts.{prefix_of, is_separator, is_close}
use Rattle.formula_grammar.specs.References.{SpellsCorner, word, on_sheet, SpellsReference, cell, area, inner_cell, inner_area, SpellsUnion, one, joined}
use Rattle.formula_grammar.specs.Leaves.{SpellsLeaf}
use Rattle.formula_grammar.specs.Leaves as leaf

-- a sign that ends no argument, stands before no part, opens no parenthesis and is no equals sign
pub record BeginsLeaf (g : Sign) : Type 0 where
  pub no_end : (is_separator g || is_close g) ≡ false
  pub no_prefix : prefix_of g ≡ None
  pub no_open : g ≢ sign.Open
  pub no_equal : g ≢ sign.Equal

-- how a leaf begins: with such a sign, and not as a call
pub record LeafBegins (a : List Symbol) : Type 0 where
  pub front : Symbol
  pub behind : List Symbol
  pub is : a ≡ front ∷ behind
  pub begins : BeginsLeaf front.sign
  -- a word is not the name of a call
  pub no_call : front.sign ≡ sign.Word → (t : Symbol) (b : List Symbol) → behind ≡ t ∷ b → t.sign ≢ sign.Open

word_begins : (g : Sign) → g ≡ sign.Word → BeginsLeaf g
word_begins g e = rw e (record { no_end = refl; no_prefix = refl; no_open = λ h. cc h; no_equal = λ h. cc h })

number_begins : (g : Sign) → g ≡ sign.Number → BeginsLeaf g
number_begins g e = rw e (record { no_end = refl; no_prefix = refl; no_open = λ h. cc h; no_equal = λ h. cc h })

text_begins : (g : Sign) → g ≡ sign.Text → BeginsLeaf g
text_begins g e = rw e (record { no_end = refl; no_prefix = refl; no_open = λ h. cc h; no_equal = λ h. cc h })

fault_begins : (g : Sign) → g ≡ sign.Fault → BeginsLeaf g
fault_begins g e = rw e (record { no_end = refl; no_prefix = refl; no_open = λ h. cc h; no_equal = λ h. cc h })

brace_begins : (g : Sign) → g ≡ sign.OpenBrace → BeginsLeaf g
brace_begins g e = rw e (record { no_end = refl; no_prefix = refl; no_open = λ h. cc h; no_equal = λ h. cc h })

square_begins : (g : Sign) → g ≡ sign.OpenSquare → BeginsLeaf g
square_begins g e = rw e (record { no_end = refl; no_prefix = refl; no_open = λ h. cc h; no_equal = λ h. cc h })

-- a sheet's name is a word or stands in quotes
sheet_begins : (S : Setting) (s : Symbol) (name : List ℕ) (g : Sign) → sheet_by S g s ≡ Some name → BeginsLeaf g
sheet_begins S s name sign.Word h = word_begins sign.Word refl
sheet_begins S s name sign.Quoted h = record { no_end = refl; no_prefix = refl; no_open = λ e. cc e; no_equal = λ e. cc e }
sheet_begins S s name _ h = cc h

-- one symbol alone
alone : (s : Symbol) → BeginsLeaf s.sign → LeafBegins (s ∷ [])
alone s b = record { front = s; behind = []; is = refl; begins = b; no_call = λ w t c e. cc e }

-- what begins so goes on so, if no parenthesis follows
extended : {a : List Symbol} → LeafBegins a → (s : Symbol) (b : List Symbol) → s.sign ≢ sign.Open → LeafBegins (a ++ s ∷ b)
extended r s b closed = record {
  front = r.front;
  behind = r.behind ++ s ∷ b;
  is = ap (λ c. c ++ s ∷ b) r.is;
  begins = r.begins;
  no_call = λ w t c e. by r.behind (r.no_call w) t c e;
}
  where
    by : (c : List Symbol) → ((t : Symbol) (b : List Symbol) → c ≡ t ∷ b → t.sign ≢ sign.Open) → (t : Symbol) (d : List Symbol) → c ++ s ∷ b ≡ t ∷ d → t.sign ≢ sign.Open
    by [] closing t d e = let k : s ≡ t = cc e in subst (λ (u : Symbol). u.sign ≢ sign.Open) k closed
    by (u ∷ c) closing t d e = let k : u ≡ t = cc e in subst (λ (v : Symbol). v.sign ≢ sign.Open) k (closing u c refl)

not_open : (g h : Sign) → h ≡ g → (g ≢ sign.Open) → h ≢ sign.Open
not_open g h e k = subst (λ s. s ≢ sign.Open) (sym e) k

colon_closed : (g : Sign) → g ≡ sign.Colon → g ≢ sign.Open
colon_closed g e = not_open sign.Colon g e (λ h. cc h)

tilde_closed : (g : Sign) → g ≡ sign.Tilde → g ≢ sign.Open
tilde_closed g e = not_open sign.Tilde g e (λ h. cc h)

mark_closed : (g : Sign) → (g ≡ sign.Exclamation) ⊎ (g ≡ sign.Point) → g ≢ sign.Open
mark_closed g e = elim e [
  | inl h ↦ not_open sign.Exclamation g h (λ k. cc k)
  | inr h ↦ not_open sign.Point g h (λ k. cc k)
]

corner_begins : {S : Setting} {a : List Symbol} {c : Corner} → SpellsCorner S a c → LeafBegins a
corner_begins (word s is_word c) = alone s (word_begins s.sign is_word)
corner_begins {S = S} (on_sheet {name = name} s t u sheet mark is_word c) = extended (alone s (sheet_begins S s name s.sign sheet)) t (u ∷ []) (mark_closed t.sign mark)

-- in brackets
enclosed : (s : Symbol) (a : List Symbol) → s.sign ≡ sign.OpenSquare → LeafBegins (s ∷ a)
enclosed s a square = record { front = s; behind = a; is = refl; begins = square_begins s.sign square; no_call = λ w. absurd (let k : sign.OpenSquare ≡ sign.Word = sym square ∙ w in cc k) }

reference_begins : {S : Setting} {a : List Symbol} {r : Referred} → SpellsReference S a r → LeafBegins a
reference_begins (cell p is) = corner_begins p
reference_begins (area s colon p q is) = extended (corner_begins p) s _ (colon_closed s.sign colon)
reference_begins (inner_cell s t left right p is) = enclosed s _ left
reference_begins (inner_area s t u left colon right p q is) = enclosed s _ left

union_begins : {S : Setting} {a : List Symbol} {rs : List Referred} → SpellsUnion S a rs → LeafBegins a
union_begins (one p) = reference_begins p
union_begins (joined s tilde p q) = extended (union_begins p) s _ (tilde_closed s.sign tilde)

pub leaf_begins : {S : Setting} {a : List Symbol} {x : Tree} → SpellsLeaf S a x → LeafBegins a
leaf_begins (leaf.number s is h) = alone s (number_begins s.sign is)
leaf_begins (leaf.text s is) = alone s (text_begins s.sign is)
leaf_begins (leaf.error s is h) = alone s (fault_begins s.sign is)
leaf_begins (leaf.logical s is h) = alone s (word_begins s.sign is)
leaf_begins (leaf.name s is h k) = alone s (word_begins s.sign is)
leaf_begins (leaf.array {a = a} s t left right p) = record {
  front = s;
  behind = a ++ t ∷ [];
  is = refl;
  begins = brace_begins s.sign left;
  no_call = λ w. absurd (let k : sign.OpenBrace ≡ sign.Word = sym left ∙ w in cc k);
}
leaf_begins (leaf.reference p) = union_begins p
