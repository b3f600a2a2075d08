-- The brackets of a leaf are closed.
use Rattle.std.proofs.Common.{◌≡◌, ◌⊎◌, ℕ, suc, ◌-◌, ◌≤◌, List, [], ◌∷◌, ◌++◌, Some, refl, sym, ap, subst, ◌∙◌, inl, inr, append_assoc, arith}
use Rattle.formula_ast.specs.Tree.{Tree, Referred}
use Rattle.formula_grammar.specs.declared.symbol.Sign.{Sign}
use Rattle.formula_grammar.specs.declared.symbol.Sign.TheVariants as sign
use Rattle.formula_grammar.specs.declared.symbol.Symbol.{Symbol}
use Rattle.formula_grammar.specs.Symbols.{Setting}
use Rattle.formula_grammar.specs.Words.{Corner, sheet_by}
use Rattle.formula_grammar.specs.References.{SpellsCorner, word, on_sheet, SpellsInner, own, after_sheet, joined_word, SpellsReference, cell, area, inner_cell, inner_area, SpellsUnion, one, joined}
use Rattle.formula_grammar.specs.Arrays.{SpellsItem, number, positive, negative, text, logical, SpellsRow, first, next, SpellsRows, first_row, next_row}
use Rattle.formula_grammar.specs.Leaves.{SpellsLeaf}
use Rattle.formula_grammar.specs.Leaves as leaf
use Rattle.formula_grammar.specs.Depth.{most_open, opened}
use Rattle.formula_grammar.proofs.Signs.{room_after}

-- what stands behind the symbols has no more open than they leave open
pub record Closed (a : List Symbol) : Type 0 where
  pub room : (n limit : ℕ) (rest : List Symbol) → most_open n (a ++ rest) ≤ limit → most_open n rest ≤ limit

-- a sign that opens and closes nothing
abbrev Keeps : Sign → Type 0
Keeps g = (n : ℕ) → opened g n ≡ n

kept : (s : Symbol) → Keeps s.sign → Closed (s ∷ [])
kept s keeps = record { room = λ n limit rest h. room_after n limit s rest n (keeps n) h }

both : {a b : List Symbol} → Closed a → Closed b → Closed (a ++ b)
both {a = a} {b = b} p q = record { room = λ n limit rest h. q.room n limit rest (p.room n limit (b ++ rest) (subst (λ c. most_open n c ≤ limit) (append_assoc a b rest) h)) }

before : {a b : List Symbol} (s : Symbol) → Keeps s.sign → Closed a → Closed b → Closed (a ++ s ∷ b)
before s keeps p q = both p (both (kept s keeps) q)

-- brackets around
around : {a : List Symbol} (s t : Symbol) → ((n : ℕ) → opened s.sign n ≡ suc n) → ((n : ℕ) → opened t.sign (suc n) ≡ n) → Closed a → Closed (s ∷ (a ++ t ∷ []))
around {a = a} s t opens closes p = record {
  room = λ n limit rest h.
      let inside : most_open (suc n) ((a ++ t ∷ []) ++ rest) ≤ limit = room_after n limit s ((a ++ t ∷ []) ++ rest) (suc n) (opens n) h in
      let behind = p.room (suc n) limit (t ∷ rest) (subst (λ c. most_open (suc n) c ≤ limit) (append_assoc a (t ∷ []) rest) inside) in
      room_after (suc n) limit t rest n (closes n) behind;
}

keeps_by : (g h : Sign) → Keeps h → g ≡ h → Keeps g
keeps_by g h k e = subst Keeps (sym e) k

word_keeps : (g : Sign) → g ≡ sign.Word → Keeps g
word_keeps g e = keeps_by g sign.Word (λ n. refl) e

number_keeps : (g : Sign) → g ≡ sign.Number → Keeps g
number_keeps g e = keeps_by g sign.Number (λ n. refl) e

text_keeps : (g : Sign) → g ≡ sign.Text → Keeps g
text_keeps g e = keeps_by g sign.Text (λ n. refl) e

point_keeps : (g : Sign) → g ≡ sign.Point → Keeps g
point_keeps g e = keeps_by g sign.Point (λ n. refl) e

colon_keeps : (g : Sign) → g ≡ sign.Colon → Keeps g
colon_keeps g e = keeps_by g sign.Colon (λ n. refl) e

mark_keeps : (g : Sign) → (g ≡ sign.Exclamation) ⊎ (g ≡ sign.Point) → Keeps g
mark_keeps g e = elim e [
  | inl h ↦ keeps_by g sign.Exclamation (λ n. refl) h
  | inr h ↦ point_keeps g h
]

sheet_keeps : (S : Setting) (s : Symbol) (name : List ℕ) (g : Sign) → sheet_by S g s ≡ Some name → Keeps g
sheet_keeps S s name sign.Word h = λ n. refl
sheet_keeps S s name sign.Quoted h = λ n. refl
sheet_keeps S s name _ h = cc h

pub square_opens : (g : Sign) → g ≡ sign.OpenSquare → (n : ℕ) → opened g n ≡ suc n
square_opens g e n = ap (λ h. opened h n) e

pub square_closes : (g : Sign) → g ≡ sign.CloseSquare → (n : ℕ) → opened g (suc n) ≡ n
square_closes g e n = ap (λ h. opened h (suc n)) e ∙ (let k : suc n - 1 ≡ n = omega arith in k)

brace_opens : (g : Sign) → g ≡ sign.OpenBrace → (n : ℕ) → opened g n ≡ suc n
brace_opens g e n = ap (λ h. opened h n) e

brace_closes : (g : Sign) → g ≡ sign.CloseBrace → (n : ℕ) → opened g (suc n) ≡ n
brace_closes g e n = ap (λ h. opened h (suc n)) e ∙ (let k : suc n - 1 ≡ n = omega arith in k)

corner_closed : {S : Setting} {a : List Symbol} {c : Corner} → SpellsCorner S a c → Closed a
corner_closed (word s is_word c) = kept s (word_keeps s.sign is_word)
corner_closed {S = S} (on_sheet {name = name} s t u sheet mark is_word c) =
    both (kept s (sheet_keeps S s name s.sign sheet)) (both (kept t (mark_keeps t.sign mark)) (kept u (word_keeps u.sign is_word)))

inner_closed : {S : Setting} {a : List Symbol} {c : Corner} → SpellsInner S a c → Closed a
inner_closed (own t u point is_word c) = both (kept t (point_keeps t.sign point)) (kept u (word_keeps u.sign is_word))
inner_closed {S = S} (after_sheet {name = name} s t u sheet point is_word c) =
    both (kept s (sheet_keeps S s name s.sign sheet)) (both (kept t (point_keeps t.sign point)) (kept u (word_keeps u.sign is_word)))
inner_closed (joined_word s is_word c) = kept s (word_keeps s.sign is_word)

reference_closed : {S : Setting} {a : List Symbol} {r : Referred} → SpellsReference S a r → Closed a
reference_closed (cell p is) = corner_closed p
reference_closed (area s colon p q is) = before s (colon_keeps s.sign colon) (corner_closed p) (corner_closed q)
reference_closed (inner_cell s t left right p is) = around s t (square_opens s.sign left) (square_closes t.sign right) (inner_closed p)
reference_closed (inner_area {a = a} {b = b} s t u left colon right p q is) =
    subst (λ c. Closed (s ∷ c)) (append_assoc a (t ∷ b) (u ∷ []))
    (around s u (square_opens s.sign left) (square_closes u.sign right) (before t (colon_keeps t.sign colon) (inner_closed p) (inner_closed q)))

union_closed : {S : Setting} {a : List Symbol} {rs : List Referred} → SpellsUnion S a rs → Closed a
union_closed (one p) = reference_closed p
union_closed (joined s tilde p q) = before s (keeps_by s.sign sign.Tilde (λ n. refl) tilde) (union_closed p) (reference_closed q)

item_closed : {S : Setting} {a : List Symbol} {x : Tree} → SpellsItem S a x → Closed a
item_closed (number s is h) = kept s (number_keeps s.sign is)
item_closed (positive s t is is_number h) = both (kept s (keeps_by s.sign sign.Plus (λ n. refl) is)) (kept t (number_keeps t.sign is_number))
item_closed (negative s t is is_number h) = both (kept s (keeps_by s.sign sign.Minus (λ n. refl) is)) (kept t (number_keeps t.sign is_number))
item_closed (text s is) = kept s (text_keeps s.sign is)
item_closed (logical s is h) = kept s (word_keeps s.sign is)

row_closed : {S : Setting} {a : List Symbol} {xs : List Tree} → SpellsRow S a xs → Closed a
row_closed (first p) = item_closed p
row_closed (next s semicolon p q) = before s (keeps_by s.sign sign.Semicolon (λ n. refl) semicolon) (row_closed p) (item_closed q)

rows_closed : {S : Setting} {a : List Symbol} {r c : ℕ} {xs : List Tree} → SpellsRows S a r c xs → Closed a
rows_closed (first_row p) = row_closed p
rows_closed (next_row s bar p q same) = before s (keeps_by s.sign sign.Bar (λ n. refl) bar) (rows_closed p) (row_closed q)

leaf_closed : {S : Setting} {a : List Symbol} {x : Tree} → SpellsLeaf S a x → Closed a
leaf_closed (leaf.number s is h) = kept s (number_keeps s.sign is)
leaf_closed (leaf.text s is) = kept s (text_keeps s.sign is)
leaf_closed (leaf.error s is h) = kept s (keeps_by s.sign sign.Fault (λ n. refl) is)
leaf_closed (leaf.logical s is h) = kept s (word_keeps s.sign is)
leaf_closed (leaf.name s is h k) = kept s (word_keeps s.sign is)
leaf_closed (leaf.array s t left right p) = around s t (brace_opens s.sign left) (brace_closes t.sign right) (rows_closed p)
leaf_closed (leaf.reference p) = union_closed p

-- the brackets of a leaf are closed
pub leaf_room : {S : Setting} {a : List Symbol} {x : Tree} → SpellsLeaf S a x → (n limit : ℕ) (rest : List Symbol) → most_open n (a ++ rest) ≤ limit → most_open n rest ≤ limit
leaf_room p n limit rest room = (leaf_closed p).room n limit rest room
