-- Where the items of an array stand, and what is made of them.
use Rattle.std.proofs.Common.{◌≡◌, ℕ, suc, ◌+◌, ◌*◌, ◌<◌, ◌≤◌, min, Bool, true, false, cond, List, [], ◌∷◌, ◌++◌, length, Option, Some, None, refl, sym, ap, subst, ◌∙◌, append_assoc, length-append, arith}
use Rattle.std.specs.Prelude.{All, is_none, ◌||◌}
use Rattle.std.specs.Option.{option_map, option_and_then}
use Rattle.std.proofs.lemmas.List.Elements.{All-head, All-tail}
use Rattle.cell_refs.specs.declared.span.Span.{Span}
use Rattle.formula_ast.specs.Measures.{height_of, greatest_height}
use Rattle.formula_ast.specs.Sound.{AreItems, AreSoundWithin, IsForward, IsItem, IsSound, IsWithin}
use Rattle.formula_ast.specs.Tree.{Tree, Array, Number, WideNumber, span_of, trees}
use Rattle.formula_ast.specs.Tree as tree
use Rattle.fractions.specs.Rational.{neg_ℚ}
use Rattle.frac128.specs.Numeral.{Numeral, is_narrow_numeral, value}
use Rattle.formula_grammar.specs.declared.symbol.Symbol.{Symbol}
use Rattle.formula_grammar.specs.Symbols.{Setting, from_to}
use Rattle.formula_grammar.specs.Arrays.{SpellsItem, SpellsRow, SpellsRows}
use Rattle.formula_grammar.specs.Arrays as arrays
use Rattle.formula_grammar.specs.Faults.{has_part, have_part, is_lost, is_miscounted, is_wide}
use Rattle.formula_grammar.specs.Words.{number_tree, negative_tree}
use Rattle.formula_parser.specs.declared.branch.Faults.{Faults}
use Rattle.formula_parser.specs.Built.{branch, branch_of}
use Rattle.formula_parser.specs.Leaves.{all_items, item_of, with_item, with_items}
use Rattle.formula_parser.specs.Placed.{InOrder, IsInText}

-- ---- one item

-- a constant as it is spelled: a number, narrow or not, a text or a logical
abbrev pub IsConstant : Tree → Type 0
IsConstant (tree.Number at x) = Unit {0}
IsConstant (tree.WideNumber at x) = Unit {0}
IsConstant (tree.Text at t) = Unit {0}
IsConstant (tree.Logical at b) = Unit {0}
IsConstant _ = ⊥

abbrev pub AreConstants : List Tree → Type 0
AreConstants [] = Unit {0}
AreConstants (x ∷ xs) = IsConstant x × AreConstants xs

-- spans that lie within another
abbrev pub AreWithin : Span → List Tree → Type 0
AreWithin outer [] = Unit {0}
AreWithin outer (x ∷ xs) = IsWithin (span_of x) outer × IsForward (span_of x) × AreWithin outer xs

-- an item that stands in a place
record IsItemAt (at : Span) (x : Tree) : Type 0 where
  pub item : IsConstant x
  pub place : span_of x ≡ at

-- a number is one, narrow or not
number_at : (at : Span) (n : Numeral) → IsItemAt at (number_tree at n)
number_at at n = by_case (is_narrow_numeral n)
  where
    by_case : (b : Bool) → IsItemAt at (cond b (Number at (value n)) (WideNumber at (value n)))
    by_case true = record { item = tt; place = refl }
    by_case false = record { item = tt; place = refl }

-- so is one behind a minus
negative_at : (at : Span) (n : Numeral) → IsItemAt at (negative_tree at n)
negative_at at n = by_case (is_narrow_numeral n)
  where
    by_case : (b : Bool) → IsItemAt at (cond b (Number at (neg_ℚ (value n))) (WideNumber at (neg_ℚ (value n))))
    by_case true = record { item = tt; place = refl }
    by_case false = record { item = tt; place = refl }

-- ---- items one after the other

-- items are literals
are_items : (xs ys : List Tree) → AreConstants xs → AreConstants ys → AreConstants (xs ++ ys)
are_items [] ys h k = k
are_items (x ∷ xs) ys h k = (h.0, are_items xs ys h.1 k)

-- items within a place lie within a wider one
pub items_wider : (inner outer : Span) (xs : List Tree) → outer.start ≤ inner.start → inner.end ≤ outer.end → AreWithin inner xs → AreWithin outer xs
items_wider inner outer [] first last h = tt
items_wider inner outer (x ∷ xs) first last h =
    let a = h.0.start in let b = h.0.end in
    (record { start = omega arith; end = omega arith }, h.1, items_wider inner outer xs first last h.2)

-- items of both lists lie within a place
items_within : (at : Span) (xs ys : List Tree) → AreWithin at xs → AreWithin at ys → AreWithin at (xs ++ ys)
items_within at [] ys h k = k
items_within at (x ∷ xs) ys h k = (h.0, h.1, items_within at xs ys h.2 k)

-- symbols are pieces of the text, in order from a byte on
pub record AreFrom (text : List ℕ) (from : ℕ) (ss : List Symbol) : Type 0 where
  pub all : All (IsInText text) ss
  pub order : InOrder from ss

-- the first of them, and the others
from_first : (text : List ℕ) (from : ℕ) (s : Symbol) (ss : List Symbol) → AreFrom text from (s ∷ ss) → (from ≤ s.span.start) × (s.span.start < s.span.end) × AreFrom text s.span.end ss
from_first text from s ss are = (
  are.order.0,
  (All-head (IsInText text) s ss are.all).some,
  record { all = All-tail (IsInText text) s ss are.all; order = are.order.1 },
)

-- items stand from a byte on, before the rest, each with a byte of its own
pub record Stand (text : List ℕ) (from : ℕ) (xs : List Tree) (rest : List Symbol) : Type 0 where
  pub last : ℕ
  pub order : from + length xs ≤ last
  pub within : AreWithin (record { start = from; end = last }) xs
  pub ends : AreFrom text last rest

-- what items of an array are, and where they stand
pub record AreStanding (text : List ℕ) (used : List Symbol) (xs : List Tree) : Type 0 where
  pub literals : AreConstants xs
  pub some : 0 < length xs
  pub few : length xs ≤ length used
  pub stand : (from : ℕ) (rest : List Symbol) → AreFrom text from (used ++ rest) → Stand text from xs rest

-- an item of one symbol
one_symbol : (text : List ℕ) (s : Symbol) (x : Tree) → IsItemAt s.span x → AreStanding text (s ∷ []) (x ∷ [])
one_symbol text s x is = record {
  literals = (is.item, tt);
  some = omega arith;
  few = omega arith;
  stand = λ from rest are.
      let f = from_first text from s rest are in
      let a = f.0 in let b = f.1 in
      let p : (span_of x).start ≡ s.span.start = ap (λ (p : Span). p.start) is.place in
      let q : (span_of x).end ≡ s.span.end = ap (λ (p : Span). p.end) is.place in record {
        last = s.span.end;
        order = omega arith;
        within = (record { start = omega arith; end = omega arith }, omega arith, tt);
        ends = f.2;
      };
}

-- an item of a sign and a number
two_symbols : (text : List ℕ) (s t : Symbol) (x : Tree) → IsItemAt (from_to s.span t.span) x → AreStanding text (s ∷ t ∷ []) (x ∷ [])
two_symbols text s t x is = record {
  literals = (is.item, tt);
  some = omega arith;
  few = omega arith;
  stand = λ from rest are.
      let f = from_first text from s (t ∷ rest) are in
      let g = from_first text s.span.end t rest f.2 in
      let a = f.0 in let b = f.1 in let c = g.0 in let d = g.1 in
      let p : (span_of x).start ≡ s.span.start = ap (λ (p : Span). p.start) is.place in
      let q : (span_of x).end ≡ t.span.end = ap (λ (p : Span). p.end) is.place in record {
        last = t.span.end;
        order = omega arith;
        within = (record { start = omega arith; end = omega arith }, omega arith, tt);
        ends = g.2;
      };
}

-- an item
item_stands : (text : List ℕ) {S : Setting} {a : List Symbol} {x : Tree} → SpellsItem S a x → AreStanding text a (x ∷ [])
item_stands text (arrays.number {n = n} s is h) = one_symbol text s (number_tree s.span n) (number_at s.span n)
item_stands text (arrays.positive {n = n} s t is k h) = two_symbols text s t (number_tree (from_to s.span t.span) n) (number_at (from_to s.span t.span) n)
item_stands text (arrays.negative {n = n} s t is k h) = two_symbols text s t (negative_tree (from_to s.span t.span) n) (negative_at (from_to s.span t.span) n)
item_stands text (arrays.text s is) = one_symbol text s _ (record { item = tt; place = refl })
item_stands text (arrays.logical s is h) = one_symbol text s _ (record { item = tt; place = refl })

-- items, a mark and other items
both_stand : (text : List ℕ) (a b : List Symbol) (s : Symbol) (xs ys : List Tree) → AreStanding text a xs → AreStanding text b ys → AreStanding text (a ++ s ∷ b) (xs ++ ys)
both_stand text a b s xs ys h k = record {
  literals = are_items xs ys h.literals k.literals;
  some = let e = length-append xs ys in let g = h.some in omega arith;
  few = let e = length-append xs ys in let d = length-append a (s ∷ b) in let g = h.few in let f = k.few in omega arith;
  stand = λ from rest are.
      let one = h.stand from (s ∷ (b ++ rest)) (subst (AreFrom text from) (append_assoc a (s ∷ b) rest) are) in
      let f = from_first text one.last s (b ++ rest) one.ends in
      let two = k.stand s.span.end rest f.2 in
      let e = length-append xs ys in
      let p = one.order in let q = two.order in let c = f.0 in let d = f.1 in record {
        last = two.last;
        order = omega arith;
        within = items_within (record { start = from; end = two.last }) xs ys (
            items_wider (record { start = from; end = one.last }) (record { start = from; end = two.last }) xs (omega arith) (omega arith) one.within
            ) (items_wider (record { start = s.span.end; end = two.last }) (record { start = from; end = two.last }) ys (omega arith) (omega arith) two.within);
        ends = two.ends;
      };
}

-- a row
pub row_stands : (text : List ℕ) {S : Setting} {a : List Symbol} {xs : List Tree} → SpellsRow S a xs → AreStanding text a xs
row_stands text (arrays.first p) = item_stands text p
row_stands text (arrays.next {a = a} {b = b} {xs = xs} {x = x} s is p q) = both_stand text a b s xs (x ∷ []) (row_stands text p) (item_stands text q)

-- rows of one length, and how many items they have
pub record RowsStand (text : List ℕ) (used : List Symbol) (rows columns : ℕ) (xs : List Tree) : Type 0 where
  pub items : AreStanding text used xs
  pub some_rows : 0 < rows
  pub some_columns : 0 < columns
  pub size : length xs ≡ rows * columns

-- one row more
one_row_more : (n rows columns m k : ℕ) → n ≡ rows * columns → m ≡ columns → k ≡ n + m → k ≡ suc rows * columns
one_row_more n rows columns m k e d f = grind arith

-- rows
pub rows_stand : (text : List ℕ) {S : Setting} {a : List Symbol} {rows columns : ℕ} {xs : List Tree} → SpellsRows S a rows columns xs → RowsStand text a rows columns xs
rows_stand text (arrays.first_row {a = a} {xs = xs} p) =
    let h = row_stands text p in let k = h.some in
    record { items = h; some_rows = omega arith; some_columns = h.some; size = omega arith }
rows_stand text (arrays.next_row {a = a} {b = b} {rows = rows} {columns = columns} {xs = xs} {ys = ys} s is p q same) =
    let h = rows_stand text p in
    let k = row_stands text q in record {
      items = both_stand text a b s xs ys h.items k;
      some_rows = omega arith;
      some_columns = h.some_columns;
      size = one_row_more (length xs) rows columns (length ys) (length (xs ++ ys)) h.size same (length-append xs ys);
    }

-- ---- the branch of an array

-- an item alone is as high as one level
one_level : (x : Tree) → IsConstant x → height_of x ≡ 1
one_level (tree.Number at v) h = refl
one_level (tree.WideNumber at v) h = refl
one_level (tree.Text at t) h = refl
one_level (tree.Logical at b) h = refl
one_level _ h = absurd h

-- so are items
items_level : (xs : List Tree) → AreConstants xs → 0 < length xs → greatest_height (trees xs) ≡ 1
items_level [] h some = absurd (omega arith)
items_level (x ∷ []) h some = let e = one_level x h.0 in omega arith
items_level (x ∷ y ∷ xs) h some = let e = one_level x h.0 in let d = items_level (y ∷ xs) h.1 (omega arith) in omega arith

-- no item has a part of which a test holds that holds of no item
has_none : (test : Tree → Bool) → ((x : Tree) → IsConstant x → test x ≡ false) → (x : Tree) → IsConstant x → has_part test x ≡ false
has_none test none (tree.Number at v) h = none (tree.Number at v) tt
has_none test none (tree.WideNumber at v) h = none (tree.WideNumber at v) tt
has_none test none (tree.Text at t) h = none (tree.Text at t) tt
has_none test none (tree.Logical at b) h = none (tree.Logical at b) tt
has_none test none _ h = absurd h

-- nor have items
have_none : (test : Tree → Bool) → ((x : Tree) → IsConstant x → test x ≡ false) → (xs : List Tree) → AreConstants xs → have_part test (trees xs) ≡ false
have_none test none [] h = refl
have_none test none (x ∷ xs) h = ap (λ b. b || have_part test (trees xs)) (has_none test none x h.0) ∙ have_none test none xs h.1

-- no item is lost
none_lost : (x : Tree) → IsConstant x → is_lost x ≡ false
none_lost (tree.Number at v) h = refl
none_lost (tree.WideNumber at v) h = refl
none_lost (tree.Text at t) h = refl
none_lost (tree.Logical at b) h = refl
none_lost _ h = absurd h

-- nor miscounted
none_miscounted : (x : Tree) → IsConstant x → is_miscounted x ≡ false
none_miscounted (tree.Number at v) h = refl
none_miscounted (tree.WideNumber at v) h = refl
none_miscounted (tree.Text at t) h = refl
none_miscounted (tree.Logical at b) h = refl
none_miscounted _ h = absurd h

-- a list with a tree that there isn't
none_of : (x : Tree) (o : Option Tree) (p : Option (List Tree)) → (is_none o || is_none p) ≡ is_none (option_and_then (λ u. option_map (λ us. u ∷ us) p) o)
none_of x None p = refl
none_of x (Some u) None = refl
none_of x (Some u) (Some us) = refl

-- an item is wide where it has no tree
wide_one : (x : Tree) → IsConstant x → has_part is_wide x ≡ is_none (item_of x)
wide_one (tree.Number at v) h = refl
wide_one (tree.WideNumber at v) h = refl
wide_one (tree.Text at t) h = refl
wide_one (tree.Logical at b) h = refl
wide_one _ h = absurd h

-- so are items
wide_items : (xs : List Tree) → AreConstants xs → have_part is_wide (trees xs) ≡ is_none (all_items xs)
wide_items [] h = refl
wide_items (x ∷ xs) h =
    ap (λ b. b || have_part is_wide (trees xs)) (wide_one x h.0)
    ∙ ap (λ b. is_none (item_of x) || b) (wide_items xs h.1)
    ∙ none_of x (item_of x) (all_items xs)

-- a constant that is kept is an item
narrow_item : (x : Tree) → IsConstant x → is_none (item_of x) ≡ false → IsItem x
narrow_item (tree.Number at v) h e = tt
narrow_item (tree.WideNumber at v) h e = absurd cc
narrow_item (tree.Text at t) h e = tt
narrow_item (tree.Logical at b) h e = tt
narrow_item _ h e = absurd h

narrow_sound : (x : Tree) → IsConstant x → is_none (item_of x) ≡ false → IsForward (span_of x) → IsSound x
narrow_sound (tree.Number at v) h e f = f
narrow_sound (tree.WideNumber at v) h e f = absurd cc
narrow_sound (tree.Text at t) h e f = f
narrow_sound (tree.Logical at b) h e f = f
narrow_sound _ h e f = absurd h

-- where all are kept, each is
each_kept : (x : Tree) (xs : List Tree) → is_none (all_items (x ∷ xs)) ≡ false → (is_none (item_of x) ≡ false) × (is_none (all_items xs) ≡ false)
each_kept x xs e = both_false (is_none (item_of x)) (is_none (all_items xs)) (none_of x (item_of x) (all_items xs) ∙ e)
  where
    both_false : (b c : Bool) → (b || c) ≡ false → (b ≡ false) × (c ≡ false)
    both_false true c e = absurd cc
    both_false false c e = (refl, e)

pub kept_are_items : (xs : List Tree) → is_none (all_items xs) ≡ false → AreConstants xs → AreItems (trees xs)
kept_are_items [] e h = tt
kept_are_items (x ∷ xs) e h = let k = each_kept x xs e in (narrow_item x h.0 k.0, kept_are_items xs k.1 h.1)

pub kept_are_sound : (outer : Span) (xs : List Tree) → is_none (all_items xs) ≡ false → AreConstants xs → AreWithin outer xs → AreSoundWithin outer (trees xs)
kept_are_sound outer [] e h w = tt
kept_are_sound outer (x ∷ xs) e h w = let k = each_kept x xs e in (w.0, narrow_sound x h.0 k.0 w.1, kept_are_sound outer xs k.1 h.1 w.2)

-- the tree of an item is the item
item_is : (x t : Tree) (b : Bool) → cond b None (Some x) ≡ Some t → x ≡ t
item_is x t true e = absurd cc
item_is x t false e = cc

-- the trees of items are the items
pub items_are : (xs ts : List Tree) → all_items xs ≡ Some ts → xs ≡ ts
items_are [] ts e = cc
items_are (x ∷ xs) ts e = both_case (item_of x) (all_items xs) refl (items_are xs) e
  where
    both_case : (o : Option Tree) (p : Option (List Tree)) → item_of x ≡ o → ((us : List Tree) → p ≡ Some us → xs ≡ us) → option_and_then (λ u. option_map (λ us. u ∷ us) p) o ≡ Some ts → x ∷ xs ≡ ts
    both_case None p i j e = absurd cc
    both_case (Some t) None i j e = absurd cc
    both_case (Some t) (Some us) i j e =
        let one : x ≡ t = item_is x t (is_wide x) i in
        let others : xs ≡ us = j us refl in cc

-- ---- items read so far

-- one item more
pub item_more : (xs : List Tree) (x : Tree) → all_items (xs ++ x ∷ []) ≡ with_item (all_items xs) (item_of x)
item_more [] x = alone (item_of x)
  where
    alone : (o : Option Tree) → option_and_then (λ u. Some (u ∷ [])) o ≡ option_map (λ t. t ∷ []) o
    alone None = refl
    alone (Some t) = refl
item_more (y ∷ xs) x =
    ap (λ p. option_and_then (λ u. option_map (λ us. u ∷ us) p) (item_of y)) (item_more xs x) ∙ moved (item_of y) (all_items xs) (item_of x)
  where
    moved : (o : Option Tree) (p : Option (List Tree)) (q : Option Tree) → option_and_then (λ u. option_map (λ us. u ∷ us) (with_item p q)) o ≡ with_item (option_and_then (λ u. option_map (λ us. u ∷ us) p) o) q
    moved None p q = refl
    moved (Some u) None q = refl
    moved (Some u) (Some us) None = refl
    moved (Some u) (Some us) (Some t) = refl

-- a row more
pub items_more : (xs ys : List Tree) → all_items (xs ++ ys) ≡ with_items (all_items xs) (all_items ys)
items_more [] ys = alone (all_items ys)
  where
    alone : (o : Option (List Tree)) → o ≡ option_map (λ us. us) o
    alone None = refl
    alone (Some us) = refl
items_more (y ∷ xs) ys =
    ap (λ p. option_and_then (λ u. option_map (λ us. u ∷ us) p) (item_of y)) (items_more xs ys) ∙ moved (item_of y) (all_items xs) (all_items ys)
  where
    moved : (o : Option Tree) (p q : Option (List Tree)) → option_and_then (λ u. option_map (λ us. u ∷ us) (with_items p q)) o ≡ with_items (option_and_then (λ u. option_map (λ us. u ∷ us) p) o) q
    moved None p q = refl
    moved (Some u) None q = refl
    moved (Some u) (Some us) None = refl
    moved (Some u) (Some us) (Some vs) = refl

-- ---- the array

module _ (at : Span) (rows columns : ℕ) (xs : List Tree) (literals : AreConstants xs) (some : 0 < length xs) where
  -- the branch of an array by its items
  by_items : (o : Option (List Tree)) → all_items xs ≡ o
      → branch (option_map (λ ts. Array at rows columns (trees ts)) o) 2 (record { lost = false; miscounted = false; wide = is_none o }) ≡ branch (Some (Array at rows columns (trees xs))) 2 (record { lost = false; miscounted = false; wide = is_none o })
  by_items None e = refl
  by_items (Some ts) e = ap (λ us. branch (Some (Array at rows columns (trees us))) 2 (record { lost = false; miscounted = false; wide = false })) (sym (items_are xs ts e))

  -- what is made of an array is its branch
  pub array_branch : (o : Option (List Tree)) → o ≡ all_items xs
      → branch (option_map (λ ts. Array at rows columns (trees ts)) o) 2 (record { lost = false; miscounted = false; wide = is_none o }) ≡ branch_of (Array at rows columns (trees xs))
  array_branch o e =
      let faults = λ (a b c : Bool). let f : Faults = record { lost = a; miscounted = b; wide = c } in f in
      let t = Array at rows columns (trees xs) in
      let height : 2 ≡ suc (greatest_height (trees xs)) = sym (ap suc (items_level xs literals some)) in
      by_items o (sym e)
      ∙ ap (λ c. branch (Some t) 2 (faults false false c)) (ap is_none e ∙ sym (wide_items xs literals))
      ∙ ap (λ b. branch (Some t) 2 (faults false b (have_part is_wide (trees xs)))) (sym (have_none is_miscounted none_miscounted xs literals))
      ∙ ap (λ a. branch (Some t) 2 (faults a (have_part is_miscounted (trees xs)) (have_part is_wide (trees xs)))) (sym (have_none is_lost none_lost xs literals))
      ∙ ap (λ h. branch (Some t) h (faults (have_part is_lost (trees xs)) (have_part is_miscounted (trees xs)) (have_part is_wide (trees xs)))) (lower (greatest_height (trees xs)) (items_level xs literals some))
    where
      lower : (h : ℕ) → h ≡ 1 → 2 ≡ min 513 (suc h)
      lower h e = omega arith
