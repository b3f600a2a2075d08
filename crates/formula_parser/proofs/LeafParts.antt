-- Leaves as they are read and kept.
use Rattle.std.proofs.Common.{◌≡◌, ◌≤◌, ◌-◌, ℕ, zero, suc, min, Bool, true, false, cond, List, [], ◌∷◌, length, get_or, Option, Some, None, is_some, refl, sym, ap, subst, ◌∙◌, arith}
use Rattle.std.specs.Prelude.{IfSome, Result, ◌||◌}
use Rattle.std.specs.Option.{option_map, option_map_or, option_and_then}
use Rattle.cell_refs.specs.declared.span.Span.{Span}
use Rattle.frac128.specs.Numeral.{Numeral, is_narrow_numeral, value}
use Rattle.frac128.specs.NumeralReading.{reading}
use Rattle.formula_ast.specs.Measures.{height_of}
use Rattle.formula_ast.specs.Sound.{IsWithin}
use Rattle.formula_ast.specs.Tree.{Tree, Fault, Logical, Name, Number, Text, WideNumber, span_of}
use Rattle.formula_grammar.specs.declared.symbol.Sign.{Sign}
use Rattle.formula_grammar.specs.declared.symbol.Sign.TheVariants as sign
use Rattle.formula_grammar.specs.declared.symbol.Symbol.{Symbol}
use Rattle.formula_grammar.specs.Symbols.{Setting, bytes_of, last_end, place_of}
use Rattle.cell_refs.specs.Address.{address_in}
use Rattle.formula_grammar.specs.Words.{Corner, Own, corner_on, error_in, logical_word, number_tree, quoted_text}
use Rattle.formula_grammar.specs.WordReading.{if_listed, or_else, split_corner, unless_logical, word_corner}
use Rattle.formula_grammar.specs.Loops.{Found}
use Rattle.formula_grammar.specs.LeafReading.{array_at, is_sheet_mark, leaf_at, leaf_by, lone_word, references_at, starts_with, word_leaf}
use Rattle.formula_grammar.specs.Reading.{leaf_of}
use Rattle.formula_grammar.proofs.Turns.{some_is}
use Rattle.formula_parser.specs.declared.stop.Stop.{Stop}
use Rattle.formula_parser.specs.declared.stop.Stop.TheVariants as stops
use Rattle.formula_parser.specs.declared.branch.Branch.{Branch}
use Rattle.formula_parser.specs.declared.branch.Part.{Part}
use Rattle.formula_parser.specs.Built.{branch, built, faults_of, is_whole, no_faults}
use Rattle.formula_parser.specs.Given.{Fails, Gives}
use Rattle.formula_parser.specs.Leaves.{item_of, leaf_found, leaf_part, signed_number, single_by, single_in}
use Rattle.formula_parser.specs.Placed.{InOrder, IsInFront, IsInText, IsPlaced}
use Rattle.formula_parser.proofs.Order.{first_behind}

-- ---- one tree of one level

-- a tree lies within its own place
pub leaf_placed : (t : Tree) → (span_of t).start ≤ (span_of t).end → IsPlaced (leaf_part t)
leaf_placed t forward = record { forward = forward; within = kept (is_whole (min 513 (height_of t)) (faults_of t)) }
  where
    kept : (b : Bool) → IfSome (cond b (Some t) None) (λ u. IsWithin (span_of u) (span_of t))
    kept false = tt
    kept true = record { start = omega arith; end = omega arith }

-- ---- numbers

-- a number that is kept is of one level and has no faults
number_kept_by : (at : Span) (n : Numeral) (b : Bool) (t : Tree) → item_of (cond b (Number at (value n)) (WideNumber at (value n))) ≡ Some t
    → (cond b (Number at (value n)) (WideNumber at (value n)) ≡ t) × (height_of t ≡ 1) × (faults_of t ≡ no_faults)
number_kept_by at n true t e =
    let same : Number at (value n) ≡ t = some_is (Number at (value n)) t e in
    (same, subst (λ u. height_of u ≡ 1) same refl, subst (λ u. faults_of u ≡ no_faults) same refl)
number_kept_by at n false t e = absurd cc

-- a number that was read and kept
pub number_kept : (at : Span) (o : Option Numeral) (t : Tree) → option_map (λ n. item_of (signed_number false at n)) o ≡ Some (Some t) → (option_map (number_tree at) o ≡ Some t) × (height_of t ≡ 1) × (faults_of t ≡ no_faults)
number_kept at None t e = absurd cc
number_kept at (Some n) t e =
    let k = number_kept_by at n (is_narrow_numeral n) t (some_is (item_of (number_tree at n)) (Some t) e) in
    (ap Some k.0, k.1, k.2)

-- what stands in place of a number that is too wide
abbrev pub wide_branch : Branch
wide_branch = branch None 1 (record { lost = false; miscounted = false; wide = true })

-- the part of a number that is too wide
wide_kept_by : (at : Span) (n : Numeral) (b : Bool) → item_of (cond b (Number at (value n)) (WideNumber at (value n))) ≡ None
    → leaf_part (cond b (Number at (value n)) (WideNumber at (value n))) ≡ record { branch = wide_branch; place = at }
wide_kept_by at n true e = absurd cc
wide_kept_by at n false e = refl

-- a number that was read and is too wide
pub wide_kept : (at : Span) (o : Option Numeral) → option_map (λ n. item_of (signed_number false at n)) o ≡ Some None → option_map leaf_part (option_map (number_tree at) o) ≡ Some (record { branch = wide_branch; place = at })
wide_kept at None e = absurd cc
wide_kept at (Some n) e = ap Some (wide_kept_by at n (is_narrow_numeral n) (some_is (item_of (number_tree at n)) None e))

-- ---- single symbols

module _ (S : Setting) (s : Symbol) where
  -- the tree of a constant that was looked up
  looked_up : {X : Type 0} (make : Span → X → Tree) → ((x : X) → span_of (make s.span x) ≡ s.span) → (o : Option X) (t : Tree) → option_map (make s.span) o ≡ Some t → span_of t ≡ s.span
  looked_up make place None t e = absurd cc
  looked_up make place (Some x) t e = ap span_of (sym (some_is (make s.span x) t e)) ∙ place x

  -- a number stands in its place
  number_place : (n : Numeral) (b : Bool) → span_of (cond b (Number s.span (value n)) (WideNumber s.span (value n))) ≡ s.span
  number_place n true = refl
  number_place n false = refl

  -- a word stands in its place
  word_place : (o : Option Bool) → span_of (option_map_or (Logical s.span) o (Name s.span (bytes_of S s))) ≡ s.span
  word_place None = refl
  word_place (Some b) = refl

  -- a single symbol's tree stands in its place
  pub single_place : (t : Tree) → single_in S s ≡ Some t → span_of t ≡ s.span
  single_place t e = by_sign s.sign e
    where
      by_sign : (g : Sign) → single_by S s g ≡ Some t → span_of t ≡ s.span
      by_sign sign.Number e = looked_up number_tree (λ n. number_place n (is_narrow_numeral n)) (reading (bytes_of S s)) t e
      by_sign sign.Text e = ap span_of (sym (some_is (Text s.span (quoted_text (bytes_of S s))) t e))
      by_sign sign.Fault e = looked_up Fault (λ k. refl) (error_in (bytes_of S s)) t e
      by_sign sign.Word e = ap span_of (sym (some_is (option_map_or (Logical s.span) (logical_word (bytes_of S s)) (Name s.span (bytes_of S s))) t e)) ∙ word_place (logical_word (bytes_of S s))
      by_sign _ e = absurd cc

  -- a single symbol stands in front of the rest
  pub single_front : (ss rest : List Symbol) → ss ≡ s ∷ rest → IsInText S.text s → (p : Part) → option_map leaf_part (single_in S s) ≡ Some p → IsInFront ss p rest
  single_front ss rest is inside p e = by_case (single_in S s) refl e
    where
      by_case : (o : Option Tree) → single_in S s ≡ o → option_map leaf_part o ≡ Some p → IsInFront ss p rest
      by_case None same e = absurd cc
      by_case (Some t) same e =
          let place = single_place t same in
          let some = inside.some in
          let a : (span_of t).start ≡ s.span.start = ap (λ (q : Span). q.start) place in
          let b : (span_of t).end ≡ s.span.end = ap (λ (q : Span). q.end) place in
          subst (λ (q : Part). IsInFront ss q rest) (some_is (leaf_part t) p e) (record {
            placed = leaf_placed t (omega arith);
            starts = λ from order. let k = (first_behind s rest ss from is order).0 in omega arith;
            ends = λ from order. subst (λ n. InOrder n rest) (sym b) (first_behind s rest ss from is order).1;
          })

-- what is kept of a single symbol, before the rest
abbrev pub single_before : List Symbol → Option Part → Option (Part × List Symbol)
single_before rest o = option_map (λ p. (p, rest)) o

-- a single symbol fails
pub single_fails : (e : Stop) (rest : List Symbol) (o : Option Part) → Fails e o → Fails e (single_before rest o)
single_fails stops.Memory rest o h = tt
single_fails stops.Syntax rest o h = ap (single_before rest) h

-- ---- words

module _ (S : Setting) (s : Symbol) (rest : List Symbol) where
  -- a logical is no corner
  lone_corner : (b : Option Bool) (c : Option Corner) → logical_word (bytes_of S s) ≡ b → word_corner S (bytes_of S s) ≡ c → is_some c ≡ true → lone_word S s rest b c ≡ references_at S (s ∷ rest)
  lone_corner b None is corner h = absurd cc
  lone_corner None (Some c) is corner h = refl
  lone_corner (Some b) (Some c) is corner h = absurd (let k : None ≡ Some c = sym (ap unless is) ∙ corner in cc)
    where
      unless : Option Bool → Option Corner
      unless o = unless_logical o (or_else (corner_on Own (address_in (bytes_of S s))) (option_and_then (λ c. if_listed S.sheets c.sheet c) (split_corner (bytes_of S s))))

  -- references begin with the word
  pub word_references : (starts_with is_sheet_mark rest || is_some (word_corner S (bytes_of S s))) ≡ true → word_leaf S s rest ≡ references_at S (s ∷ rest)
  word_references h = by_mark (starts_with is_sheet_mark rest) h
    where
      by_mark : (b : Bool) → (b || is_some (word_corner S (bytes_of S s))) ≡ true → cond b (references_at S (s ∷ rest)) (lone_word S s rest (logical_word (bytes_of S s)) (word_corner S (bytes_of S s))) ≡ references_at S (s ∷ rest)
      by_mark true h = refl
      by_mark false h = lone_corner (logical_word (bytes_of S s)) (word_corner S (bytes_of S s)) refl refl h

  -- what a word is alone
  pub word_alone : s.sign ≡ sign.Word → (starts_with is_sheet_mark rest || is_some (word_corner S (bytes_of S s))) ≡ false → leaf_found (word_leaf S s rest) ≡ single_before rest (option_map leaf_part (single_in S s))
  word_alone is h = by_mark (starts_with is_sheet_mark rest) (word_corner S (bytes_of S s)) h ∙ ap (λ g. single_before rest (option_map leaf_part (single_by S s g))) (sym is)
    where
      by_logical : (o : Option Bool) → leaf_found (lone_word S s rest o None) ≡ Some (leaf_part (option_map_or (Logical s.span) o (Name s.span (bytes_of S s))), rest)
      by_logical None = refl
      by_logical (Some b) = refl

      by_mark : (b : Bool) (c : Option Corner) → (b || is_some c) ≡ false → leaf_found (cond b (references_at S (s ∷ rest)) (lone_word S s rest (logical_word (bytes_of S s)) c)) ≡ Some (leaf_part (option_map_or (Logical s.span) (logical_word (bytes_of S s)) (Name s.span (bytes_of S s))), rest)
      by_mark true c h = absurd cc
      by_mark false (Some c) h = absurd cc
      by_mark false None h = by_logical (logical_word (bytes_of S s))

-- ---- leaves

module _ (S : Setting) where
  -- what is made of a leaf is what is kept
  leaf_kept : (ss : List Symbol) → leaf_of S (built S) ss ≡ leaf_found (leaf_at S ss)
  unfolding leaf_of
  leaf_kept ss = same (leaf_at S ss)
    where
      same : (o : Found Tree) → option_and_then (λ (x : Tree × List Symbol). Some (leaf_part x.0, x.1)) o ≡ leaf_found o
      same None = refl
      same (Some x) = refl

  -- no symbols
  pub leaf_none : leaf_of S (built S) [] ≡ None
  unfolding leaf_of leaf_at
  leaf_none = refl

  module _ (s : Symbol) (ss rest : List Symbol) (is : ss ≡ s ∷ rest) where
    -- a leaf by its first symbol
    by_first : (g : Sign) → s.sign ≡ g → leaf_of S (built S) ss ≡ leaf_found (leaf_by S g s rest)
    unfolding leaf_at
    by_first g h = leaf_kept ss ∙ ap (λ c. leaf_found (leaf_at S c)) is ∙ ap (λ g. leaf_found (leaf_by S g s rest)) h

    -- an array
    pub leaf_array : s.sign ≡ sign.OpenBrace → leaf_of S (built S) ss ≡ leaf_found (array_at S s rest)
    leaf_array h = by_first sign.OpenBrace h

    -- references that begin with a quoted sheet
    pub leaf_quoted : s.sign ≡ sign.Quoted → leaf_of S (built S) ss ≡ leaf_found (references_at S ss)
    leaf_quoted h = by_first sign.Quoted h ∙ ap (λ c. leaf_found (references_at S c)) (sym is)

    -- references that begin with a bracket
    pub leaf_square : s.sign ≡ sign.OpenSquare → leaf_of S (built S) ss ≡ leaf_found (references_at S ss)
    leaf_square h = by_first sign.OpenSquare h ∙ ap (λ c. leaf_found (references_at S c)) (sym is)

    -- a word
    pub leaf_word : s.sign ≡ sign.Word → leaf_of S (built S) ss ≡ leaf_found (word_leaf S s rest)
    leaf_word h = by_first sign.Word h

    -- what is looked up
    looked : {X : Type 0} (make : X → Tree) (o : Option X) → leaf_found (option_and_then (λ x. Some (make x, rest)) o) ≡ single_before rest (option_map leaf_part (option_map make o))
    looked make None = refl
    looked make (Some x) = refl

    -- another symbol
    pub leaf_single : (s.sign ≡ sign.OpenBrace → ⊥) → (s.sign ≡ sign.Quoted → ⊥) → (s.sign ≡ sign.OpenSquare → ⊥) → (s.sign ≡ sign.Word → ⊥) → leaf_of S (built S) ss ≡ single_before rest (option_map leaf_part (single_in S s))
    leaf_single a b c d = by_first s.sign refl ∙ by_sign s.sign a b c d
      where
        by_sign : (g : Sign) → (g ≡ sign.OpenBrace → ⊥) → (g ≡ sign.Quoted → ⊥) → (g ≡ sign.OpenSquare → ⊥) → (g ≡ sign.Word → ⊥) → leaf_found (leaf_by S g s rest) ≡ single_before rest (option_map leaf_part (single_by S s g))
        by_sign sign.OpenBrace a b c d = absurd (a refl)
        by_sign sign.Quoted a b c d = absurd (b refl)
        by_sign sign.OpenSquare a b c d = absurd (c refl)
        by_sign sign.Word a b c d = absurd (d refl)
        by_sign sign.Number a b c d = looked (number_tree s.span) (reading (bytes_of S s))
        by_sign sign.Text a b c d = refl
        by_sign sign.Fault a b c d = looked (Fault s.span) (error_in (bytes_of S s))
        by_sign _ a b c d = refl

-- ---- places

-- the end of the last symbol
last_is : (s : Symbol) (ss : List Symbol) (d : Symbol) (i : ℕ) → i ≡ length ss → (get_or (s ∷ ss) i d).span.end ≡ last_end s.span.end ss
last_is s [] d zero e = refl
last_is s [] d (suc i) e = absurd (omega arith)
last_is s (t ∷ ss) d zero e = absurd (omega arith)
last_is s (t ∷ ss) d (suc i) e = last_is t ss d i (omega arith)

-- from the first symbol to the last
pub place_is : (ss : List Symbol) (d : Symbol) → 1 ≤ length ss → (let p : Span = record { start = (get_or ss 0 d).span.start; end = (get_or ss (length ss - 1) d).span.end } in p) ≡ place_of ss
place_is [] d h = absurd (omega arith)
place_is (s ∷ ss) d h = ap (λ (n : ℕ). let p : Span = record { start = s.span.start; end = n } in p) (last_is s ss d (length (s ∷ ss) - 1) (omega arith))

-- ---- what functions return

-- what is given of one reading is given of the same
pub same_gives : {X Y : Type 0} (view : X → Y) (r : Result X Stop) (o p : Option Y) → o ≡ p → Gives view r o → Gives view r p
same_gives view r o p e h = subst (Gives view r) e h

-- nothing is read of no symbols
pub leaf_empty : (S : Setting) (ss : List Symbol) → length ss ≡ 0 → leaf_of S (built S) ss ≡ None
leaf_empty S [] h = leaf_none S
leaf_empty S (s ∷ ss) h = absurd (omega arith)
