-- Leaves: what is spelled is read.
use Rattle.std.proofs.Common.{◌≡◌, ◌⊎◌, ◌<◌, ℕ, suc, ◌-◌, Bool, true, false, cond, List, [], ◌∷◌, ◌++◌, length, take, Option, Some, None, refl, sym, ap, subst, ◌∙◌, inl, inr, append_assoc, arith}
use Rattle.std.specs.Option.{option_and_then}
use Rattle.std.proofs.lemmas.Bool.{eq-eqb}
use Rattle.cell_refs.specs.Address.{address_in}
use Rattle.formula_ast.specs.Tree.{Tree, Logical, Fault, Array, Reference, Referred, trees}
use Rattle.formula_grammar.specs.declared.symbol.Sign.{Sign}
use Rattle.formula_grammar.specs.declared.symbol.Sign.TheVariants as sign
use Rattle.formula_grammar.specs.declared.symbol.Symbol.{Symbol}
use Rattle.formula_grammar.specs.Symbols.{Setting, bytes_of, from_to, place_of}
use Rattle.formula_grammar.specs.Words.{Given, Own, Named, Corner, corner_on, sheet_by, sheet_of, number_tree, negative_tree, logical_word}
use Rattle.formula_grammar.specs.WordReading.{unless_logical, split_corner, word_corner}
use Rattle.frac128.proofs.Spelling.{reading-complete}
use Rattle.formula_grammar.proofs.WordCorners.{split_read, word_none, word_read}
use Rattle.formula_grammar.specs.References.{SpellsCorner, word, on_sheet, SpellsInner, own, after_sheet, joined_word, SpellsReference, cell, area, inner_cell, inner_area, SpellsUnion, one, joined, area_between}
use Rattle.formula_grammar.specs.Arrays.{SpellsItem, number, positive, negative, text, logical, SpellsRow, first, next, SpellsRows, first_row, next_row}
use Rattle.formula_grammar.specs.Leaves.{SpellsLeaf}
use Rattle.formula_grammar.specs.Leaves as leaf
use Rattle.formula_grammar.specs.Loops.{Found, Reader, Turn, Stop, Fail, Go, go_on, all_turns}
use Rattle.formula_grammar.specs.LeafReading.{is_word, is_colon, is_point, is_sheet_mark, is_tilde, is_semicolon, is_bar, is_close_square, is_close_brace, is_number, one_at, starts_with, address_at, behind_sheet_at, corner_by, corner_at, inner_by, inner_at, second_at, brackets_at, plain_at, reference_by, reference_at, union_turn, union_at, signed_by, signed_number_at, item_by, item_at, row_turn, row_at, RowsRead, with_row, rows_turn, array_at, references_at, lone_word, leaf_by, leaf_at}
use Rattle.formula_grammar.proofs.Turns.{Takes, shorter, all_stop, all_go}
use Rattle.formula_grammar.proofs.Signs.{ahead, reach}
use Rattle.formula_grammar.proofs.LeafSound.{item_sound, reference_sound, row_sound, row_went, goes, before_rest}

-- ---- single symbols

one_there : (test : Sign → Bool) (s : Symbol) (ss : List Symbol) → test s.sign ≡ true → one_at test (s ∷ ss) ≡ Some (s, ss)
unfolding one_at
one_there test s ss h = ap (λ b. cond b (Some (s, ss)) None) h

-- a test of a sign that is known
passes : (test : Sign → Bool) (g h : Sign) (b : Bool) → g ≡ h → test h ≡ b → test g ≡ b
passes test g h b e k = ap test e ∙ k

mark_passes : (g : Sign) → (g ≡ sign.Exclamation) ⊎ (g ≡ sign.Point) → is_sheet_mark g ≡ true
mark_passes g e = elim e [
  | inl h ↦ ap is_sheet_mark h
  | inr h ↦ ap is_sheet_mark h
]

-- what follows does not go on with a reference
record Ends (rest : List Symbol) : Type 0 where
  pub no_mark : starts_with is_sheet_mark rest ≡ false
  pub no_colon : starts_with is_colon rest ≡ false

ends_at : (s : Symbol) (rest : List Symbol) (g : Sign) → s.sign ≡ g → is_sheet_mark g ≡ false → is_colon g ≡ false → Ends (s ∷ rest)
ends_at s rest g e h k = record { no_mark = ap is_sheet_mark e ∙ h; no_colon = ap is_colon e ∙ k }

loose_ends : (rest : List Symbol) → 0 < ahead rest → Ends rest
loose_ends [] h = record { no_mark = refl; no_colon = refl }
loose_ends (s ∷ rest) h = record { no_mark = mark s.sign h; no_colon = colon s.sign h }
  where
    mark : (g : Sign) → 0 < reach g → is_sheet_mark g ≡ false
    mark sign.Exclamation k = absurd (omega arith)
    mark sign.Point k = absurd (omega arith)
    mark _ k = refl

    colon : (g : Sign) → 0 < reach g → is_colon g ≡ false
    colon sign.Colon k = absurd (omega arith)
    colon _ k = refl

loose_tilde : (rest : List Symbol) → 0 < ahead rest → starts_with is_tilde rest ≡ false
loose_tilde [] h = refl
loose_tilde (s ∷ rest) h = tilde s.sign h
  where
    tilde : (g : Sign) → 0 < reach g → is_tilde g ≡ false
    tilde sign.Tilde k = absurd (omega arith)
    tilde _ k = refl

module _ (S : Setting) where
  -- ---- corners

  address_there : (sheet : Given) (u : Symbol) (c : Corner) (rest : List Symbol) → u.sign ≡ sign.Word → corner_on sheet (address_in (bytes_of S u)) ≡ Some c → address_at S sheet (u ∷ rest) ≡ Some (c, rest)
  unfolding address_at
  address_there sheet u c rest is h =
      ap (option_and_then (λ (u : Symbol × List Symbol). option_and_then (λ (c : Corner). Some (c, u.1)) (corner_on sheet (address_in (bytes_of S u.0))))) (one_there is_word u rest (ap is_word is))
      ∙ ap (option_and_then (λ (c : Corner). Some (c, rest))) h

  sheet_there : (mark : Sign → Bool) (s t u : Symbol) (name : List ℕ) (c : Corner) (rest : List Symbol) → sheet_of S s ≡ Some name → mark t.sign ≡ true → u.sign ≡ sign.Word
      → corner_on (Named name) (address_in (bytes_of S u)) ≡ Some c → behind_sheet_at S mark s (t ∷ u ∷ rest) ≡ Some (c, rest)
  unfolding behind_sheet_at
  sheet_there mark s t u name c rest sheet between is h =
      ap (option_and_then (λ name. option_and_then (λ (t : Symbol × List Symbol). address_at S (Named name) t.1) (one_at mark (t ∷ u ∷ rest)))) sheet
      ∙ ap (option_and_then (λ (t : Symbol × List Symbol). address_at S (Named name) t.1)) (one_there mark t (u ∷ rest) between)
      ∙ address_there (Named name) u c rest is h

  by_sheet : (s t : Symbol) (ss : List Symbol) (g : Sign) → is_sheet_mark t.sign ≡ true → corner_by S s g (t ∷ ss) ≡ behind_sheet_at S is_sheet_mark s (t ∷ ss)
  by_sheet s t ss sign.Word h = ap (λ b. cond b (behind_sheet_at S is_sheet_mark s (t ∷ ss)) (option_and_then (λ c. Some (c, t ∷ ss)) (word_corner S (bytes_of S s)))) h
  by_sheet s t ss _ h = refl

  corner_read : {a : List Symbol} {c : Corner} → SpellsCorner S a c → (rest : List Symbol) → starts_with is_sheet_mark rest ≡ false → corner_at S (a ++ rest) ≡ Some (c, rest)
  unfolding corner_at
  corner_read (word s is h) rest closed =
      ap (λ g. corner_by S s g rest) is
      ∙ ap (λ b. cond b (behind_sheet_at S is_sheet_mark s rest) (option_and_then (λ c. Some (c, rest)) (word_corner S (bytes_of S s)))) closed
      ∙ ap (option_and_then (λ c. Some (c, rest))) (word_read S (bytes_of S s) h)
  corner_read (on_sheet {name = name} {c = c} s t u sheet mark is h) rest closed =
      by_sheet s t (u ∷ rest) s.sign (mark_passes t.sign mark) ∙ sheet_there is_sheet_mark s t u name c rest sheet (mark_passes t.sign mark) is h

  by_inner : (s t : Symbol) (ss : List Symbol) (name : List ℕ) (g : Sign) → sheet_by S g s ≡ Some name → is_point t.sign ≡ true → inner_by S s g (t ∷ ss) ≡ behind_sheet_at S is_point s (t ∷ ss)
  by_inner s t ss name sign.Word sheet h = ap (λ b. cond b (behind_sheet_at S is_point s (t ∷ ss)) (option_and_then (λ c. Some (c, t ∷ ss)) (split_corner (bytes_of S s)))) h
  by_inner s t ss name sign.Point sheet h = absurd cc
  by_inner s t ss name _ sheet h = refl

  inner_read : {a : List Symbol} {c : Corner} → SpellsInner S a c → (rest : List Symbol) → starts_with is_point rest ≡ false → inner_at S (a ++ rest) ≡ Some (c, rest)
  unfolding inner_at
  inner_read (own {c = c} t u point is h) rest closed = ap (λ g. inner_by S t g (u ∷ rest)) point ∙ address_there Own u c rest is h
  inner_read (after_sheet {name = name} {c = c} s t u sheet point is h) rest closed =
      by_inner s t (u ∷ rest) name s.sign sheet (ap is_point point) ∙ sheet_there is_point s t u name c rest sheet (ap is_point point) is h
  inner_read (joined_word s is h) rest closed =
      ap (λ g. inner_by S s g rest) is
      ∙ ap (λ b. cond b (behind_sheet_at S is_point s rest) (option_and_then (λ c. Some (c, rest)) (split_corner (bytes_of S s)))) closed
      ∙ ap (option_and_then (λ c. Some (c, rest))) (split_read (bytes_of S s) h)

  -- ---- references

  abbrev behind_colon : Reader Corner → Corner → List Symbol → Found Referred
  behind_colon corner c ss = option_and_then (λ (t : Symbol × List Symbol). option_and_then (λ (d : Corner × List Symbol). option_and_then (λ (r : Referred). Some (r, d.1)) (area_between S c d.0)) (corner t.1)) (one_at is_colon ss)

  nothing_there : (corner : Reader Corner) (c : Corner) (r : Referred) (rest : List Symbol) → starts_with is_colon rest ≡ false → area_between S c c ≡ Some r → second_at S corner c rest ≡ Some (r, rest)
  unfolding second_at
  nothing_there corner c r rest closed h =
      ap (λ b. cond b (behind_colon corner c rest) (option_and_then (λ r. Some (r, rest)) (area_between S c c))) closed
      ∙ ap (option_and_then (λ r. Some (r, rest))) h

  second_there : (corner : Reader Corner) (c d : Corner) (r : Referred) (t : Symbol) (ss rest : List Symbol) → t.sign ≡ sign.Colon → corner ss ≡ Some (d, rest) → area_between S c d ≡ Some r → second_at S corner c (t ∷ ss) ≡ Some (r, rest)
  unfolding second_at
  second_there corner c d r t ss rest colon h k =
      ap (λ b. cond b (behind_colon corner c (t ∷ ss)) (option_and_then (λ r. Some (r, t ∷ ss)) (area_between S c c))) (ap is_colon colon)
      ∙ ap (option_and_then (λ (t : Symbol × List Symbol). option_and_then (λ (d : Corner × List Symbol). option_and_then (λ (r : Referred). Some (r, d.1)) (area_between S c d.0)) (corner t.1))) (one_there is_colon t ss (ap is_colon colon))
      ∙ ap (option_and_then (λ (d : Corner × List Symbol). option_and_then (λ (r : Referred). Some (r, d.1)) (area_between S c d.0))) h
      ∙ ap (option_and_then (λ (r : Referred). Some (r, rest))) k

  plain_there : (ss rest all : List Symbol) (c : Corner) (r : Referred) → corner_at S all ≡ Some (c, ss) → second_at S (corner_at S) c ss ≡ Some (r, rest) → plain_at S all ≡ Some (r, rest)
  unfolding plain_at
  plain_there ss rest all c r h k = ap (option_and_then (λ (c : Corner × List Symbol). second_at S (corner_at S) c.0 c.1)) h ∙ k

  brackets_there : (all ss rest : List Symbol) (t : Symbol) (c : Corner) (r : Referred) → inner_at S all ≡ Some (c, ss) → second_at S (inner_at S) c ss ≡ Some (r, t ∷ rest) → t.sign ≡ sign.CloseSquare → brackets_at S all ≡ Some (r, rest)
  unfolding brackets_at
  brackets_there all ss rest t c r h k right =
      ap (option_and_then (λ (c : Corner × List Symbol). option_and_then (λ (r : Referred × List Symbol). option_and_then (λ (t : Symbol × List Symbol). Some (r.0, t.1)) (one_at is_close_square r.1)) (second_at S (inner_at S) c.0 c.1))) h
      ∙ ap (option_and_then (λ (r : Referred × List Symbol). option_and_then (λ (t : Symbol × List Symbol). Some (r.0, t.1)) (one_at is_close_square r.1))) k
      ∙ ap (option_and_then (λ (t : Symbol × List Symbol). Some (r, t.1))) (one_there is_close_square t rest (ap is_close_square right))

  -- no corner outside brackets begins with a bracket
  plain_front : {a : List Symbol} {c : Corner} → SpellsCorner S a c → (rest : List Symbol) → reference_at S (a ++ rest) ≡ plain_at S (a ++ rest)
  unfolding reference_at
  plain_front (word s is h) rest = ap (λ g. reference_by S g s rest) is
  plain_front (on_sheet {name = name} s t u sheet mark is h) rest = by s.sign sheet
    where
      by : (g : Sign) → sheet_by S g s ≡ Some name → reference_by S g s (t ∷ u ∷ rest) ≡ plain_at S (s ∷ t ∷ u ∷ rest)
      by sign.OpenSquare e = absurd cc
      by _ e = refl

  square_front : (s : Symbol) (ss : List Symbol) → s.sign ≡ sign.OpenSquare → reference_at S (s ∷ ss) ≡ brackets_at S ss
  unfolding reference_at
  square_front s ss left = ap (λ g. reference_by S g s ss) left

  reference_read : {a : List Symbol} {r : Referred} → SpellsReference S a r → (rest : List Symbol) → Ends rest → reference_at S (a ++ rest) ≡ Some (r, rest)
  reference_read (cell {a = a} {c = c} {r = r} p is) rest ends =
      plain_front p rest ∙ plain_there rest rest (a ++ rest) c r (corner_read p rest ends.no_mark) (nothing_there (corner_at S) c r rest ends.no_colon is)
  reference_read (area {a = a} {b = b} {c = c} {d = d} {r = r} s colon p q is) rest ends =
      ap (reference_at S) (append_assoc a (s ∷ b) rest) ∙ plain_front p (s ∷ (b ++ rest))
      ∙ plain_there (s ∷ (b ++ rest)) rest (a ++ s ∷ (b ++ rest)) c r (corner_read p (s ∷ (b ++ rest)) (ap is_sheet_mark colon))
      (second_there (corner_at S) c d r s (b ++ rest) rest colon (corner_read q rest ends.no_mark) is)
  reference_read (inner_cell {a = a} {c = c} {r = r} s t left right p is) rest ends =
      square_front s ((a ++ t ∷ []) ++ rest) left ∙ ap (brackets_at S) (append_assoc a (t ∷ []) rest)
      ∙ brackets_there (a ++ t ∷ rest) (t ∷ rest) rest t c r (inner_read p (t ∷ rest) (ap is_point right)) (nothing_there (inner_at S) c r (t ∷ rest) (ap is_colon right) is) right
  reference_read (inner_area {a = a} {b = b} {c = c} {d = d} {r = r} s t u left colon right p q is) rest ends =
      square_front s ((a ++ t ∷ (b ++ u ∷ [])) ++ rest) left
      ∙ ap (brackets_at S) (append_assoc a (t ∷ (b ++ u ∷ [])) rest ∙ ap (λ x. a ++ t ∷ x) (append_assoc b (u ∷ []) rest))
      ∙ brackets_there (a ++ t ∷ (b ++ u ∷ rest)) (t ∷ (b ++ u ∷ rest)) rest u c r (inner_read p (t ∷ (b ++ u ∷ rest)) (ap is_point colon))
      (second_there (inner_at S) c d r t (b ++ u ∷ rest) (u ∷ rest) colon (inner_read q (u ∷ rest) (ap is_point right)) is) right

  union_takes : Takes (union_turn S)
  union_takes rs [] y rest e = absurd cc
  union_takes rs (s ∷ ss) y rest e =
      let g = goes S (is_tilde s.sign) (λ r. rs ++ r ∷ []) (reference_at S ss) y rest e in
      let less = shorter (SpellsReference S) ss (g.1, rest) (reference_sound S ss (g.1, rest) g.2) in
      omega arith

  union_goes_on : (rs : List Referred) (r : Referred) (s : Symbol) (ss rest : List Symbol) → s.sign ≡ sign.Tilde → reference_at S ss ≡ Some (r, rest) → union_turn S rs (s ∷ ss) ≡ Go (rs ++ r ∷ []) rest
  union_goes_on rs r s ss rest tilde h =
      ap (λ b. cond b (go_on (λ r. rs ++ r ∷ []) (reference_at S ss)) Stop) (ap is_tilde tilde) ∙ ap (go_on (λ r. rs ++ r ∷ [])) h

  union_stops : (rs : List Referred) (rest : List Symbol) → starts_with is_tilde rest ≡ false → union_turn S rs rest ≡ Stop
  union_stops rs [] h = refl
  union_stops rs (s ∷ ss) h = ap (λ b. cond b (go_on (λ r. rs ++ r ∷ []) (reference_at S ss)) Stop) h

  union_read : {a : List Symbol} {rs : List Referred} → SpellsUnion S a rs → (rest : List Symbol) → Ends rest → union_at S (a ++ rest) ≡ all_turns (union_turn S) rs rest
  unfolding union_at
  union_read (one p) rest ends = ap (option_and_then (λ (r : Referred × List Symbol). all_turns (union_turn S) (r.0 ∷ []) r.1)) (reference_read p rest ends)
  union_read (joined {a = a} {b = b} {rs = rs} {r = r} s tilde p q) rest ends =
      ap (λ c. option_and_then (λ (r : Referred × List Symbol). all_turns (union_turn S) (r.0 ∷ []) r.1) (reference_at S c)) (append_assoc a (s ∷ b) rest)
      ∙ union_read p (s ∷ (b ++ rest)) (ends_at s (b ++ rest) sign.Tilde tilde refl refl)
      ∙ all_go (union_turn S) union_takes rs (s ∷ (b ++ rest)) (rs ++ r ∷ []) rest (union_goes_on rs r s (b ++ rest) rest tilde (reference_read q rest ends))

  -- ---- arrays

  signed_there : (s t : Symbol) (rest : List Symbol) → t.sign ≡ sign.Number → signed_number_at S s (t ∷ rest) ≡ signed_by S s.sign (from_to s.span t.span) t rest
  unfolding signed_number_at
  signed_there s t rest is = ap (option_and_then (λ (t : Symbol × List Symbol). signed_by S s.sign (from_to s.span t.0.span) t.0 t.1)) (one_there is_number t rest (ap is_number is))

  item_read : {a : List Symbol} {x : Tree} → SpellsItem S a x → (rest : List Symbol) → item_at S (a ++ rest) ≡ Some (x, rest)
  unfolding item_at
  item_read (number s is h) rest = ap (λ g. item_by S g s rest) is ∙ ap (option_and_then (λ n. Some (number_tree s.span n, rest))) (reading-complete (bytes_of S s) _ h)
  item_read (positive s t is is_num h) rest =
      ap (λ g. item_by S g s (t ∷ rest)) is ∙ signed_there s t rest is_num ∙ ap (λ g. signed_by S g (from_to s.span t.span) t rest) is
      ∙ ap (option_and_then (λ n. Some (number_tree (from_to s.span t.span) n, rest))) (reading-complete (bytes_of S t) _ h)
  item_read (negative s t is is_num h) rest =
      ap (λ g. item_by S g s (t ∷ rest)) is ∙ signed_there s t rest is_num ∙ ap (λ g. signed_by S g (from_to s.span t.span) t rest) is
      ∙ ap (option_and_then (λ n. Some (negative_tree (from_to s.span t.span) n, rest))) (reading-complete (bytes_of S t) _ h)
  item_read (text s is) rest = ap (λ g. item_by S g s rest) is
  item_read (logical s is h) rest = ap (λ g. item_by S g s rest) is ∙ ap (option_and_then (λ b. Some (Logical s.span b, rest))) h

  row_takes : Takes (row_turn S)
  row_takes xs [] y rest e = absurd cc
  row_takes xs (s ∷ ss) y rest e =
      let g = goes S (is_semicolon s.sign) (λ x. xs ++ x ∷ []) (item_at S ss) y rest e in
      let less = shorter (SpellsItem S) ss (g.1, rest) (item_sound S ss (g.1, rest) g.2) in
      omega arith

  row_goes_on : (xs : List Tree) (x : Tree) (s : Symbol) (ss rest : List Symbol) → s.sign ≡ sign.Semicolon → item_at S ss ≡ Some (x, rest) → row_turn S xs (s ∷ ss) ≡ Go (xs ++ x ∷ []) rest
  row_goes_on xs x s ss rest semicolon h =
      ap (λ b. cond b (go_on (λ x. xs ++ x ∷ []) (item_at S ss)) Stop) (ap is_semicolon semicolon) ∙ ap (go_on (λ x. xs ++ x ∷ [])) h

  row_read : {a : List Symbol} {xs : List Tree} → SpellsRow S a xs → (rest : List Symbol) → row_at S (a ++ rest) ≡ all_turns (row_turn S) xs rest
  unfolding row_at
  row_read (first p) rest = ap (option_and_then (λ (x : Tree × List Symbol). all_turns (row_turn S) (x.0 ∷ []) x.1)) (item_read p rest)
  row_read (next {a = a} {b = b} {xs = xs} {x = x} s semicolon p q) rest =
      ap (λ c. option_and_then (λ (x : Tree × List Symbol). all_turns (row_turn S) (x.0 ∷ []) x.1) (item_at S c)) (append_assoc a (s ∷ b) rest)
      ∙ row_read p (s ∷ (b ++ rest))
      ∙ all_go (row_turn S) row_takes xs (s ∷ (b ++ rest)) (xs ++ x ∷ []) rest
      (row_goes_on xs x s (b ++ rest) rest semicolon (item_read q rest))

  row_stops : (xs : List Tree) (rest : List Symbol) → starts_with is_semicolon rest ≡ false → row_turn S xs rest ≡ Stop
  row_stops xs [] h = refl
  row_stops xs (s ∷ ss) h = ap (λ b. cond b (go_on (λ x. xs ++ x ∷ []) (item_at S ss)) Stop) h

  row_whole : {a : List Symbol} {xs : List Tree} → SpellsRow S a xs → (rest : List Symbol) → starts_with is_semicolon rest ≡ false → row_at S (a ++ rest) ≡ Some (xs, rest)
  row_whole {xs = xs} p rest closed = row_read p rest ∙ all_stop (row_turn S) xs rest (row_stops xs rest closed)

  rows_take : Takes (rows_turn S)
  rows_take rows [] y rest e = absurd cc
  rows_take rows (s ∷ ss) y rest e =
      let g = row_went S (is_bar s.sign) rows (row_at S ss) y rest e in
      let less = shorter (SpellsRow S) ss (g.1, rest) (row_sound S ss (g.1, rest) g.2) in
      omega arith

  rows_go_on : (r c : ℕ) (xs ys : List Tree) (s : Symbol) (ss rest : List Symbol) → s.sign ≡ sign.Bar → row_at S ss ≡ Some (ys, rest) → length ys ≡ c → rows_turn S (r, c, xs) (s ∷ ss) ≡ Go (suc r, c, xs ++ ys) rest
  rows_go_on r c xs ys s ss rest bar h same =
      ap (λ b. cond b (with_row (r, c, xs) (row_at S ss)) Stop) (ap is_bar bar) ∙ ap (with_row (r, c, xs)) h
      ∙ ap (λ b. cond {A = Turn RowsRead} b (Go (suc r, c, xs ++ ys) rest) Fail) (eq-eqb (length ys) c same)

  abbrev rows_reading : List Symbol → Found RowsRead
  rows_reading ss = option_and_then (λ (x : List Tree × List Symbol). all_turns (rows_turn S) (1, length x.0, x.0) x.1) (row_at S ss)

  rows_read : {a : List Symbol} {r c : ℕ} {xs : List Tree} → SpellsRows S a r c xs → (rest : List Symbol) → starts_with is_semicolon rest ≡ false → rows_reading (a ++ rest) ≡ all_turns (rows_turn S) (r, c, xs) rest
  rows_read (first_row p) rest closed = ap (option_and_then (λ (x : List Tree × List Symbol). all_turns (rows_turn S) (1, length x.0, x.0) x.1)) (row_whole p rest closed)
  rows_read (next_row {a = a} {b = b} {rows = r} {columns = c} {xs = xs} {ys = ys} s bar p q same) rest closed =
      ap rows_reading (append_assoc a (s ∷ b) rest) ∙ rows_read p (s ∷ (b ++ rest)) (ap is_semicolon bar)
      ∙ all_go (rows_turn S) rows_take (r, c, xs) (s ∷ (b ++ rest)) (suc r, c, xs ++ ys) rest (rows_go_on r c xs ys s (b ++ rest) rest bar (row_whole q rest closed) same)

  array_there : (s t : Symbol) (all rest : List Symbol) (rows : RowsRead) → rows_reading all ≡ Some (rows, t ∷ rest) → t.sign ≡ sign.CloseBrace → array_at S s all ≡ Some (Array (from_to s.span t.span) rows.0 rows.1 (trees rows.2), rest)
  unfolding array_at
  array_there s t all rest rows h right = nested (row_at S all) h
    where
      nested : (o : Found (List Tree)) → option_and_then (λ (x : List Tree × List Symbol). all_turns (rows_turn S) (1, length x.0, x.0) x.1) o ≡ Some (rows, t ∷ rest)
          → option_and_then {U = Tree × List Symbol} (λ (x : List Tree × List Symbol). option_and_then {U = Tree × List Symbol} (λ (r : RowsRead × List Symbol). option_and_then {U = Tree × List Symbol} (λ (t : Symbol × List Symbol). Some (Array (from_to s.span t.0.span) r.0.0 r.0.1 (trees r.0.2), t.1)) (one_at is_close_brace r.1)) (all_turns (rows_turn S) (1, length x.0, x.0) x.1)) o
          ≡ Some (Array (from_to s.span t.span) rows.0 rows.1 (trees rows.2), rest)
      nested None e = absurd cc
      nested (Some x) e =
          ap (option_and_then (λ (r : RowsRead × List Symbol). option_and_then (λ (t : Symbol × List Symbol). Some (Array (from_to s.span t.0.span) r.0.0 r.0.1 (trees r.0.2), t.1)) (one_at is_close_brace r.1))) e
          ∙ ap (option_and_then (λ (t : Symbol × List Symbol). Some (Array (from_to s.span t.0.span) rows.0 rows.1 (trees rows.2), t.1))) (one_there is_close_brace t rest (ap is_close_brace right))

  rows_stop : (rows : RowsRead) (rest : List Symbol) → starts_with is_bar rest ≡ false → rows_turn S rows rest ≡ Stop
  rows_stop rows [] h = refl
  rows_stop rows (s ∷ ss) h = ap (λ b. cond b (with_row rows (row_at S ss)) Stop) h

  -- ---- leaves

  references_there : {a : List Symbol} {rs : List Referred} → SpellsUnion S a rs → (rest : List Symbol) → 0 < ahead rest → references_at S (a ++ rest) ≡ Some (Reference (place_of a) rs, rest)
  unfolding references_at
  references_there {a = a} {rs = rs} p rest h =
      let whole : union_at S (a ++ rest) ≡ Some (rs, rest) = union_read p rest (loose_ends rest h) ∙ all_stop (union_turn S) rs rest (union_stops rs rest (loose_tilde rest h)) in
      ap (option_and_then (λ (r : List Referred × List Symbol). Some (Reference (place_of (take (length (a ++ rest) - length r.1) (a ++ rest))) r.0, r.1))) whole
      ∙ ap (λ c. Some (Reference (place_of c) rs, rest)) (before_rest S a rest)

  no_logical : (b : Option Bool) (o : Option Corner) (c : Corner) → unless_logical b o ≡ Some c → b ≡ None
  no_logical (Some b) o c e = absurd cc
  no_logical None o c e = refl

  -- a corner is read as a reference
  corner_front : {a : List Symbol} {c : Corner} → SpellsCorner S a c → (rest : List Symbol) → leaf_at S (a ++ rest) ≡ references_at S (a ++ rest)
  unfolding leaf_at
  corner_front (word {c = c} s is h) rest = ap (λ g. leaf_by S g s rest) is ∙ by (starts_with is_sheet_mark rest)
    where
      by : (b : Bool) → cond b (references_at S (s ∷ rest)) (lone_word S s rest (logical_word (bytes_of S s)) (word_corner S (bytes_of S s))) ≡ references_at S (s ∷ rest)
      by true = refl
      by false = ap (λ l. lone_word S s rest l (word_corner S (bytes_of S s))) (no_logical (logical_word (bytes_of S s)) _ c (word_read S (bytes_of S s) h)) ∙ ap (lone_word S s rest None) (word_read S (bytes_of S s) h)
  corner_front (on_sheet {name = name} s t u sheet mark is h) rest = by s.sign sheet
    where
      by : (g : Sign) → sheet_by S g s ≡ Some name → leaf_by S g s (t ∷ u ∷ rest) ≡ references_at S (s ∷ t ∷ u ∷ rest)
      by sign.Word e = ap (λ b. cond b (references_at S (s ∷ t ∷ u ∷ rest)) (lone_word S s (t ∷ u ∷ rest) (logical_word (bytes_of S s)) (word_corner S (bytes_of S s)))) (mark_passes t.sign mark)
      by sign.Quoted e = refl
      by _ e = absurd cc

  reference_front : {a : List Symbol} {r : Referred} → SpellsReference S a r → (rest : List Symbol) → leaf_at S (a ++ rest) ≡ references_at S (a ++ rest)
  unfolding leaf_at
  reference_front (cell p is) rest = corner_front p rest
  reference_front (area {a = a} {b = b} s colon p q is) rest = subst (λ c. leaf_at S c ≡ references_at S c) (sym (append_assoc a (s ∷ b) rest)) (corner_front p (s ∷ (b ++ rest)))
  reference_front (inner_cell {a = a} s t left right p is) rest = ap (λ g. leaf_by S g s ((a ++ t ∷ []) ++ rest)) left
  reference_front (inner_area {a = a} {b = b} s t u left colon right p q is) rest = ap (λ g. leaf_by S g s ((a ++ t ∷ (b ++ u ∷ [])) ++ rest)) left

  union_front : {a : List Symbol} {rs : List Referred} → SpellsUnion S a rs → (rest : List Symbol) → leaf_at S (a ++ rest) ≡ references_at S (a ++ rest)
  union_front (one p) rest = reference_front p rest
  union_front (joined {a = a} {b = b} s tilde p q) rest = subst (λ c. leaf_at S c ≡ references_at S c) (sym (append_assoc a (s ∷ b) rest)) (union_front p (s ∷ (b ++ rest)))

  word_there : (s : Symbol) (rest : List Symbol) → s.sign ≡ sign.Word → 0 < ahead rest → leaf_at S (s ∷ rest) ≡ lone_word S s rest (logical_word (bytes_of S s)) (word_corner S (bytes_of S s))
  unfolding leaf_at
  word_there s rest is h =
      ap (λ g. leaf_by S g s rest) is
      ∙ ap (λ b. cond b (references_at S (s ∷ rest)) (lone_word S s rest (logical_word (bytes_of S s)) (word_corner S (bytes_of S s)))) (loose_ends rest h).no_mark

  array_read : {a : List Symbol} {r c : ℕ} {xs : List Tree} (s t : Symbol) → t.sign ≡ sign.CloseBrace → SpellsRows S a r c xs → (rest : List Symbol) → array_at S s ((a ++ t ∷ []) ++ rest) ≡ Some (Array (from_to s.span t.span) r c (trees xs), rest)
  array_read {a = a} {r = r} {c = c} {xs = xs} s t right p rest =
      ap (array_at S s) (append_assoc a (t ∷ []) rest)
      ∙ array_there s t (a ++ t ∷ rest) rest (r, c, xs)
      (rows_read p (t ∷ rest) (ap is_semicolon right) ∙ all_stop (rows_turn S) (r, c, xs) (t ∷ rest) (rows_stop (r, c, xs) (t ∷ rest) (ap is_bar right))) right

  -- what is spelled is read, where what follows does not go on with it
  leaf_read_in : {a : List Symbol} {x : Tree} → SpellsLeaf S a x → (rest : List Symbol) → 0 < ahead rest → leaf_at S (a ++ rest) ≡ Some (x, rest)
  unfolding leaf_at
  leaf_read_in (leaf.number s is h) rest k = ap (λ g. leaf_by S g s rest) is ∙ ap (option_and_then (λ n. Some (number_tree s.span n, rest))) (reading-complete (bytes_of S s) _ h)
  leaf_read_in (leaf.text s is) rest k = ap (λ g. leaf_by S g s rest) is
  leaf_read_in (leaf.error s is h) rest k = ap (λ g. leaf_by S g s rest) is ∙ ap (option_and_then (λ k. Some (Fault s.span k, rest))) h
  leaf_read_in (leaf.logical s is h) rest k = word_there s rest is k ∙ ap (λ l. lone_word S s rest l (word_corner S (bytes_of S s))) h
  leaf_read_in (leaf.name s is h j) rest k = word_there s rest is k ∙ ap (λ l. lone_word S s rest l (word_corner S (bytes_of S s))) h ∙ ap (lone_word S s rest None) (word_none S (bytes_of S s) j)
  leaf_read_in (leaf.array {a = a} s t left right p) rest k = ap (λ g. leaf_by S g s ((a ++ t ∷ []) ++ rest)) left ∙ array_read s t right p rest
  leaf_read_in (leaf.reference p) rest k = union_front p rest ∙ references_there p rest k

pub leaf_read : {S : Setting} {a : List Symbol} {x : Tree} → SpellsLeaf S a x → (rest : List Symbol) → 0 < ahead rest → leaf_at S (a ++ rest) ≡ Some (x, rest)
leaf_read {S = S} p rest h = leaf_read_in S p rest h
