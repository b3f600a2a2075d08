-- The loops that read arrays, over plain variables.
use Rattle.std.proofs.Common.{◌≡◌, ℕ, suc, ◌+◌, ◌≤◌, Bool, true, false, cond, List, [], ◌∷◌, ◌++◌, length, Option, Some, None, refl, sym, ap, subst, ◌∙◌, length-append, arith}
use Rattle.std.specs.Prelude.{nat_eq}
use Rattle.std.specs.Option.{option_map, option_and_then}
use Rattle.formula_ast.specs.Tree.{Tree, trees}
use Rattle.formula_grammar.specs.declared.symbol.Sign.{Sign}
use Rattle.formula_grammar.specs.declared.symbol.Symbol.{Symbol}
use Rattle.formula_grammar.specs.Symbols.{Setting}
use Rattle.formula_grammar.specs.Arrays as arrays
use Rattle.formula_grammar.specs.Loops.{Found, Turn, Stop as Stopped, Fail as Failed, Go, go_on, all_turns}
use Rattle.formula_grammar.specs.LeafReading.{RowsRead, is_bar, is_semicolon, item_at, row_at, row_turn, rows_turn, with_row}
use Rattle.formula_grammar.proofs.Turns.{some_is, all_stop, all_fail, all_go, Takes}
use Rattle.formula_grammar.proofs.LeafSound.{goes, item_sound, row_sound, row_went}
use Rattle.formula_parser.specs.declared.stop.Stop.{Stop}
use Rattle.formula_parser.specs.declared.stop.Stop.TheVariants as stops
use Rattle.formula_parser.specs.declared.branch.Part.{Part}
use Rattle.formula_parser.specs.Given.{Fails}
use Rattle.formula_parser.specs.Leaves.{all_items, behind_where, item_found, item_of, items_of, leaf_found, leaf_part, row_behind, row_found, rows_at, rows_found, rows_of, with_item, with_items}
use Rattle.formula_parser.proofs.Items.{item_more, items_more, row_stands}
use Rattle.formula_parser.proofs.Steps.{fails_first}

-- what is kept of what is read
mapped : {A B : Type 0} (f : A → B) (o : Option A) (y : B) → option_map f o ≡ Some y → (x : A) × (o ≡ Some x) × (f x ≡ y)
mapped f None y e = absurd cc
mapped f (Some x) y e = (x, refl, cc)

-- where nothing is kept nothing is read
fails_mapped : {A B : Type 0} (f : A → B) (e : Stop) (o : Option A) → Fails e (option_map f o) → Fails e o
fails_mapped f stops.Memory o h = tt
fails_mapped f stops.Syntax None h = refl
fails_mapped f stops.Syntax (Some x) h = absurd cc

-- where nothing is read nothing is kept
mapped_fails : {A B : Type 0} (f : A → B) (e : Stop) (o : Option A) → Fails e o → Fails e (option_map f o)
mapped_fails f stops.Memory o h = tt
mapped_fails f stops.Syntax o h = ap (option_map f) h

-- what is kept of an item
abbrev keep_item : Tree × List Symbol → Option Tree × List Symbol
keep_item f = (item_of f.0, f.1)

-- what is kept of a row
abbrev keep_row : List Tree × List Symbol → (ℕ × Option (List Tree)) × List Symbol
keep_row f = (items_of f.0, f.1)

-- what is kept of rows
abbrev keep_rows : RowsRead × List Symbol → (ℕ × ℕ × Option (List Tree)) × List Symbol
keep_rows f = (rows_of f.0, f.1)

-- what is kept of a leaf
abbrev keep_leaf : Tree × List Symbol → Part × List Symbol
keep_leaf f = (leaf_part f.0, f.1)

-- the item that was read
item_mapped : (o : Found Tree) (y : Option Tree × List Symbol) → item_found o ≡ Some y → (x : Tree × List Symbol) × (o ≡ Some x) × (keep_item x ≡ y)
item_mapped o y e = mapped keep_item o y e

-- the row that was read
row_mapped : (o : Found (List Tree)) (y : (ℕ × Option (List Tree)) × List Symbol) → row_found o ≡ Some y → (x : List Tree × List Symbol) × (o ≡ Some x) × (keep_row x ≡ y)
row_mapped o y e = mapped keep_row o y e

-- the rows that were read
pub rows_mapped : (o : Found RowsRead) (y : (ℕ × ℕ × Option (List Tree)) × List Symbol) → rows_found o ≡ Some y → (x : RowsRead × List Symbol) × (o ≡ Some x) × (◌≡◌ {A = (ℕ × ℕ × Option (List Tree)) × List Symbol} (rows_of x.0, x.1) y)
rows_mapped o y e = mapped keep_rows o y e

-- no item is read
fails_item : (e : Stop) (o : Found Tree) → Fails e (item_found o) → Fails e o
fails_item e o h = fails_mapped keep_item e o h

-- no row is read
fails_row : (e : Stop) (o : Found (List Tree)) → Fails e (row_found o) → Fails e o
fails_row e o h = fails_mapped keep_row e o h

-- no rows are read
pub fails_rows : (e : Stop) (o : Found RowsRead) → Fails e (rows_found o) → Fails e o
fails_rows e o h = fails_mapped keep_rows e o h

-- no row is kept
row_found_fails : (e : Stop) (o : Found (List Tree)) → Fails e o → Fails e (row_found o)
row_found_fails e o h = mapped_fails keep_row e o h

-- no leaf is kept
pub leaf_found_fails : (e : Stop) (o : Found Tree) → Fails e o → Fails e (leaf_found o)
leaf_found_fails e o h = mapped_fails keep_leaf e o h

-- the mark in front
pub mark_first : (test : Sign → Bool) (ss after : List Symbol) → behind_where test ss ≡ Some after → (s : Symbol) × (ss ≡ s ∷ after) × (test s.sign ≡ true)
mark_first test [] after e = absurd cc
mark_first test (s ∷ ss) after e = by_case (test s.sign) refl e
  where
    by_case : (b : Bool) → test s.sign ≡ b → cond {A = Option (List Symbol)} b (Some ss) None ≡ Some after → (t : Symbol) × (s ∷ ss ≡ t ∷ after) × (test t.sign ≡ true)
    by_case true is e = (s, ap (λ r. s ∷ r) (some_is ss after e), is)
    by_case false is e = absurd cc

-- ---- rows

module _ (S : Setting) where
  -- the items of a row so far, and the symbols behind them
  pub record RowSoFar (ss : List Symbol) (count : ℕ) (exprs : Option (List Tree)) (rest : List Symbol) : Type 0 where
    pub items : List Tree
    pub so_far : all_turns (row_turn S) items rest ≡ row_at S ss
    pub count_is : count ≡ length items
    pub exprs_are : exprs ≡ all_items items
    pub room : count + length rest ≤ length ss

  -- an item takes a symbol
  item_less : (ss : List Symbol) (x : Tree) (rest : List Symbol) → item_at S ss ≡ Some (x, rest) → suc (length rest) ≤ length ss
  item_less ss x rest h =
      let r = item_sound S ss (x, rest) h in
      let few = (row_stands [] {S = S} (arrays.first r.spells)).few in
      omega (arith, ap length r.parts, length-append r.used rest)

  -- the first item fails
  pub row_fails_first : (e : Stop) (ss : List Symbol) → Fails e (item_found (item_at S ss)) → Fails e (row_found (row_at S ss))
  unfolding row_at
  row_fails_first e ss h =
      row_found_fails e (row_at S ss)
      (fails_first e (item_at S ss) (λ x. all_turns (row_turn S) (x.0 ∷ []) x.1) (fails_item e (item_at S ss) h))

  -- the row begins with an item
  pub row_begins : (ss : List Symbol) (o : Option Tree) (count : ℕ) (exprs : Option (List Tree)) (rest : List Symbol) → item_found (item_at S ss) ≡ Some (o, rest) → count ≡ 1 → exprs ≡ with_item (Some []) o → RowSoFar ss count exprs rest
  unfolding row_at
  row_begins ss o count exprs rest e one is =
      let m = item_mapped (item_at S ss) (o, rest) e in
      let tree : item_of m.0.0 ≡ o = ap (λ (p : Option Tree × List Symbol). p.0) m.2 in
      let left : m.0.1 ≡ rest = ap (λ (p : Option Tree × List Symbol). p.1) m.2 in
      let read : item_at S ss ≡ Some (m.0.0, rest) = m.1 ∙ ap (λ r. Some (m.0.0, r)) left in
      let less = item_less ss m.0.0 rest read in record {
        items = m.0.0 ∷ [];
        so_far = sym (ap (option_and_then (λ (x : Tree × List Symbol). all_turns (row_turn S) (x.0 ∷ []) x.1)) read);
        count_is = one;
        exprs_are = is ∙ ap (with_item (Some [])) (sym tree) ∙ sym (item_more [] m.0.0);
        room = omega arith;
      }

  -- a turn leaves fewer symbols
  row_takes : Takes (row_turn S)
  row_takes xs [] y rest e = absurd cc
  row_takes xs (s ∷ ss) y rest e =
      let g = goes S (is_semicolon s.sign) (λ x. xs ++ x ∷ []) (item_at S ss) y rest e in
      let less = item_less ss g.1 rest g.2 in
      omega arith

  -- a semicolon follows
  row_some : (xs : List Tree) (ss after : List Symbol) → behind_where is_semicolon ss ≡ Some after → row_turn S xs ss ≡ go_on (λ x. xs ++ x ∷ []) (item_at S after)
  row_some xs ss after e =
      let f = mark_first is_semicolon ss after e in
      ap (row_turn S xs) f.1 ∙ ap (λ b. cond b (go_on (λ x. xs ++ x ∷ []) (item_at S after)) Stopped) f.2

  -- no semicolon follows
  row_none : (xs : List Tree) (ss : List Symbol) → behind_where is_semicolon ss ≡ None → row_turn S xs ss ≡ Stopped
  row_none xs [] e = refl
  row_none xs (s ∷ ss) e = by_case (is_semicolon s.sign) e
    where
      by_case : (b : Bool) → cond {A = Option (List Symbol)} b (Some ss) None ≡ None → cond b (go_on (λ x. xs ++ x ∷ []) (item_at S ss)) Stopped ≡ Stopped
      by_case true e = absurd cc
      by_case false e = refl

  module _ (ss : List Symbol) (count : ℕ) (exprs : Option (List Tree)) (rest after : List Symbol) (far : RowSoFar ss count exprs rest) (next : behind_where is_semicolon rest ≡ Some after) where
    -- another item fails
    pub row_fails : (e : Stop) → Fails e (item_found (item_at S after)) → Fails e (row_found (row_at S ss))
    row_fails stops.Memory h = tt
    row_fails stops.Syntax h =
        let none = fails_item stops.Syntax (item_at S after) h in
        ap row_found (sym far.so_far ∙ all_fail (row_turn S) far.items rest (row_some far.items rest after next ∙ ap (go_on (λ x. far.items ++ x ∷ [])) none))

    -- an item takes a symbol behind the semicolon
    pub row_less : (o : Option Tree) (others : List Symbol) → item_found (item_at S after) ≡ Some (o, others) → suc (suc (length others)) ≤ length rest
    row_less o others e =
        let m = item_mapped (item_at S after) (o, others) e in
        let left : m.0.1 ≡ others = ap (λ (p : Option Tree × List Symbol). p.1) m.2 in
        let less = item_less after m.0.0 m.0.1 m.1 in
        let f = mark_first is_semicolon rest after next in
        omega (arith, ap length f.1, ap length left)

    -- the row goes on with one item more
    pub row_goes : (o : Option Tree) (others : List Symbol) (more : ℕ) (trees : Option (List Tree)) → item_found (item_at S after) ≡ Some (o, others) → more ≡ count + 1 → trees ≡ with_item exprs o → RowSoFar ss more trees others
    row_goes o others more trees e one is =
        let m = item_mapped (item_at S after) (o, others) e in
        let tree : item_of m.0.0 ≡ o = ap (λ (p : Option Tree × List Symbol). p.0) m.2 in
        let left : m.0.1 ≡ others = ap (λ (p : Option Tree × List Symbol). p.1) m.2 in
        let read : item_at S after ≡ Some (m.0.0, others) = m.1 ∙ ap (λ r. Some (m.0.0, r)) left in
        let less = row_less o others e in
        let room = far.room in
        let is_count = far.count_is in record {
          items = far.items ++ m.0.0 ∷ [];
          so_far =
              sym (all_go (row_turn S) row_takes far.items rest (far.items ++ m.0.0 ∷ []) others (row_some far.items rest after next ∙ ap (go_on (λ x. far.items ++ x ∷ [])) read)) ∙ far.so_far;
          count_is = omega (arith, length-append far.items (m.0.0 ∷ []));
          exprs_are = is ∙ ap (λ p. with_item p o) far.exprs_are ∙ ap (with_item (all_items far.items)) (sym tree) ∙ sym (item_more far.items m.0.0);
          room = omega arith;
        }

  -- no semicolon is left
  pub row_done : (ss : List Symbol) (count : ℕ) (exprs : Option (List Tree)) (rest : List Symbol) → RowSoFar ss count exprs rest → behind_where is_semicolon rest ≡ None → row_found (row_at S ss) ≡ Some ((count, exprs), rest)
  row_done ss count exprs rest far none =
      ap row_found (sym far.so_far ∙ all_stop (row_turn S) far.items rest (row_none far.items rest none))
      ∙ ap (λ n. Some ((n, all_items far.items), rest)) (sym far.count_is)
      ∙ ap (λ p. Some ((count, p), rest)) (sym far.exprs_are)

  -- ---- rows of one length

  -- the rows so far, and the symbols behind them
  pub record RowsSoFar (ss : List Symbol) (count columns : ℕ) (exprs : Option (List Tree)) (rest : List Symbol) : Type 0 where
    pub items : List Tree
    pub so_far : all_turns (rows_turn S) (count, columns, items) rest ≡ rows_at S ss
    pub exprs_are : exprs ≡ all_items items
    pub room : count + length rest ≤ length ss

  -- a row takes a symbol
  row_takes_one : (ss : List Symbol) (xs : List Tree) (rest : List Symbol) → row_at S ss ≡ Some (xs, rest) → suc (length rest) ≤ length ss
  row_takes_one ss xs rest h =
      let r = row_sound S ss (xs, rest) h in
      let k = row_stands [] r.spells in
      let few = k.few in
      let some = k.some in
      omega (arith, ap length r.parts, length-append r.used rest)

  -- the row that was read
  record RowRead (ss : List Symbol) (count : ℕ) (exprs : Option (List Tree)) (rest : List Symbol) : Type 0 where
    pub items : List Tree
    pub read : row_at S ss ≡ Some (items, rest)
    pub count_is : count ≡ length items
    pub exprs_are : exprs ≡ all_items items

  -- a row is read as it is given
  row_given : (ss : List Symbol) (count : ℕ) (exprs : Option (List Tree)) (rest : List Symbol) → row_found (row_at S ss) ≡ Some ((count, exprs), rest) → RowRead ss count exprs rest
  row_given ss count exprs rest e =
      let m = row_mapped (row_at S ss) ((count, exprs), rest) e in record {
        items = m.0.0;
        read = m.1 ∙ ap (λ (p : (ℕ × Option (List Tree)) × List Symbol). Some (m.0.0, p.1)) m.2;
        count_is = ap (λ (p : (ℕ × Option (List Tree)) × List Symbol). p.0.0) (sym m.2);
        exprs_are = ap (λ (p : (ℕ × Option (List Tree)) × List Symbol). p.0.1) (sym m.2);
      }

  -- the rows begin with a row
  pub rows_begin : (ss : List Symbol) (columns : ℕ) (exprs : Option (List Tree)) (rest : List Symbol) → row_found (row_at S ss) ≡ Some ((columns, exprs), rest) → RowsSoFar ss 1 columns exprs rest
  rows_begin ss columns exprs rest e =
      let r = row_given ss columns exprs rest e in
      let less = row_takes_one ss r.items rest r.read in record {
        items = r.items;
        so_far =
            ap (λ n. all_turns (rows_turn S) (1, n, r.items) rest) r.count_is
            ∙ sym (ap (option_and_then (λ (x : List Tree × List Symbol). all_turns (rows_turn S) (1, length x.0, x.0) x.1)) r.read);
        exprs_are = r.exprs_are;
        room = omega arith;
      }

  -- a turn leaves fewer symbols
  rows_take : Takes (rows_turn S)
  rows_take rows [] y rest e = absurd cc
  rows_take rows (s ∷ ss) y rest e =
      let g = row_went S (is_bar s.sign) rows (row_at S ss) y rest e in
      let less = row_takes_one ss g.1 rest g.2 in
      omega arith

  -- a bar follows
  rows_some : (rows : RowsRead) (ss after : List Symbol) → behind_where is_bar ss ≡ Some after → rows_turn S rows ss ≡ with_row rows (row_at S after)
  rows_some rows ss after e =
      let f = mark_first is_bar ss after e in
      ap (rows_turn S rows) f.1 ∙ ap (λ b. cond b (with_row rows (row_at S after)) Stopped) f.2

  -- no bar follows
  rows_none : (rows : RowsRead) (ss : List Symbol) → behind_where is_bar ss ≡ None → rows_turn S rows ss ≡ Stopped
  rows_none rows [] e = refl
  rows_none rows (s ∷ ss) e = by_case (is_bar s.sign) e
    where
      by_case : (b : Bool) → cond {A = Option (List Symbol)} b (Some ss) None ≡ None → cond b (with_row rows (row_at S ss)) Stopped ≡ Stopped
      by_case true e = absurd cc
      by_case false e = refl

  module _ (ss : List Symbol) (count columns : ℕ) (exprs : Option (List Tree)) (rest after : List Symbol) (far : RowsSoFar ss count columns exprs rest) (next : behind_where is_bar rest ≡ Some after) where
    -- another row fails
    pub rows_fails : (e : Stop) → Fails e (row_found (row_at S after)) → Fails e (rows_found (rows_at S ss))
    rows_fails stops.Memory h = tt
    rows_fails stops.Syntax h =
        let none = fails_row stops.Syntax (row_at S after) h in
        ap rows_found
        (sym far.so_far ∙ all_fail (rows_turn S) (count, columns, far.items) rest (rows_some (count, columns, far.items) rest after next ∙ ap (with_row (count, columns, far.items)) none))

    module _ (many : ℕ) (row : Option (List Tree)) (others : List Symbol) (e : row_found (row_at S after) ≡ Some ((many, row), others)) where
      -- the turn with this row
      rows_turn_is : (items : List Tree) → row_at S after ≡ Some (items, others) → rows_turn S (count, columns, far.items) rest
          ≡ cond {A = Turn RowsRead} (nat_eq (length items) columns) (Go (suc count, columns, far.items ++ items) others) Failed
      rows_turn_is items read = rows_some (count, columns, far.items) rest after next ∙ ap (with_row (count, columns, far.items)) read

      -- a row takes a symbol behind the bar
      pub rows_less : suc (suc (length others)) ≤ length rest
      rows_less =
          let r = row_given after many row others e in
          let less = row_takes_one after r.items others r.read in
          let f = mark_first is_bar rest after next in
          omega (arith, ap length f.1)

      -- a row of another length
      pub rows_differ : (e : Stop) → Fails e (row_behind (count, columns, exprs) (many, row)) → Fails e (rows_found (rows_at S ss))
      rows_differ stops.Memory h = tt
      rows_differ stops.Syntax h =
          let r = row_given after many row others e in
          by_case (nat_eq many columns) refl h
        where
          by_case : (b : Bool) → nat_eq many columns ≡ b → cond {A = Option (ℕ × ℕ × Option (List Tree))} b (Some (suc count, columns, with_items exprs row)) None ≡ None → rows_found (rows_at S ss) ≡ None
          by_case true is h = absurd cc
          by_case false is h =
              let r = row_given after many row others e in
              ap rows_found
              (sym far.so_far ∙ all_fail (rows_turn S) (count, columns, far.items) rest (
              rows_turn_is r.items r.read
              ∙ ap (λ b. cond {A = Turn RowsRead} b (Go (suc count, columns, far.items ++ r.items) others) Failed) (ap (λ n. nat_eq n columns) (sym r.count_is) ∙ is)
              ))

      -- the rows go on with one row more
      pub rows_go : (now wide : ℕ) (trees : Option (List Tree)) → row_behind (count, columns, exprs) (many, row) ≡ Some (now, wide, trees) → RowsSoFar ss now wide trees others
      rows_go now wide trees h = by_case (nat_eq many columns) refl h
        where
          by_case : (b : Bool) → nat_eq many columns ≡ b → cond {A = Option (ℕ × ℕ × Option (List Tree))} b (Some (suc count, columns, with_items exprs row)) None ≡ Some (now, wide, trees) → RowsSoFar ss now wide trees others
          by_case false is h = absurd cc
          by_case true is h =
              let r = row_given after many row others e in
              let same : ◌≡◌ {A = ℕ × ℕ × Option (List Tree)} (suc count, columns, with_items exprs row) (now, wide, trees) = some_is _ _ h in
              let turn : rows_turn S (count, columns, far.items) rest ≡ Go (suc count, columns, far.items ++ r.items) others =
              rows_turn_is r.items r.read ∙ ap (λ b. cond {A = Turn RowsRead} b (Go (suc count, columns, far.items ++ r.items) others) Failed) (ap (λ n. nat_eq n columns) (sym r.count_is) ∙ is) in
              let less = rows_less in
              let room = far.room in
              subst (λ (p : ℕ × ℕ × Option (List Tree)). RowsSoFar ss p.0 p.1 p.2 others) same (record {
                items = far.items ++ r.items;
                so_far = sym (all_go (rows_turn S) rows_take (count, columns, far.items) rest (suc count, columns, far.items ++ r.items) others turn) ∙ far.so_far;
                exprs_are = ap (λ p. with_items p row) far.exprs_are ∙ ap (with_items (all_items far.items)) r.exprs_are ∙ sym (items_more far.items r.items);
                room = omega arith;
              })

  -- no bar is left
  pub rows_done : (ss : List Symbol) (count columns : ℕ) (exprs : Option (List Tree)) (rest : List Symbol) → RowsSoFar ss count columns exprs rest → behind_where is_bar rest ≡ None
      → rows_found (rows_at S ss) ≡ Some ((count, columns, exprs), rest)
  rows_done ss count columns exprs rest far none =
      ap rows_found (sym far.so_far ∙ all_stop (rows_turn S) (count, columns, far.items) rest (rows_none (count, columns, far.items) rest none))
      ∙ ap (λ p. Some ((count, columns, p), rest)) (sym far.exprs_are)
