-- An array between its braces.
use Rattle.std.proofs.Common.{◌≡◌, ℕ, zero, suc, ◌*◌, ◌<◌, ◌≤◌, Bool, true, false, cond, List, [], ◌∷◌, ◌++◌, length, Option, Some, None, refl, sym, ap, subst, ◌∙◌, arith}
use Rattle.std.specs.Prelude.{IfSome, is_none}
use Rattle.std.specs.Option.{option_map, option_and_then}
use Rattle.cell_refs.specs.declared.span.Span.{Span}
use Rattle.formula_ast.specs.Sound.{AreSoundWithin, IsRectangular, IsWithin, count as count_of}
use Rattle.formula_ast.specs.Tree.{Tree, Array, span_of, trees}
use Rattle.formula_ast.proofs.Parts.{count-trees}
use Rattle.formula_grammar.specs.declared.symbol.Sign.{Sign}
use Rattle.formula_grammar.specs.declared.symbol.Sign.TheVariants as sign
use Rattle.formula_grammar.specs.declared.symbol.Symbol.{Symbol}
use Rattle.formula_grammar.specs.Symbols.{Setting, from_to}
use Rattle.formula_grammar.specs.Arrays.{SpellsRow, SpellsRows, first_row, next_row}
use Rattle.formula_grammar.specs.Loops.{Found, all_turns}
use Rattle.formula_grammar.specs.LeafReading.{RowsRead, array_at, is_bar, is_close_brace, one_at, row_at, rows_turn}
use Rattle.formula_grammar.proofs.Turns.{KeepsTurn, Sound, loop_sound}
use Rattle.formula_grammar.proofs.LeafSound.{row_sound, row_went}
use Rattle.formula_parser.specs.declared.stop.Stop.{Stop}
use Rattle.formula_parser.specs.declared.branch.Branch.{Branch}
use Rattle.formula_parser.specs.declared.branch.Faults.{Faults}
use Rattle.formula_parser.specs.declared.branch.Part.{Part}
use Rattle.formula_parser.specs.Built.{branch, branch_of, is_whole}
use Rattle.formula_parser.specs.Given.{Fails, next_where}
use Rattle.formula_parser.specs.Leaves.{all_items, leaf_found, rows_at, rows_found}
use Rattle.formula_parser.specs.Placed.{AreSymbols, InOrder, IsInFront, IsInText}
use Rattle.formula_parser.proofs.Items.{AreConstants, AreFrom, AreWithin, array_branch, items_are, items_wider, kept_are_items, kept_are_sound, rows_stand}
use Rattle.formula_parser.proofs.Order.{first_behind, first_is, sign_first}
use Rattle.formula_parser.proofs.Steps.{fails_first}
use Rattle.formula_parser.proofs.Turning.{fails_rows, leaf_found_fails, rows_mapped}

-- a bar is one
bar_is : (g : Sign) → is_bar g ≡ true → g ≡ sign.Bar
bar_is sign.Bar e = refl
bar_is _ e = absurd cc

-- a factor is at most the product
factor_left : (n r c : ℕ) → 0 < c → n ≡ r * c → r ≤ n
factor_left n r zero some e = absurd (omega arith)
factor_left n r (suc k) some e = grind arith

-- so is the other one
factor_right : (n r c : ℕ) → 0 < r → n ≡ r * c → c ≤ n
factor_right n zero c some e = absurd (omega arith)
factor_right n (suc k) c some e = grind arith

-- a part with this branch in this place
part_is : (p : Part) (b : Branch) (at : Span) → p.branch ≡ b → p.place ≡ at → p ≡ record { branch = b; place = at }
part_is p b at e d =
    ap (λ (c : Branch). let x : Part = record { branch = c; place = p.place } in x) e
    ∙ ap (λ (q : Span). let x : Part = record { branch = b; place = q } in x) d

-- the tree of an array stands in its place
array_between : (at : Span) (rows columns : ℕ) (o : Option (List Tree)) (b : Bool) → IfSome (cond b (option_map (λ ts. Array at rows columns (trees ts)) o) None) (λ t. IsWithin (span_of t) at)
array_between at rows columns o false = tt
array_between at rows columns None true = tt
array_between at rows columns (Some ts) true = record { start = omega arith; end = omega arith }

-- what a symbol at the front is
front_is : (test : Sign → Bool) (ss : List Symbol) → next_where test ss ≡ one_at test ss
unfolding one_at
front_is test [] = refl
front_is test (s ∷ ss) = refl

-- the array up to a closing brace
abbrev closed : Symbol → ℕ → ℕ → List Tree → Found Symbol → Found Tree
closed s rows columns xs found = option_and_then (λ (t : Symbol × List Symbol). Some (Array (from_to s.span t.0.span) rows columns (trees xs), t.1)) found

-- an array of these rows, if a brace closes it
abbrev with_brace : Symbol → RowsRead × List Symbol → Found Tree
with_brace s rows = closed s rows.0.0 rows.0.1 rows.0.2 (one_at is_close_brace rows.1)

module _ (S : Setting) where
  -- rows are spelled
  abbrev Spelled : List Symbol → RowsRead → Type 0
  Spelled a rows = SpellsRows S a rows.0 rows.1 rows.2

  -- a turn reads a row more
  rows_keep : KeepsTurn Spelled (rows_turn S)
  rows_keep a rows [] y rest p e = absurd cc
  rows_keep a rows (s ∷ ss) y rest p e =
      let g = row_went S (is_bar s.sign) rows (row_at S ss) y rest e in
      let r = row_sound S ss (g.1, rest) g.2 in
      record { used = s ∷ r.used; parts = ap (λ b. s ∷ b) r.parts; spells = subst (Spelled (a ++ s ∷ r.used)) g.4 (next_row s (bar_is s.sign g.0) p r.spells g.3) }

  -- rows that are read are spelled so
  rows_sound : Sound Spelled (rows_at S)
  rows_sound = loop_sound (SpellsRow S) Spelled (row_at S) (λ xs. (1, length xs, xs)) (rows_turn S) (row_sound S) (λ a xs p. first_row p) rows_keep

  -- an array is rows and a closing brace
  array_is : (s : Symbol) (ss : List Symbol) → array_at S s ss
      ≡ option_and_then (with_brace s) (rows_at S ss)
  unfolding array_at
  array_is s ss = moved (row_at S ss)
    where
      moved : (o : Found (List Tree))
          → option_and_then (λ (x : List Tree × List Symbol). option_and_then (with_brace s) (all_turns (rows_turn S) (1, length x.0, x.0) x.1)) o
          ≡ option_and_then (with_brace s) (option_and_then (λ (x : List Tree × List Symbol). all_turns (rows_turn S) (1, length x.0, x.0) x.1) o)
      moved None = refl
      moved (Some x) = refl

  -- the rows fail
  pub array_fails : (e : Stop) (s : Symbol) (ss : List Symbol) → Fails e (rows_found (rows_at S ss)) → Fails e (leaf_found (array_at S s ss))
  array_fails e s ss h =
      leaf_found_fails e (array_at S s ss)
      (subst (Fails e) (sym (array_is s ss))
      (fails_first e (rows_at S ss) (with_brace s)
      (fails_rows e (rows_at S ss) h)))

  module _ (s : Symbol) (ss : List Symbol) (count columns : ℕ) (exprs : Option (List Tree)) (rest : List Symbol) (e : rows_found (rows_at S ss) ≡ Some ((count, columns, exprs), rest)) where
    -- the items that were read
    pub record ArrayRead : Type 0 where
      pub items : List Tree
      pub read : rows_at S ss ≡ Some ((count, columns, items), rest)
      pub exprs_are : exprs ≡ all_items items

    -- what was read
    array_read : ArrayRead
    array_read =
        let m = rows_mapped (rows_at S ss) ((count, columns, exprs), rest) e in record {
          items = m.0.0.2;
          read = m.1 ∙ ap (λ (p : (ℕ × ℕ × Option (List Tree)) × List Symbol). Some ((p.0.0, p.0.1, m.0.0.2), p.1)) m.2;
          exprs_are = ap (λ (p : (ℕ × ℕ × Option (List Tree)) × List Symbol). p.0.2) (sym m.2);
        }

    -- no brace closes the array
    pub array_open : next_where is_close_brace rest ≡ None → leaf_found (array_at S s ss) ≡ None
    array_open none =
        let r = array_read in
        ap leaf_found
        (array_is s ss
        ∙ ap (option_and_then (with_brace s)) r.read
        ∙ ap (closed s count columns r.items) (sym (front_is is_close_brace rest) ∙ none))

    module _ (opens : IsInText S.text s) (are : AreSymbols S.text ss) (order : InOrder s.span.end ss) (last : Symbol) (after : List Symbol) (closes : next_where is_close_brace rest ≡ Some (last, after)) where
      -- the rows stand behind the opening brace and before the closing one
      pub record ArrayStands (xs : List Tree) : Type 0 where
        pub forward : s.span.start ≤ last.span.end
        pub few_rows : count ≤ last.span.end
        pub few_columns : columns ≤ last.span.end
        pub some_rows : 0 < count
        pub some_columns : 0 < columns
        pub size : count_of (trees xs) ≡ count * columns
        pub literals : AreConstants xs
        pub some : 0 < length xs
        pub within : AreWithin (from_to s.span last.span) xs
        pub behind : InOrder last.span.end after

      -- where the items stand
      array_stands : ArrayStands array_read.items
      array_stands =
          let xs = array_read.items in
          let r = rows_sound ss ((count, columns, xs), rest) array_read.read in
          let k = rows_stand S.text r.spells in
          let from : AreFrom S.text s.span.end (r.used ++ rest) = subst (AreFrom S.text s.span.end) r.parts (record { all = are.0; order = order }) in
          let stand = k.items.stand s.span.end rest from in
          let is = sign_first is_close_brace rest last after closes in
          let ends = subst (AreFrom S.text stand.last) is stand.ends in
          let before = first_behind last after rest stand.last is stand.ends.order in
          let a = before.0 in
          let b = opens.some in
          let c = (first_of S.text stand.last last after ends).some in
          let d = stand.order in
          let size = k.size in
          let high = factor_left (length xs) count columns k.some_columns size in
          let wide = factor_right (length xs) count columns k.some_rows size in record {
            forward = omega arith;
            few_rows = omega arith;
            few_columns = omega arith;
            some_rows = k.some_rows;
            some_columns = k.some_columns;
            size = count-trees xs ∙ size;
            literals = k.items.literals;
            some = k.items.some;
            within = items_wider (record { start = s.span.end; end = stand.last }) (from_to s.span last.span) xs (omega arith) (omega arith) stand.within;
            behind = before.1;
          }
        where
          first_of : (text : List ℕ) (from : ℕ) (t : Symbol) (ts : List Symbol) → AreFrom text from (t ∷ ts) → IsInText text t
          first_of text from t ts are = first_is text t ts (t ∷ ts) refl (are.all, (omega arith, are.order.1))

      -- the opening brace stands before the closing one
      pub array_forward : s.span.start ≤ last.span.end
      array_forward = array_stands.forward

      -- there are no more rows or columns than bytes
      pub array_few : (count ≤ last.span.end) × (columns ≤ last.span.end)
      array_few = (array_stands.few_rows, array_stands.few_columns)

      -- what holds of the items holds of the trees in memory
      kept_items : (P : List Tree → Type 0) {V : Type 0} (items : V → List Tree) (o : Option V) → option_map items o ≡ exprs → (is_none (all_items array_read.items) ≡ false → P array_read.items) → IfSome o (λ v. P (items v))
      kept_items P items None is h = tt
      kept_items P items (Some v) is h = let e = sym (is ∙ array_read.exprs_are) in subst P (items_are array_read.items (items v) e) (h (ap is_none e))

      -- the array is rectangular
      pub array_rectangular : {V : Type 0} (items : V → List Tree) (o : Option V) → option_map items o ≡ exprs → IfSome o (λ v. IsRectangular count columns (trees (items v)))
      array_rectangular items o is = kept_items (λ xs. IsRectangular count columns (trees xs)) items o is (λ kept. record {
        some_rows = array_stands.some_rows;
        some_columns = array_stands.some_columns;
        size = array_stands.size;
        literals = kept_are_items array_read.items kept array_stands.literals;
      })

      -- its items stand between the braces
      pub array_within : {V : Type 0} (items : V → List Tree) (o : Option V) → option_map items o ≡ exprs → IfSome o (λ v. AreSoundWithin (from_to s.span last.span) (trees (items v)))
      array_within items o is = kept_items (λ xs. AreSoundWithin (from_to s.span last.span) (trees xs)) items o is (λ kept. kept_are_sound (from_to s.span last.span) array_read.items kept array_stands.literals array_stands.within)

      -- the branch over the trees in memory
      over_items : {V : Type 0} (items : V → List Tree) (o : Option V)
          → branch (option_map (λ v. Array (from_to s.span last.span) count columns (trees (items v))) o) 2 (record { lost = false; miscounted = false; wide = is_none o })
          ≡ branch (option_map (λ ts. Array (from_to s.span last.span) count columns (trees ts)) (option_map items o)) 2 (record { lost = false; miscounted = false; wide = is_none (option_map items o) })
      over_items items None = refl
      over_items items (Some v) = refl

      -- an array is read
      pub array_gives : {V : Type 0} (items : V → List Tree) (o : Option V) → option_map items o ≡ exprs → (p : Part)
          → p.branch ≡ branch (option_map (λ v. Array (from_to s.span last.span) count columns (trees (items v))) o) 2 (record { lost = false; miscounted = false; wide = is_none o })
          → p.place ≡ from_to s.span last.span → leaf_found (array_at S s ss) ≡ Some (p, after)
      array_gives items o is p made place =
          let r = array_read in
          let at = from_to s.span last.span in
          let whole : p.branch ≡ branch_of (Array at count columns (trees r.items)) = made ∙ over_items items o ∙ array_branch at count columns r.items array_stands.literals array_stands.some (option_map items o) (is ∙ r.exprs_are) in
          ap leaf_found
          (array_is s ss
          ∙ ap (option_and_then (with_brace s)) r.read
          ∙ ap (closed s count columns r.items) (sym (front_is is_close_brace rest) ∙ closes))
          ∙ ap (λ (q : Part). Some (q, after)) (sym (part_is p (branch_of (Array at count columns (trees r.items))) at whole place))

      -- it stands in front of the rest
      pub array_front : {V : Type 0} (items : V → List Tree) (o : Option V) (p : Part)
          → p.branch ≡ branch (option_map (λ v. Array (from_to s.span last.span) count columns (trees (items v))) o) 2 (record { lost = false; miscounted = false; wide = is_none o })
          → p.place ≡ from_to s.span last.span → IsInFront (s ∷ ss) p after
      array_front items o p made place =
          let at = from_to s.span last.span in
          let f : Faults = record { lost = false; miscounted = false; wide = is_none (option_map items o) } in
          let same : p ≡ record { branch = branch (option_map (λ ts. Array at count columns (trees ts)) (option_map items o)) 2 f; place = at } = part_is p _ at (made ∙ over_items items o) place in
          subst (λ (q : Part). IsInFront (s ∷ ss) q after) (sym same) (record {
            placed = record { forward = array_stands.forward; within = array_between at count columns (option_map items o) (is_whole 2 f) };
            starts = λ from all. all.0;
            ends = λ from all. array_stands.behind;
          })
