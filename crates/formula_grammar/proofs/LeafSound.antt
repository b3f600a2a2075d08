-- Leaves: what is read is spelled so.
use Rattle.std.proofs.Common.{◌≡◌, ◌⊎◌, ℕ, suc, ◌-◌, Bool, true, false, cond, List, [], ◌∷◌, ◌++◌, length, take, Option, Some, None, refl, sym, ap, subst, ◌∙◌, inl, inr, append_assoc, length-append, arith}
use Rattle.std.specs.Prelude.{nat_eq}
use Rattle.std.specs.Option.{option_and_then}
use Rattle.std.proofs.Math.Seq.{take-append_seam}
use Rattle.std.proofs.lemmas.Bool.{eqb-true}
use Rattle.cell_refs.specs.Address.{address_in}
use Rattle.frac128.specs.NumeralReading.{reading}
use Rattle.frac128.proofs.Spelling.{reading-sound}
use Rattle.formula_grammar.proofs.WordCorners.{no_word, split_spelled, word_spelled}
use Rattle.formula_ast.specs.Tree.{Tree, Text, Logical, Fault, Array, Reference, Name, Referred, trees}
use Rattle.formula_grammar.specs.declared.symbol.Sign.{Sign}
use Rattle.formula_grammar.specs.declared.symbol.Sign.TheVariants as sign
use Rattle.formula_grammar.specs.declared.symbol.Symbol.{Symbol}
use Rattle.formula_grammar.specs.Symbols.{Setting, bytes_of, from_to, place_of}
use Rattle.formula_grammar.specs.Words.{Given, Own, Named, Corner, corner_on, sheet_of, number_tree, negative_tree, quoted_text, error_in, logical_word}
use Rattle.formula_grammar.specs.WordReading.{split_corner, word_corner}
use Rattle.formula_grammar.specs.References.{SpellsCorner, word, on_sheet, SpellsInner, own, after_sheet, joined_word, SpellsReference, cell, area, inner_cell, inner_area, SpellsUnion, one, joined, area_between}
use Rattle.formula_grammar.specs.Arrays.{SpellsItem, number, positive, negative, text, logical, SpellsRow, first, next, SpellsRows, first_row, next_row}
use Rattle.formula_grammar.specs.Leaves.{SpellsLeaf}
use Rattle.formula_grammar.specs.Leaves as leaf
use Rattle.formula_grammar.specs.Loops.{Found, Reader, Turn, Stop, Fail, Go, go_on, all_turns}
use Rattle.formula_grammar.specs.LeafReading.{is_word, is_colon, is_point, is_sheet_mark, is_tilde, is_semicolon, is_bar, is_close_square, is_close_brace, is_number, one_at, starts_with, address_at, behind_sheet_at, corner_by, corner_at, inner_by, inner_at, second_at, brackets_at, plain_at, reference_by, reference_at, union_turn, union_at, signed_by, signed_number_at, item_by, item_at, row_turn, row_at, RowsRead, with_row, rows_turn, array_at, references_at, lone_word, word_leaf, leaf_by, leaf_at}
use Rattle.formula_grammar.proofs.Turns.{bind_some, some_is, Reads, Sound, KeepsTurn, loop_sound}

-- ---- single symbols

guarded : {A : Type 0} (b : Bool) (x y : A) → cond b (Some x) None ≡ Some y → (b ≡ true) × (x ≡ y)
guarded true x y e = (refl, cc)
guarded false x y e = absurd cc

-- a symbol was taken
record Taken (test : Sign → Bool) (ss : List Symbol) (found : Symbol × List Symbol) : Type 0 where
  pub parts : ss ≡ found.0 ∷ found.1
  pub passes : test found.0.sign ≡ true

taken : (test : Sign → Bool) (ss : List Symbol) (found : Symbol × List Symbol) → one_at test ss ≡ Some found → Taken test ss found
unfolding one_at
taken test [] found e = absurd cc
taken test (s ∷ ss) found e =
    let g = guarded (test s.sign) (s, ss) found e in
    record { parts = ap (λ (f : Symbol × List Symbol). f.0 ∷ f.1) g.1; passes = subst (λ (f : Symbol × List Symbol). test f.0.sign ≡ true) g.1 g.0 }

word_is : (g : Sign) → is_word g ≡ true → g ≡ sign.Word
word_is sign.Word e = refl
word_is _ e = absurd cc

colon_is : (g : Sign) → is_colon g ≡ true → g ≡ sign.Colon
colon_is sign.Colon e = refl
colon_is _ e = absurd cc

point_is : (g : Sign) → is_point g ≡ true → g ≡ sign.Point
point_is sign.Point e = refl
point_is _ e = absurd cc

mark_is : (g : Sign) → is_sheet_mark g ≡ true → (g ≡ sign.Exclamation) ⊎ (g ≡ sign.Point)
mark_is sign.Exclamation e = inl refl
mark_is sign.Point e = inr refl
mark_is _ e = absurd cc

tilde_is : (g : Sign) → is_tilde g ≡ true → g ≡ sign.Tilde
tilde_is sign.Tilde e = refl
tilde_is _ e = absurd cc

semicolon_is : (g : Sign) → is_semicolon g ≡ true → g ≡ sign.Semicolon
semicolon_is sign.Semicolon e = refl
semicolon_is _ e = absurd cc

bar_is : (g : Sign) → is_bar g ≡ true → g ≡ sign.Bar
bar_is sign.Bar e = refl
bar_is _ e = absurd cc

close_square_is : (g : Sign) → is_close_square g ≡ true → g ≡ sign.CloseSquare
close_square_is sign.CloseSquare e = refl
close_square_is _ e = absurd cc

close_brace_is : (g : Sign) → is_close_brace g ≡ true → g ≡ sign.CloseBrace
close_brace_is sign.CloseBrace e = refl
close_brace_is _ e = absurd cc

number_is : (g : Sign) → is_number g ≡ true → g ≡ sign.Number
number_is sign.Number e = refl
number_is _ e = absurd cc

-- one symbol alone
alone : {A : Type 0} (P : List Symbol → A → Type 0) (s : Symbol) (ss : List Symbol) (x : A) (found : A × List Symbol) → P (s ∷ []) x → Some (x, ss) ≡ Some found → Reads P (s ∷ ss) found
alone P s ss x found p e = subst (Reads P (s ∷ ss)) (some_is (x, ss) found e) (record { used = s ∷ []; parts = refl; spells = p })

-- ---- corners

module _ (S : Setting) where
  -- an address was read behind a sheet
  record AddressRead (sheet : Given) (ss : List Symbol) (found : Corner × List Symbol) : Type 0 where
    pub symbol : Symbol
    pub parts : ss ≡ symbol ∷ found.1
    pub word : symbol.sign ≡ sign.Word
    pub corner : corner_on sheet (address_in (bytes_of S symbol)) ≡ Some found.0

  address_read : (sheet : Given) (ss : List Symbol) (found : Corner × List Symbol) → address_at S sheet ss ≡ Some found → AddressRead sheet ss found
  unfolding address_at
  address_read sheet ss found e =
      let u = bind_some (one_at is_word ss) (λ u. option_and_then (λ (c : Corner). Some (c, u.1)) (corner_on sheet (address_in (bytes_of S u.0)))) found e in
      let t = taken is_word ss u.0 u.1 in
      let c = bind_some (corner_on sheet (address_in (bytes_of S u.0.0))) (λ c. Some (c, u.0.1)) found u.2 in
      let same : (c.0, u.0.1) ≡ found = some_is (c.0, u.0.1) found c.2 in
      subst (AddressRead sheet ss) same (record { symbol = u.0.0; parts = t.parts; word = word_is u.0.0.sign t.passes; corner = c.1 })

  -- a sheet's mark and an address were read
  record SheetRead (mark : Sign → Bool) (s : Symbol) (ss : List Symbol) (found : Corner × List Symbol) : Type 0 where
    pub name : List ℕ
    pub sheet : sheet_of S s ≡ Some name
    pub between : Symbol
    pub passes : mark between.sign ≡ true
    pub symbol : Symbol
    pub parts : ss ≡ between ∷ symbol ∷ found.1
    pub word : symbol.sign ≡ sign.Word
    pub corner : corner_on (Named name) (address_in (bytes_of S symbol)) ≡ Some found.0

  sheet_read : (mark : Sign → Bool) (s : Symbol) (ss : List Symbol) (found : Corner × List Symbol) → behind_sheet_at S mark s ss ≡ Some found → SheetRead mark s ss found
  unfolding behind_sheet_at
  sheet_read mark s ss found e =
      let n = bind_some (sheet_of S s) (λ name. option_and_then (λ (t : Symbol × List Symbol). address_at S (Named name) t.1) (one_at mark ss)) found e in
      let m = bind_some (one_at mark ss) (λ t. address_at S (Named n.0) t.1) found n.2 in
      let t = taken mark ss m.0 m.1 in
      let a = address_read (Named n.0) m.0.1 found m.2 in
      record {
        name = n.0;
        sheet = n.1;
        between = m.0.0;
        passes = t.passes;
        symbol = a.symbol;
        parts = t.parts ∙ ap (λ c. m.0.0 ∷ c) a.parts;
        word = a.word;
        corner = a.corner;
      }

  plain_sheet : (s : Symbol) (ss : List Symbol) (found : Corner × List Symbol) → behind_sheet_at S is_sheet_mark s ss ≡ Some found → Reads (SpellsCorner S) (s ∷ ss) found
  plain_sheet s ss found e =
      let r = sheet_read is_sheet_mark s ss found e in
      record { used = s ∷ r.between ∷ r.symbol ∷ []; parts = ap (λ c. s ∷ c) r.parts; spells = on_sheet s r.between r.symbol r.sheet (mark_is r.between.sign r.passes) r.word r.corner }

  corner_sound : Sound (SpellsCorner S) (corner_at S)
  unfolding corner_at
  corner_sound [] found e = absurd cc
  corner_sound (s ∷ ss) found e = by s.sign refl e
    where
      lone : s.sign ≡ sign.Word → (b : Bool) → cond b (behind_sheet_at S is_sheet_mark s ss) (option_and_then (λ c. Some (c, ss)) (word_corner S (bytes_of S s))) ≡ Some found → Reads (SpellsCorner S) (s ∷ ss) found
      lone is true h = plain_sheet s ss found h
      lone is false h = let c = bind_some (word_corner S (bytes_of S s)) (λ c. Some (c, ss)) found h in alone (SpellsCorner S) s ss c.0 found (word s is (word_spelled S (bytes_of S s) c.0 c.1)) c.2

      by : (g : Sign) → s.sign ≡ g → corner_by S s g ss ≡ Some found → Reads (SpellsCorner S) (s ∷ ss) found
      by sign.Word is h = lone is (starts_with is_sheet_mark ss) h
      by _ is h = plain_sheet s ss found h

  inner_sheet : (s : Symbol) (ss : List Symbol) (found : Corner × List Symbol) → behind_sheet_at S is_point s ss ≡ Some found → Reads (SpellsInner S) (s ∷ ss) found
  inner_sheet s ss found e =
      let r = sheet_read is_point s ss found e in
      record { used = s ∷ r.between ∷ r.symbol ∷ []; parts = ap (λ c. s ∷ c) r.parts; spells = after_sheet s r.between r.symbol r.sheet (point_is r.between.sign r.passes) r.word r.corner }

  inner_sound : Sound (SpellsInner S) (inner_at S)
  unfolding inner_at
  inner_sound [] found e = absurd cc
  inner_sound (s ∷ ss) found e = by s.sign refl e
    where
      lone : s.sign ≡ sign.Word → (b : Bool) → cond b (behind_sheet_at S is_point s ss) (option_and_then (λ c. Some (c, ss)) (split_corner (bytes_of S s))) ≡ Some found → Reads (SpellsInner S) (s ∷ ss) found
      lone is true h = inner_sheet s ss found h
      lone is false h =
          let c = bind_some (split_corner (bytes_of S s)) (λ c. Some (c, ss)) found h in
          let j = split_spelled (bytes_of S s) c.0 c.1 in
          alone (SpellsInner S) s ss c.0 found (subst (SpellsInner S (s ∷ [])) (sym j.2) (joined_word s is j.1)) c.2

      by : (g : Sign) → s.sign ≡ g → inner_by S s g ss ≡ Some found → Reads (SpellsInner S) (s ∷ ss) found
      by sign.Point is h = let a = address_read Own ss found h in record { used = s ∷ a.symbol ∷ []; parts = ap (λ c. s ∷ c) a.parts; spells = own s a.symbol is a.word a.corner }
      by sign.Word is h = lone is (starts_with is_point ss) h
      by _ is h = inner_sheet s ss found h

  -- ---- references

  -- what stands behind a first corner
  data SecondRead (P : List Symbol → Corner → Type 0) (c : Corner) (ss : List Symbol) (found : Referred × List Symbol) : Type 0 where
    nothing : ss ≡ found.1 → area_between S c c ≡ Some found.0 → SecondRead P c ss found
    second : (t : Symbol) (used : List Symbol) (d : Corner) → t.sign ≡ sign.Colon → ss ≡ t ∷ (used ++ found.1) → P used d → area_between S c d ≡ Some found.0 → SecondRead P c ss found

  second_read : (P : List Symbol → Corner → Type 0) (corner : Reader Corner) → Sound P corner → (c : Corner) (ss : List Symbol) (found : Referred × List Symbol) → second_at S corner c ss ≡ Some found → SecondRead P c ss found
  unfolding second_at
  second_read P corner sound c ss found e = by (starts_with is_colon ss) e
    where
      after_colon : option_and_then (λ (t : Symbol × List Symbol). option_and_then (λ (d : Corner × List Symbol). option_and_then (λ (r : Referred). Some (r, d.1)) (area_between S c d.0)) (corner t.1)) (one_at is_colon ss) ≡ Some found → SecondRead P c ss found
      after_colon h =
          let t = bind_some (one_at is_colon ss) (λ t. option_and_then (λ (d : Corner × List Symbol). option_and_then (λ (r : Referred). Some (r, d.1)) (area_between S c d.0)) (corner t.1)) found h in
          let k = taken is_colon ss t.0 t.1 in
          let d = bind_some (corner t.0.1) (λ d. option_and_then (λ (r : Referred). Some (r, d.1)) (area_between S c d.0)) found t.2 in
          let reads = sound t.0.1 d.0 d.1 in
          let r = bind_some (area_between S c d.0.0) (λ r. Some (r, d.0.1)) found d.2 in
          let same : (r.0, d.0.1) ≡ found = some_is (r.0, d.0.1) found r.2 in
          subst (SecondRead P c ss) same (second t.0.0 reads.used d.0.0 (colon_is t.0.0.sign k.passes) (k.parts ∙ ap (λ b. t.0.0 ∷ b) reads.parts) reads.spells r.1)

      by : (b : Bool) → cond b (option_and_then (λ (t : Symbol × List Symbol). option_and_then (λ (d : Corner × List Symbol). option_and_then (λ (r : Referred). Some (r, d.1)) (area_between S c d.0)) (corner t.1)) (one_at is_colon ss)) (option_and_then (λ r. Some (r, ss)) (area_between S c c)) ≡ Some found → SecondRead P c ss found
      by true h = after_colon h
      by false h =
          let r = bind_some (area_between S c c) (λ r. Some (r, ss)) found h in
          let same : (r.0, ss) ≡ found = some_is (r.0, ss) found r.2 in
          subst (SecondRead P c ss) same (nothing refl r.1)

  plain_sound : Sound (SpellsReference S) (plain_at S)
  unfolding plain_at
  plain_sound ss found e =
      let c = bind_some (corner_at S ss) (λ c. second_at S (corner_at S) c.0 c.1) found e in
      let reads = corner_sound ss c.0 c.1 in
      by c.0 reads (second_read (SpellsCorner S) (corner_at S) corner_sound c.0.0 c.0.1 found c.2)
    where
      by : (c : Corner × List Symbol) → Reads (SpellsCorner S) ss c → SecondRead (SpellsCorner S) c.0 c.1 found → Reads (SpellsReference S) ss found
      by c reads (nothing rest is) = record { used = reads.used; parts = reads.parts ∙ ap (λ b. reads.used ++ b) rest; spells = cell reads.spells is }
      by c reads (second t used d colon rest p is) = record {
        used = reads.used ++ t ∷ used;
        parts = reads.parts ∙ ap (λ b. reads.used ++ b) rest ∙ sym (append_assoc reads.used (t ∷ used) found.1);
        spells = area t colon reads.spells p is;
      }

  brackets_sound : (s : Symbol) → s.sign ≡ sign.OpenSquare → (ss : List Symbol) (found : Referred × List Symbol) → brackets_at S ss ≡ Some found → Reads (SpellsReference S) (s ∷ ss) found
  unfolding brackets_at
  brackets_sound s left ss found e =
      let c = bind_some (inner_at S ss) (λ c. option_and_then (λ (r : Referred × List Symbol). option_and_then (λ (t : Symbol × List Symbol). Some (r.0, t.1)) (one_at is_close_square r.1)) (second_at S (inner_at S) c.0 c.1)) found e in
      let r = bind_some (second_at S (inner_at S) c.0.0 c.0.1) (λ r. option_and_then (λ (t : Symbol × List Symbol). Some (r.0, t.1)) (one_at is_close_square r.1)) found c.2 in
      let t = bind_some (one_at is_close_square r.0.1) (λ t. Some (r.0.0, t.1)) found r.2 in
      let k = taken is_close_square r.0.1 t.0 t.1 in
      let same : (r.0.0, t.0.1) ≡ found = some_is (r.0.0, t.0.1) found t.2 in
      subst (Reads (SpellsReference S) (s ∷ ss)) same (by c.0 (inner_sound ss c.0 c.1) r.0 t.0 k.parts (close_square_is t.0.0.sign k.passes) (second_read (SpellsInner S) (inner_at S) inner_sound c.0.0 c.0.1 r.0 r.1))
    where
      by : (c : Corner × List Symbol) → Reads (SpellsInner S) ss c → (r : Referred × List Symbol) (t : Symbol × List Symbol) → r.1 ≡ t.0 ∷ t.1 → t.0.sign ≡ sign.CloseSquare
          → SecondRead (SpellsInner S) c.0 c.1 r → Reads (SpellsReference S) (s ∷ ss) (r.0, t.1)
      by c reads r t rest right (nothing same is) = record {
        used = s ∷ (reads.used ++ t.0 ∷ []);
        parts = ap (λ b. s ∷ b) (reads.parts ∙ ap (λ b. reads.used ++ b) (same ∙ rest) ∙ sym (append_assoc reads.used (t.0 ∷ []) t.1));
        spells = inner_cell s t.0 left right reads.spells is;
      }
      by c reads r t rest right (second u used d colon same p is) = record {
        used = s ∷ (reads.used ++ u ∷ (used ++ t.0 ∷ []));
        parts =
            ap (λ b. s ∷ b)
            (reads.parts ∙ ap (λ b. reads.used ++ b) (same ∙ ap (λ b. u ∷ (used ++ b)) rest ∙ ap (λ b. u ∷ b) (sym (append_assoc used (t.0 ∷ []) t.1)))
            ∙ sym (append_assoc reads.used (u ∷ (used ++ t.0 ∷ [])) t.1));
        spells = inner_area s u t.0 left colon right reads.spells p is;
      }

  pub reference_sound : Sound (SpellsReference S) (reference_at S)
  unfolding reference_at
  reference_sound [] found e = absurd cc
  reference_sound (s ∷ ss) found e = by s.sign refl e
    where
      by : (g : Sign) → s.sign ≡ g → reference_by S g s ss ≡ Some found → Reads (SpellsReference S) (s ∷ ss) found
      by sign.OpenSquare is h = brackets_sound s is ss found h
      by _ is h = plain_sound (s ∷ ss) found h

  pub goes : {A B : Type 0} (b : Bool) (f : A → B) (o : Found A) (y : B) (rest : List Symbol) → cond b (go_on f o) Stop ≡ Go y rest → (b ≡ true) × (x : A) × (o ≡ Some (x, rest)) × (f x ≡ y)
  goes false f o y rest e = absurd cc
  goes true f None y rest e = absurd cc
  goes true f (Some x) y rest e = (refl, x.0, ap (λ (r : List Symbol). Some (x.0, r)) (cc), cc)

  union_keeps : KeepsTurn (SpellsUnion S) (union_turn S)
  union_keeps a rs [] y rest p e = absurd cc
  union_keeps a rs (s ∷ ss) y rest p e =
      let g = goes (is_tilde s.sign) (λ r. rs ++ r ∷ []) (reference_at S ss) y rest e in
      let r = reference_sound ss (g.1, rest) g.2 in
      record { used = s ∷ r.used; parts = ap (λ b. s ∷ b) r.parts; spells = subst (SpellsUnion S (a ++ s ∷ r.used)) g.3 (joined s (tilde_is s.sign g.0) p r.spells) }

  pub union_sound : Sound (SpellsUnion S) (union_at S)
  unfolding union_at
  union_sound = loop_sound (SpellsReference S) (SpellsUnion S) (reference_at S) (λ r. r ∷ []) (union_turn S) reference_sound (λ a r p. one p) union_keeps

  -- ---- arrays

  signed_read : (s : Symbol) (ss : List Symbol) (found : Tree × List Symbol) → (s.sign ≡ sign.Plus) ⊎ (s.sign ≡ sign.Minus) → signed_number_at S s ss ≡ Some found → Reads (SpellsItem S) (s ∷ ss) found
  unfolding signed_number_at
  signed_read s ss found is e =
      let t = bind_some (one_at is_number ss) (λ t. signed_by S s.sign (from_to s.span t.0.span) t.0 t.1) found e in
      let k = taken is_number ss t.0 t.1 in
      subst (λ b. Reads (SpellsItem S) (s ∷ b) found) (sym k.parts) (by t.0 (number_is t.0.0.sign k.passes) is t.2)
    where
      by : (t : Symbol × List Symbol) → t.0.sign ≡ sign.Number → (s.sign ≡ sign.Plus) ⊎ (s.sign ≡ sign.Minus) → signed_by S s.sign (from_to s.span t.0.span) t.0 t.1 ≡ Some found → Reads (SpellsItem S) (s ∷ t.0 ∷ t.1) found
      by t is_number is h = elim is [
        | inl plus ↦
            let f : option_and_then (λ n. Some (number_tree (from_to s.span t.0.span) n, t.1)) (reading (bytes_of S t.0)) ≡ Some found = ap (λ g. signed_by S g (from_to s.span t.0.span) t.0 t.1) (sym plus) ∙ h in
            let n = bind_some (reading (bytes_of S t.0)) (λ n. Some (number_tree (from_to s.span t.0.span) n, t.1)) found f in
            let same : (number_tree (from_to s.span t.0.span) n.0, t.1) ≡ found = some_is (number_tree (from_to s.span t.0.span) n.0, t.1) found n.2 in
            subst (Reads (SpellsItem S) (s ∷ t.0 ∷ t.1)) same (record { used = s ∷ t.0 ∷ []; parts = refl; spells = positive s t.0 plus is_number (reading-sound (bytes_of S t.0) n.0 n.1) })
        | inr minus ↦
            let f : option_and_then (λ n. Some (negative_tree (from_to s.span t.0.span) n, t.1)) (reading (bytes_of S t.0)) ≡ Some found = ap (λ g. signed_by S g (from_to s.span t.0.span) t.0 t.1) (sym minus) ∙ h in
            let n = bind_some (reading (bytes_of S t.0)) (λ n. Some (negative_tree (from_to s.span t.0.span) n, t.1)) found f in
            let same : (negative_tree (from_to s.span t.0.span) n.0, t.1) ≡ found = some_is (negative_tree (from_to s.span t.0.span) n.0, t.1) found n.2 in
            subst (Reads (SpellsItem S) (s ∷ t.0 ∷ t.1)) same (record { used = s ∷ t.0 ∷ []; parts = refl; spells = negative s t.0 minus is_number (reading-sound (bytes_of S t.0) n.0 n.1) })
      ]

  pub item_sound : Sound (SpellsItem S) (item_at S)
  unfolding item_at
  item_sound [] found e = absurd cc
  item_sound (s ∷ ss) found e = by s.sign refl e
    where
      by : (g : Sign) → s.sign ≡ g → item_by S g s ss ≡ Some found → Reads (SpellsItem S) (s ∷ ss) found
      by sign.Number is h = let n = bind_some (reading (bytes_of S s)) (λ n. Some (number_tree s.span n, ss)) found h in alone (SpellsItem S) s ss (number_tree s.span n.0) found (number s is (reading-sound (bytes_of S s) n.0 n.1)) n.2
      by sign.Plus is h = signed_read s ss found (inl is) h
      by sign.Minus is h = signed_read s ss found (inr is) h
      by sign.Text is h = alone (SpellsItem S) s ss (Text s.span (quoted_text (bytes_of S s))) found (text s is) h
      by sign.Word is h = let b = bind_some (logical_word (bytes_of S s)) (λ b. Some (Logical s.span b, ss)) found h in alone (SpellsItem S) s ss (Logical s.span b.0) found (logical s is b.1) b.2
      by _ is h = absurd cc

  row_keeps : KeepsTurn (SpellsRow S) (row_turn S)
  row_keeps a xs [] y rest p e = absurd cc
  row_keeps a xs (s ∷ ss) y rest p e =
      let g = goes (is_semicolon s.sign) (λ x. xs ++ x ∷ []) (item_at S ss) y rest e in
      let r = item_sound ss (g.1, rest) g.2 in
      record { used = s ∷ r.used; parts = ap (λ b. s ∷ b) r.parts; spells = subst (SpellsRow S (a ++ s ∷ r.used)) g.3 (next s (semicolon_is s.sign g.0) p r.spells) }

  pub row_sound : Sound (SpellsRow S) (row_at S)
  unfolding row_at
  row_sound = loop_sound (SpellsItem S) (SpellsRow S) (item_at S) (λ x. x ∷ []) (row_turn S) item_sound (λ a x p. first p) row_keeps

  abbrev RowsSpelled : List Symbol → RowsRead → Type 0
  RowsSpelled a rows = SpellsRows S a rows.0 rows.1 rows.2

  -- a turn that read one more row
  pub row_went : (b : Bool) (rows : RowsRead) (o : Found (List Tree)) (y : RowsRead) (rest : List Symbol) → cond b (with_row rows o) Stop ≡ Go y rest
      → (b ≡ true) × (xs : List Tree) × (o ≡ Some (xs, rest)) × (length xs ≡ rows.1) × (◌≡◌ {A = RowsRead} (suc rows.0, rows.1, rows.2 ++ xs) y)
  row_went false rows o y rest e = absurd cc
  row_went true rows None y rest e = absurd cc
  row_went true rows (Some (xs, ss)) y rest e = by (nat_eq (length xs) rows.1) refl e
    where
      by : (b : Bool) → nat_eq (length xs) rows.1 ≡ b → cond {A = Turn RowsRead} b (Go (suc rows.0, rows.1, rows.2 ++ xs) ss) Fail ≡ Go y rest
          → (true ≡ true) × (zs : List Tree) × (◌≡◌ {A = Found (List Tree)} (Some (xs, ss)) (Some (zs, rest))) × (length zs ≡ rows.1) × (◌≡◌ {A = RowsRead} (suc rows.0, rows.1, rows.2 ++ zs) y)
      by true is h = (refl, xs, ap (λ (r : List Symbol). Some (xs, r)) (cc), eqb-true _ _ is, cc)
      by false is h = absurd cc

  rows_keep : KeepsTurn RowsSpelled (rows_turn S)
  rows_keep a rows [] y rest p e = absurd cc
  rows_keep a rows (s ∷ ss) y rest p e =
      let g = row_went (is_bar s.sign) rows (row_at S ss) y rest e in
      let r = row_sound ss (g.1, rest) g.2 in
      record { used = s ∷ r.used; parts = ap (λ b. s ∷ b) r.parts; spells = subst (RowsSpelled (a ++ s ∷ r.used)) g.4 (next_row s (bar_is s.sign g.0) p r.spells g.3) }

  rows_sound : Sound RowsSpelled (λ ss. option_and_then (λ (x : List Tree × List Symbol). all_turns (rows_turn S) (1, length x.0, x.0) x.1) (row_at S ss))
  rows_sound = loop_sound (SpellsRow S) RowsSpelled (row_at S) (λ xs. (1, length xs, xs)) (rows_turn S) row_sound (λ a xs p. first_row p) rows_keep

  array_sound : (s : Symbol) → s.sign ≡ sign.OpenBrace → (ss : List Symbol) (found : Tree × List Symbol) → array_at S s ss ≡ Some found → Reads (SpellsLeaf S) (s ∷ ss) found
  unfolding array_at
  array_sound s left ss found e =
      let f = bind_some (row_at S ss) (λ x. option_and_then (λ (rows : RowsRead × List Symbol). option_and_then (λ (t : Symbol × List Symbol). Some (Array (from_to s.span t.0.span) rows.0.0 rows.0.1 (trees rows.0.2), t.1)) (one_at is_close_brace rows.1)) (all_turns (rows_turn S) (1, length x.0, x.0) x.1)) found e in
      let r = bind_some (all_turns (rows_turn S) (1, length f.0.0, f.0.0) f.0.1) (λ rows. option_and_then (λ (t : Symbol × List Symbol). Some (Array (from_to s.span t.0.span) rows.0.0 rows.0.1 (trees rows.0.2), t.1)) (one_at is_close_brace rows.1)) found f.2 in
      let t = bind_some (one_at is_close_brace r.0.1) (λ t. Some (Array (from_to s.span t.0.span) r.0.0.0 r.0.0.1 (trees r.0.0.2), t.1)) found r.2 in
      let k = taken is_close_brace r.0.1 t.0 t.1 in
      let whole : option_and_then (λ (x : List Tree × List Symbol). all_turns (rows_turn S) (1, length x.0, x.0) x.1) (row_at S ss) ≡ Some r.0 = ap (option_and_then (λ (x : List Tree × List Symbol). all_turns (rows_turn S) (1, length x.0, x.0) x.1)) f.1 ∙ r.1 in
      let reads = rows_sound ss r.0 whole in
      let same : (Array (from_to s.span t.0.0.span) r.0.0.0 r.0.0.1 (trees r.0.0.2), t.0.1) ≡ found = some_is (Array (from_to s.span t.0.0.span) r.0.0.0 r.0.0.1 (trees r.0.0.2), t.0.1) found t.2 in
      subst (Reads (SpellsLeaf S) (s ∷ ss)) same
      (record {
        used = s ∷ (reads.used ++ t.0.0 ∷ []);
        parts = ap (λ b. s ∷ b) (reads.parts ∙ ap (λ b. reads.used ++ b) k.parts ∙ sym (append_assoc reads.used (t.0.0 ∷ []) t.0.1));
        spells = leaf.array s t.0.0 left (close_brace_is t.0.0.sign k.passes) reads.spells;
      })

  -- ---- leaves

  -- what stands before the rest
  pub before_rest : (a b : List Symbol) → take (length (a ++ b) - length b) (a ++ b) ≡ a
  before_rest a b =
      let size : length (a ++ b) - length b ≡ length a = omega (arith, length-append a b) in
      ap (λ n. take n (a ++ b)) size ∙ take-append_seam a b

  references_sound : (ss : List Symbol) (found : Tree × List Symbol) → references_at S ss ≡ Some found → Reads (SpellsLeaf S) ss found
  unfolding references_at
  references_sound ss found e =
      let r = bind_some (union_at S ss) (λ rs. Some (Reference (place_of (take (length ss - length rs.1) ss)) rs.0, rs.1)) found e in
      let reads = union_sound ss r.0 r.1 in
      let used : take (length ss - length r.0.1) ss ≡ reads.used = ap (λ c. take (length c - length r.0.1) c) reads.parts ∙ before_rest reads.used r.0.1 in
      let same : (Reference (place_of (take (length ss - length r.0.1) ss)) r.0.0, r.0.1) ≡ found = some_is (Reference (place_of (take (length ss - length r.0.1) ss)) r.0.0, r.0.1) found r.2 in
      subst (Reads (SpellsLeaf S) ss) same (record { used = reads.used; parts = reads.parts; spells = subst (λ c. SpellsLeaf S reads.used (Reference (place_of c) r.0.0)) (sym used) (leaf.reference reads.spells) })

  word_sound : (s : Symbol) → s.sign ≡ sign.Word → (ss : List Symbol) (found : Tree × List Symbol) → word_leaf S s ss ≡ Some found → Reads (SpellsLeaf S) (s ∷ ss) found
  word_sound s is ss found e = by (starts_with is_sheet_mark ss) e
    where
      lone : (b : Option Bool) (c : Option Corner) → logical_word (bytes_of S s) ≡ b → word_corner S (bytes_of S s) ≡ c → lone_word S s ss b c ≡ Some found → Reads (SpellsLeaf S) (s ∷ ss) found
      lone (Some b) c is_logical is_corner h = alone (SpellsLeaf S) s ss (Logical s.span b) found (leaf.logical s is is_logical) h
      lone None (Some c) is_logical is_corner h = references_sound (s ∷ ss) found h
      lone None None is_logical is_corner h = alone (SpellsLeaf S) s ss (Name s.span (bytes_of S s)) found (leaf.name s is is_logical (no_word S (bytes_of S s) is_corner)) h

      by : (b : Bool) → cond b (references_at S (s ∷ ss)) (lone_word S s ss (logical_word (bytes_of S s)) (word_corner S (bytes_of S s))) ≡ Some found → Reads (SpellsLeaf S) (s ∷ ss) found
      by true h = references_sound (s ∷ ss) found h
      by false h = lone (logical_word (bytes_of S s)) (word_corner S (bytes_of S s)) refl refl h

  -- what is read is spelled so
  pub leaf_spelled : Sound (SpellsLeaf S) (leaf_at S)
  unfolding leaf_at
  leaf_spelled [] found e = absurd cc
  leaf_spelled (s ∷ ss) found e = by s.sign refl e
    where
      by : (g : Sign) → s.sign ≡ g → leaf_by S g s ss ≡ Some found → Reads (SpellsLeaf S) (s ∷ ss) found
      by sign.Number is h = let n = bind_some (reading (bytes_of S s)) (λ n. Some (number_tree s.span n, ss)) found h in alone (SpellsLeaf S) s ss (number_tree s.span n.0) found (leaf.number s is (reading-sound (bytes_of S s) n.0 n.1)) n.2
      by sign.Text is h = alone (SpellsLeaf S) s ss (Text s.span (quoted_text (bytes_of S s))) found (leaf.text s is) h
      by sign.Fault is h = let k = bind_some (error_in (bytes_of S s)) (λ k. Some (Fault s.span k, ss)) found h in alone (SpellsLeaf S) s ss (Fault s.span k.0) found (leaf.error s is k.1) k.2
      by sign.OpenBrace is h = array_sound s is ss found h
      by sign.Word is h = word_sound s is ss found h
      by sign.Quoted is h = references_sound (s ∷ ss) found h
      by sign.OpenSquare is h = references_sound (s ∷ ss) found h
      by _ is h = absurd cc
