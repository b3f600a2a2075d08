-- A reference that is spelled is read.
use Rattle.std.proofs.Common.{◌≡◌, ℕ, zero, suc, ◌-◌, ◌<◌, ◌≤◌, Bool, true, false, cond, List, [], ◌∷◌, ◌++◌, length, take, Option, Some, None, refl, sym, ap, subst, ◌∙◌, length-append, arith}
use Rattle.std.specs.Option.{option_and_then}
use Rattle.std.proofs.lemmas.List.{append-nil}
use Rattle.cell_refs.specs.declared.span.Span.{Span}
use Rattle.frac128.specs.Numeral.{Numeral, is_narrow_numeral, value}
use Rattle.frac128.specs.NumeralReading.{reading}
use Rattle.formula_ast.specs.Tree.{Tree, Array, Fault, Logical, Name, Number, WideNumber, Reference, Referred, Text, trees}
use Rattle.formula_grammar.specs.declared.symbol.Sign.{Sign}
use Rattle.formula_grammar.specs.declared.symbol.Sign.TheVariants as sign
use Rattle.formula_grammar.specs.declared.symbol.Symbol.{Symbol}
use Rattle.formula_grammar.specs.Symbols.{Setting, bytes_of, from_to, place_of}
use Rattle.formula_grammar.specs.Words.{Corner, error_in, logical_word, number_tree, quoted_text}
use Rattle.formula_grammar.specs.WordReading.{word_corner}
use Rattle.formula_grammar.specs.References.{SpellsReference, one}
use Rattle.formula_grammar.specs.Leaves as leaf
use Rattle.formula_grammar.specs.Loops.{Found, Turn, Stop, Fail, Go, go_on, take_turn, turns, all_turns}
use Rattle.formula_grammar.specs.LeafReading.{RowsRead, array_at, is_close_brace, is_sheet_mark, is_tilde, leaf_at, leaf_by, lone_word, one_at, reference_at, references_at, row_at, rows_turn, starts_with, union_at, union_turn}
use Rattle.formula_grammar.proofs.LeafRead.{leaf_read}
use Rattle.formula_grammar.proofs.LeafSound.{reference_sound}
use Rattle.formula_grammar.proofs.Turns.{bind_some, some_is}
use Rattle.formula_grammar.proofs.WordCorners.{word_read, word_spelled}
use Rattle.text_laws.specs.References.{ReferencesAreSpelled, WordsAreSpelled}

-- the areas of a reference; none of another tree
abbrev areas_in : Tree → List Referred
areas_in (Reference at rs) = rs
areas_in _ = []

abbrev is_reference : Tree → Bool
is_reference (Reference at rs) = true
is_reference _ = false

apart : (t : Tree) (ss rest : List Symbol) (place : Span) (rs : List Referred) → is_reference t ≡ false → ◌≡◌ {A = Found Tree} (Some (t, ss)) (Some (Reference place rs, rest)) → ⊥
apart t ss rest place rs other e =
    let k : ◌≡◌ {A = Tree × List Symbol} (t, ss) (Reference place rs, rest) = some_is (t, ss) (Reference place rs, rest) e in
    let z : false ≡ true = sym other ∙ ap (λ (f : Tree × List Symbol). is_reference f.0) k in
    cc

same_head : (r s : Referred) → r ∷ [] ≡ s ∷ [] → r ≡ s
same_head r s e = cc

module _ (S : Setting) where
  grows : (rs : List Referred) (ss : List Symbol) (ts : List Referred) (rest : List Symbol) → union_turn S rs ss ≡ Go ts rest → length rs < length ts
  grows rs [] ts rest e = absurd cc
  grows rs (s ∷ ss) ts rest e = by (is_tilde s.sign) (reference_at S ss) e
    where
      by : (t : Bool) (o : Found Referred) → cond t (go_on (λ r. rs ++ r ∷ []) o) Stop ≡ Go ts rest → length rs < length ts
      by false o h = absurd cc
      by true None h = absurd cc
      by true (Some f) h = let k : rs ++ f.0 ∷ [] ≡ ts = cc in let l = length-append rs (f.0 ∷ []) in omega (arith, l, ap length k)

  -- a loop loses no area
  loop_keeps : (n : ℕ) (rs : List Referred) (ss : List Symbol) (ts : List Referred) (rest : List Symbol) → turns (union_turn S) n rs ss ≡ Some (ts, rest) → length rs ≤ length ts
  unfolding turns
  loop_keeps zero rs ss ts rest e = absurd cc
  loop_keeps (suc n) rs ss ts rest e = by (λ us more h. loop_keeps n us more ts rest h) (union_turn S rs ss) refl e
    where
      by : ((us : List Referred) (more : List Symbol) → turns (union_turn S) n us more ≡ Some (ts, rest) → length us ≤ length ts) → (t : Turn (List Referred)) → union_turn S rs ss ≡ t → take_turn t (Some (rs, ss)) (turns (union_turn S) n) ≡ Some (ts, rest) → length rs ≤ length ts
      by later Stop is h = let k : ◌≡◌ {A = List Referred × List Symbol} (rs, ss) (ts, rest) = some_is (rs, ss) (ts, rest) h in omega (arith, ap (λ (f : List Referred × List Symbol). length f.0) k)
      by later Fail is h = absurd cc
      by later (Go us more) is h = let less = grows rs ss us more is in let most = later us more h in omega (arith, less, most)

  -- one area is one reference, with nothing behind it
  one_reference : (r s : Referred) (ss : List Symbol) → all_turns (union_turn S) (r ∷ []) ss ≡ Some (s ∷ [], []) → (r ≡ s) × (ss ≡ [])
  unfolding turns all_turns
  one_reference r s ss e = by (union_turn S (r ∷ []) ss) refl e
    where
      by : (t : Turn (List Referred)) → union_turn S (r ∷ []) ss ≡ t → take_turn t (Some (r ∷ [], ss)) (turns (union_turn S) (length ss)) ≡ Some (s ∷ [], []) → (r ≡ s) × (ss ≡ [])
      by Stop is h =
          let k : ◌≡◌ {A = List Referred × List Symbol} (r ∷ [], ss) (s ∷ [], []) = some_is (r ∷ [], ss) (s ∷ [], []) h in
          (same_head r s (ap (λ (f : List Referred × List Symbol). f.0) k), ap (λ (f : List Referred × List Symbol). f.1) k)
      by Fail is h = absurd cc
      by (Go us more) is h =
          let less = grows (r ∷ []) ss us more is in
          let later = loop_keeps (length ss) us more (s ∷ []) [] h in
          absurd (omega (arith, less, later))

  number_apart : (at : Span) (n : Numeral) → is_reference (number_tree at n) ≡ false
  number_apart at n = by (is_narrow_numeral n)
    where
      by : (t : Bool) → is_reference (cond t (Number at (value n)) (WideNumber at (value n))) ≡ false
      by true = refl
      by false = refl

  array_no_reference : (s : Symbol) (ss : List Symbol) (place : Span) (rs : List Referred) (rest : List Symbol) → array_at S s ss ≡ Some (Reference place rs, rest) → ⊥
  unfolding array_at
  array_no_reference s ss place rs rest e =
      let a = bind_some (row_at S ss) (λ (first : List Tree × List Symbol). option_and_then (λ (rows : RowsRead × List Symbol). option_and_then (λ (t : Symbol × List Symbol). Some (Array (from_to s.span t.0.span) rows.0.0 rows.0.1 (trees rows.0.2), t.1)) (one_at is_close_brace rows.1)) (all_turns (rows_turn S) (1, length first.0, first.0) first.1)) (Reference place rs, rest) e in
      let b = bind_some (all_turns (rows_turn S) (1, length a.0.0, a.0.0) a.0.1) (λ (rows : RowsRead × List Symbol). option_and_then (λ (t : Symbol × List Symbol). Some (Array (from_to s.span t.0.span) rows.0.0 rows.0.1 (trees rows.0.2), t.1)) (one_at is_close_brace rows.1)) (Reference place rs, rest) a.2 in
      let c = bind_some (one_at is_close_brace b.0.1) (λ (t : Symbol × List Symbol). Some (Array (from_to s.span t.0.span) b.0.0.0 b.0.0.1 (trees b.0.0.2), t.1)) (Reference place rs, rest) b.2 in
      apart (Array (from_to s.span c.0.0.span) b.0.0.0 b.0.0.1 (trees b.0.0.2)) c.0.1 rest place rs (refl {a = false}) c.2

  -- a leaf that is a reference was read as references
  leaf_references : (ss : List Symbol) (place : Span) (rs : List Referred) (rest : List Symbol) → leaf_at S ss ≡ Some (Reference place rs, rest) → references_at S ss ≡ Some (Reference place rs, rest)
  unfolding leaf_at
  leaf_references [] place rs rest e = absurd cc
  leaf_references (s ∷ ss) place rs rest e = by s.sign e
    where
      lone : (b : Option Bool) (c : Option Corner) → lone_word S s ss b c ≡ Some (Reference place rs, rest) → references_at S (s ∷ ss) ≡ Some (Reference place rs, rest)
      lone (Some b) c h = absurd (apart (Logical s.span b) ss rest place rs refl h)
      lone None (Some c) h = h
      lone None None h = absurd (apart (Name s.span (bytes_of S s)) ss rest place rs refl h)

      worded : (t : Bool) → cond t (references_at S (s ∷ ss)) (lone_word S s ss (logical_word (bytes_of S s)) (word_corner S (bytes_of S s))) ≡ Some (Reference place rs, rest) → references_at S (s ∷ ss) ≡ Some (Reference place rs, rest)
      worded true h = h
      worded false h = lone (logical_word (bytes_of S s)) (word_corner S (bytes_of S s)) h

      numbered : (o : Option Numeral) → option_and_then {U = Tree × List Symbol} (λ n. Some (number_tree s.span n, ss)) o ≡ Some (Reference place rs, rest) → ⊥
      numbered None h = cc h
      numbered (Some n) h = apart (number_tree s.span n) ss rest place rs (number_apart s.span n) h

      by : (g : Sign) → leaf_by S g s ss ≡ Some (Reference place rs, rest) → references_at S (s ∷ ss) ≡ Some (Reference place rs, rest)
      by sign.Number h = absurd (numbered (reading (bytes_of S s)) h)
      by sign.Text h = absurd (apart (Text s.span (quoted_text (bytes_of S s))) ss rest place rs refl h)
      by sign.Fault h = absurd (let k = bind_some (error_in (bytes_of S s)) (λ k. Some (Fault s.span k, ss)) (Reference place rs, rest) h in apart (Fault s.span k.0) ss rest place rs refl k.2)
      by sign.OpenBrace h = absurd (array_no_reference s ss place rs rest h)
      by sign.Word h = worded (starts_with is_sheet_mark ss) h
      by sign.Quoted h = h
      by sign.OpenSquare h = h
      by _ h = absurd cc

  -- what is spelled is read, with nothing behind it
  pub reference_is_read : (ss : List Symbol) (r : Referred) → SpellsReference S ss r → reference_at S ss ≡ Some (r, [])
  unfolding references_at union_at
  reference_is_read ss r p =
      let l : leaf_at S ss ≡ Some (Reference (place_of ss) (r ∷ []), []) = ap (leaf_at S) (sym (append-nil ss)) ∙ leaf_read (leaf.reference (one p)) [] (omega arith) in
      let u = bind_some (union_at S ss) (λ (rs : List Referred × List Symbol). Some (Reference (place_of (take (length ss - length rs.1) ss)) rs.0, rs.1)) (Reference (place_of ss) (r ∷ []), []) (leaf_references ss (place_of ss) (r ∷ []) [] l) in
      let k : ◌≡◌ {A = Tree × List Symbol} (Reference (place_of (take (length ss - length u.0.1) ss)) u.0.0, u.0.1) (Reference (place_of ss) (r ∷ []), []) = some_is _ _ u.2 in
      let areas : u.0.0 ≡ r ∷ [] = ap (λ (f : Tree × List Symbol). areas_in f.0) k in
      let rest : u.0.1 ≡ [] = ap (λ (f : Tree × List Symbol). f.1) k in
      let f = bind_some (reference_at S ss) (λ (x : Referred × List Symbol). all_turns (union_turn S) (x.0 ∷ []) x.1) u.0 u.1 in
      let last = one_reference f.0.0 r f.0.1 (f.2 ∙ ap (λ (a : List Referred). Some (a, u.0.1)) areas ∙ ap (λ (b : List Symbol). Some (r ∷ [], b)) rest) in
      f.1 ∙ ap (λ (a : Referred). Some (a, f.0.1)) last.0 ∙ ap (λ (b : List Symbol). Some (r, b)) last.1

pub references : ReferencesAreSpelled
references S ss r = (sound, reference_is_read S ss r)
  where
    sound : reference_at S ss ≡ Some (r, []) → SpellsReference S ss r
    sound e = let k = reference_sound S ss (r, []) e in subst (λ c. SpellsReference S c r) (sym (k.parts ∙ append-nil k.used)) k.spells

pub words : WordsAreSpelled
words S word c = (word_spelled S word c, word_read S word)
