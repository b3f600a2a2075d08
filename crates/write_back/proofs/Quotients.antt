-- The tree of an equals sign, digits, a slash and digits.
use Rattle.std.proofs.Common.{◌≡◌, ℕ, suc, ◌+◌, ◌-◌, ◌<◌, true, cond, List, [], ◌∷◌, ◌++◌, length, drop, take, get_or, get_or-drop, Some, None, refl, sym, ap, subst, ◌∙◌, arith, ◌^◌, ℤ, pos, negsuc}
use Rattle.std.specs.Prelude.{slice_index, unsigned_abs}
use Rattle.std.specs.Fmt.{decimal}
use Rattle.std.proofs.lemmas.Fmt.{decimal_is_IsNumeral_wide}
use Rattle.std.specs.Str.Parse.{IsNumeral}
use Rattle.std.proofs.Math.Seq.{drop-append_seam, take-append_seam, get_or-append_seam}
use Rattle.std.proofs.lemmas.List.{drop-drop}
use Rattle.fractions.specs.Rational.{ℚ, neg_ℚ}
use Rattle.fractions.specs.Whole.{whole_ℚ}
use Rattle.frac128.specs.Numeral.{is_narrow_numeral}
use Rattle.frac128.specs.Numeral as numeral
use Rattle.frac128.specs.Printed.{minus_text}
use Rattle.frac128.proofs.NarrowNumerals.{narrow_passes}
use Rattle.frac128.proofs.PrintedWhole.{below-64}
use Rattle.cell_refs.specs.declared.span.Span.{Span}
use Rattle.cell_refs.specs.declared.op.Op.TheVariants as op
use Rattle.formula_ast.specs.Tree.{Tree, Number, WideNumber, Minus, Infix}
use Rattle.formula_lexer.specs.declared.token.TokenKind.TheVariants as kind
use Rattle.formula_lexer.specs.declared.token.Token.{Token}
use Rattle.formula_lexer.specs.Tokens.{token, Tokens}
use Rattle.formula_lexer.proofs.Cuts.{one_list}
use Rattle.formula_grammar.specs.Depth.{most_open, opened}
use Rattle.formula_grammar.specs.Formula.{IsTooDeep, SpellsText, equals}
use Rattle.formula_grammar.specs.Grammar.{Spells, Level, alone, infixed, whole, unsigned, signed}
use Rattle.formula_grammar.specs.Grammar as grammar
use Rattle.formula_grammar.specs.Leaves.{SpellsLeaf}
use Rattle.formula_grammar.specs.Leaves as leaf
use Rattle.formula_grammar.specs.Parts.{Part, joined, prefixed, Negative}
use Rattle.formula_grammar.specs.Parts as parts
use Rattle.formula_grammar.specs.Symbols.{Setting, bytes_of, symbol_of, symbols_of, second_at, sign_of_mark}
use Rattle.formula_grammar.specs.declared.symbol.Sign.{Sign}
use Rattle.formula_grammar.specs.declared.symbol.Sign.TheVariants as sign
use Rattle.formula_grammar.specs.declared.symbol.Symbol.{Symbol}
use Rattle.formula_parser.specs.TextTrees.{tree_in}
use Rattle.formula_parser.specs.Answers.{fault_of}
use Rattle.formula_parser.proofs.TextTrees.{trees_are_spelled}
use Rattle.write_back.proofs.Tokens.{equals_begins, minus_begins, quotient_bytes, quotient_cut, quotient_tokens}
use Rattle.write_back.proofs.Wholes.{IsNumeralOf, whole_neg, whole_numeral}

-- ---- symbols that open nothing
abbrev Stays : Symbol → Type 0
Stays s = (n : ℕ) → opened s.sign n ≡ n

abbrev AllStay : List Symbol → Type 0
AllStay [] = Unit {0}
AllStay (s ∷ ss) = Stays s × AllStay ss

none_open : (ss : List Symbol) → AllStay ss → most_open 0 ss ≡ 0
none_open [] h = refl
none_open (s ∷ ss) h = let k = none_open ss h.1 in let more : most_open (opened s.sign 0) ss ≡ 0 = ap (λ n. most_open n ss) (h.0 0) ∙ k in omega (arith, more)

stays_as : (s : Symbol) (g : Sign) → s.sign ≡ g → ((n : ℕ) → opened g n ≡ n) → Stays s
stays_as s g e h n = ap (λ t. opened t n) e ∙ h n

-- ---- a number and a number with a slash between, from a place on
module _ (S : Setting) (at : ℕ) (ds es : List ℕ) (x y : ℚ) (stands : drop at S.text ≡ quotient_bytes ds es) (above : IsNumeralOf ds x) (below : IsNumeralOf es y) where
  abbrev symbol : Token → Symbol
  symbol t = symbol_of S.text t

  abbrev s1 : Symbol
  s1 = symbol (token kind.Number at (length ds))

  abbrev s2 : Symbol
  s2 = symbol (token kind.Mark (at + length ds) 1)

  abbrev s3 : Symbol
  s3 = symbol (token kind.Number ((at + length ds) + 1) (length es))

  over : s2.sign ≡ sign.Over
  over =
      let e : slice_index S.text (at + length ds) ≡ 47 = sym (get_or-drop at S.text (length ds) 0) ∙ ap (λ b. get_or b (length ds) 0) stands ∙ get_or-append_seam ds 47 es 0 in
      ap (λ b. sign_of_mark b (second_at S.text (token kind.Mark (at + length ds) 1))) e

  first_bytes : bytes_of S s1 ≡ ds
  first_bytes =
      let n : (at + length ds) - at ≡ length ds = omega arith in
      ap (λ n. take n (drop at S.text)) n ∙ ap (take (length ds)) stands ∙ take-append_seam ds (47 ∷ es)

  last_bytes : bytes_of S s3 ≡ es
  last_bytes =
      let m = (at + length ds) + 1 in
      let n : (m + length es) - m ≡ length es = omega arith in
      let behind : drop (at + length ds) S.text ≡ 47 ∷ es = sym (drop-drop (length ds) at S.text) ∙ ap (drop (length ds)) stands ∙ drop-append_seam ds (47 ∷ es) in
      let rest : drop m S.text ≡ es = sym (drop-drop 1 (at + length ds) S.text) ∙ ap (drop 1) behind in
      ap (λ n. take n (drop m S.text)) n ∙ ap (take (length es)) rest ∙ all es
    where
      all : (es : List ℕ) → take (length es) es ≡ es
      all [] = refl
      all (e ∷ es) = ap (λ l. e ∷ l) (all es)

  number_leaf : (s : Symbol) (text : List ℕ) (z : ℚ) → s.sign ≡ sign.Number → bytes_of S s ≡ text → IsNumeralOf text z → SpellsLeaf S (s ∷ []) (Number s.span z)
  number_leaf s text z is bytes n =
      let spelled : numeral.Spells (bytes_of S s) n.numeral = subst (λ b. numeral.Spells b n.numeral) (sym bytes) n.spelled in
      let narrow : is_narrow_numeral n.numeral ≡ true = narrow_passes n.numeral n.narrow in
      subst (SpellsLeaf S (s ∷ [])) (ap (λ t. cond t (Number s.span (numeral.value n.numeral)) (WideNumber s.span (numeral.value n.numeral))) narrow ∙ ap (Number s.span) n.same) (leaf.number s is spelled)

  left : Spells S grammar.Primary (s1 ∷ []) (parts.leaf (Number s1.span x))
  left = grammar.leaf (number_leaf s1 ds x refl first_bytes above)

  right : Spells S (Level 1) (s3 ∷ []) (parts.leaf (Number s3.span y))
  right = alone (whole (unsigned (grammar.leaf (number_leaf s3 es y refl last_bytes below))))

  -- the left side of the quotient, with a sign or without, and the quotient
  spelled : (a : List Symbol) (p : Part) → Spells S grammar.Signed a p → Spells S (Level 5) (a ++ (s2 ∷ s3 ∷ [])) (joined op.Div p (parts.leaf (Number s3.span y)))
  spelled a p h = alone (alone (alone (infixed s2 op.Div (ap parts.operator_of over) refl (alone (alone (whole h))) right)))

  plain_stay : AllStay (s1 ∷ s2 ∷ s3 ∷ [])
  plain_stay = (λ n. refl, (stays_as s2 sign.Over over (λ n. refl), (λ n. refl, tt)))

  -- the tree of a text with these tokens
  tree_there : (ts : List Token) (t : Tree) → Tokens 0 S.text ts → AllStay (symbols_of S.text ts) → SpellsText S t → fault_of t ≡ None → tree_in S ≡ Some t
  tree_there ts t cut stay spells none =
      let shallow : IsTooDeep S → ⊥ = λ deep.
      let more : 64 < most_open 0 (symbols_of S.text ts) = subst (λ us. 64 < most_open 0 (symbols_of S.text us)) (one_list deep.cut ts cut) deep.deep in
      let room = none_open (symbols_of S.text ts) stay in
      omega arith in
      (trees_are_spelled S t).1 (shallow, spells, none)

-- ---- the tree of a quotient
pub data IsQuotient : Tree → ℚ → ℚ → Type 0 where
  positive : {x y : ℚ} (at over under : Span) → IsQuotient (Infix at op.Div (Number over x) (Number under y)) x y
  negative : {x y : ℚ} (at minus over under : Span) → IsQuotient (Infix at op.Div (Minus minus (Number over x)) (Number under y)) (neg_ℚ x) y

pub record HasQuotient (S : Setting) (x y : ℚ) : Type 0 where
  pub tree : Tree
  pub there : tree_in S ≡ Some tree
  pub is : IsQuotient tree x y

module _ (sheets : List (List ℕ)) (home : ℕ) (ds es : List ℕ) (x y : ℚ) (h : IsNumeral 10 ds) (k : IsNumeral 10 es) (above : IsNumeralOf ds x) (below : IsNumeralOf es y) where
  plain_quotient : HasQuotient (record { text = 61 ∷ quotient_bytes ds es; home = home; sheets = sheets }) x y
  plain_quotient =
      let S : Setting = record { text = 61 ∷ quotient_bytes ds es; home = home; sheets = sheets } in
      let mark = symbol_of S.text (token kind.Mark 0 1) in
      let p = spelled S 1 ds es x y refl above below (s1 S 1 ds es x y refl above below ∷ []) _ (unsigned (left S 1 ds es x y refl above below)) in
      let ts = token kind.Mark 0 1 ∷ quotient_tokens 1 ds es in
      let cut = equals_begins 0 (quotient_bytes ds es) (quotient_tokens 1 ds es) (quotient_cut 1 ds es h k) in
      let stay : AllStay (symbols_of S.text ts) = (λ n. refl, plain_stay S 1 ds es x y refl above below) in
      record {
        tree = _;
        there = tree_there S 1 ds es x y refl above below ts _ cut stay (record { tokens = ts; cut = cut; spells = record { mark = mark ∷ []; behind = _; part = _; are = refl; marks = equals mark refl; spells = p; is = refl } }) refl;
        is = positive _ _ _;
      }

  minus_quotient : HasQuotient (record { text = 61 ∷ 45 ∷ quotient_bytes ds es; home = home; sheets = sheets }) (neg_ℚ x) y
  minus_quotient =
      let S : Setting = record { text = 61 ∷ 45 ∷ quotient_bytes ds es; home = home; sheets = sheets } in
      let mark = symbol_of S.text (token kind.Mark 0 1) in
      let minus = symbol_of S.text (token kind.Mark 1 1) in
      let p = spelled S 2 ds es x y refl above below (minus ∷ s1 S 2 ds es x y refl above below ∷ []) _ (signed minus Negative refl (unsigned (left S 2 ds es x y refl above below))) in
      let ts = token kind.Mark 0 1 ∷ token kind.Mark 1 1 ∷ quotient_tokens 2 ds es in
      let cut = equals_begins 0 (45 ∷ quotient_bytes ds es) (token kind.Mark 1 1 ∷ quotient_tokens 2 ds es) (minus_begins 1 (quotient_bytes ds es) (quotient_tokens 2 ds es) (quotient_cut 2 ds es h k)) in
      let stay : AllStay (symbols_of S.text ts) = (λ n. refl, (λ n. refl, plain_stay S 2 ds es x y refl above below)) in
      record {
        tree = _;
        there = tree_there S 2 ds es x y refl above below ts _ cut stay (record { tokens = ts; cut = cut; spells = record { mark = mark ∷ []; behind = _; part = _; are = refl; marks = equals mark refl; spells = p; is = refl } }) refl;
        is = negative _ _ _ _;
      }

-- the text of numerator and denominator has the quotient's tree
pub quotient_there : (sheets : List (List ℕ)) (home : ℕ) (z : ℤ) (d : ℕ) → unsigned_abs z < 2 ^ 127 → d < 2 ^ 127
    → HasQuotient (record { text = 61 ∷ (minus_text z ++ (decimal (unsigned_abs z) ++ (47 ∷ decimal d))); home = home; sheets = sheets }) (whole_ℚ z) (whole_ℚ (pos d))
quotient_there sheets home (pos n) d h k =
    plain_quotient sheets home (decimal n) (decimal d) _ _ (decimal_is_IsNumeral_wide n (below-64 n h)).0 (decimal_is_IsNumeral_wide d (below-64 d k)).0 (whole_numeral n h) (whole_numeral d k)
quotient_there sheets home (negsuc n) d h k =
    subst (λ v. HasQuotient (record { text = 61 ∷ 45 ∷ quotient_bytes (decimal (suc n)) (decimal d); home = home; sheets = sheets }) v (whole_ℚ (pos d))) (whole_neg n)
    (minus_quotient sheets home (decimal (suc n)) (decimal d) _ _ (decimal_is_IsNumeral_wide (suc n) (below-64 (suc n) h)).0 (decimal_is_IsNumeral_wide d (below-64 d k)).0 (whole_numeral (suc n) h) (whole_numeral d k))
