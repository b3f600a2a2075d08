-- Items that are read of one symbol or two.
use Rattle.std.proofs.Common.{◌≡◌, ◌≤◌, ◌-◌, Bool, false, cond, List, [], ◌∷◌, length, take, drop, get_or, Option, Some, None, refl, sym, ap, subst, ◌∙◌, arith}
use Rattle.std.proofs.lemmas.Grind.{common_steps}
use Rattle.std.specs.Option.{option_map, option_and_then}
use Rattle.cell_refs.specs.declared.span.Span.{Span}
use Rattle.frac128.specs.Numeral.{Numeral}
use Rattle.frac128.specs.NumeralReading.{reading}
use Rattle.formula_ast.specs.Tree.{Tree, Logical}
use Rattle.formula_grammar.specs.declared.symbol.Sign.{Sign}
use Rattle.formula_grammar.specs.declared.symbol.Sign.TheVariants as sign
use Rattle.formula_grammar.specs.declared.symbol.Symbol.{Symbol}
use Rattle.formula_grammar.specs.Symbols.{Setting, bytes_of, from_to}
use Rattle.formula_grammar.specs.Words.{logical_word, negative_tree, number_tree}
use Rattle.formula_grammar.specs.LeafReading.{is_number, item_at, item_by, one_at, signed_by, signed_number_at}
use Rattle.formula_parser.specs.declared.stop.Stop.{Stop}
use Rattle.formula_parser.specs.declared.stop.Stop.TheVariants as stops
use Rattle.formula_parser.specs.Given.{Fails}
use Rattle.formula_parser.specs.Leaves.{constant_by, constant_in, is_negative, item_found, item_of, signed_number}

-- the first symbol, and the others
pub first_others : (ss : List Symbol) (d : Symbol) → 1 ≤ length ss → ss ≡ get_or ss 0 d ∷ take (length ss - 1) (drop 1 ss)
first_others [] d h = absurd (omega arith)
first_others (s ∷ ss) d h = ap (λ r. s ∷ r) (grind (arith, common_steps))

-- an item before the rest
abbrev pub before : List Symbol → Option (Option Tree) → Option (Option Tree × List Symbol)
before rest o = option_map (λ x. (x, rest)) o

-- an item that fails
pub before_fails : (e : Stop) (rest : List Symbol) (o : Option (Option Tree)) → Fails e o → Fails e (before rest o)
before_fails stops.Memory rest o h = tt
before_fails stops.Syntax rest o h = ap (before rest) h

-- a constant before the rest
abbrev pub whole_before : List Symbol → Option Tree → Option (Option Tree × List Symbol)
whole_before rest o = option_map (λ t. (Some t, rest)) o

-- the number that a numeral makes, before the rest
made_before : (rest : List Symbol) (make : Numeral → Tree) (o : Option Numeral) → item_found (option_and_then (λ n. Some (make n, rest)) o) ≡ before rest (option_map (λ n. item_of (make n)) o)
made_before rest make None = refl
made_before rest make (Some n) = refl

module _ (S : Setting) where
  -- a number behind its sign
  pub signed_is : (s t : Symbol) (ss rest : List Symbol) → ss ≡ t ∷ rest → t.sign ≡ sign.Number
      → item_found (signed_number_at S s ss) ≡ before rest (option_map (λ n. item_of (signed_number (is_negative s.sign) (from_to s.span t.span) n)) (reading (bytes_of S t)))
  unfolding signed_number_at one_at
  signed_is s t ss rest is h =
      ap (λ ss. item_found (signed_number_at S s ss)) is
      ∙ ap (λ b. item_found (option_and_then (λ (t : Symbol × List Symbol). signed_by S s.sign (from_to s.span t.0.span) t.0 t.1) (cond b (Some (t, rest)) None))) (ap is_number h)
      ∙ by_sign s.sign
    where
      by_sign : (g : Sign) → item_found (signed_by S g (from_to s.span t.span) t rest) ≡ before rest (option_map (λ n. item_of (signed_number (is_negative g) (from_to s.span t.span) n)) (reading (bytes_of S t)))
      by_sign sign.Plus = made_before rest (number_tree (from_to s.span t.span)) (reading (bytes_of S t))
      by_sign _ = made_before rest (negative_tree (from_to s.span t.span)) (reading (bytes_of S t))

  -- a number without a sign
  pub number_is : (s : Symbol) (ss rest : List Symbol) → ss ≡ s ∷ rest → s.sign ≡ sign.Number
      → item_found (item_at S ss) ≡ before rest (option_map (λ n. item_of (signed_number false s.span n)) (reading (bytes_of S s)))
  unfolding item_at
  number_is s ss rest is h =
      ap (λ ss. item_found (item_at S ss)) is ∙ ap (λ g. item_found (item_by S g s rest)) h ∙ made_before rest (number_tree s.span) (reading (bytes_of S s))

  -- another item
  pub constant_is : (s : Symbol) (ss rest : List Symbol) → ss ≡ s ∷ rest → (s.sign ≡ sign.Number → ⊥) → (s.sign ≡ sign.Plus → ⊥) → (s.sign ≡ sign.Minus → ⊥)
      → item_found (item_at S ss) ≡ whole_before rest (constant_in S s)
  unfolding item_at
  constant_is s ss rest is = λ a b c. ap (λ ss. item_found (item_at S ss)) is ∙ by_sign s.sign a b c
    where
      logical_case : (o : Option Bool) → item_found (option_and_then (λ b. Some (Logical s.span b, rest)) o) ≡ whole_before rest (option_map (Logical s.span) o)
      logical_case None = refl
      logical_case (Some b) = refl

      by_sign : (g : Sign) → (g ≡ sign.Number → ⊥) → (g ≡ sign.Plus → ⊥) → (g ≡ sign.Minus → ⊥) → item_found (item_by S g s rest) ≡ whole_before rest (constant_by S s g)
      by_sign sign.Number a b c = absurd (a refl)
      by_sign sign.Plus a b c = absurd (b refl)
      by_sign sign.Minus a b c = absurd (c refl)
      by_sign sign.Text a b c = refl
      by_sign sign.Word a b c = logical_case (logical_word (bytes_of S s))
      by_sign _ a b c = refl

  -- what is kept of a number behind its sign
  module _ (s t : Symbol) (ss rest : List Symbol) (is : ss ≡ t ∷ rest) (h : t.sign ≡ sign.Number) (turned : Bool) (turns : turned ≡ is_negative s.sign) (at : Span) (place : at ≡ from_to s.span t.span) where
    -- the numeral is the same
    same_numeral : option_map (λ n. item_of (signed_number turned at n)) (reading (bytes_of S t)) ≡ option_map (λ n. item_of (signed_number (is_negative s.sign) (from_to s.span t.span) n)) (reading (bytes_of S t))
    same_numeral =
        ap (λ b. option_map (λ n. item_of (signed_number b at n)) (reading (bytes_of S t))) turns
        ∙ ap (λ p. option_map (λ n. item_of (signed_number (is_negative s.sign) p n)) (reading (bytes_of S t))) place

    -- it is kept
    pub signed_found : (o : Option Tree) → option_map (λ n. item_of (signed_number turned at n)) (reading (bytes_of S t)) ≡ Some o → item_found (signed_number_at S s ss) ≡ Some (o, rest)
    signed_found o e = signed_is s t ss rest is h ∙ ap (before rest) (sym same_numeral ∙ e)

    -- it fails
    pub signed_fails : (e : Stop) → Fails e (option_map (λ n. item_of (signed_number turned at n)) (reading (bytes_of S t))) → Fails e (item_found (signed_number_at S s ss))
    signed_fails e k = subst (Fails e) (ap (before rest) same_numeral ∙ sym (signed_is s t ss rest is h)) (before_fails e rest (option_map (λ n. item_of (signed_number turned at n)) (reading (bytes_of S t))) k)
