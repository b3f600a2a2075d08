-- The mark of a formula is the only one before what stands behind it.
use Rattle.std.proofs.Common.{◌≡◌, ◌≢◌, List, [], ◌∷◌, ◌++◌, Some, refl, sym, ap, subst, ◌∙◌}
use Rattle.formula_ast.specs.Tree.{Tree}
use Rattle.formula_grammar.specs.declared.symbol.Sign.{Sign}
use Rattle.formula_grammar.specs.declared.symbol.Sign.TheVariants as sign
use Rattle.formula_grammar.specs.declared.symbol.Symbol.{Symbol}
use Rattle.formula_grammar.specs.Symbols.{Setting}
use Rattle.formula_grammar.specs.Parts.{Part, Prefix, prefix_of}
use Rattle.formula_grammar.specs.Grammar.{Kind, Level, Spells, alone, infixed, whole, percent, unsigned, signed, leaf, parens, no_args, call}
use Rattle.formula_grammar.specs.Formula.{SpellsFormula, SpellsMark, equals, forced, of_equals, of_forced}
use Rattle.formula_grammar.proofs.LeafBegins.{leaf_begins}
use Rattle.formula_grammar.proofs.Whole.{one}

-- how a part begins: not with an equals sign
pub record Starts (a : List Symbol) : Type 0 where
  pub front : Symbol
  pub behind : List Symbol
  pub is : a ≡ front ∷ behind
  pub no_equal : front.sign ≢ sign.Equal

other_than : (g h : Sign) → g ≡ h → h ≢ sign.Equal → g ≢ sign.Equal
other_than g h e k = subst (λ s. s ≢ sign.Equal) (sym e) k

word_differs : (g : Sign) → g ≡ sign.Word → g ≢ sign.Equal
word_differs g e = other_than g sign.Word e (λ k. cc k)

prefix_differs : (g : Sign) (prefix : Prefix) → prefix_of g ≡ Some prefix → g ≢ sign.Equal
prefix_differs sign.Plus prefix e = λ k. cc k
prefix_differs sign.Minus prefix e = λ k. cc k
prefix_differs _ prefix e = absurd cc

longer : {a : List Symbol} → Starts a → (b : List Symbol) → Starts (a ++ b)
longer r b = record { front = r.front; behind = r.behind ++ b; is = ap (λ c. c ++ b) r.is; no_equal = r.no_equal }

pub starts : {S : Setting} {k : Kind} {a : List Symbol} {x : Part} → Spells S k a x → Starts a
starts (alone p) = starts p
starts (infixed {b = b} s op is level p q) = longer (starts p) (s ∷ b)
starts (whole p) = starts p
starts (percent s is p) = longer (starts p) (s ∷ [])
starts (unsigned p) = starts p
starts (signed {a = a} s prefix is p) = record { front = s; behind = a; is = refl; no_equal = prefix_differs s.sign prefix is }
starts (leaf p) = let b = leaf_begins p in record { front = b.front; behind = b.behind; is = b.is; no_equal = b.begins.no_equal }
starts (parens {a = a} s t left right p) = record { front = s; behind = a ++ t ∷ []; is = refl; no_equal = other_than s.sign sign.Open left (λ k. cc k) }
starts (no_args s t u word_s left right) = record { front = s; behind = t ∷ u ∷ []; is = refl; no_equal = word_differs s.sign word_s }
starts (call {a = a} s t u word_s left right some p) = record { front = s; behind = t ∷ (a ++ u ∷ []); is = refl; no_equal = word_differs s.sign word_s }

-- no part begins with an equals sign
pub no_part : {S : Setting} {k : Kind} {a : List Symbol} {x : Part} → Spells S k a x → (v : Symbol) (b : List Symbol) → a ≡ v ∷ b → v.sign ≡ sign.Equal → ⊥
no_part p v b e is = let r = starts p in let same : r.front ≡ v = cc (sym r.is ∙ e) in r.no_equal (ap (λ (s : Symbol). s.sign) same ∙ is)

head_is : (s t : Symbol) (a b : List Symbol) → s ∷ a ≡ t ∷ b → s ≡ t
head_is s t a b e = cc e

tail_is : (s t : Symbol) (a b : List Symbol) → s ∷ a ≡ t ∷ b → a ≡ b
tail_is s t a b e = cc e

clash : (s t : Symbol) (a b : List Symbol) → s ∷ a ≡ t ∷ b → s.sign ≡ sign.Equal → t.sign ≡ sign.Word → ⊥
clash s t a b e is word = let k : sign.Equal ≡ sign.Word = sym is ∙ ap (λ (u : Symbol). u.sign) (head_is s t a b e) ∙ word in cc k

module _ {S : Setting} {a b : List Symbol} {x y : Part} (p : Spells S (Level 5) a x) (q : Spells S (Level 5) b y) where
  -- what stands behind an equals sign, or behind two
  same_equals : (u v : Symbol) → v.sign ≡ sign.Equal → (s : Symbol) → s ∷ a ≡ u ∷ v ∷ b → ⊥
  same_equals u v is s e = no_part p v b (tail_is s u a (v ∷ b) e) is

  same_equals' : (u v : Symbol) → v.sign ≡ sign.Equal → (s : Symbol) → u ∷ v ∷ a ≡ s ∷ b → ⊥
  same_equals' u v is s e = no_part q v a (sym (tail_is u s (v ∷ a) b e)) is

  behind_is : (m n : List Symbol) → SpellsMark S m → SpellsMark S n → m ++ a ≡ n ++ b → a ≡ b
  behind_is m n (equals u is) (equals s is') e = tail_is u s a b e
  behind_is m n (equals u is) (forced s t is' is'') e = absurd (same_equals s t is'' u e)
  behind_is m n (equals u is) (of_equals s t v word_s is') e = absurd (clash u s a (t ∷ v ∷ b) e is word_s.word)
  behind_is m n (equals u is) (of_forced s t v w word_s is' is'') e = absurd (clash u s a (t ∷ v ∷ w ∷ b) e is word_s.word)
  behind_is m n (forced u v is is₂) (equals s is') e = absurd (same_equals' u v is₂ s e)
  behind_is m n (forced u v is is₂) (forced s t is' is'') e = tail_is v t a b (tail_is u s (v ∷ a) (t ∷ b) e)
  behind_is m n (forced u v is is₂) (of_equals s t w word_s is') e = absurd (clash u s (v ∷ a) (t ∷ w ∷ b) e is word_s.word)
  behind_is m n (forced u v is is₂) (of_forced s t w z word_s is' is'') e = absurd (clash u s (v ∷ a) (t ∷ w ∷ z ∷ b) e is word_s.word)
  behind_is m n (of_equals u v w word_u is) (equals s is') e = absurd (clash s u b (v ∷ w ∷ a) (sym e) is' word_u.word)
  behind_is m n (of_equals u v w word_u is) (forced s t is' is'') e = absurd (clash s u (t ∷ b) (v ∷ w ∷ a) (sym e) is' word_u.word)
  behind_is m n (of_equals u v w word_u is) (of_equals s t z word_s is') e = tail_is w z a b (tail_is v t (w ∷ a) (z ∷ b) (tail_is u s (v ∷ w ∷ a) (t ∷ z ∷ b) e))
  behind_is m n (of_equals u v w word_u is) (of_forced s t z k word_s is' is'') e = absurd (same_equals z k is'' w (tail_is v t (w ∷ a) (z ∷ k ∷ b) (tail_is u s (v ∷ w ∷ a) (t ∷ z ∷ k ∷ b) e)))
  behind_is m n (of_forced u v w z word_u is is₂) (equals s is') e = absurd (clash s u b (v ∷ w ∷ z ∷ a) (sym e) is' word_u.word)
  behind_is m n (of_forced u v w z word_u is is₂) (forced s t is' is'') e = absurd (clash s u (t ∷ b) (v ∷ w ∷ z ∷ a) (sym e) is' word_u.word)
  behind_is m n (of_forced u v w z word_u is is₂) (of_equals s t k word_s is') e = absurd (same_equals' w z is₂ k (tail_is v t (w ∷ z ∷ a) (k ∷ b) (tail_is u s (v ∷ w ∷ z ∷ a) (t ∷ k ∷ b) e)))
  behind_is m n (of_forced u v w z word_u is is₂) (of_forced s t k j word_s is' is'') e =
      tail_is z j a b (tail_is w k (z ∷ a) (j ∷ b) (tail_is v t (w ∷ z ∷ a) (k ∷ j ∷ b) (tail_is u s (v ∷ w ∷ z ∷ a) (t ∷ k ∷ j ∷ b) e)))

-- no symbols spell two trees
pub one_tree : (S : Setting) (symbols : List Symbol) (x y : Tree) → SpellsFormula S symbols x → SpellsFormula S symbols y → x ≡ y
one_tree S symbols x y f g =
    let same = behind_is f.spells g.spells f.mark g.mark f.marks g.marks (sym f.are ∙ g.are) in
    one S g.behind x y (record { part = f.part; is = f.is; spells = subst (λ c. Spells S (Level 5) c f.part) same f.spells }) (record { part = g.part; is = g.is; spells = g.spells })
