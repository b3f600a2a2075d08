-- The mark of a formula as it is read.
use Rattle.std.proofs.Common.{◌≡◌, ◌≢◌, ℕ, ◌≤◌, Bool, true, false, cond, List, [], ◌∷◌, ◌++◌, Some, None, refl, ap, ◌∙◌}
use Rattle.std.specs.Prelude.{◌&&◌, nat_eq, bytes_eq, codes}
use Rattle.std.proofs.lemmas.Bool.{eqb-true, eq-eqb}
use Rattle.std.proofs.lemmas.Slice.Eq.{bytes_eq-Decides}
use Rattle.formula_grammar.specs.declared.symbol.Sign.{Sign}
use Rattle.formula_grammar.specs.declared.symbol.Sign.TheVariants as sign
use Rattle.formula_grammar.specs.declared.symbol.Symbol.{Symbol}
use Rattle.formula_grammar.specs.Symbols.{Setting, bytes_of}
use Rattle.formula_grammar.specs.Parts.{Part}
use Rattle.formula_grammar.specs.Grammar.{Spells, Level}
use Rattle.formula_grammar.specs.Formula.{IsOf, SpellsMark, equals, forced, of_equals, of_forced}
use Rattle.formula_grammar.specs.LeafReading.{is_colon, is_word}
use Rattle.formula_grammar.specs.Depth.{most_open, opened}
use Rattle.formula_grammar.proofs.Signs.{room_after}
use Rattle.formula_grammar.proofs.Marks.{no_part}
use Rattle.formula_parser.specs.Answers.{behind_equals, behind_mark, is_equal, is_of}

equal_is : (g : Sign) → is_equal g ≡ true → g ≡ sign.Equal
equal_is sign.Equal e = refl
equal_is _ e = absurd cc

word_is : (g : Sign) → is_word g ≡ true → g ≡ sign.Word
word_is sign.Word e = refl
word_is _ e = absurd cc

colon_is : (g : Sign) → is_colon g ≡ true → g ≡ sign.Colon
colon_is sign.Colon e = refl
colon_is _ e = absurd cc

other_sign : (g : Sign) → g ≢ sign.Equal → is_equal g ≡ false
other_sign sign.Equal e = absurd (e refl)
other_sign _ e = refl

both : (b c : Bool) → (b && c) ≡ true → (b ≡ true) × (c ≡ true)
both true c h = (refl, h)
both false c h = absurd cc

-- the test of the word of and a colon
of_told : (S : Setting) (s t : Symbol) → is_of S s t ≡ true → IsOf S s t
of_told S s t h =
    let one = both (is_word s.sign) (is_colon t.sign && (nat_eq t.span.start s.span.end && bytes_eq (bytes_of S s) (codes "of"))) h in
    let two = both (is_colon t.sign) (nat_eq t.span.start s.span.end && bytes_eq (bytes_of S s) (codes "of")) one.1 in
    let three = both (nat_eq t.span.start s.span.end) (bytes_eq (bytes_of S s) (codes "of")) two.1 in
    record {
      word = word_is s.sign one.0;
      bytes = (bytes_eq-Decides (bytes_of S s) (codes "of")).0 three.1;
      colon = colon_is t.sign two.0;
      joined = eqb-true _ _ three.0;
    }

of_there : (S : Setting) (s t : Symbol) → IsOf S s t → is_of S s t ≡ true
of_there S s t h =
    let a : is_word s.sign ≡ true = ap is_word h.word in
    let b : is_colon t.sign ≡ true = ap is_colon h.colon in
    let c : nat_eq t.span.start s.span.end ≡ true = eq-eqb _ _ h.joined in
    let d : bytes_eq (bytes_of S s) (codes "of") ≡ true = (bytes_eq-Decides (bytes_of S s) (codes "of")).1 h.bytes in
    rw (a, b, c, d) refl

not_of : (S : Setting) (s t : Symbol) → s.sign ≡ sign.Equal → is_of S s t ≡ false
not_of S s t h = ap (λ g. is_word g && (is_colon t.sign && (nat_eq t.span.start s.span.end && bytes_eq (bytes_of S s) (codes "of")))) h

-- ---- what is read is spelled so

-- symbols are one equals sign, or two, and what stands behind
data EqualsRead (ss b : List Symbol) : Type 0 where
  one : (u : Symbol) → u.sign ≡ sign.Equal → ss ≡ u ∷ b → EqualsRead ss b
  two : (u v : Symbol) → u.sign ≡ sign.Equal → v.sign ≡ sign.Equal → ss ≡ u ∷ v ∷ b → EqualsRead ss b

equals_read : (ss b : List Symbol) → behind_equals ss ≡ Some b → EqualsRead ss b
equals_read [] b e = absurd cc
equals_read (s ∷ []) b e = by (is_equal s.sign) refl e
  where
    by : (t : Bool) → is_equal s.sign ≡ t → cond t (Some []) None ≡ Some b → EqualsRead (s ∷ []) b
    by true is h = let k : [] ≡ b = cc in one s (equal_is s.sign is) (ap (λ c. s ∷ c) k)
    by false is h = absurd cc
equals_read (s ∷ t ∷ ss) b e = by (is_equal s.sign) (is_equal t.sign) refl refl e
  where
    by : (c d : Bool) → is_equal s.sign ≡ c → is_equal t.sign ≡ d → cond c (cond d (Some ss) (Some (t ∷ ss))) None ≡ Some b → EqualsRead (s ∷ t ∷ ss) b
    by true true is is' h = let k : ss ≡ b = cc in two s t (equal_is s.sign is) (equal_is t.sign is') (ap (λ c. s ∷ t ∷ c) k)
    by true false is is' h = let k : t ∷ ss ≡ b = cc in one s (equal_is s.sign is) (ap (λ c. s ∷ c) k)
    by false d is is' h = absurd cc

-- symbols are a mark and what stands behind it
pub record MarkRead (S : Setting) (ss b : List Symbol) : Type 0 where
  pub mark : List Symbol
  pub marks : SpellsMark S mark
  pub are : ss ≡ mark ++ b

plain_mark : (S : Setting) (ss b : List Symbol) → EqualsRead ss b → MarkRead S ss b
plain_mark S ss b (one u is are) = record { mark = u ∷ []; marks = equals u is; are = are }
plain_mark S ss b (two u v is is' are) = record { mark = u ∷ v ∷ []; marks = forced u v is is'; are = are }

mark_with_of : (S : Setting) (s t : Symbol) (ss b : List Symbol) → IsOf S s t → EqualsRead ss b → MarkRead S (s ∷ t ∷ ss) b
mark_with_of S s t ss b h (one u is are) = record { mark = s ∷ t ∷ u ∷ []; marks = of_equals s t u h is; are = ap (λ c. s ∷ t ∷ c) are }
mark_with_of S s t ss b h (two u v is is' are) = record { mark = s ∷ t ∷ u ∷ v ∷ []; marks = of_forced s t u v h is is'; are = ap (λ c. s ∷ t ∷ c) are }

-- what is read is a mark and what stands behind it
pub mark_read : (S : Setting) (ss b : List Symbol) → behind_mark S ss ≡ Some b → MarkRead S ss b
mark_read S [] b e = absurd cc
mark_read S (s ∷ []) b e = plain_mark S (s ∷ []) b (equals_read (s ∷ []) b e)
mark_read S (s ∷ t ∷ ss) b e = by (is_of S s t) refl e
  where
    by : (c : Bool) → is_of S s t ≡ c → cond c (behind_equals ss) (behind_equals (s ∷ t ∷ ss)) ≡ Some b → MarkRead S (s ∷ t ∷ ss) b
    by true is h = mark_with_of S s t ss b (of_told S s t is) (equals_read ss b h)
    by false is h = plain_mark S (s ∷ t ∷ ss) b (equals_read (s ∷ t ∷ ss) b h)

-- ---- what is spelled is read

one_there : (u : Symbol) (b : List Symbol) → u.sign ≡ sign.Equal → ((v : Symbol) (c : List Symbol) → b ≡ v ∷ c → v.sign ≡ sign.Equal → ⊥) → behind_equals (u ∷ b) ≡ Some b
one_there u [] is none = ap (λ t. cond t (Some []) None) (ap is_equal is)
one_there u (v ∷ c) is none =
    ap (λ t. cond t (cond (is_equal v.sign) (Some c) (Some (v ∷ c))) None) (ap is_equal is) ∙ ap (λ t. cond t (Some c) (Some (v ∷ c))) (other_sign v.sign (none v c refl))

two_there : (u v : Symbol) (b : List Symbol) → u.sign ≡ sign.Equal → v.sign ≡ sign.Equal → behind_equals (u ∷ v ∷ b) ≡ Some b
two_there u v b is is' = ap (λ t. cond t (cond (is_equal v.sign) (Some b) (Some (v ∷ b))) None) (ap is_equal is) ∙ ap (λ t. cond t (Some b) (Some (v ∷ b))) (ap is_equal is')

mark_plain : (S : Setting) (u : Symbol) (b : List Symbol) → u.sign ≡ sign.Equal → behind_mark S (u ∷ b) ≡ behind_equals (u ∷ b)
mark_plain S u [] is = refl
mark_plain S u (v ∷ b) is = ap (λ c. cond c (behind_equals b) (behind_equals (u ∷ v ∷ b))) (not_of S u v is)

mark_of : (S : Setting) (s t : Symbol) (b : List Symbol) → IsOf S s t → behind_mark S (s ∷ t ∷ b) ≡ behind_equals b
mark_of S s t b h = ap (λ c. cond c (behind_equals b) (behind_equals (s ∷ t ∷ b))) (of_there S s t h)

-- a mark before what is spelled is read
pub mark_there : {S : Setting} {m b : List Symbol} {x : Part} → SpellsMark S m → Spells S (Level 5) b x → behind_mark S (m ++ b) ≡ Some b
mark_there {S = S} {b = b} (equals u is) p = mark_plain S u b is ∙ one_there u b is (no_part p)
mark_there {S = S} {b = b} (forced u v is is') p = mark_plain S u (v ∷ b) is ∙ two_there u v b is is'
mark_there {S = S} {b = b} (of_equals s t u h is) p = mark_of S s t (u ∷ b) h ∙ one_there u b is (no_part p)
mark_there {S = S} {b = b} (of_forced s t u v h is is') p = mark_of S s t (u ∷ v ∷ b) h ∙ two_there u v b is is'

-- ---- room

kept : (n limit : ℕ) (s : Symbol) (ss : List Symbol) (g : Sign) → s.sign ≡ g → opened g n ≡ n → most_open n (s ∷ ss) ≤ limit → most_open n ss ≤ limit
kept n limit s ss g is same h = room_after n limit s ss n (ap (λ k. opened k n) is ∙ same) h

-- a mark opens no bracket
pub mark_room : {S : Setting} {m : List Symbol} (n limit : ℕ) (b : List Symbol) → SpellsMark S m → most_open n (m ++ b) ≤ limit → most_open n b ≤ limit
mark_room n limit b (equals u is) h = kept n limit u b sign.Equal is refl h
mark_room n limit b (forced u v is is') h = kept n limit v b sign.Equal is' refl (kept n limit u (v ∷ b) sign.Equal is refl h)
mark_room n limit b (of_equals s t u k is) h = kept n limit u b sign.Equal is refl (kept n limit t (u ∷ b) sign.Colon k.colon refl (kept n limit s (t ∷ u ∷ b) sign.Word k.word refl h))
mark_room n limit b (of_forced s t u v k is is') h =
    kept n limit v b sign.Equal is' refl (kept n limit u (v ∷ b) sign.Equal is refl (kept n limit t (u ∷ v ∷ b) sign.Colon k.colon refl (kept n limit s (t ∷ u ∷ v ∷ b) sign.Word k.word refl h)))
