-- What is read is spelled so.
use Rattle.std.proofs.Common.{◌≡◌, ◌≢◌, ℕ, zero, suc, Bool, true, false, cond, List, [], ◌∷◌, ◌++◌, Option, Some, None, refl, sym, ap, subst, ◌∙◌, eqb, append_assoc}
use Rattle.std.specs.Option.{option_map_or, option_and_then}
use Rattle.std.specs.Prelude.{map}
use Rattle.std.proofs.lemmas.List.{map_push}
use Rattle.std.proofs.lemmas.Bool.{eqb-true}
use Rattle.cell_refs.specs.declared.op.Op.{Op}
use Rattle.formula_ast.specs.Tree.{Tree, Missing}
use Rattle.formula_grammar.specs.declared.symbol.Sign.{Sign}
use Rattle.formula_grammar.specs.declared.symbol.Sign.TheVariants as sign
use Rattle.formula_grammar.specs.declared.symbol.Symbol.{Symbol}
use Rattle.formula_grammar.specs.Parts.{Part, operator_of, level_of, prefix_of, is_percent, is_separator, is_close, joined, prefixed, in_hundredths, enclosed, called, Prefix}
use Rattle.formula_grammar.specs.Parts.{leaf as part_of_leaf}
use Rattle.formula_grammar.specs.Symbols.{Setting, at_byte}
use Rattle.formula_grammar.specs.LeafReading.{leaf_at}
use Rattle.formula_grammar.specs.Grammar.{Kind, Level, Signed, Primary, Spells, alone, infixed, whole, percent, unsigned, signed, leaf, parens, no_args, call, SpellsArgs, first, next, SpellsArg, missing as missing_arg, given as given_arg}
use Rattle.formula_grammar.specs.Making.{Making, Shows}
use Rattle.formula_grammar.specs.Loops.{Found, Reader, Turn, Stop, Go, go_on}
use Rattle.formula_grammar.specs.Reading.{at_level, operator_at, infix_turn, level_at, percent_turn, signed_at, hundredths_at, close_at, ends_arg, arg_at, arg_turn, args_at, starts_close, call_at, leaf_of, word_by, word_at, parens_at, primary_by, primary_at, formula_at}
use Rattle.formula_grammar.proofs.LeafSound.{leaf_spelled}
use Rattle.formula_grammar.proofs.Turns.{bind_some, some_is, Reads, Sound, KeepsTurn, loop_sound}

-- what a turn that goes on has read
pub go_on_is : {A B : Type 0} (f : A → B) (o : Found A) (y : B) (rest : List Symbol) → go_on f o ≡ Go y rest → (x : A) × (o ≡ Some (x, rest)) × (f x ≡ y)
go_on_is f None y rest e = absurd cc
go_on_is f (Some x) y rest e = (x.0, ap (λ (r : List Symbol). Some (x.0, r)) (cc), cc)

guarded : {A : Type 0} (b : Bool) (x y : A) → cond b (Some x) None ≡ Some y → (b ≡ true) × (x ≡ y)
guarded true x y e = (refl, cc)
guarded false x y e = absurd cc

pub operator_is : (level : ℕ) (s : Symbol) (op : Op) → operator_at level s ≡ Some op → (operator_of s.sign ≡ Some op) × (level_of op ≡ level)
operator_is level s op e =
    let b = bind_some (operator_of s.sign) (at_level level) op e in
    let h = guarded (eqb (level_of b.0) level) b.0 op b.2 in
    (b.1 ∙ ap Some h.1, subst (λ o. level_of o ≡ level) h.1 (eqb-true _ _ h.0))

goes : {A : Type 0} (b : Bool) (t : Turn A) (y : A) (rest : List Symbol) → cond b t Stop ≡ Go y rest → (b ≡ true) × (t ≡ Go y rest)
goes true t y rest e = (refl, e)
goes false t y rest e = absurd cc

go_is : {A : Type 0} (x y : A) (ss rest : List Symbol) → Go x ss ≡ Go y rest → (x ≡ y) × (ss ≡ rest)
go_is x y ss rest e = (cc, cc)

pub closes : (g : Sign) → is_close g ≡ true → g ≡ sign.Close
closes sign.Close e = refl
closes _ e = absurd cc

-- a closing parenthesis was taken
pub close_is : (ss : List Symbol) (found : Symbol × List Symbol) → close_at ss ≡ Some found → (ss ≡ found.0 ∷ found.1) × (found.0.sign ≡ sign.Close)
unfolding close_at
close_is [] found e = absurd cc
close_is (s ∷ ss) found e =
    let g = guarded (is_close s.sign) (s, ss) found e in
    (ap (λ (f : Symbol × List Symbol). f.0 ∷ f.1) g.1, subst (λ (f : Symbol × List Symbol). f.0.sign ≡ sign.Close) g.1 (closes s.sign g.0))

module _ (S : Setting) (M : Making) (W : Shows S M) where
  infix_goes : (o : Option Op) (found : Found M.Made) (x y : M.Made) (rest : List Symbol) → option_map_or (λ op. go_on (M.joined op x) found) o Stop ≡ Go y rest
      → (op : Op) × (o ≡ Some op) × (r : M.Made) × (found ≡ Some (r, rest)) × (M.joined op x r ≡ y)
  infix_goes None found x y rest e = absurd cc
  infix_goes (Some op) found x y rest e = let g = go_on_is (M.joined op x) found y rest e in (op, refl, g.0, g.1, g.2)

  -- what is made shows a part that is spelled
  pub record Spelled (k : Kind) (a : List Symbol) (p : M.Made) : Type 0 where
    pub part : Part
    pub spells : Spells S k a part
    pub is : W.show part ≡ p

  pub record SpelledArg (before : ℕ) (a : List Symbol) (p : M.Arg) : Type 0 where
    pub tree : Tree
    pub spells : SpellsArg S before a tree
    pub is : W.show_arg tree ≡ p

  pub record SpelledArgs (before : ℕ) (a : List Symbol) (ps : List M.Arg) : Type 0 where
    pub trees : List Tree
    pub spells : SpellsArgs S before a trees
    pub is : map W.show_arg trees ≡ ps

  infix_keeps : (operand : Reader M.Made) (n : ℕ) → Sound (Spelled (Level n)) operand → KeepsTurn (Spelled (Level (suc n))) (infix_turn M operand (suc n))
  infix_keeps operand n sound a x [] y rest p e = absurd cc
  infix_keeps operand n sound a x (s ∷ ss) y rest p e =
      let g = infix_goes (operator_at (suc n) s) (operand ss) x y rest e in
      let o = operator_is (suc n) s g.0 g.1 in
      let r = sound ss (g.2, rest) g.3 in
      let q = r.spells in
      record {
        used = s ∷ r.used;
        parts = ap (λ b. s ∷ b) r.parts;
        spells = record {
          part = joined g.0 p.part q.part;
          spells = infixed s g.0 o.0 o.1 p.spells q.spells;
          is = W.joined g.0 p.part q.part ∙ ap (λ z. M.joined g.0 z (W.show q.part)) p.is ∙ ap (M.joined g.0 x) q.is ∙ g.4;
        };
      }

  pub level_sound : (base : Reader M.Made) → Sound (Spelled (Level zero)) base → (n : ℕ) → Sound (Spelled (Level n)) (level_at M base n)
  unfolding level_at
  level_sound base sound zero = sound
  level_sound base sound (suc n) =
      loop_sound (Spelled (Level n)) (Spelled (Level (suc n))) (level_at M base n) (λ x. x) (infix_turn M (level_at M base n) (suc n)) (level_sound base sound n)
      (λ a x p. record { part = p.part; spells = alone p.spells; is = p.is }) (infix_keeps (level_at M base n) n (level_sound base sound n))

  -- ---- percent and prefix signs

  signed_case : (primary : Reader M.Made) → Sound (Spelled Primary) primary → (s : Symbol) (ss : List Symbol) (o : Option Prefix) → prefix_of s.sign ≡ o
      → ((f : M.Made × List Symbol) → signed_at M primary ss ≡ Some f → Reads (Spelled Signed) ss f)
      → (found : M.Made × List Symbol) → option_map_or (λ prefix. option_and_then (λ (x : M.Made × List Symbol). Some (M.prefixed prefix s x.0, x.1)) (signed_at M primary ss)) o (primary (s ∷ ss)) ≡ Some found
      → Reads (Spelled Signed) (s ∷ ss) found
  signed_case primary sound s ss None is ih found e =
      let r = sound (s ∷ ss) found e in
      let q = r.spells in
      record { used = r.used; parts = r.parts; spells = record { part = q.part; spells = unsigned q.spells; is = q.is } }
  signed_case primary sound s ss (Some prefix) is ih found e =
      let b = bind_some (signed_at M primary ss) (λ x. Some (M.prefixed prefix s x.0, x.1)) found e in
      let r = ih b.0 b.1 in
      let q = r.spells in
      subst (Reads (Spelled Signed) (s ∷ ss)) (some_is (M.prefixed prefix s b.0.0, b.0.1) found b.2)
      (record {
        used = s ∷ r.used;
        parts = ap (λ a. s ∷ a) r.parts;
        spells = record { part = prefixed prefix s q.part; spells = signed s prefix is q.spells; is = W.prefixed prefix s q.part ∙ ap (M.prefixed prefix s) q.is };
      })

  signed_sound : (primary : Reader M.Made) → Sound (Spelled Primary) primary → Sound (Spelled Signed) (signed_at M primary)
  unfolding signed_at
  signed_sound primary sound [] found e = absurd cc
  signed_sound primary sound (s ∷ ss) found e = signed_case primary sound s ss (prefix_of s.sign) refl (signed_sound primary sound ss) found e

  percent_keeps : KeepsTurn (Spelled (Level zero)) (percent_turn M)
  percent_keeps a x [] y rest p e = absurd cc
  percent_keeps a x (s ∷ ss) y rest p e =
      let g = goes (is_percent s.sign) (Go (M.in_hundredths x s) ss) y rest e in
      let h = go_is (M.in_hundredths x s) y ss rest g.1 in
      record {
        used = s ∷ [];
        parts = ap (λ r. s ∷ r) h.1;
        spells = record { part = in_hundredths p.part s; spells = percent s g.0 p.spells; is = W.in_hundredths p.part s ∙ ap (λ z. M.in_hundredths z s) p.is ∙ h.0 };
      }

  pub hundredths_sound : (primary : Reader M.Made) → Sound (Spelled Primary) primary → Sound (Spelled (Level zero)) (hundredths_at M primary)
  unfolding hundredths_at
  hundredths_sound primary sound =
      loop_sound (Spelled Signed) (Spelled (Level zero)) (signed_at M primary) (λ x. x) (percent_turn M) (signed_sound primary sound) (λ a x p. record { part = p.part; spells = whole p.spells; is = p.is }) percent_keeps

  -- ---- arguments

  module _ (inner : Reader M.Made) (sound : Sound (Spelled (Level 5)) inner) where
    arg_case : (before : ℕ) (ss : List Symbol) (found : M.Arg × List Symbol) (b : Bool)
        → cond b (Some (M.missing before, ss)) (option_and_then (λ (x : M.Made × List Symbol). Some (M.given x.0, x.1)) (inner ss)) ≡ Some found → Reads (SpelledArg before) ss found
    arg_case before ss found true e = subst (Reads (SpelledArg before) ss) (some_is (M.missing before, ss) found e) (record { used = []; parts = refl; spells = record { tree = Missing (at_byte before); spells = missing_arg; is = W.missing before } })
    arg_case before ss found false e =
        let b = bind_some (inner ss) (λ x. Some (M.given x.0, x.1)) found e in
        let r = sound ss b.0 b.1 in
        let q = r.spells in
        subst (Reads (SpelledArg before) ss) (some_is (M.given b.0.0, b.0.1) found b.2)
        (record { used = r.used; parts = r.parts; spells = record { tree = q.part.tree; spells = given_arg q.spells; is = W.given q.part ∙ ap M.given q.is } })

    pub arg_sound : (before : ℕ) → Sound (SpelledArg before) (arg_at M inner before)
    unfolding arg_at
    arg_sound before ss found e = arg_case before ss found (ends_arg ss) e

    arg_keeps : (before : ℕ) → KeepsTurn (SpelledArgs before) (arg_turn M inner)
    arg_keeps before a xs [] ys rest p e = absurd cc
    arg_keeps before a xs (s ∷ ss) ys rest p e =
        let g = goes (is_separator s.sign) (go_on (λ x. xs ++ x ∷ []) (arg_at M inner s.span.end ss)) ys rest e in
        let h = go_on_is (λ x. xs ++ x ∷ []) (arg_at M inner s.span.end ss) ys rest g.1 in
        let r = arg_sound s.span.end ss (h.0, rest) h.1 in
        let q = r.spells in
        record {
          used = s ∷ r.used;
          parts = ap (λ b. s ∷ b) r.parts;
          spells = record { trees = p.trees ++ q.tree ∷ []; spells = next s g.0 p.spells q.spells; is = map_push W.show_arg p.trees q.tree ∙ ap (λ z. z ++ W.show_arg q.tree ∷ []) p.is ∙ ap (λ z. xs ++ z ∷ []) q.is ∙ h.2 };
        }

    args_sound : (before : ℕ) → Sound (SpelledArgs before) (args_at M inner before)
    unfolding args_at
    args_sound before = loop_sound (SpelledArg before) (SpelledArgs before) (arg_at M inner before) (λ x. x ∷ []) (arg_turn M inner) (arg_sound before)
        (λ a x p. record { trees = p.tree ∷ []; spells = first p.spells; is = ap (λ z. z ∷ []) p.is }) (arg_keeps before)

    starts : (ss : List Symbol) (t : Symbol) (rest : List Symbol) → ss ≡ t ∷ rest → t.sign ≡ sign.Close → starts_close ss ≡ true
    starts ss t rest e h = rw (e, h) refl

    call_case : (s t : Symbol) → s.sign ≡ sign.Word → t.sign ≡ sign.Open → (ss : List Symbol) (found : M.Made × List Symbol) (b : Bool) → starts_close ss ≡ b
        → option_and_then (λ (xs : List M.Arg × List Symbol). option_and_then (λ (u : Symbol × List Symbol). Some (M.called s xs.0 u.0, u.1)) (close_at xs.1)) (cond b (Some ([], ss)) (args_at M inner t.span.end ss)) ≡ Some found
        → Reads (Spelled Primary) (s ∷ t ∷ ss) found
    call_case s t word_s open_t ss found true is e =
        let b = bind_some (close_at ss) (λ u. Some (M.called s [] u.0, u.1)) found e in
        let c = close_is ss b.0 b.1 in
        subst (Reads (Spelled Primary) (s ∷ t ∷ ss)) (some_is (M.called s [] b.0.0, b.0.1) found b.2)
        (record {
          used = s ∷ t ∷ b.0.0 ∷ [];
          parts = ap (λ r. s ∷ t ∷ r) c.0;
          spells = record { part = called S s [] b.0.0; spells = no_args s t b.0.0 word_s open_t c.1; is = W.called s [] b.0.0 };
        })
    call_case s t word_s open_t ss found false is e =
        let a = bind_some (args_at M inner t.span.end ss) (λ xs. option_and_then (λ (u : Symbol × List Symbol). Some (M.called s xs.0 u.0, u.1)) (close_at xs.1)) found e in
        let r = args_sound t.span.end ss a.0 a.1 in
        let q = r.spells in
        let b = bind_some (close_at a.0.1) (λ u. Some (M.called s a.0.0 u.0, u.1)) found a.2 in
        let c = close_is a.0.1 b.0 b.1 in
        let some_args : r.used ≢ [] = λ none. let yes : starts_close ss ≡ true = starts ss b.0.0 b.0.1 (r.parts ∙ ap (λ u. u ++ a.0.1) none ∙ c.0) c.1 in absurd cc in
        subst (Reads (Spelled Primary) (s ∷ t ∷ ss)) (some_is (M.called s a.0.0 b.0.0, b.0.1) found b.2)
        (record {
          used = s ∷ t ∷ (r.used ++ b.0.0 ∷ []);
          parts = ap (λ z. s ∷ t ∷ z) (r.parts ∙ ap (λ z. r.used ++ z) c.0 ∙ sym (append_assoc r.used (b.0.0 ∷ []) b.0.1));
          spells = record { part = called S s q.trees b.0.0; spells = call s t b.0.0 word_s open_t c.1 some_args q.spells; is = W.called s q.trees b.0.0 ∙ ap (λ z. M.called s z b.0.0) q.is };
        })

    call_sound : (s t : Symbol) → s.sign ≡ sign.Word → t.sign ≡ sign.Open → (ss : List Symbol) (found : M.Made × List Symbol) → call_at M inner s t.span.end ss ≡ Some found → Reads (Spelled Primary) (s ∷ t ∷ ss) found
    unfolding call_at
    call_sound s t word_s open_t ss found e = call_case s t word_s open_t ss found (starts_close ss) refl e

    -- ---- what stands alone

    leaf_sound : (ss : List Symbol) (found : M.Made × List Symbol) → leaf_of S M ss ≡ Some found → Reads (Spelled Primary) ss found
    unfolding leaf_of
    leaf_sound ss found e =
        let b = bind_some (leaf_at S ss) (λ x. Some (M.leaf x.0, x.1)) found e in
        let r = leaf_spelled S ss b.0 b.1 in
        subst (Reads (Spelled Primary) ss) (some_is (M.leaf b.0.0, b.0.1) found b.2)
        (record { used = r.used; parts = r.parts; spells = record { part = part_of_leaf b.0.0; spells = leaf r.spells; is = W.leaf b.0.0 } })

    word_case : (s t : Symbol) → s.sign ≡ sign.Word → (ss : List Symbol) (found : M.Made × List Symbol) (g : Sign) → t.sign ≡ g → word_by S M inner s g t ss ≡ Some found → Reads (Spelled Primary) (s ∷ t ∷ ss) found
    word_case s t word_s ss found sign.Open is e = call_sound s t word_s is ss found e
    word_case s t word_s ss found _ is e = leaf_sound (s ∷ t ∷ ss) found e

    word_sound : (s : Symbol) → s.sign ≡ sign.Word → (ss : List Symbol) (found : M.Made × List Symbol) → word_at S M inner s ss ≡ Some found → Reads (Spelled Primary) (s ∷ ss) found
    unfolding word_at
    word_sound s word_s [] found e = leaf_sound (s ∷ []) found e
    word_sound s word_s (t ∷ ss) found e = word_case s t word_s ss found t.sign refl e

    parens_sound : (s : Symbol) → s.sign ≡ sign.Open → (ss : List Symbol) (found : M.Made × List Symbol) → parens_at M inner s ss ≡ Some found → Reads (Spelled Primary) (s ∷ ss) found
    unfolding parens_at
    parens_sound s open_s ss found e =
        let a = bind_some (inner ss) (λ x. option_and_then (λ (t : Symbol × List Symbol). Some (M.enclosed s x.0 t.0, t.1)) (close_at x.1)) found e in
        let r = sound ss a.0 a.1 in
        let q = r.spells in
        let b = bind_some (close_at a.0.1) (λ t. Some (M.enclosed s a.0.0 t.0, t.1)) found a.2 in
        let c = close_is a.0.1 b.0 b.1 in
        subst (Reads (Spelled Primary) (s ∷ ss)) (some_is (M.enclosed s a.0.0 b.0.0, b.0.1) found b.2)
        (record {
          used = s ∷ (r.used ++ b.0.0 ∷ []);
          parts = ap (λ z. s ∷ z) (r.parts ∙ ap (λ z. r.used ++ z) c.0 ∙ sym (append_assoc r.used (b.0.0 ∷ []) b.0.1));
          spells = record { part = enclosed s q.part b.0.0; spells = parens s b.0.0 open_s c.1 q.spells; is = W.enclosed s q.part b.0.0 ∙ ap (λ z. M.enclosed s z b.0.0) q.is };
        })

    primary_case : (s : Symbol) (ss : List Symbol) (found : M.Made × List Symbol) (g : Sign) → s.sign ≡ g → primary_by S M inner g s ss ≡ Some found → Reads (Spelled Primary) (s ∷ ss) found
    primary_case s ss found sign.Word is e = word_sound s is ss found e
    primary_case s ss found sign.Open is e = parens_sound s is ss found e
    primary_case s ss found _ is e = leaf_sound (s ∷ ss) found e

    pub primary_sound : Sound (Spelled Primary) (primary_at S M inner)
    unfolding primary_at
    primary_sound [] found e = absurd cc
    primary_sound (s ∷ ss) found e = primary_case s ss found s.sign refl e

  pub formula_sound : (depth : ℕ) → Sound (Spelled (Level 5)) (formula_at S M depth)
  unfolding formula_at
  formula_sound zero = λ ss found e. absurd cc
  formula_sound (suc depth) =
      level_sound (hundredths_at M (primary_at S M (formula_at S M depth))) (hundredths_sound (primary_at S M (formula_at S M depth)) (primary_sound (formula_at S M depth) (formula_sound depth))) 5
