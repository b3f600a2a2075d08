-- What is spelled is read.
use Rattle.std.proofs.Common.{◌≡◌, ◌≢◌, ℕ, zero, suc, ◌+◌, ◌-◌, ◌<◌, ◌≤◌, Bool, true, false, cond, eqb, List, [], ◌∷◌, ◌++◌, length, Option, Some, None, refl, sym, ap, subst, ◌∙◌, append_assoc, arith, ◌⊎◌, inl, inr}
use Rattle.std.specs.Prelude.{◌||◌}
use Rattle.std.specs.Option.{option_map_or, option_and_then}
use Rattle.std.specs.Prelude.{map}
use Rattle.std.proofs.lemmas.List.{map_push}
use Rattle.std.proofs.lemmas.Bool.{eqb-true, eq-eqb}
use Rattle.cell_refs.specs.declared.op.Op.{Op}
use Rattle.formula_ast.specs.Tree.{Tree, Missing}
use Rattle.formula_grammar.specs.declared.symbol.Sign.{Sign}
use Rattle.formula_grammar.specs.declared.symbol.Sign.TheVariants as sign
use Rattle.formula_grammar.specs.declared.symbol.Symbol.{Symbol}
use Rattle.formula_grammar.specs.Parts.{Part, operator_of, level_of, prefix_of, is_percent, is_separator, is_close, joined, prefixed, in_hundredths, Prefix}
use Rattle.formula_grammar.specs.Symbols.{Setting, at_byte}
use Rattle.formula_grammar.specs.Leaves.{SpellsLeaf}
use Rattle.formula_grammar.specs.Grammar.{Kind, Level, Signed, Primary, Spells, alone, infixed, whole, percent, unsigned, signed, leaf, parens, no_args, call, SpellsArgs, first, next, SpellsArg, missing, given}
use Rattle.formula_grammar.specs.Making.{Making, Shows}
use Rattle.formula_grammar.specs.Loops.{Found, Reader, Stop, Go, go_on, all_turns}
use Rattle.formula_grammar.specs.Reading.{at_level, operator_at, infix_turn, level_at, percent_turn, signed_at, hundredths_at, close_at, ends_arg, arg_at, arg_turn, args_at, starts_close, call_at, leaf_of, word_by, word_at, parens_at, primary_by, primary_at, formula_at}
use Rattle.formula_grammar.specs.Depth.{opened, most_open}
use Rattle.formula_grammar.proofs.Turns.{Takes, Sound, shorter, all_stop, all_go}
use Rattle.formula_grammar.proofs.Signs.{other_reach, reach, ahead, operator_reach, operator_opens, prefix_opens, percent_opens, percent_reach, separator_opens, separator_open, separator_ends, ends_ahead, not_percent, open_least, room_after}
use Rattle.formula_grammar.proofs.LeafBegins.{leaf_begins}
use Rattle.formula_grammar.proofs.LeafRead.{leaf_read}
use Rattle.formula_grammar.proofs.LeafRoom.{leaf_room}
use Rattle.formula_grammar.proofs.Sound.{go_on_is, level_sound, hundredths_sound, primary_sound, formula_sound, arg_sound, Spelled, SpelledArg}

-- ---- loops that stop

no_operator : (level : ℕ) (o : Option Op) (other : ℕ) → suc level < option_map_or (λ op. suc (level_of op)) o other → option_and_then (at_level level) o ≡ None
no_operator level None other h = refl
no_operator level (Some op) other h = no_level level op (eqb (level_of op) level) refl (omega arith)
  where
    no_level : (level : ℕ) (op : Op) (b : Bool) → eqb (level_of op) level ≡ b → level < level_of op → cond b (Some op) None ≡ None
    no_level level op true e h = let k : level_of op ≡ level = eqb-true _ _ e in absurd (omega arith)
    no_level level op false e h = refl

operator_there : (level : ℕ) (s : Symbol) (op : Op) → operator_of s.sign ≡ Some op → level_of op ≡ level → operator_at level s ≡ Some op
operator_there level s op e h = ap (option_and_then (at_level level)) e ∙ ap (λ b. cond b (Some op) None) (eq-eqb (level_of op) level h)

infix_stops : (M : Making) (operand : Reader M.Made) (level : ℕ) (x : M.Made) (rest : List Symbol) → suc level < ahead rest → infix_turn M operand level x rest ≡ Stop
infix_stops M operand level x [] h = refl
infix_stops M operand level x (s ∷ ss) h = ap (λ o. option_map_or (λ op. go_on (M.joined op x) (operand ss)) o Stop) (no_operator level (operator_of s.sign) (other_reach s.sign) h)

percent_stops : (M : Making) (x : M.Made) (rest : List Symbol) → 1 < ahead rest → percent_turn M x rest ≡ Stop
percent_stops M x [] h = refl
percent_stops M x (s ∷ ss) h = ap (λ b. cond b (Go (M.in_hundredths x s) ss) Stop) (not_percent s.sign h)

args_stop : (M : Making) (inner : Reader M.Made) (xs : List M.Arg) (rest : List Symbol) → starts_close rest ≡ true → arg_turn M inner xs rest ≡ Stop
args_stop M inner xs [] h = absurd cc
args_stop M inner xs (s ∷ ss) h = ap (λ b. cond b (go_on (λ x. xs ++ x ∷ []) (arg_at M inner s.span.end ss)) Stop) (closes_not s.sign h)
  where
    closes_not : (g : Sign) → is_close g ≡ true → is_separator g ≡ false
    closes_not sign.Close e = refl
    closes_not _ e = absurd cc

-- ---- loops that go on

go_of : {A B : Type 0} (f : A → B) (o : Found A) (x : A) (rest : List Symbol) → o ≡ Some (x, rest) → go_on f o ≡ Go (f x) rest
go_of f o x rest e = ap (go_on f) e

infix_goes_on : (M : Making) (operand : Reader M.Made) (level : ℕ) (x y : M.Made) (s : Symbol) (ss rest : List Symbol) (op : Op) → operator_of s.sign ≡ Some op → level_of op ≡ level → operand ss ≡ Some (y, rest)
    → infix_turn M operand level x (s ∷ ss) ≡ Go (M.joined op x y) rest
infix_goes_on M operand level x y s ss rest op e h k =
    ap (λ o. option_map_or (λ op. go_on (M.joined op x) (operand ss)) o Stop) (operator_there level s op e h) ∙ go_of (M.joined op x) (operand ss) y rest k

percent_goes_on : (M : Making) (x : M.Made) (s : Symbol) (ss : List Symbol) → is_percent s.sign ≡ true → percent_turn M x (s ∷ ss) ≡ Go (M.in_hundredths x s) ss
percent_goes_on M x s ss e = ap (λ b. cond b (Go (M.in_hundredths x s) ss) Stop) e

args_go_on : (M : Making) (inner : Reader M.Made) (xs : List M.Arg) (y : M.Arg) (s : Symbol) (ss rest : List Symbol) → is_separator s.sign ≡ true → arg_at M inner s.span.end ss ≡ Some (y, rest)
    → arg_turn M inner xs (s ∷ ss) ≡ Go (xs ++ y ∷ []) rest
args_go_on M inner xs y s ss rest e h =
    ap (λ b. cond b (go_on (λ x. xs ++ x ∷ []) (arg_at M inner s.span.end ss)) Stop) e ∙ go_of (λ x. xs ++ x ∷ []) (arg_at M inner s.span.end ss) y rest h

close_there : (s : Symbol) (ss : List Symbol) → s.sign ≡ sign.Close → close_at (s ∷ ss) ≡ Some (s, ss)
unfolding close_at
close_there s ss e = ap (λ g. cond (is_close g) (Some (s, ss)) None) e

module _ (S : Setting) (M : Making) (W : Shows S M) where
  -- ---- turns take symbols

  pub infix_takes : (operand : Reader M.Made) (n level : ℕ) → Sound (Spelled S M W (Level n)) operand → Takes (infix_turn M operand level)
  infix_takes operand n level sound x [] y rest e = absurd cc
  infix_takes operand n level sound x (s ∷ ss) y rest e = takes_case (operator_at level s) e
    where
      takes_case : (o : Option Op) → option_map_or (λ op. go_on (M.joined op x) (operand ss)) o Stop ≡ Go y rest → length rest < length (s ∷ ss)
      takes_case None h = absurd cc
      takes_case (Some op) h =
          let g = go_on_is (M.joined op x) (operand ss) y rest h in
          let less = shorter (Spelled S M W (Level n)) ss (g.0, rest) (sound ss (g.0, rest) g.1) in
          omega arith

  pub percent_takes : Takes (percent_turn M)
  percent_takes x [] y rest e = absurd cc
  percent_takes x (s ∷ ss) y rest e = takes_case (is_percent s.sign) e
    where
      takes_case : (b : Bool) → cond b (Go (M.in_hundredths x s) ss) Stop ≡ Go y rest → length rest < length (s ∷ ss)
      takes_case true h = let k : ss ≡ rest = cc in omega (arith, ap length k)
      takes_case false h = absurd cc

  pub args_take : (inner : Reader M.Made) → Sound (Spelled S M W (Level 5)) inner → Takes (arg_turn M inner)
  args_take inner sound xs [] ys rest e = absurd cc
  args_take inner sound xs (s ∷ ss) ys rest e = takes_case (is_separator s.sign) e
    where
      takes_case : (b : Bool) → cond b (go_on (λ x. xs ++ x ∷ []) (arg_at M inner s.span.end ss)) Stop ≡ Go ys rest → length rest < length (s ∷ ss)
      takes_case true h =
          let g = go_on_is (λ x. xs ++ x ∷ []) (arg_at M inner s.span.end ss) ys rest h in
          let less = shorter (SpelledArg S M W s.span.end) ss (g.0, rest) (arg_sound S M W inner sound s.span.end ss (g.0, rest) g.1) in
          omega arith
      takes_case false h = absurd cc

  -- ---- where parts begin

  abbrev Begins : Kind → Sign → Type 0
  Begins Primary g = ((is_separator g || is_close g) ≡ false) × (prefix_of g ≡ None)
  Begins _ g = (is_separator g || is_close g) ≡ false

  begins : {k : Kind} {a : List Symbol} {x : Part} → Spells S k a x → (s : Symbol) × (b : List Symbol) × (a ≡ s ∷ b) × Begins k s.sign
  begins (alone p) = begins p
  begins (infixed {b = b} s op is level p q) = let r = begins p in (r.0, r.1 ++ s ∷ b, ap (λ c. c ++ s ∷ b) r.2, r.3)
  begins (whole p) = begins p
  begins (percent s is p) = let r = begins p in (r.0, r.1 ++ s ∷ [], ap (λ c. c ++ s ∷ []) r.2, r.3)
  begins (unsigned p) = let r = begins p in (r.0, r.1, r.2, r.3.0)
  begins (signed {a = a} s make is p) = (s, a, refl, prefix_begins s.sign make is)
    where
      prefix_begins : (g : Sign) (make : Prefix) → prefix_of g ≡ Some make → (is_separator g || is_close g) ≡ false
      prefix_begins sign.Plus make e = refl
      prefix_begins sign.Minus make e = refl
      prefix_begins _ make e = absurd cc
  begins (leaf p) = let b = leaf_begins p in (b.front, b.behind, b.is, (b.begins.no_end, b.begins.no_prefix))
  begins (parens {a = a} s t open_s close_t p) = (s, a ++ t ∷ [], refl, rw open_s (refl, refl))
  begins (no_args s t u word_s open_t close_u) = (s, t ∷ u ∷ [], refl, rw word_s (refl, refl))
  begins (call {a = a} s t u word_s open_t close_u some_args p) = (s, t ∷ (a ++ u ∷ []), refl, rw word_s (refl, refl))

  args_begin : {before : ℕ} {a : List Symbol} {xs : List Tree} → SpellsArgs S before a xs → (a ≡ []) ⊎ ((s : Symbol) × (b : List Symbol) × (a ≡ s ∷ b) × (is_close s.sign ≡ false))
  args_begin (first missing) = inl refl
  args_begin (first (given p)) = let r = begins p in inr (r.0, r.1, r.2, not_close (is_separator r.0.sign) (is_close r.0.sign) r.3)
    where
      not_close : (b c : Bool) → (b || c) ≡ false → c ≡ false
      not_close true c e = absurd cc
      not_close false c e = e
  args_begin (next {a = a} {b = b} s is p q) = elim (args_begin p) [
    | inl none ↦ inr (s, b, ap (λ c. c ++ s ∷ b) none, separator_open s.sign is)
    | inr r ↦ inr (r.0, r.1 ++ s ∷ b, ap (λ c. c ++ s ∷ b) r.2, r.3)
  ]

  args_not_closed : {before : ℕ} {a : List Symbol} {xs : List Tree} → SpellsArgs S before a xs → a ≢ [] → (rest : List Symbol) → starts_close (a ++ rest) ≡ false
  args_not_closed {a = a} p some_args rest = elim (args_begin p) [
    | inl none ↦ absurd (some_args none)
    | inr r ↦ ap (λ c. starts_close (c ++ rest)) r.2 ∙ r.3
  ]

  -- ---- reading of each kind

  abbrev pub primary_below : ℕ → Reader M.Made
  primary_below d = primary_at S M (formula_at S M d)

  abbrev pub base : ℕ → Reader M.Made
  base d = hundredths_at M (primary_below d)

  abbrev pub reader : ℕ → Kind → Reader M.Made
  reader d (Level n) = level_at M (base d) n
  reader d Signed = signed_at M (primary_below d)
  reader d Primary = primary_below d

  -- what reading makes of a first part and what follows
  abbrev pub on : ℕ → Kind → M.Made → List Symbol → Found M.Made
  on d (Level zero) x rest = all_turns (percent_turn M) x rest
  on d (Level (suc n)) x rest = all_turns (infix_turn M (level_at M (base d) n) (suc n)) x rest
  on d _ x rest = Some (x, rest)

  abbrev pub loose : Kind → ℕ
  loose (Level n) = n
  loose _ = 0

  pub base_sound : (d n : ℕ) → Sound (Spelled S M W (Level n)) (level_at M (base d) n)
  base_sound d n = level_sound S M W (base d) (hundredths_sound S M W (primary_below d) (primary_sound S M W (formula_at S M d) (formula_sound S M W d))) n

  ends_here : (d n : ℕ) (x : M.Made) (rest : List Symbol) → suc n < ahead rest → on d (Level n) x rest ≡ Some (x, rest)
  ends_here d zero x rest h = all_stop (percent_turn M) x rest (percent_stops M x rest h)
  ends_here d (suc n) x rest h = all_stop (infix_turn M (level_at M (base d) n) (suc n)) x rest (infix_stops M (level_at M (base d) n) (suc n) x rest h)

  pub record Ready (d n limit : ℕ) (k : Kind) (a : List Symbol) (x : Part) (rest : List Symbol) : Type 0 where
    pub reads : reader d k (a ++ rest) ≡ on d k (W.show x) rest
    pub room : most_open n rest ≤ limit

  record ArgsReady (d n limit before : ℕ) (a : List Symbol) (xs : List Tree) (rest : List Symbol) : Type 0 where
    reads : args_at M (formula_at S M (suc d)) before (a ++ rest) ≡ all_turns (arg_turn M (formula_at S M (suc d))) (map W.show_arg xs) rest
    pub room : most_open n rest ≤ limit

  record ArgReady (d n limit before : ℕ) (a : List Symbol) (x : Tree) (rest : List Symbol) : Type 0 where
    reads : arg_at M (formula_at S M (suc d)) before (a ++ rest) ≡ Some (W.show_arg x, rest)
    pub room : most_open n rest ≤ limit

  -- a level is over where what follows binds more loosely
  over : (d n m limit : ℕ) (a : List Symbol) (x : Part) (rest : List Symbol) → Ready d n limit (Level m) a x rest → suc m < ahead rest → level_at M (base d) m (a ++ rest) ≡ Some (W.show x, rest)
  over d n m limit a x rest r h = r.reads ∙ ends_here d m (W.show x) rest h

  alone_case : (d n m limit : ℕ) (a : List Symbol) (x : Part) (rest : List Symbol) → Ready d n limit (Level m) a x rest → suc m < ahead rest → Ready d n limit (Level (suc m)) a x rest
  unfolding level_at
  alone_case d n m limit a x rest r h = record {
    reads = ap (λ o. option_and_then (λ (f : M.Made × List Symbol). all_turns (infix_turn M (level_at M (base d) m) (suc m)) f.0 f.1) o) (over d n m limit a x rest r h);
    room = r.room;
  }

  infix_case : (d n m limit : ℕ) (a b : List Symbol) (x y : Part) (s : Symbol) (op : Op) (rest : List Symbol) → operator_of s.sign ≡ Some op → level_of op ≡ suc m
      → Ready d n limit (Level (suc m)) a x (s ∷ (b ++ rest)) → Ready d n limit (Level m) b y rest → suc m < ahead rest → Ready d n limit (Level (suc m)) (a ++ s ∷ b) (joined op x y) rest
  infix_case d n m limit a b x y s op rest is level left right h = record {
    reads =
        ap (level_at M (base d) (suc m)) (append_assoc a (s ∷ b) rest) ∙ left.reads
        ∙ all_go (infix_turn M (level_at M (base d) m) (suc m)) (infix_takes (level_at M (base d) m) m (suc m) (base_sound d m)) (W.show x) (s ∷ (b ++ rest)) (M.joined op (W.show x) (W.show y)) rest
        (infix_goes_on M (level_at M (base d) m) (suc m) (W.show x) (W.show y) s (b ++ rest) rest op is level (over d n m limit b y rest right h))
        ∙ ap (λ z. all_turns (infix_turn M (level_at M (base d) m) (suc m)) z rest) (sym (W.joined op x y));
    room = right.room;
  }

  whole_case : (d n limit : ℕ) (a : List Symbol) (x : Part) (rest : List Symbol) → Ready d n limit Signed a x rest → Ready d n limit (Level zero) a x rest
  unfolding level_at hundredths_at
  whole_case d n limit a x rest r = record { reads = ap (λ o. option_and_then (λ (f : M.Made × List Symbol). all_turns (percent_turn M) f.0 f.1) o) r.reads; room = r.room }

  percent_case : (d n limit : ℕ) (a : List Symbol) (x : Part) (s : Symbol) (rest : List Symbol) → is_percent s.sign ≡ true → Ready d n limit (Level zero) a x (s ∷ rest) → Ready d n limit (Level zero) (a ++ s ∷ []) (in_hundredths x s) rest
  percent_case d n limit a x s rest is r = record {
    reads = ap (level_at M (base d) zero) (append_assoc a (s ∷ []) rest) ∙ r.reads ∙ all_go (percent_turn M) percent_takes (W.show x) (s ∷ rest) (M.in_hundredths (W.show x) s) rest (percent_goes_on M (W.show x) s rest is)
        ∙ ap (λ z. all_turns (percent_turn M) z rest) (sym (W.in_hundredths x s));
    room = room_after n limit s rest n (percent_opens s.sign n is) r.room;
  }

  signed_case : (d n limit : ℕ) (a : List Symbol) (x : Part) (s : Symbol) (make : Prefix) (rest : List Symbol) → prefix_of s.sign ≡ Some make → Ready d n limit Signed a x rest → Ready d n limit Signed (s ∷ a) (prefixed make s x) rest
  unfolding signed_at
  signed_case d n limit a x s make rest is r = record {
    reads =
        ap (λ o. option_map_or (λ make. option_and_then (λ (f : M.Made × List Symbol). Some (M.prefixed make s f.0, f.1)) (signed_at M (primary_below d) (a ++ rest))) o (primary_below d (s ∷ (a ++ rest)))) is
        ∙ ap (λ o. option_and_then (λ (f : M.Made × List Symbol). Some (M.prefixed make s f.0, f.1)) o) r.reads
        ∙ ap (λ z. Some (z, rest)) (sym (W.prefixed make s x));
    room = r.room;
  }

  unsigned_case : (d n limit : ℕ) (a : List Symbol) (x : Part) (rest : List Symbol) (s : Symbol) (b : List Symbol) → a ≡ s ∷ b → prefix_of s.sign ≡ None → Ready d n limit Primary a x rest → Ready d n limit Signed a x rest
  unfolding signed_at
  unsigned_case d n limit a x rest s b e none r = record {
    reads = ap (λ c. signed_at M (primary_below d) (c ++ rest)) e ∙ passes s (b ++ rest) none ∙ ap (λ c. primary_below d (c ++ rest)) (sym e) ∙ r.reads;
    room = r.room;
  }
    where
      passes : (s : Symbol) (ss : List Symbol) → prefix_of s.sign ≡ None → signed_at M (primary_below d) (s ∷ ss) ≡ primary_below d (s ∷ ss)
      passes s ss h = ap (λ o. option_map_or (λ make. option_and_then (λ (f : M.Made × List Symbol). Some (M.prefixed make s f.0, f.1)) (signed_at M (primary_below d) ss)) o (primary_below d (s ∷ ss))) h

  -- ---- what stands alone

  is_word : (d : ℕ) (s : Symbol) (rest : List Symbol) → s.sign ≡ sign.Word → primary_below d (s ∷ rest) ≡ word_at S M (formula_at S M d) s rest
  unfolding primary_at
  is_word d s rest is = ap (λ g. primary_by S M (formula_at S M d) g s rest) is

  leaf_there : (a : List Symbol) (x : Tree) (rest : List Symbol) → SpellsLeaf S a x → 0 < ahead rest → leaf_of S M (a ++ rest) ≡ Some (M.leaf x, rest)
  unfolding leaf_of
  leaf_there a x rest p h = ap (λ o. option_and_then (λ (x : Tree × List Symbol). Some (M.leaf x.0, x.1)) o) (leaf_read p rest h)

  -- a leaf is no call
  leaf_word : (inner : Reader M.Made) (s : Symbol) (ss rest : List Symbol) → 0 < ahead rest → ((t : Symbol) (b : List Symbol) → ss ≡ t ∷ b → t.sign ≢ sign.Open)
      → word_at S M inner s (ss ++ rest) ≡ leaf_of S M (s ∷ (ss ++ rest))
  unfolding word_at
  leaf_word inner s [] [] h none = refl
  leaf_word inner s [] (t ∷ rest) h none = by_sign t.sign h
    where
      by_sign : (g : Sign) → 0 < reach g → word_by S M inner s g t rest ≡ leaf_of S M (s ∷ t ∷ rest)
      by_sign sign.Open k = absurd (omega arith)
      by_sign _ k = refl
  leaf_word inner s (t ∷ ss) rest h none = by_sign t.sign (none t ss refl)
    where
      by_sign : (g : Sign) → g ≢ sign.Open → word_by S M inner s g t (ss ++ rest) ≡ leaf_of S M (s ∷ t ∷ (ss ++ rest))
      by_sign sign.Open k = absurd (k refl)
      by_sign _ k = refl

  leaf_front : (d : ℕ) (s : Symbol) (ss rest : List Symbol) → 0 < ahead rest → s.sign ≢ sign.Open
      → (s.sign ≡ sign.Word → (t : Symbol) (b : List Symbol) → ss ≡ t ∷ b → t.sign ≢ sign.Open) → primary_below d (s ∷ (ss ++ rest)) ≡ leaf_of S M (s ∷ (ss ++ rest))
  unfolding primary_at
  leaf_front d s ss rest h no_open none = by_sign s.sign refl
    where
      by_sign : (g : Sign) → s.sign ≡ g → primary_by S M (formula_at S M d) g s (ss ++ rest) ≡ leaf_of S M (s ∷ (ss ++ rest))
      by_sign sign.Word e = leaf_word (formula_at S M d) s ss rest h (none e)
      by_sign sign.Open e = absurd (no_open e)
      by_sign _ e = refl

  leaf_case : (d : ℕ) (a : List Symbol) (x : Tree) (rest : List Symbol) → SpellsLeaf S a x → 0 < ahead rest → primary_below d (a ++ rest) ≡ Some (M.leaf x, rest)
  leaf_case d a x rest p h =
      let b = leaf_begins p in
      ap (λ c. primary_below d (c ++ rest)) b.is ∙ leaf_front d b.front b.behind rest h b.begins.no_open b.no_call ∙ ap (λ c. leaf_of S M (c ++ rest)) (sym b.is) ∙ leaf_there a x rest p h

  parens_case : (d : ℕ) (s t : Symbol) (a : List Symbol) (x : M.Made) (rest : List Symbol) → s.sign ≡ sign.Open → t.sign ≡ sign.Close → formula_at S M d (a ++ (t ∷ rest)) ≡ Some (x, t ∷ rest)
      → primary_below d (s ∷ (a ++ (t ∷ rest))) ≡ Some (M.enclosed s x t, rest)
  unfolding primary_at parens_at
  parens_case d s t a x rest open_s close_t h =
      ap (λ g. primary_by S M (formula_at S M d) g s (a ++ (t ∷ rest))) open_s
      ∙ ap (λ o. option_and_then (λ (x : M.Made × List Symbol). option_and_then (λ (t : Symbol × List Symbol). Some (M.enclosed s x.0 t.0, t.1)) (close_at x.1)) o) h
      ∙ ap (λ o. option_and_then (λ (t : Symbol × List Symbol). Some (M.enclosed s x t.0, t.1)) o) (close_there t rest close_t)

  is_call : (d : ℕ) (s t : Symbol) (rest : List Symbol) → t.sign ≡ sign.Open → word_at S M (formula_at S M d) s (t ∷ rest) ≡ call_at M (formula_at S M d) s t.span.end rest
  unfolding word_at
  is_call d s t rest open_t = ap (λ g. word_by S M (formula_at S M d) s g t rest) open_t

  call_case : (inner : Reader M.Made) (s u : Symbol) (before : ℕ) (ss rest : List Symbol) (xs : List M.Arg) (b : Bool) → starts_close ss ≡ b → cond b (Some ([], ss)) (args_at M inner before ss) ≡ Some (xs, u ∷ rest) → u.sign ≡ sign.Close
      → call_at M inner s before ss ≡ Some (M.called s xs u, rest)
  unfolding call_at
  call_case inner s u before ss rest xs b is h close_u =
      ap (λ b. option_and_then (λ (xs : List M.Arg × List Symbol). option_and_then (λ (t : Symbol × List Symbol). Some (M.called s xs.0 t.0, t.1)) (close_at xs.1)) (cond b (Some ([], ss)) (args_at M inner before ss))) is
      ∙ ap (λ o. option_and_then (λ (xs : List M.Arg × List Symbol). option_and_then (λ (t : Symbol × List Symbol). Some (M.called s xs.0 t.0, t.1)) (close_at xs.1)) o) h
      ∙ ap (λ o. option_and_then (λ (t : Symbol × List Symbol). Some (M.called s xs t.0, t.1)) o) (close_there u rest close_u)

  pub deeper : (d n limit : ℕ) (a : List Symbol) (x : Part) (rest : List Symbol) → Ready d n limit (Level 5) a x rest → 6 < ahead rest → formula_at S M (suc d) (a ++ rest) ≡ Some (W.show x, rest)
  unfolding formula_at
  deeper d n limit a x rest r h = over d n 5 limit a x rest r h

  first_case : (d n limit before : ℕ) (a : List Symbol) (x : Tree) (rest : List Symbol) → ArgReady d n limit before a x rest → ArgsReady d n limit before a (x ∷ []) rest
  unfolding args_at
  first_case d n limit before a x rest r = record {
    reads = ap (λ o. option_and_then (λ (x : M.Arg × List Symbol). all_turns (arg_turn M (formula_at S M (suc d))) (x.0 ∷ []) x.1) o) r.reads;
    room = r.room;
  }

  next_case : (d n limit before : ℕ) (a b : List Symbol) (xs : List Tree) (y : Tree) (s : Symbol) (rest : List Symbol) → is_separator s.sign ≡ true
      → ArgsReady d n limit before a xs (s ∷ (b ++ rest)) → ArgReady d n limit s.span.end b y rest → ArgsReady d n limit before (a ++ s ∷ b) (xs ++ y ∷ []) rest
  next_case d n limit before a b xs y s rest is left right = record {
    reads =
        ap (args_at M (formula_at S M (suc d)) before) (append_assoc a (s ∷ b) rest) ∙ left.reads
        ∙ all_go (arg_turn M (formula_at S M (suc d))) (args_take (formula_at S M (suc d)) (formula_sound S M W (suc d))) (map W.show_arg xs) (s ∷ (b ++ rest)) (map W.show_arg xs ++ W.show_arg y ∷ []) rest
        (args_go_on M (formula_at S M (suc d)) (map W.show_arg xs) (W.show_arg y) s (b ++ rest) rest is right.reads)
        ∙ ap (λ z. all_turns (arg_turn M (formula_at S M (suc d))) z rest) (sym (map_push W.show_arg xs y));
    room = right.room;
  }

  missing_case : (d n limit before : ℕ) (rest : List Symbol) → ends_arg rest ≡ true → most_open n rest ≤ limit → ArgReady d n limit before [] (Missing (at_byte before)) rest
  unfolding arg_at
  missing_case d n limit before rest h room = record {
    reads = ap (λ b. cond b (Some (M.missing before, rest)) (option_and_then (λ (x : M.Made × List Symbol). Some (M.given x.0, x.1)) (formula_at S M (suc d) rest))) h
        ∙ ap (λ z. Some (z, rest)) (sym (W.missing before));
    room = room;
  }

  given_case : (d n limit before : ℕ) (a : List Symbol) (x : Part) (rest : List Symbol) (s : Symbol) (b : List Symbol) → a ≡ s ∷ b → (is_separator s.sign || is_close s.sign) ≡ false
      → formula_at S M (suc d) (a ++ rest) ≡ Some (W.show x, rest) → most_open n rest ≤ limit → ArgReady d n limit before a x.tree rest
  unfolding arg_at
  given_case d n limit before a x rest s b e is h room =
      let goes_on : ends_arg (a ++ rest) ≡ false = ap (λ c. ends_arg (c ++ rest)) e ∙ is in
      record {
        reads =
            ap (λ b. cond b (Some (M.missing before, a ++ rest)) (option_and_then (λ (x : M.Made × List Symbol). Some (M.given x.0, x.1)) (formula_at S M (suc d) (a ++ rest)))) goes_on
            ∙ ap (λ o. option_and_then (λ (x : M.Made × List Symbol). Some (M.given x.0, x.1)) o) h
            ∙ ap (λ z. Some (z, rest)) (sym (W.given x));
        room = room;
      }

  -- ---- whatever is spelled

  -- room for one more inside: one bracket less is left
  inside : (d n limit : ℕ) (s : Symbol) (ss : List Symbol) → d + n ≡ limit → s.sign ≡ sign.Open → most_open n (s ∷ ss) ≤ limit → (most_open (suc n) ss ≤ limit) × (d ≡ suc (d - 1)) × ((d - 1) + suc n ≡ limit)
  inside d n limit s ss e open_s h =
      let room : most_open (suc n) ss ≤ limit = room_after n limit s ss (suc n) (ap (λ g. opened g n) open_s) h in
      let least = open_least (suc n) ss in
      (room, omega arith, omega arith)

  outside : (n limit : ℕ) (t : Symbol) (rest : List Symbol) → t.sign ≡ sign.Close → most_open (suc n) (t ∷ rest) ≤ limit → most_open n rest ≤ limit
  outside n limit t rest close_t h = room_after (suc n) limit t rest n (ap (λ g. opened g (suc n)) close_t ∙ (let k : suc n - 1 ≡ n = omega arith in k)) h

  mutual
    pub complete : {k : Kind} {a : List Symbol} {x : Part} → Spells S k a x → (d n limit : ℕ) (rest : List Symbol) → d + n ≡ limit → loose k < ahead rest → most_open n (a ++ rest) ≤ limit → Ready d n limit k a x rest
    complete (alone {n = m} {a = a} {x = x} p) d n limit rest e h room = alone_case d n m limit a x rest (complete p d n limit rest e (omega arith) room) h
    complete (infixed {n = m} {a = a} {b = b} {x = x} {y = y} s op is level p q) d n limit rest e h room =
        let left = complete p d n limit (s ∷ (b ++ rest)) e (omega (arith, operator_reach s.sign op is, level)) (subst (λ c. most_open n c ≤ limit) (append_assoc a (s ∷ b) rest) room) in
        let right = complete q d n limit rest e (omega arith) (room_after n limit s (b ++ rest) n (operator_opens s.sign op n is) left.room) in
        infix_case d n m limit a b x y s op rest is level left right h
    complete (whole {a = a} {x = x} p) d n limit rest e h room = whole_case d n limit a x rest (complete p d n limit rest e h room)
    complete (percent {a = a} {x = x} s is p) d n limit rest e h room =
        percent_case d n limit a x s rest is (complete p d n limit (s ∷ rest) e (omega (arith, percent_reach s.sign is)) (subst (λ c. most_open n c ≤ limit) (append_assoc a (s ∷ []) rest) room))
    complete (unsigned {a = a} {x = x} p) d n limit rest e h room =
        let b = begins p in unsigned_case d n limit a x rest b.0 b.1 b.2 b.3.1 (complete p d n limit rest e h room)
    complete (signed {a = a} {x = x} s make is p) d n limit rest e h room =
        signed_case d n limit a x s make rest is (complete p d n limit rest e h (room_after n limit s (a ++ rest) n (prefix_opens s.sign make n is) room))
    complete (leaf {a = a} {x = x} p) d n limit rest e h room = record { reads = leaf_case d a x rest p h ∙ ap (λ z. Some (z, rest)) (sym (W.leaf x)); room = leaf_room p n limit rest room }
    complete (parens {a = a} {x = x} s t open_s close_t p) d n limit rest e h room =
        let regroup = append_assoc a (t ∷ []) rest in
        let i = inside d n limit s ((a ++ t ∷ []) ++ rest) e open_s room in
        let r = complete p (d - 1) (suc n) limit (t ∷ rest) i.2 (omega (arith, ap reach close_t)) (subst (λ c. most_open (suc n) c ≤ limit) regroup i.0) in
        let below : formula_at S M d (a ++ t ∷ rest) ≡ Some (W.show x, t ∷ rest) = ap (λ j. formula_at S M j (a ++ t ∷ rest)) i.1 ∙ deeper (d - 1) (suc n) limit a x (t ∷ rest) r (omega (arith, ap reach close_t)) in
        record { reads = ap (λ c. primary_below d (s ∷ c)) regroup ∙ parens_case d s t a (W.show x) rest open_s close_t below ∙ ap (λ z. Some (z, rest)) (sym (W.enclosed s x t)); room = outside n limit t rest close_t r.room }
    complete (no_args s t u word_s open_t close_u) d n limit rest e h room =
        let room_s = room_after n limit s (t ∷ u ∷ rest) n (ap (λ g. opened g n) word_s) room in
        let i = inside d n limit t (u ∷ rest) e open_t room_s in
        record {
          reads = is_word d s (t ∷ u ∷ rest) word_s ∙ is_call d s t (u ∷ rest) open_t ∙ call_case (formula_at S M d) s u t.span.end (u ∷ rest) rest [] true (ap is_close close_u) refl close_u ∙ ap (λ z. Some (z, rest)) (sym (W.called s [] u));
          room = outside n limit u rest close_u i.0;
        }
    complete (call {a = a} {xs = xs} s t u word_s open_t close_u some_args p) d n limit rest e h room =
        let regroup = append_assoc a (u ∷ []) rest in
        let room_s = room_after n limit s (t ∷ ((a ++ u ∷ []) ++ rest)) n (ap (λ g. opened g n) word_s) room in
        let i = inside d n limit t ((a ++ u ∷ []) ++ rest) e open_t room_s in
        let r = complete_args p (d - 1) (suc n) limit (u ∷ rest) i.2 (ap (λ g. is_separator g || is_close g) close_u) (subst (λ c. most_open (suc n) c ≤ limit) regroup i.0) in
        let below : args_at M (formula_at S M d) t.span.end (a ++ u ∷ rest) ≡ Some (map W.show_arg xs, u ∷ rest) =
        ap (λ j. args_at M (formula_at S M j) t.span.end (a ++ u ∷ rest)) i.1 ∙ r.reads ∙ all_stop (arg_turn M (formula_at S M (suc (d - 1)))) (map W.show_arg xs) (u ∷ rest) (args_stop M (formula_at S M (suc (d - 1))) (map W.show_arg xs) (u ∷ rest) (ap is_close close_u)) in
        record {
          reads =
              ap (λ c. primary_below d (s ∷ t ∷ c)) regroup ∙ is_word d s (t ∷ (a ++ u ∷ rest)) word_s ∙ is_call d s t (a ++ u ∷ rest) open_t
              ∙ call_case (formula_at S M d) s u t.span.end (a ++ u ∷ rest) rest (map W.show_arg xs) false (args_not_closed p some_args (u ∷ rest)) below close_u ∙ ap (λ z. Some (z, rest)) (sym (W.called s xs u));
          room = outside n limit u rest close_u r.room;
        }

    complete_args : {before : ℕ} {a : List Symbol} {xs : List Tree} → SpellsArgs S before a xs → (d n limit : ℕ) (rest : List Symbol) → d + n ≡ limit → ends_arg rest ≡ true → most_open n (a ++ rest) ≤ limit → ArgsReady d n limit before a xs rest
    complete_args (first {before = before} {a = a} {x = x} p) d n limit rest e h room = first_case d n limit before a x rest (complete_arg p d n limit rest e h room)
    complete_args (next {before = before} {a = a} {b = b} {xs = xs} {y = y} s is p q) d n limit rest e h room =
        let left = complete_args p d n limit (s ∷ (b ++ rest)) e (separator_ends s.sign is) (subst (λ c. most_open n c ≤ limit) (append_assoc a (s ∷ b) rest) room) in
        let right = complete_arg q d n limit rest e h (room_after n limit s (b ++ rest) n (separator_opens s.sign n is) left.room) in
        next_case d n limit before a b xs y s rest is left right

    complete_arg : {before : ℕ} {a : List Symbol} {x : Tree} → SpellsArg S before a x → (d n limit : ℕ) (rest : List Symbol) → d + n ≡ limit → ends_arg rest ≡ true → most_open n (a ++ rest) ≤ limit → ArgReady d n limit before a x rest
    complete_arg (missing {before = before}) d n limit rest e h room = missing_case d n limit before rest h room
    complete_arg (given {before = before} {a = a} {x = x} p) d n limit rest e h room =
        let b = begins p in
        let r = complete p d n limit rest e (omega (arith, ends_ahead rest h)) room in
        given_case d n limit before a x rest b.0 b.1 b.2 b.3 (deeper d n limit a x rest r (omega (arith, ends_ahead rest h))) r.room
