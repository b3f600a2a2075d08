-- The steps of the code, over plain variables.
use Rattle.std.proofs.Common.{is_some, ◌≡◌, ℕ, zero, suc, ◌+◌, ◌-◌, ◌<◌, ◌≤◌, Bool, true, false, cond, List, [], ◌∷◌, ◌++◌, length, drop, take, get_or, add-one, Option, Some, None, eqb, eq-eqb, refl, sym, ap, ◌∙◌, arith}
use Rattle.std.proofs.lemmas.Bool.Decides.{eqb_tells}
use Rattle.std.proofs.lemmas.Grind.{common_steps}
use Rattle.std.specs.Option.{option_map_or, option_and_then}
use Rattle.cell_refs.specs.declared.op.Op.{Op}
use Rattle.formula_grammar.specs.declared.symbol.Symbol.{Symbol}
use Rattle.formula_grammar.specs.Symbols.{Setting}
use Rattle.formula_grammar.specs.Parts.{Prefix, level_of, operator_of, prefix_of, is_percent, is_separator}
use Rattle.formula_grammar.specs.Making.{Making, Shows}
use Rattle.formula_grammar.specs.Loops.{Found, Reader, Turn, Stop as Stopped, Go, go_on, all_turns}
use Rattle.formula_grammar.specs.Reading.{at_level, operator_at, infix_turn, level_at, percent_turn, signed_at, hundredths_at, arg_at, arg_turn, args_at, primary_at, formula_at, close_at, parens_at}
use Rattle.formula_grammar.proofs.Turns.{some_is, all_stop, all_fail, all_go}
use Rattle.formula_grammar.proofs.Sound.{formula_sound}
use Rattle.formula_grammar.proofs.Complete.{infix_takes, percent_takes, args_take, base, base_sound}
use Rattle.formula_parser.specs.declared.stop.Stop.{Stop}
use Rattle.formula_parser.specs.declared.stop.Stop.TheVariants as stops
use Rattle.formula_parser.specs.Built.{prefixed_by}
use Rattle.formula_parser.specs.Given.{Fails, IsLooser, next_operator, next_where, prefix_count}

-- what fails at first fails as a whole
pub fails_first : {A B : Type 0} (e : Stop) (o : Option A) (f : A → Option B) → Fails e o → Fails e (option_and_then f o)
fails_first stops.Memory o f h = tt
fails_first stops.Syntax o f h = ap (option_and_then f) h

-- ---- one turn of a loop

module _ {A B : Type 0} (turn : A → List Symbol → Turn A) (x : A) (ss : List Symbol) (g : B → A) (o : Found B) (is : turn x ss ≡ go_on g o) where
  -- a loop fails where a turn does
  loop_fails : (e : Stop) (total : Found A) → Fails e o → all_turns turn x ss ≡ total → Fails e total
  loop_fails stops.Memory total h k = tt
  loop_fails stops.Syntax total h k = sym k ∙ all_fail turn x ss (is ∙ ap (go_on g) h)

  -- a turn goes on with what is read
  loop_goes : (y : B) (rest : List Symbol) → o ≡ Some (y, rest) → turn x ss ≡ Go (g y) rest
  loop_goes y rest h = is ∙ ap (go_on g) h

-- a loop ends where no turn is left
pub loop_done : {A : Type 0} (turn : A → List Symbol → Turn A) (x : A) (ss : List Symbol) (total : Found A) → turn x ss ≡ Stopped → all_turns turn x ss ≡ total → total ≡ Some (x, ss)
loop_done turn x ss total h k = sym k ∙ all_stop turn x ss h

-- ---- infix operators

-- the operator in front, if it is one of a level
abbrev pub operator_of_level : ℕ → List Symbol → Option (Op × List Symbol)
operator_of_level level [] = None
operator_of_level level (s ∷ ss) = option_map_or (λ op. Some (op, ss)) (operator_at level s) None

module _ (M : Making) (operand : Reader M.Made) (level : ℕ) (x : M.Made) where
  -- no operator follows
  infix_none : (ss : List Symbol) → operator_of_level level ss ≡ None → infix_turn M operand level x ss ≡ Stopped
  infix_none [] e = refl
  infix_none (s ∷ ss) e = by_case (operator_at level s) e
    where
      by_case : (o : Option Op) → option_map_or {U = Option (Op × List Symbol)} (λ op. Some (op, ss)) o None ≡ None → option_map_or (λ op. go_on (M.joined op x) (operand ss)) o Stopped ≡ Stopped
      by_case None e = refl
      by_case (Some op) e = absurd cc

  -- an operator follows
  infix_some : (ss : List Symbol) (op : Op) (after : List Symbol) → operator_of_level level ss ≡ Some (op, after) → infix_turn M operand level x ss ≡ go_on (M.joined op x) (operand after)
  infix_some [] op after e = absurd cc
  infix_some (s ∷ ss) op after e = by_case (operator_at level s) e
    where
      by_case : (o : Option Op) → option_map_or {U = Option (Op × List Symbol)} (λ op. Some (op, ss)) o None ≡ Some (op, after) → option_map_or (λ op. go_on (M.joined op x) (operand ss)) o Stopped ≡ go_on (M.joined op x) (operand after)
      by_case None e = absurd cc
      by_case (Some p) e = ap (λ (f : Op × List Symbol). go_on (M.joined f.0 x) (operand f.1)) (some_is (p, ss) (op, after) e)

-- numbers that differ are not equal
other_than : (a b : ℕ) → (a ≡ b → ⊥) → eqb a b ≡ false
other_than a b h = grind (arith, eqb_tells a b)

-- the operator in front is one of its level
pub operator_here : (ss : List Symbol) (op : Op) (after : List Symbol) → next_operator ss ≡ Some (op, after) → operator_of_level (level_of op) ss ≡ Some (op, after)
operator_here [] op after e = absurd cc
operator_here (s ∷ ss) op after e = by_case (operator_of s.sign) e
  where
    by_case : (o : Option Op) → option_map_or {U = Option (Op × List Symbol)} (λ op. Some (op, ss)) o None ≡ Some (op, after)
        → option_map_or {U = Option (Op × List Symbol)} (λ op. Some (op, ss)) (option_and_then (at_level (level_of op)) o) None ≡ Some (op, after)
    by_case None e = absurd cc
    by_case (Some p) e =
        let same : p ≡ op = ap (λ (f : Op × List Symbol). f.0) (some_is (p, ss) (op, after) e) in
        ap (λ b. option_map_or {U = Option (Op × List Symbol)} (λ op. Some (op, ss)) (cond b (Some p) None) None) (eq-eqb (level_of p) (level_of op) (ap level_of same)) ∙ e

-- it is none of another level
operator_elsewhere : (ss : List Symbol) (op : Op) (after : List Symbol) → next_operator ss ≡ Some (op, after) → (level : ℕ) → (level_of op ≡ level → ⊥) → operator_of_level level ss ≡ None
operator_elsewhere [] op after e level other = absurd cc
operator_elsewhere (s ∷ ss) op after e level other = by_case (operator_of s.sign) e
  where
    by_case : (o : Option Op) → option_map_or {U = Option (Op × List Symbol)} (λ op. Some (op, ss)) o None ≡ Some (op, after)
        → option_map_or {U = Option (Op × List Symbol)} (λ op. Some (op, ss)) (option_and_then (at_level level) o) None ≡ None
    by_case None e = absurd cc
    by_case (Some p) e =
        let same : p ≡ op = ap (λ (f : Op × List Symbol). f.0) (some_is (p, ss) (op, after) e) in
        ap (λ b. option_map_or {U = Option (Op × List Symbol)} (λ op. Some (op, ss)) (cond b (Some p) None) None) (other_than (level_of p) level (λ k. other (sym (ap level_of same) ∙ k)))

-- where no operator is in front, there is none of any level
operator_nowhere : (ss : List Symbol) → next_operator ss ≡ None → (level : ℕ) → operator_of_level level ss ≡ None
operator_nowhere [] e level = refl
operator_nowhere (s ∷ ss) e level = by_case (operator_of s.sign) e
  where
    by_case : (o : Option Op) → option_map_or {U = Option (Op × List Symbol)} (λ op. Some (op, ss)) o None ≡ None
        → option_map_or {U = Option (Op × List Symbol)} (λ op. Some (op, ss)) (option_and_then (at_level level) o) None ≡ None
    by_case None e = refl
    by_case (Some p) e = absurd cc

-- each operator is of a level
pub level_some : (op : Op) → 1 ≤ level_of op
level_some op = grind (arith, common_steps)

-- the operator in front is looser than a level
pub looser_here : (level : ℕ) (ss : List Symbol) (op : Op) (after : List Symbol) → next_operator ss ≡ Some (op, after) → level < level_of op → IsLooser level ss
looser_here level ss op after e h p others k = grind (arith, common_steps)

-- so it is where there is none
pub looser_nowhere : (level : ℕ) (ss : List Symbol) → next_operator ss ≡ None → IsLooser level ss
looser_nowhere level ss e p others k = absurd cc

-- there is then none of that level, nor of one below it
looser_none : (level : ℕ) (ss : List Symbol) → IsLooser level ss → (k : ℕ) → k ≤ level → operator_of_level k ss ≡ None
looser_none level ss looser k le = by_case (next_operator ss) refl
  where
    by_case : (o : Option (Op × List Symbol)) → next_operator ss ≡ o → operator_of_level k ss ≡ None
    by_case None e = operator_nowhere ss e k
    by_case (Some x) e =
        let h : level < level_of x.0 = looser x.0 x.1 e in
        operator_elsewhere ss x.0 x.1 e k (λ same. absurd (omega arith))

-- a level is read from the one below
level_from : (M : Making) (base : Reader M.Made) (at n : ℕ) (ss : List Symbol) → at ≡ suc n → level_at M base at ss ≡ option_and_then (λ (x : M.Made × List Symbol). all_turns (infix_turn M (level_at M base n) at) x.0 x.1) (level_at M base n ss)
unfolding level_at
level_from M base at n ss e = rw e refl

module _ (S : Setting) (M : Making) (W : Shows S M) (depth at : ℕ) where
  module _ (x : M.Made) (ss : List Symbol) (op : Op) (after : List Symbol) (next : operator_of_level at ss ≡ Some (op, after)) where
    -- another operand fails
    pub level_fails : (e : Stop) (total : Found M.Made) → Fails e (level_at M (base S M W depth) (at - 1) after) → all_turns (infix_turn M (level_at M (base S M W depth) (at - 1)) at) x ss ≡ total → Fails e total
    level_fails = loop_fails (infix_turn M (level_at M (base S M W depth) (at - 1)) at) x ss (M.joined op x) (level_at M (base S M W depth) (at - 1) after) (infix_some M (level_at M (base S M W depth) (at - 1)) at x ss op after next)

    -- a turn reads an operator and an operand
    level_turn : (y : M.Made) (rest : List Symbol) → level_at M (base S M W depth) (at - 1) after ≡ Some (y, rest) → infix_turn M (level_at M (base S M W depth) (at - 1)) at x ss ≡ Go (M.joined op x y) rest
    level_turn = loop_goes (infix_turn M (level_at M (base S M W depth) (at - 1)) at) x ss (M.joined op x) (level_at M (base S M W depth) (at - 1) after) (infix_some M (level_at M (base S M W depth) (at - 1)) at x ss op after next)

    -- a turn leaves fewer symbols
    pub level_less : (y : M.Made) (rest : List Symbol) → level_at M (base S M W depth) (at - 1) after ≡ Some (y, rest) → length rest < length ss
    level_less y rest h = infix_takes S M W (level_at M (base S M W depth) (at - 1)) (at - 1) at (base_sound S M W depth (at - 1)) x ss (M.joined op x y) rest (level_turn y rest h)

    -- the loop goes on with both joined
    pub level_goes : (y z : M.Made) (rest : List Symbol) (total : Found M.Made) → level_at M (base S M W depth) (at - 1) after ≡ Some (y, rest) → z ≡ M.joined op x y
        → all_turns (infix_turn M (level_at M (base S M W depth) (at - 1)) at) x ss ≡ total → all_turns (infix_turn M (level_at M (base S M W depth) (at - 1)) at) z rest ≡ total
    level_goes y z rest total h k so_far =
        ap (λ p. all_turns (infix_turn M (level_at M (base S M W depth) (at - 1)) at) p rest) k
        ∙ sym (all_go (infix_turn M (level_at M (base S M W depth) (at - 1)) at) (infix_takes S M W (level_at M (base S M W depth) (at - 1)) (at - 1) at (base_sound S M W depth (at - 1))) x ss (M.joined op x y) rest (level_turn y rest h))
        ∙ so_far

-- ---- percent signs

-- no percent sign follows
percent_none : (M : Making) (x : M.Made) (ss : List Symbol) → next_where is_percent ss ≡ None → percent_turn M x ss ≡ Stopped
percent_none M x [] e = refl
percent_none M x (s ∷ ss) e = by_case (is_percent s.sign) e
  where
    by_case : (b : Bool) → cond {A = Option (Symbol × List Symbol)} b (Some (s, ss)) None ≡ None → cond b (Go (M.in_hundredths x s) ss) Stopped ≡ Stopped
    by_case true e = absurd cc
    by_case false e = refl

-- a percent sign follows
percent_some : (M : Making) (x : M.Made) (ss : List Symbol) (s : Symbol) (after : List Symbol) → next_where is_percent ss ≡ Some (s, after) → percent_turn M x ss ≡ Go (M.in_hundredths x s) after
percent_some M x [] s after e = absurd cc
percent_some M x (t ∷ ss) s after e = by_case (is_percent t.sign) e
  where
    by_case : (b : Bool) → cond {A = Option (Symbol × List Symbol)} b (Some (t, ss)) None ≡ Some (s, after) → cond b (Go (M.in_hundredths x t) ss) Stopped ≡ Go (M.in_hundredths x s) after
    by_case true e = ap (λ (f : Symbol × List Symbol). Go (M.in_hundredths x f.0) f.1) (some_is (t, ss) (s, after) e)
    by_case false e = absurd cc

module _ (M : Making) (primary : Reader M.Made) where
  -- the first part fails
  pub hundredths_fails : (e : Stop) (ss : List Symbol) → Fails e (signed_at M primary ss) → Fails e (hundredths_at M primary ss)
  unfolding hundredths_at
  hundredths_fails e ss h = fails_first e (signed_at M primary ss) (λ x. all_turns (percent_turn M) x.0 x.1) h

  -- the loop begins with the first part
  pub hundredths_begins : (ss : List Symbol) (x : M.Made) (rest : List Symbol) → signed_at M primary ss ≡ Some (x, rest) → all_turns (percent_turn M) x rest ≡ hundredths_at M primary ss
  unfolding hundredths_at
  hundredths_begins ss x rest h = sym (ap (option_and_then (λ (x : M.Made × List Symbol). all_turns (percent_turn M) x.0 x.1)) h)

-- the loop goes on with the part in hundredths
pub percent_goes : (S : Setting) (M : Making) (W : Shows S M) (x z : M.Made) (ss : List Symbol) (s : Symbol) (after : List Symbol) (total : Found M.Made) → next_where is_percent ss ≡ Some (s, after) → z ≡ M.in_hundredths x s → all_turns (percent_turn M) x ss ≡ total → all_turns (percent_turn M) z after ≡ total
percent_goes S M W x z ss s after total e k so_far = ap (λ p. all_turns (percent_turn M) p after) k ∙ sym (all_go (percent_turn M) (percent_takes S M W) x ss (M.in_hundredths x s) after (percent_some M x ss s after e)) ∙ so_far

-- no percent sign is left
pub percent_done : (M : Making) (x : M.Made) (ss : List Symbol) (total : Found M.Made) → next_where is_percent ss ≡ None → all_turns (percent_turn M) x ss ≡ total → total ≡ Some (x, ss)
percent_done M x ss total e = loop_done (percent_turn M) x ss total (percent_none M x ss e)

-- ---- levels

-- at the same number
moved : {A : Type 0} (f : ℕ → A) (m n : ℕ) → m ≡ n → f m ≡ f n
moved f m n e = ap f e

-- what is read one after the other
and_then_joined : {A B C : Type 0} (o : Option A) (f : A → Option B) (g : B → Option C) → option_and_then g (option_and_then f o) ≡ option_and_then (λ x. option_and_then g (f x)) o
and_then_joined None f g = refl
and_then_joined (Some x) f g = refl

and_then_some : {A B : Type 0} (o : Option (A × B)) → option_and_then (λ x. Some (x.0, x.1)) o ≡ o
and_then_some None = refl
and_then_some (Some x) = refl

-- all turns of so many levels, from one on
abbrev pub climb : (M : Making) → Reader M.Made → ℕ → ℕ → M.Made → List Symbol → Found M.Made
climb M base zero least x ss = Some (x, ss)
climb M base (suc more) least x ss = option_and_then (λ (y : M.Made × List Symbol). climb M base more (suc least) y.0 y.1) (all_turns (infix_turn M (level_at M base (least - 1)) least) x ss)

module _ (M : Making) (base : Reader M.Made) where
  -- the levels above one, one after the other, are the highest of them
  climb_from : (more n : ℕ) (ss : List Symbol) → option_and_then (λ (x : M.Made × List Symbol). climb M base more (suc n) x.0 x.1) (level_at M base n ss) ≡ level_at M base (n + more) ss
  climb_from zero n ss = and_then_some (level_at M base n ss) ∙ moved (λ m. level_at M base m ss) n (n + 0) (omega arith)
  climb_from (suc more) n ss =
      moved (λ m. option_and_then (λ (x : M.Made × List Symbol). option_and_then (λ (y : M.Made × List Symbol). climb M base more (suc (suc n)) y.0 y.1) (all_turns (infix_turn M (level_at M base m) (suc n)) x.0 x.1)) (level_at M base n ss)) (suc n - 1) n (omega arith)
      ∙ sym (and_then_joined (level_at M base n ss) (λ (x : M.Made × List Symbol). all_turns (infix_turn M (level_at M base n) (suc n)) x.0 x.1) (λ (y : M.Made × List Symbol). climb M base more (suc (suc n)) y.0 y.1))
      ∙ ap (option_and_then (λ (y : M.Made × List Symbol). climb M base more (suc (suc n)) y.0 y.1)) (sym (level_from M base (suc n) n ss refl))
      ∙ climb_from more (suc n) ss
      ∙ moved (λ m. level_at M base m ss) (suc n + more) (n + suc more) (omega arith)

  -- all levels are read from the lowest on
  climb_all : (at : ℕ) (ss : List Symbol) → level_at M base at ss ≡ option_and_then (λ (x : M.Made × List Symbol). climb M base at 1 x.0 x.1) (base ss)
  unfolding level_at
  climb_all at ss = moved (λ m. level_at M base m ss) at (0 + at) (omega arith) ∙ sym (climb_from at 0 ss)

  -- the first operand fails
  pub level_fails_first : (e : Stop) (at : ℕ) (ss : List Symbol) → Fails e (base ss) → Fails e (level_at M base at ss)
  level_fails_first e at ss h = rw (climb_all at ss) (fails_first e (base ss) (λ x. climb M base at 1 x.0 x.1) h)

  -- the loop begins with the first operand
  pub level_begins : (at : ℕ) (ss : List Symbol) (x : M.Made) (rest : List Symbol) → base ss ≡ Some (x, rest) → climb M base at 1 x rest ≡ level_at M base at ss
  level_begins at ss x rest h = sym (climb_all at ss ∙ ap (option_and_then (λ (x : M.Made × List Symbol). climb M base at 1 x.0 x.1)) h)

  module _ (x : M.Made) (ss : List Symbol) where
    -- a level without an operator in front is done
    climb_next : (more least : ℕ) → operator_of_level least ss ≡ None → climb M base (suc more) least x ss ≡ climb M base more (suc least) x ss
    climb_next more least e = ap (option_and_then (λ (y : M.Made × List Symbol). climb M base more (suc least) y.0 y.1)) (all_stop (infix_turn M (level_at M base (least - 1)) least) x ss (infix_none M (level_at M base (least - 1)) least x ss e))

    -- so are more of them
    climb_on : (gap more least : ℕ) → ((k : ℕ) → least ≤ k → k < least + gap → operator_of_level k ss ≡ None) → climb M base (gap + more) least x ss ≡ climb M base more (least + gap) x ss
    climb_on zero more least none = moved (λ n. climb M base n least x ss) (0 + more) more (omega arith) ∙ moved (λ n. climb M base more n x ss) least (least + 0) (omega arith)
    climb_on (suc gap) more least none =
        moved (λ n. climb M base n least x ss) (suc gap + more) (suc (gap + more)) (omega arith)
        ∙ climb_next (gap + more) least (none least (omega arith) (omega arith))
        ∙ climb_on gap more (suc least) (λ k low high. none k (omega arith) (omega arith))
        ∙ moved (λ n. climb M base more n x ss) (suc least + gap) (least + suc gap) (omega arith)

    -- a looser operator in front is of none of them
    pub climb_done : (at : ℕ) (total : Found M.Made) → IsLooser at ss → climb M base at 1 x ss ≡ total → total ≡ Some (x, ss)
    climb_done at total looser so_far = sym so_far ∙ moved (λ n. climb M base n 1 x ss) at (at + 0) (omega arith) ∙ climb_on at 0 1 (λ k low high. looser_none at ss looser k (omega arith))

    -- one that is looser than the levels below another is read from that one on
    climb_to : (at binds : ℕ) → 1 ≤ binds → binds ≤ at → IsLooser (binds - 1) ss → climb M base at 1 x ss ≡ climb M base (suc (at - binds)) binds x ss
    climb_to at binds low high looser =
        moved (λ n. climb M base n 1 x ss) at (binds - 1 + suc (at - binds)) (omega arith)
        ∙ climb_on (binds - 1) (suc (at - binds)) 1 (λ k above below. looser_none (binds - 1) ss looser k (omega arith))
        ∙ moved (λ n. climb M base (suc (at - binds)) n x ss) (1 + (binds - 1)) binds (omega arith)

-- the loop of levels at an operator
module _ (S : Setting) (M : Making) (W : Shows S M) (depth at binds : ℕ) (x : M.Made) (ss : List Symbol) (op : Op) (after : List Symbol) (next : next_operator ss ≡ Some (op, after)) (is : binds ≡ level_of op) (high : binds ≤ at) where
  -- an operator of that level is in front
  front : operator_of_level binds ss ≡ Some (op, after)
  front = ap (λ n. operator_of_level n ss) is ∙ operator_here ss op after next

  -- so the loop is at that level
  climb_here : climb M (base S M W depth) at 1 x ss ≡ climb M (base S M W depth) (suc (at - binds)) binds x ss
  climb_here =
      let some = level_some op in
      climb_to M (base S M W depth) x ss at binds (omega arith) high (looser_here (binds - 1) ss op after next (omega arith))

  -- another operand fails
  pub climb_fails : (e : Stop) (total : Found M.Made) → Fails e (level_at M (base S M W depth) (binds - 1) after) → climb M (base S M W depth) at 1 x ss ≡ total → Fails e total
  climb_fails stops.Memory total h so_far = tt
  climb_fails stops.Syntax total h so_far =
      sym so_far ∙ climb_here
      ∙ ap (option_and_then (λ (y : M.Made × List Symbol). climb M (base S M W depth) (at - binds) (suc binds) y.0 y.1)) (level_fails S M W depth binds x ss op after front stops.Syntax (all_turns (infix_turn M (level_at M (base S M W depth) (binds - 1)) binds) x ss) h refl)

  -- a turn leaves fewer symbols
  pub climb_less : (y : M.Made) (rest : List Symbol) → level_at M (base S M W depth) (binds - 1) after ≡ Some (y, rest) → length rest < length ss
  climb_less y rest h = level_less S M W depth binds x ss op after front y rest h

  -- the loop goes on with both joined
  pub climb_goes : (y z : M.Made) (rest : List Symbol) (total : Found M.Made) → level_at M (base S M W depth) (binds - 1) after ≡ Some (y, rest) → IsLooser (binds - 1) rest → z ≡ M.joined op x y
      → climb M (base S M W depth) at 1 x ss ≡ total → climb M (base S M W depth) at 1 z rest ≡ total
  climb_goes y z rest total h looser k so_far =
      let some = level_some op in
      climb_to M (base S M W depth) z rest at binds (omega arith) high looser
      ∙ ap (option_and_then (λ (y : M.Made × List Symbol). climb M (base S M W depth) (at - binds) (suc binds) y.0 y.1)) (level_goes S M W depth binds x ss op after front y z rest (all_turns (infix_turn M (level_at M (base S M W depth) (binds - 1)) binds) x ss) h k refl)
      ∙ sym climb_here
      ∙ so_far

-- ---- arguments

module _ (M : Making) (inner : Reader M.Made) (xs : List M.Arg) where
  -- no separator follows
  args_none : (ss : List Symbol) → next_where is_separator ss ≡ None → arg_turn M inner xs ss ≡ Stopped
  args_none [] e = refl
  args_none (s ∷ ss) e = by_case (is_separator s.sign) e
    where
      by_case : (b : Bool) → cond {A = Option (Symbol × List Symbol)} b (Some (s, ss)) None ≡ None → cond b (go_on (λ x. xs ++ x ∷ []) (arg_at M inner s.span.end ss)) Stopped ≡ Stopped
      by_case true e = absurd cc
      by_case false e = refl

  -- a separator follows
  args_some : (ss : List Symbol) (s : Symbol) (after : List Symbol) → next_where is_separator ss ≡ Some (s, after) → arg_turn M inner xs ss ≡ go_on (λ x. xs ++ x ∷ []) (arg_at M inner s.span.end after)
  args_some [] s after e = absurd cc
  args_some (t ∷ ss) s after e = by_case (is_separator t.sign) e
    where
      by_case : (b : Bool) → cond {A = Option (Symbol × List Symbol)} b (Some (t, ss)) None ≡ Some (s, after) → cond b (go_on (λ x. xs ++ x ∷ []) (arg_at M inner t.span.end ss)) Stopped ≡ go_on (λ x. xs ++ x ∷ []) (arg_at M inner s.span.end after)
      by_case true e = ap (λ (f : Symbol × List Symbol). go_on (λ x. xs ++ x ∷ []) (arg_at M inner f.0.span.end f.1)) (some_is (t, ss) (s, after) e)
      by_case false e = absurd cc

-- the first argument fails
pub args_fails_first : (M : Making) (inner : Reader M.Made) (e : Stop) (before : ℕ) (ss : List Symbol) → Fails e (arg_at M inner before ss) → Fails e (args_at M inner before ss)
unfolding args_at
args_fails_first M inner e before ss h = fails_first e (arg_at M inner before ss) (λ x. all_turns (arg_turn M inner) (x.0 ∷ []) x.1) h

-- the loop begins with the first argument
pub args_begins : (M : Making) (inner : Reader M.Made) (before : ℕ) (ss : List Symbol) (x : M.Arg) (rest : List Symbol) (xs : List M.Arg) → arg_at M inner before ss ≡ Some (x, rest) → xs ≡ x ∷ [] → all_turns (arg_turn M inner) xs rest ≡ args_at M inner before ss
unfolding args_at
args_begins M inner before ss x rest xs h k = ap (λ c. all_turns (arg_turn M inner) c rest) k ∙ sym (ap (option_and_then (λ (x : M.Arg × List Symbol). all_turns (arg_turn M inner) (x.0 ∷ []) x.1)) h)

-- no separator is left
pub args_done : (M : Making) (inner : Reader M.Made) (xs : List M.Arg) (ss : List Symbol) (total : Found (List M.Arg)) → next_where is_separator ss ≡ None → all_turns (arg_turn M inner) xs ss ≡ total → total ≡ Some (xs, ss)
args_done M inner xs ss total e = loop_done (arg_turn M inner) xs ss total (args_none M inner xs ss e)

module _ (S : Setting) (M : Making) (W : Shows S M) (depth : ℕ) (xs : List M.Arg) (ss : List Symbol) (s : Symbol) (after : List Symbol) (next : next_where is_separator ss ≡ Some (s, after)) where
  -- another argument fails
  pub args_fails : (e : Stop) (total : Found (List M.Arg)) → Fails e (arg_at M (formula_at S M depth) s.span.end after) → all_turns (arg_turn M (formula_at S M depth)) xs ss ≡ total → Fails e total
  args_fails = loop_fails (arg_turn M (formula_at S M depth)) xs ss (λ x. xs ++ x ∷ []) (arg_at M (formula_at S M depth) s.span.end after) (args_some M (formula_at S M depth) xs ss s after next)

  -- a turn reads a separator and an argument
  args_turn_goes : (y : M.Arg) (rest : List Symbol) → arg_at M (formula_at S M depth) s.span.end after ≡ Some (y, rest) → arg_turn M (formula_at S M depth) xs ss ≡ Go (xs ++ y ∷ []) rest
  args_turn_goes = loop_goes (arg_turn M (formula_at S M depth)) xs ss (λ x. xs ++ x ∷ []) (arg_at M (formula_at S M depth) s.span.end after) (args_some M (formula_at S M depth) xs ss s after next)

  -- a turn leaves fewer symbols
  pub args_less : (y : M.Arg) (rest : List Symbol) → arg_at M (formula_at S M depth) s.span.end after ≡ Some (y, rest) → length rest < length ss
  args_less y rest h = args_take S M W (formula_at S M depth) (formula_sound S M W depth) xs ss (xs ++ y ∷ []) rest (args_turn_goes y rest h)

  -- the loop goes on with one argument more
  pub args_goes : (y : M.Arg) (zs : List M.Arg) (rest : List Symbol) (total : Found (List M.Arg)) → arg_at M (formula_at S M depth) s.span.end after ≡ Some (y, rest) → zs ≡ xs ++ y ∷ []
      → all_turns (arg_turn M (formula_at S M depth)) xs ss ≡ total → all_turns (arg_turn M (formula_at S M depth)) zs rest ≡ total
  args_goes y zs rest total h k so_far =
      ap (λ p. all_turns (arg_turn M (formula_at S M depth)) p rest) k
      ∙ sym (all_go (arg_turn M (formula_at S M depth)) (args_take S M W (formula_at S M depth) (formula_sound S M W depth)) xs ss (xs ++ y ∷ []) rest (args_turn_goes y rest h))
      ∙ so_far

-- ---- prefix signs

module _ (M : Making) (primary : Reader M.Made) where
  -- a sign, if it is one, before what is read
  back_case : (o : Option Prefix) (s : Symbol) (n : ℕ) (found other : Found M.Made) (x : M.Made) (rest : List Symbol) → 0 < option_map_or (λ make. suc n) o 0 → found ≡ Some (x, rest)
      → option_map_or (λ make. option_and_then (λ (x : M.Made × List Symbol). Some (M.prefixed make s x.0, x.1)) found) o other ≡ Some (prefixed_by M o s x, rest)
  back_case None s n found other x rest lt e = absurd (omega arith)
  back_case (Some make) s n found other x rest lt e = ap (option_and_then (λ (x : M.Made × List Symbol). Some (M.prefixed make s x.0, x.1))) e

  -- fewer signs stand behind the first
  fewer : (o : Option Prefix) (n i : ℕ) → suc i < option_map_or (λ make. suc n) o 0 → i < n
  fewer None n i h = absurd (omega arith)
  fewer (Some make) n i h = omega arith

  -- one sign before what is read
  pub signed_back : (ss : List Symbol) (i : ℕ) (d : Symbol) (x : M.Made) (rest : List Symbol) → i < prefix_count ss → signed_at M primary (drop (suc i) ss) ≡ Some (x, rest)
      → signed_at M primary (drop i ss) ≡ Some (prefixed_by M (prefix_of (get_or ss i d).sign) (get_or ss i d) x, rest)
  unfolding prefix_count signed_at
  signed_back [] i d x rest lt e = absurd (omega arith)
  signed_back (s ∷ ss) zero d x rest lt e = back_case (prefix_of s.sign) s (prefix_count ss) (signed_at M primary ss) (primary (s ∷ ss)) x rest lt e
  signed_back (s ∷ ss) (suc i) d x rest lt e = signed_back ss i d x rest (fewer (prefix_of s.sign) (prefix_count ss) i lt) e

  -- the same from one symbol earlier on
  pub signed_step : (ss : List Symbol) (left : ℕ) (d : Symbol) (x z : M.Made) (rest : List Symbol) → 0 < left → left ≤ prefix_count ss → signed_at M primary (drop left ss) ≡ Some (x, rest)
      → z ≡ prefixed_by M (prefix_of (get_or ss (left - 1) d).sign) (get_or ss (left - 1) d) x → signed_at M primary (drop (left - 1) ss) ≡ Some (z, rest)
  signed_step ss left d x z rest some within e is =
      let one : left ≡ suc (left - 1) = omega arith in
      signed_back ss (left - 1) d x rest (omega arith) (ap (λ n. signed_at M primary (drop n ss)) (sym one) ∙ e) ∙ ap (λ p. Some (p, rest)) (sym is)

  -- behind the signs stands what is read without them
  front_case : (s : Symbol) (ss : List Symbol) (o : Option Prefix) → prefix_of s.sign ≡ o → signed_at M primary (drop (prefix_count ss) ss) ≡ primary (drop (prefix_count ss) ss)
      → signed_at M primary (drop (option_map_or (λ make. suc (prefix_count ss)) o 0) (s ∷ ss)) ≡ primary (drop (option_map_or (λ make. suc (prefix_count ss)) o 0) (s ∷ ss))
  unfolding signed_at
  front_case s ss None is ih = ap (λ o. option_map_or (λ make. option_and_then (λ (x : M.Made × List Symbol). Some (M.prefixed make s x.0, x.1)) (signed_at M primary ss)) o (primary (s ∷ ss))) is
  front_case s ss (Some make) is ih = ih

  -- behind all signs
  pub signed_front : primary [] ≡ None → (ss : List Symbol) → signed_at M primary (drop (prefix_count ss) ss) ≡ primary (drop (prefix_count ss) ss)
  unfolding prefix_count signed_at
  signed_front none [] = sym none
  signed_front none (s ∷ ss) = front_case s ss (prefix_of s.sign) refl (signed_front none ss)

  -- nothing is read behind the signs
  none_case : (s : Symbol) (ss : List Symbol) (o : Option Prefix) → primary (drop (option_map_or (λ make. suc (prefix_count ss)) o 0) (s ∷ ss)) ≡ None → (primary (drop (prefix_count ss) ss) ≡ None → signed_at M primary ss ≡ None)
      → option_map_or (λ make. option_and_then (λ (x : M.Made × List Symbol). Some (M.prefixed make s x.0, x.1)) (signed_at M primary ss)) o (primary (s ∷ ss)) ≡ None
  none_case s ss None h ih = h
  none_case s ss (Some make) h ih = ap (option_and_then (λ (x : M.Made × List Symbol). Some (M.prefixed make s x.0, x.1))) (ih h)

  -- where nothing is read behind the signs, nothing is read
  signed_none : (ss : List Symbol) → primary (drop (prefix_count ss) ss) ≡ None → signed_at M primary ss ≡ None
  unfolding prefix_count signed_at
  signed_none [] h = refl
  signed_none (s ∷ ss) h = none_case s ss (prefix_of s.sign) h (signed_none ss)

  -- what fails behind the signs fails as a whole
  pub signed_fails : (e : Stop) (ss : List Symbol) (n : ℕ) → n ≡ prefix_count ss → Fails e (primary (drop n ss)) → Fails e (signed_at M primary ss)
  signed_fails stops.Memory ss n is h = tt
  signed_fails stops.Syntax ss n is h = signed_none ss (ap (λ m. primary (drop m ss)) (sym is) ∙ h)

-- nothing is read of no symbols
pub primary_none : (S : Setting) (M : Making) (inner : Reader M.Made) → primary_at S M inner [] ≡ None
unfolding primary_at
primary_none S M inner = refl

-- all symbols from one on
pub whole_rest : (ss : List Symbol) (n : ℕ) → take (length ss - n) (drop n ss) ≡ drop n ss
whole_rest ss n = grind (arith, common_steps)

-- ---- counting signs

-- a sign counts
pub count_more : (ss : List Symbol) (i : ℕ) (d : Symbol) → i < length ss → is_some (prefix_of (get_or ss i d).sign) ≡ true → prefix_count (drop i ss) ≡ suc (prefix_count (drop (suc i) ss))
unfolding prefix_count
count_more [] i d lt h = absurd (omega arith)
count_more (s ∷ ss) zero d lt h = by_case (prefix_of s.sign) h
  where
    by_case : (o : Option Prefix) → is_some o ≡ true → option_map_or (λ make. suc (prefix_count ss)) o 0 ≡ suc (prefix_count ss)
    by_case None h = absurd cc
    by_case (Some make) h = refl
count_more (s ∷ ss) (suc i) d lt h = count_more ss i d (omega arith) h

-- another symbol ends the count
pub count_none : (ss : List Symbol) (i : ℕ) (d : Symbol) → i < length ss → is_some (prefix_of (get_or ss i d).sign) ≡ false → prefix_count (drop i ss) ≡ 0
unfolding prefix_count
count_none [] i d lt h = absurd (omega arith)
count_none (s ∷ ss) zero d lt h = by_case (prefix_of s.sign) h
  where
    by_case : (o : Option Prefix) → is_some o ≡ false → option_map_or (λ make. suc (prefix_count ss)) o 0 ≡ 0
    by_case None h = refl
    by_case (Some make) h = absurd cc
count_none (s ∷ ss) (suc i) d lt h = count_none ss i d (omega arith) h

-- so does the end
pub count_end : (ss : List Symbol) (i : ℕ) → length ss ≤ i → prefix_count (drop i ss) ≡ 0
unfolding prefix_count
count_end [] zero h = refl
count_end [] (suc i) h = refl
count_end (s ∷ ss) zero h = absurd (omega arith)
count_end (s ∷ ss) (suc i) h = count_end ss i (omega arith)

-- the count so far, and of what is left
pub counts_on : (ss : List Symbol) (i : ℕ) (d : Symbol) (total : ℕ) → i < length ss → is_some (prefix_of (get_or ss i d).sign) ≡ true → prefix_count (drop i ss) + i ≡ total → prefix_count (drop (i + 1) ss) + (i + 1) ≡ total
counts_on ss i d total lt h e = let one = count_more ss i d lt h in rw add-one (omega arith)

-- ---- parentheses

-- a formula and the parenthesis behind it
pub parens_gives : (M : Making) (inner : Reader M.Made) (s : Symbol) (ss : List Symbol) (x z : M.Made) (rest : List Symbol) (t : Symbol) (after : List Symbol) → inner ss ≡ Some (x, rest) → close_at rest ≡ Some (t, after) → z ≡ M.enclosed s x t
    → parens_at M inner s ss ≡ Some (z, after)
unfolding parens_at
parens_gives M inner s ss x z rest t after e k made =
    ap (option_and_then (λ (f : M.Made × List Symbol). option_and_then (λ (g : Symbol × List Symbol). Some (M.enclosed s f.0 g.0, g.1)) (close_at f.1))) e
    ∙ ap (option_and_then (λ (g : Symbol × List Symbol). Some (M.enclosed s x g.0, g.1))) k
    ∙ ap (λ p. Some (p, after)) (sym made)
