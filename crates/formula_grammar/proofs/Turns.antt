-- A loop whose turns each take a symbol.
use Rattle.std.proofs.Common.{◌≡◌, ℕ, zero, suc, ◌<◌, ◌≤◌, List, [], ◌++◌, length, Option, Some, None, refl, sym, ap, subst, ◌∙◌, append_assoc, length-append, arith}
use Rattle.std.specs.Option.{option_and_then}
use Rattle.std.proofs.lemmas.List.{append-nil}
use Rattle.formula_grammar.specs.declared.symbol.Symbol.{Symbol}
use Rattle.formula_grammar.specs.Loops.{Found, Reader, Turn, Stop, Fail, Go, take_turn, turns, all_turns}

-- what a step found that did not fail
pub bind_some : {A B : Type 0} (o : Option A) (f : A → Option B) (y : B) → option_and_then f o ≡ Some y → (x : A) × (o ≡ Some x) × (f x ≡ Some y)
bind_some None f y e = absurd cc
bind_some (Some x) f y e = (x, refl, e)

pub some_is : {A : Type 0} (x y : A) → Some x ≡ Some y → x ≡ y
some_is x y e = cc

-- a turn that goes on leaves fewer symbols
abbrev pub Takes : {A : Type 0} → (A → List Symbol → Turn A) → Type 0
Takes {A} turn = (x : A) (ss : List Symbol) (y : A) (rest : List Symbol) → turn x ss ≡ Go y rest → length rest < length ss

same_turn : {A : Type 0} (t : Turn A) (stop : Found A) (f g : A → List Symbol → Found A) → ((y : A) (rest : List Symbol) → t ≡ Go y rest → f y rest ≡ g y rest) → take_turn t stop f ≡ take_turn t stop g
same_turn Stop stop f g h = refl
same_turn Fail stop f g h = refl
same_turn (Go y rest) stop f g h = h y rest refl

-- more turns than symbols change nothing
pub enough : {A : Type 0} (turn : A → List Symbol → Turn A) → Takes turn → (n m : ℕ) (x : A) (ss : List Symbol) → length ss < n → length ss < m → turns turn n x ss ≡ turns turn m x ss
unfolding turns
enough turn takes zero m x ss h k = absurd (omega arith)
enough turn takes (suc n) zero x ss h k = absurd (omega arith)
enough turn takes (suc n) (suc m) x ss h k =
    same_turn (turn x ss) (Some (x, ss)) (turns turn n) (turns turn m) (λ y rest e. let less = takes x ss y rest e in enough turn takes n m y rest (omega arith) (omega arith))

pub all_stop : {A : Type 0} (turn : A → List Symbol → Turn A) (x : A) (ss : List Symbol) → turn x ss ≡ Stop → all_turns turn x ss ≡ Some (x, ss)
unfolding turns all_turns
all_stop turn x ss e = ap (λ t. take_turn t (Some (x, ss)) (turns turn (length ss))) e

pub all_fail : {A : Type 0} (turn : A → List Symbol → Turn A) (x : A) (ss : List Symbol) → turn x ss ≡ Fail → all_turns turn x ss ≡ None
unfolding turns all_turns
all_fail turn x ss e = ap (λ t. take_turn t (Some (x, ss)) (turns turn (length ss))) e

pub all_go : {A : Type 0} (turn : A → List Symbol → Turn A) → Takes turn → (x : A) (ss : List Symbol) (y : A) (rest : List Symbol) → turn x ss ≡ Go y rest → all_turns turn x ss ≡ all_turns turn y rest
unfolding turns all_turns
all_go turn takes x ss y rest e =
    let less = takes x ss y rest e in
    ap (λ t. take_turn t (Some (x, ss)) (turns turn (length ss))) e ∙ enough turn takes (length ss) (suc (length rest)) y rest less (omega arith)

-- ---- what a loop has read

-- what was read is in front of the rest, and P says what it spells
pub record Reads {A : Type 0} (P : List Symbol → A → Type 0) (ss : List Symbol) (found : A × List Symbol) : Type 0 where
  pub used : List Symbol
  pub parts : ss ≡ used ++ found.1
  pub spells : P used found.0

abbrev pub Sound : {A : Type 0} → (List Symbol → A → Type 0) → Reader A → Type 0
Sound {A} P read = (ss : List Symbol) (found : A × List Symbol) → read ss ≡ Some found → Reads P ss found

pub shorter : {A : Type 0} (P : List Symbol → A → Type 0) (ss : List Symbol) (found : A × List Symbol) → Reads P ss found → length found.1 ≤ length ss
shorter P ss found r = omega (arith, ap length r.parts, length-append r.used found.1)

abbrev pub KeepsTurn : {A : Type 0} → (List Symbol → A → Type 0) → (A → List Symbol → Turn A) → Type 0
KeepsTurn {A} P turn = (a : List Symbol) (x : A) (ss : List Symbol) (y : A) (rest : List Symbol) → P a x → turn x ss ≡ Go y rest → Reads (λ b z. P (a ++ b) z) ss (y, rest)

kept_turn : {A : Type 0} (P : List Symbol → A → Type 0) (a : List Symbol) (x : A) (ss : List Symbol) (t : Turn A) (go : A → List Symbol → Found A) (found : A × List Symbol)
    → P a x → ((y : A) (rest : List Symbol) → t ≡ Go y rest → Reads (λ b z. P (a ++ b) z) ss (y, rest))
    → ((b : List Symbol) (y : A) (rest : List Symbol) → P b y → go y rest ≡ Some found → Reads (λ c z. P (b ++ c) z) rest found)
    → take_turn t (Some (x, ss)) go ≡ Some found → Reads (λ b z. P (a ++ b) z) ss found
kept_turn P a x ss Stop go found p keep ih e =
    subst (λ f. Reads (λ b z. P (a ++ b) z) ss f) (some_is (x, ss) found e) (record { used = []; parts = refl; spells = subst (λ b. P b x) (sym (append-nil a)) p })
kept_turn P a x ss Fail go found p keep ih e = absurd cc
kept_turn P a x ss (Go y rest) go found p keep ih e =
    let one = keep y rest refl in
    let others = ih (a ++ one.used) y rest one.spells e in
    record {
      used = one.used ++ others.used;
      parts = one.parts ∙ ap (λ b. one.used ++ b) others.parts ∙ sym (append_assoc one.used others.used found.1);
      spells = subst (λ b. P b found.0) (append_assoc a one.used others.used) others.spells;
    }

kept : {A : Type 0} (P : List Symbol → A → Type 0) (turn : A → List Symbol → Turn A) → KeepsTurn P turn
    → (n : ℕ) (a : List Symbol) (x : A) (ss : List Symbol) (found : A × List Symbol) → P a x → turns turn n x ss ≡ Some found → Reads (λ b z. P (a ++ b) z) ss found
unfolding turns
kept P turn keep zero a x ss found p e = absurd cc
kept P turn keep (suc n) a x ss found p e =
    kept_turn P a x ss (turn x ss) (turns turn n) found p (λ y rest h. keep a x ss y rest p h) (λ b y rest q h. kept P turn keep n b y rest found q h) e

-- a first part, and then the turns
pub loop_sound : {A B : Type 0} (P : List Symbol → B → Type 0) (Q : List Symbol → A → Type 0) (read : Reader B) (begin : B → A) (turn : A → List Symbol → Turn A)
    → Sound P read → ((a : List Symbol) (x : B) → P a x → Q a (begin x)) → KeepsTurn Q turn
    → Sound Q (λ ss. option_and_then (λ (x : B × List Symbol). all_turns turn (begin x.0) x.1) (read ss))
unfolding all_turns
loop_sound P Q read begin turn sound starts keep ss found e =
    let b = bind_some (read ss) (λ x. turns turn (suc (length x.1)) (begin x.0) x.1) found e in
    let one = sound ss b.0 b.1 in
    let others = kept Q turn keep (suc (length b.0.1)) one.used (begin b.0.0) b.0.1 found (starts one.used b.0.0 one.spells) b.2 in
    record { used = one.used ++ others.used; parts = one.parts ∙ ap (λ c. one.used ++ c) others.parts ∙ sym (append_assoc one.used others.used found.1); spells = others.spells }
