-- Whole formulas.
use Rattle.std.proofs.Common.{◌≡◌, ℕ, suc, ◌≤◌, List, [], ◌∷◌, ◌++◌, Some, None, refl, sym, ap, subst, ◌∙◌, arith}
use Rattle.std.specs.Prelude.{map}
use Rattle.std.proofs.lemmas.List.{append-nil}
use Rattle.formula_ast.specs.Tree.{Tree}
use Rattle.formula_grammar.specs.declared.symbol.Symbol.{Symbol}
use Rattle.formula_grammar.specs.Symbols.{Setting}
use Rattle.formula_grammar.specs.Parts.{Part, called}
use Rattle.formula_grammar.specs.Making.{Making, Shows, plain}
use Rattle.formula_grammar.specs.Grammar.{Spells, Level}
use Rattle.formula_grammar.specs.Reading.{formula_at}
use Rattle.formula_grammar.specs.Depth.{most_open}
use Rattle.formula_grammar.proofs.Turns.{some_is}
use Rattle.formula_grammar.proofs.Sound.{formula_sound, Spelled}
use Rattle.formula_grammar.proofs.Complete.{complete, deeper}

-- the symbols spell the tree
pub record SpellsTree (S : Setting) (symbols : List Symbol) (tree : Tree) : Type 0 where
  pub part : Part
  pub is : part.tree ≡ tree
  pub spells : Spells S (Level 5) symbols part

-- the trees themselves show themselves
pub plain_shows : (S : Setting) → Shows S (plain S)
plain_shows S = record {
  show = λ x. x;
  show_arg = λ x. x;
  joined = λ op x y. refl;
  prefixed = λ prefix s x. refl;
  in_hundredths = λ x s. refl;
  enclosed = λ s x t. refl;
  leaf = λ x. refl;
  called = λ s xs t. ap (λ ys. called S s ys t) (sym (map-id xs));
  missing = λ before. refl;
  given = λ x. refl;
}
  where
    map-id : (xs : List Tree) → map (λ x. x) xs ≡ xs
    map-id [] = refl
    map-id (x ∷ xs) = ap (λ ys. x ∷ ys) (map-id xs)

module _ (S : Setting) (M : Making) (W : Shows S M) where
  pub found : (depth : ℕ) (ss : List Symbol) (x : M.Made) (rest : List Symbol) → formula_at S M depth ss ≡ Some (x, rest) → rest ≡ [] → Spelled S M W (Level 5) ss x
  found depth ss x rest e none =
      let r = formula_sound S M W depth ss (x, rest) e in
      subst (λ a. Spelled S M W (Level 5) a x) (sym (r.parts ∙ ap (λ c. r.used ++ c) none ∙ append-nil r.used)) r.spells

  pub read : (limit : ℕ) (ss : List Symbol) (tree : Tree) (s : SpellsTree S ss tree) → most_open 0 ss ≤ limit → formula_at S M (suc limit) ss ≡ Some (W.show s.part, [])
  read limit ss tree s room =
      let r = complete S M W s.spells limit 0 limit [] (omega arith) (omega arith) (subst (λ c. most_open 0 c ≤ limit) (sym (append-nil ss)) room) in
      ap (formula_at S M (suc limit)) (sym (append-nil ss)) ∙ deeper S M W limit 0 limit ss s.part [] r (omega arith)

  pub none_spelled : (limit : ℕ) (ss : List Symbol) → most_open 0 ss ≤ limit → formula_at S M (suc limit) ss ≡ None → (tree : Tree) → SpellsTree S ss tree → ⊥
  none_spelled limit ss room e tree s = let r = read limit ss tree s room in absurd cc

  pub more_left : (limit : ℕ) (ss : List Symbol) (x : M.Made) (rest : List Symbol) → most_open 0 ss ≤ limit → formula_at S M (suc limit) ss ≡ Some (x, rest) → (rest ≡ [] → ⊥) → (tree : Tree) → SpellsTree S ss tree → ⊥
  more_left limit ss x rest room e some tree s =
      let r : Some (x, rest) ≡ Some (W.show s.part, []) = sym e ∙ read limit ss tree s room in
      some (ap (λ (f : M.Made × List Symbol). f.1) (some_is (x, rest) (W.show s.part, []) r))

pub one : (S : Setting) (ss : List Symbol) (a b : Tree) → SpellsTree S ss a → SpellsTree S ss b → a ≡ b
unfolding plain_shows
one S ss a b s t =
    let r : Some (s.part, []) ≡ Some (t.part, []) = sym (read S (plain S) (plain_shows S) (most_open 0 ss) ss a s (omega arith)) ∙ read S (plain S) (plain_shows S) (most_open 0 ss) ss b t (omega arith) in
    sym s.is ∙ ap (λ (f : Part × List Symbol). f.0.tree) (some_is (s.part, []) (t.part, []) r) ∙ t.is
