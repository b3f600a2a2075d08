-- The reference that symbols are, and the corner that a word is (OpenDocument 1.2 part 2, section 5.8).
use Rattle.std.specs.Prelude.{◌≡◌, ◌↔◌, ℕ, List, [], Some}
use Rattle.formula_ast.specs.Tree.{Referred}
use Rattle.formula_grammar.specs.declared.symbol.Symbol.{Symbol}
use Rattle.formula_grammar.specs.Symbols.{Setting}
use Rattle.formula_grammar.specs.References.{SpellsReference, SpellsWord}
use Rattle.formula_grammar.specs.WordReading.{word_corner}
use Rattle.formula_grammar.specs.Words.{Corner}
use Rattle.formula_grammar.specs.LeafReading.{reference_at}

-- a reference is read of some symbols, all of them, exactly where they spell it
abbrev pub ReferencesAreSpelled : Type 0
ReferencesAreSpelled = (S : Setting) (symbols : List Symbol) (r : Referred) → (reference_at S symbols ≡ Some (r, [])) ↔ SpellsReference S symbols r

-- a corner is read of a word outside brackets exactly where the word spells it
abbrev pub WordsAreSpelled : Type 0
WordsAreSpelled = (S : Setting) (word : List ℕ) (c : Corner) → (word_corner S word ≡ Some c) ↔ SpellsWord S word c
