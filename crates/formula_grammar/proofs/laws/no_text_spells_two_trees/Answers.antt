use Rattle.std.proofs.Common.{subst}
use Rattle.formula_grammar.specs.Symbols.{symbols_of}
use Rattle.formula_grammar.specs.Formula.{SpellsFormula}
use Rattle.formula_grammar.proofs.laws.no_text_spells_two_trees.Goals as goal

pub returns : goal.returns
returns c = λ S a b s t.
    let same = c.one_list.ensures.one S.text s.tokens t.tokens s.cut t.cut in
    c.no_symbols_spell_two_trees.ensures S (symbols_of S.text t.tokens) a b (subst (λ ts. SpellsFormula S (symbols_of S.text ts) a) same s.spells) t.spells
