-- References that begin with a word, or what the word is alone.
use Rattle.std.proofs.Common.{ap, sym, ◌∙◌}
use Rattle.formula_grammar.specs.LeafReading.{references_at}
use Rattle.formula_parser.specs.Leaves.{leaf_found}
use Rattle.formula_parser.specs.Settings.{seen}
use Rattle.formula_parser.proofs.LeafParts.{same_gives, single_before, single_front, word_alone, word_references}
use Rattle.formula_parser.proofs.Order.{first_is, others_are}
use Rattle.formula_parser.proofs.leaf.word_leaf.Goals as goal

pub returns-then-branch-clause-gives : goal.returns-then-branch-clause-gives
returns-then-branch-clause-gives c =
    same_gives _ _ _ _ (ap leaf_found (ap (references_at (seen c.args.setting.now)) c.requires.parts ∙ sym (word_references (seen c.args.setting.now) c.args.word c.args.rest.now (sym c.in_ok-begins_references.ensures ∙ c.if-branch.true)))) c.joined_references.ensures.gives

pub returns-clause-gives : goal.returns-clause-gives
returns-clause-gives c =
    word_alone (seen c.args.setting.now) c.args.word c.args.rest.now c.requires.word (sym c.in_ok-begins_references.ensures ∙ c.if-branch.false) ∙ ap (single_before c.args.rest.now) c.in_ok-part.ensures

pub returns-clause-placed : goal.returns-clause-placed
returns-clause-placed c =
    single_front (seen c.args.setting.now) c.args.word c.args.symbols.now c.args.rest.now c.requires.parts (first_is c.args.setting.now.text.now c.args.word c.args.rest.now c.args.symbols.now c.requires.parts c.requires.symbols) c.in_ok-part.part c.in_ok-part.ensures

pub returns-clause-rest : goal.returns-clause-rest
returns-clause-rest c =
    others_are c.args.setting.now.text.now c.args.word c.args.rest.now c.args.symbols.now c.requires.parts c.requires.symbols
