-- The area of a text is the one that it spells.
use Rattle.std.proofs.Common.{◌≡◌, suc, [], ◌∷◌, length, Option, Some, None, refl, sym, ap, ◌∙◌}
use Rattle.std.specs.Option.{option_and_then}
use Rattle.cell_refs.specs.Areas.{Area}
use Rattle.formula_ast.specs.Tree.{Referred, Listed, Unlisted}
use Rattle.formula_grammar.specs.Symbols.{Setting, symbols_of}
use Rattle.formula_grammar.specs.Loops.{Found}
use Rattle.formula_grammar.specs.LeafReading.{reference_at}
use Rattle.formula_grammar.proofs.Turns.{bind_some, some_is}
use Rattle.formula_parser.specs.Leaves.{area_of}
use Rattle.formula_parser.specs.TextTrees.{area_in, to_the_end, tokens_in}
use Rattle.formula_parser.proofs.TextTrees.{area_cut}
use Rattle.text_laws.specs.Areas.{AreasAreSpelled, NoneIsRead, OneAreaIsSpelled, SpellsArea}
use Rattle.text_laws.proofs.TextTokens.{tokens_cut}
use Rattle.text_laws.proofs.References.{references}

-- an area that is spelled is that of the text
spelled_is_read : (S : Setting) (area : Area) → SpellsArea S area → area_in S ≡ Some area
spelled_is_read S area p =
    let ss = symbols_of S.text p.tokens in
    sym (area_cut S p.tokens p.cut) ∙ ap (λ (o : Found Referred). option_and_then area_of (to_the_end o)) ((references S ss (Listed area)).1 p.spells)

ended : (o : Found Referred) (area : Area) → option_and_then area_of (to_the_end o) ≡ Some area → o ≡ Some (Listed area, [])
ended None area e = absurd cc
ended (Some (Listed a, [])) area e = let k : a ≡ area = cc in ap (λ b. Some (Listed b, [])) k
ended (Some (Unlisted name, [])) area e = absurd cc
ended (Some (r, (s ∷ ss))) area e = absurd cc

read_is_spelled : (S : Setting) (area : Area) → area_in S ≡ Some area → SpellsArea S area
unfolding area_in
read_is_spelled S area e =
    let t = bind_some (tokens_in S.text) (λ ts. option_and_then area_of (to_the_end (reference_at S (symbols_of S.text ts)))) area e in
    let ss = symbols_of S.text t.0 in
    record { tokens = t.0; cut = tokens_cut (suc (length S.text)) 0 S.text t.0 t.1; spells = (references S ss (Listed area)).0 (ended (reference_at S ss) area t.2) }

pub areas : AreasAreSpelled
areas S area = (read_is_spelled S area, spelled_is_read S area)

pub one_area : OneAreaIsSpelled
one_area S a b p q = some_is a b (sym (spelled_is_read S a p) ∙ spelled_is_read S b q)

pub none_read : NoneIsRead
none_read S = (λ e area p. let k : Some area ≡ None = sym (spelled_is_read S area p) ∙ e in absurd cc, by (area_in S) refl)
  where
    by : (o : Option Area) → area_in S ≡ o → ((area : Area) → SpellsArea S area → ⊥) → o ≡ None
    by None e h = refl
    by (Some area) e h = absurd (h area (read_is_spelled S area e))
