-- What texts say, by their trees as they are spelled.
use Rattle.std.proofs.Common.{◌≡◌, ◌≢◌, ℕ, true, false, List, [], Option, Some, None, refl, sym, ap, ◌∙◌}
use Rattle.std.specs.Prelude.{if◌then◌else◌}
use Rattle.std.specs.Option.{option_and_then, option_map_or}
use Rattle.std.specs.Global.{Box}
use Rattle.cell_refs.specs.declared.cell.Cell.{Cell}
use Rattle.cell_refs.specs.declared.cell.SheetId.{SheetId}
use Rattle.formula_ast.specs.Sound.{IsSound}
use Rattle.formula_ast.specs.Tree.{Tree}
use Rattle.formula_parser.specs.TextTrees.{tree_in}
use Rattle.frac128.specs.NumeralReading.{reading}
use Rattle.recalculation.specs.Entries.{Formula, Malformed}
use Rattle.workbook.specs.declared.held.Said.{Said}
use Rattle.workbook.specs.declared.held.Said.TheVariants as variant
use Rattle.workbook.specs.Held.{IsHeld, IsSoundly, SaysSpelled, entry_of}
use Rattle.workbook.specs.Kinds.{formula_tree, meant, number_or_other, says, with_names}
use Rattle.cell_refs.specs.Listed.{IsListed}
use Rattle.workbook.specs.State.{Name, is_formula_text}
use Rattle.workbook.specs.Uses.{names_nothing, is_wanted, some_use}
use Rattle.workbook.proofs.NamelessTrees.{nameless_stays, nameless_unused}
use Rattle.workbook.proofs.UsedNames.{agree}

module _ (sheets : List (List ℕ)) (names : List Name) (home : SheetId) (cell : Cell) (text : List ℕ) (said : Said) where
  -- a text that begins no formula
  pub says_plain : is_formula_text text ≡ false → entry_of text said ≡ number_or_other text (reading text) → IsSoundly said → SaysSpelled sheets names cell text (None, said)
  says_plain plain agrees sound = record { agrees = agrees ∙ sym (plainly names); sound = sound; spelled = λ ns others. plainly ns ∙ sym (plainly others) }
    where
      plainly : (ns : List Name) → says sheets ns cell text ≡ number_or_other text (reading text)
      plainly ns = ap (λ b. if b then option_map_or Formula (option_and_then (with_names (meant sheets ns cell.sheet.0)) (tree_in (record { text = text; home = cell.sheet.0; sheets = sheets }))) Malformed else number_or_other text (reading text)) plain

  module _ (is : home ≡ cell.sheet) (begins : is_formula_text text ≡ true) where
    says_tree : (o : Option Tree) → tree_in (record { text = text; home = home.0; sheets = sheets }) ≡ o → (ns : List Name)
        → says sheets ns cell text ≡ option_map_or Formula (option_and_then (with_names (meant sheets ns cell.sheet.0)) o) Malformed
    says_tree o e ns =
        ap (λ b. if b then option_map_or Formula (option_and_then (with_names (meant sheets ns cell.sheet.0)) (tree_in (record { text = text; home = cell.sheet.0; sheets = sheets }))) Malformed else number_or_other text (reading text)) begins
        ∙ ap (λ p. option_map_or Formula (option_and_then (with_names (meant sheets ns cell.sheet.0)) p) Malformed)
        (ap (λ (h : SheetId). tree_in (record { text = text; home = h.0; sheets = sheets })) (sym is) ∙ e)

    -- a formula without a tree
    pub says_malformed : tree_in (record { text = text; home = home.0; sheets = sheets }) ≡ None → SaysSpelled sheets names cell text (None, variant.Malformed)
    says_malformed e = record { agrees = sym (says_tree None e names); sound = tt; spelled = λ ns others. says_tree None e ns ∙ sym (says_tree None e others) }

    module _ (t : Tree) (e : tree_in (record { text = text; home = home.0; sheets = sheets }) ≡ Some t) (found : Option Tree)
        (resolved : found ≡ with_names (meant sheets names home.0) t) (told : entry_of text said ≡ option_map_or Formula found Malformed) (sound : IsSoundly said) where
      agreed : entry_of text said ≡ says sheets names cell text
      agreed =
          told ∙ ap (λ o. option_map_or Formula o Malformed) resolved
          ∙ ap (λ (h : SheetId). option_map_or Formula (with_names (meant sheets names h.0) t) Malformed) is
          ∙ sym (says_tree (Some t) e names)

      -- one in which names stand
      pub says_named : (b : Box Tree) → b.value ≡ t → SaysSpelled sheets names cell text (Some b, said)
      says_named b same = record {
        agrees = agreed;
        sound = sound;
        spelled = λ ns. says_tree (Some t) e ns ∙ ap (λ u. option_map_or Formula (with_names (meant sheets ns cell.sheet.0) u) Malformed) (sym same);
      }

      -- one in which none stand
      pub says_nameless : some_use (is_wanted None) t ≡ false → SaysSpelled sheets names cell text (None, said)
      says_nameless none = record {
        agrees = agreed;
        sound = sound;
        spelled = λ ns others.
            says_tree (Some t) e ns
            ∙ ap (λ o. option_map_or Formula o Malformed) (agree (meant sheets ns cell.sheet.0) (meant sheets others cell.sheet.0) (is_wanted None) (λ q h. absurd (let k : true ≡ false = h in cc)) t none)
            ∙ sym (says_tree (Some t) e others);
      }

-- the tree of a formula in which neither names nor unknown functions stand
pub tree_itself : (sheets : List (List ℕ)) (names : List Name) (home : ℕ) (text : List ℕ) (t : Tree) → tree_in (record { text = text; home = home; sheets = sheets }) ≡ Some t → names_nothing t ≡ true
    → Some t ≡ formula_tree sheets names home text
tree_itself sheets names home text t e nothing = let look = meant sheets names home in sym (ap (option_and_then (with_names look)) e ∙ nameless_stays look t nothing)

-- what its text says
pub says_itself : (sheets : List (List ℕ)) (names : List Name) (home : SheetId) (cell : Cell) (text : List ℕ) (t : Tree) (said : Said) → home ≡ cell.sheet → is_formula_text text ≡ true
    → tree_in (record { text = text; home = home.0; sheets = sheets }) ≡ Some t → names_nothing t ≡ true → entry_of text said ≡ Formula t → IsSoundly said → SaysSpelled sheets names cell text (None, said)
says_itself sheets names home cell text t said is begins e nothing agrees sound =
    says_nameless sheets names home cell text said is begins t e (Some t) (sym (nameless_stays (meant sheets names home.0) t nothing)) agrees sound (nameless_unused (is_wanted None) t nothing)

-- what is held of a cell with its text
pub held_is : (sheets : List (List ℕ)) (names : List Name) (cell : Cell) (text : List ℕ) (p : Option (Box Tree) × Said) → IsListed sheets cell → text ≢ [] → SaysSpelled sheets names cell text p
    → IsHeld sheets names cell (record { text = text; spelled = p.0; said = p.1 })
held_is sheets names cell text p listed some is = record { listed = listed; some = some; agrees = is.agrees; sound = is.sound; spelled = is.spelled }
