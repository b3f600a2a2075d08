-- Cells that say something else once a name stands for something else.
use Rattle.std.proofs.Common.{◌≡◌, ◌≢◌, ℕ, Bool, true, false, cond, List, [], ◌∷◌, Option, Some, None, refl, sym, ap, subst, ◌∙◌}
use Rattle.std.specs.Prelude.{MatchOption, ◌&&◌, option_map}
use Rattle.std.specs.Option.{option_and_then, option_map_or}
use Rattle.std.specs.List.{find}
use Rattle.cell_refs.specs.declared.cell.Cell.{Cell}
use Rattle.cell_refs.specs.Names.{IsSameName, same_letters}
use Rattle.cell_refs.proofs.Places.{other, same}
use Rattle.formula_ast.specs.Tree.{Tree}
use Rattle.recalculation.specs.Entries.{Formula, Malformed}
use Rattle.workbook.specs.declared.held.Held.{Held}
use Rattle.workbook.specs.declared.held.Said.{Said}
use Rattle.workbook.specs.declared.held.Said.TheVariants as said
use Rattle.workbook.specs.Held.{IsHeld, IsSoundly, IsSpelled, entry_of, spelled_tree}
use Rattle.workbook.specs.Kinds.{first_of, meant, meant_by, says, with_names}
use Rattle.workbook.specs.Renamed.{OthersStay, Resaid, is_malformed}
use Rattle.workbook.specs.State.{Name, is_called, is_same_sheet, text_of}
use Rattle.workbook.specs.Uses.{is_wanted, some_use}
use Rattle.workbook.proofs.UsedNames.{agree, apart}

-- ---- names in any case of letters
-- two names that are one are the same as each other name
pub same_as : (a b c : List ℕ) → same_letters a b ≡ true → same_letters c a ≡ same_letters c b
same_as a b c h = by (same_letters c a) (same_letters c b) refl refl
  where
    small : IsSameName a b
    small = other a b h

    by : (p q : Bool) → same_letters c a ≡ p → same_letters c b ≡ q → p ≡ q
    by true true e f = refl
    by false false e f = refl
    by true false e f = sym (same c b (other c a e ∙ small)) ∙ f
    by false true e f = sym e ∙ same c a (other c b f ∙ sym small)

called_as : (sheet : Option ℕ) (a b : List ℕ) (ns : List Name) → same_letters a b ≡ true → find (is_called sheet a) ns ≡ find (is_called sheet b) ns
called_as sheet a b [] h = refl
called_as sheet a b (n ∷ ns) h =
    ap (λ x. cond (is_same_sheet n.sheet sheet && x) (Some n) (find (is_called sheet a) ns)) (same_as a b n.name h)
    ∙ ap (cond (is_called sheet b n) (Some n)) (called_as sheet a b ns h)

pub text_as : (sheet : Option ℕ) (a b : List ℕ) (ns : List Name) → same_letters a b ≡ true → text_of ns sheet a ≡ text_of ns sheet b
text_as sheet a b ns h = ap (option_map (λ (n : Name). n.text)) (called_as sheet a b ns h)

-- they stand for the same
meant_as : (sheets : List (List ℕ)) (ns : List Name) (home : ℕ) (a b : List ℕ) → same_letters a b ≡ true → meant sheets ns home a ≡ meant sheets ns home b
meant_as sheets ns home a b h =
    ap (λ o. option_and_then (meant_by sheets home) (first_of o (text_of ns None a))) (text_as (Some home) a b ns h)
    ∙ ap (λ o. option_and_then (meant_by sheets home) (first_of (text_of ns (Some home) b) o)) (text_as None a b ns h)

-- ---- one cell
module _ (sheets : List (List ℕ)) (before after : List Name) (name : List ℕ) (others : OthersStay name before after) where
  -- another name stands for what it did
  others_meant : (home : ℕ) (q : List ℕ) → same_letters q name ≡ false → meant sheets after home q ≡ meant sheets before home q
  others_meant home q h =
      ap (λ o. option_and_then (meant_by sheets home) (first_of o (text_of after None q))) (others (Some home) q h)
      ∙ ap (λ o. option_and_then (meant_by sheets home) (first_of (text_of before (Some home) q) o)) (others None q h)

  module _ (cell : Cell) (held : Held) (own : IsHeld sheets before cell held) where
    -- a text in which no names stand says the same
    pub says_alike : spelled_tree held ≡ None → says sheets after cell held.text ≡ says sheets before cell held.text
    says_alike none = let free : IsSpelled sheets cell held.text None = subst (IsSpelled sheets cell held.text) none own.spelled in free after before

    module _ (t : Tree) (spelled : spelled_tree held ≡ Some t) where
      spells : IsSpelled sheets cell held.text (Some t)
      spells = subst (IsSpelled sheets cell held.text) spelled own.spelled

      told : with_names (meant sheets after cell.sheet.0) t ≡ with_names (meant sheets before cell.sheet.0) t → says sheets after cell held.text ≡ says sheets before cell held.text
      told e = spells after ∙ ap (λ o. option_map_or Formula o Malformed) e ∙ sym (spells before)

      -- so does one in which the name doesn't stand
      pub unused_alike : some_use (is_wanted (Some name)) t ≡ false → says sheets after cell held.text ≡ says sheets before cell held.text
      unused_alike h = told (agree (meant sheets after cell.sheet.0) (meant sheets before cell.sheet.0) (is_wanted (Some name)) (λ q e. others_meant cell.sheet.0 q e) t h)

      -- and one in which it stands for what it did
      pub meant_alike : meant sheets before cell.sheet.0 name ≡ meant sheets after cell.sheet.0 name → says sheets after cell held.text ≡ says sheets before cell held.text
      meant_alike e = told (λ i. with_names (λ q. each q (same_letters q name) refl i) t)
        where
          each : (q : List ℕ) (b : Bool) → same_letters q name ≡ b → meant sheets after cell.sheet.0 q ≡ meant sheets before cell.sheet.0 q
          each q true h = meant_as sheets after cell.sheet.0 q name h ∙ sym e ∙ sym (meant_as sheets before cell.sheet.0 q name h)
          each q false h = others_meant cell.sheet.0 q h

      -- one in which it stands for something else says something else, if it said or says anything
      apart_trees : some_use (is_wanted (Some name)) t ≡ true → meant sheets before cell.sheet.0 name ≢ meant sheets after cell.sheet.0 name
          → with_names (meant sheets after cell.sheet.0) t ≡ with_names (meant sheets before cell.sheet.0) t → with_names (meant sheets after cell.sheet.0) t ≡ None
      apart_trees h ne = apart (meant sheets after cell.sheet.0) (meant sheets before cell.sheet.0) (is_wanted (Some name)) (λ q e f. ne (
          sym (meant_as sheets before cell.sheet.0 q name e) ∙ sym f ∙ meant_as sheets after cell.sheet.0 q name e)) t h

      one_tree : (o p : Option Tree) → option_map_or Formula o Malformed ≡ option_map_or Formula p Malformed → o ≡ p
      one_tree None None e = refl
      one_tree None (Some b) e = absurd cc
      one_tree (Some a) None e = absurd cc
      one_tree (Some a) (Some b) e = let k : a ≡ b = cc in ap Some k

      none_malformed : (o : Option Tree) → o ≡ None → option_map_or Formula o Malformed ≡ Malformed
      none_malformed o e = ap (λ o. option_map_or Formula o Malformed) e

      pub says_otherwise : some_use (is_wanted (Some name)) t ≡ true → meant sheets before cell.sheet.0 name ≢ meant sheets after cell.sheet.0 name
          → says sheets after cell held.text ≡ says sheets before cell held.text → says sheets after cell held.text ≡ Malformed
      says_otherwise h ne e =
          spells after ∙ none_malformed (with_names (meant sheets after cell.sheet.0) t)
          (apart_trees h ne (one_tree (with_names (meant sheets after cell.sheet.0) t) (with_names (meant sheets before cell.sheet.0) t) (sym (spells after) ∙ e ∙ spells before)))

      -- ---- what is said now
      is_both : (a b : Bool) → (a && b) ≡ true → (a ≡ true) × (b ≡ true)
      is_both true b e = (refl, e)
      is_both false b e = absurd cc

      malformed_entry : (text : List ℕ) (s : Said) → is_malformed s ≡ true → entry_of text s ≡ Malformed
      malformed_entry text (said.Number x) e = absurd cc
      malformed_entry text (said.Logical b) e = absurd cc
      malformed_entry text said.Plain e = absurd cc
      malformed_entry text (said.Formula u) e = absurd cc
      malformed_entry text said.Malformed e = refl

      entry_malformed : (text : List ℕ) (s : Said) → entry_of text s ≡ Malformed → is_malformed s ≡ true
      entry_malformed text (said.Number x) e = absurd cc
      entry_malformed text (said.Logical b) e = absurd cc
      entry_malformed text said.Plain e = absurd cc
      entry_malformed text (said.Formula u) e = absurd cc
      entry_malformed text said.Malformed e = refl

      module _ (now : Said) (agrees : entry_of held.text now ≡ option_map_or Formula (with_names (meant sheets after cell.sheet.0) t) Malformed) where
        pub says_now : entry_of held.text now ≡ says sheets after cell held.text
        says_now = agrees ∙ sym (spells after)

        pub malformed_alike : is_malformed now ≡ true → is_malformed held.said ≡ true → says sheets after cell held.text ≡ says sheets before cell held.text
        malformed_alike a b = sym says_now ∙ malformed_entry held.text now a ∙ sym (malformed_entry held.text held.said b) ∙ own.agrees

        pub now_otherwise : some_use (is_wanted (Some name)) t ≡ true → meant sheets before cell.sheet.0 name ≢ meant sheets after cell.sheet.0 name
            → (is_malformed now && is_malformed held.said) ≡ false → says sheets after cell held.text ≢ says sheets before cell held.text
        now_otherwise h ne well e =
            let bad = says_otherwise h ne e in
            let a : is_malformed now ≡ true = entry_malformed held.text now (says_now ∙ bad) in
            let b : is_malformed held.said ≡ true = entry_malformed held.text held.said (own.agrees ∙ sym e ∙ bad) in
            absurd (let k : true ≡ false = sym (ap (λ x. x && is_malformed held.said) a ∙ b) ∙ well in cc)

        pub answered : (o : Option Said) → IsSoundly now → some_use (is_wanted (Some name)) t ≡ true → meant sheets before cell.sheet.0 name ≢ meant sheets after cell.sheet.0 name
            → MatchOption o ((is_malformed now ≡ true) × (is_malformed held.said ≡ true)) (λ s. (s ≡ now) × ((is_malformed now && is_malformed held.said) ≡ false))
            → Resaid sheets before after cell held o
        answered None sound h ne is = malformed_alike is.0 is.1
        answered (Some s) sound h ne is = subst (λ x. Resaid sheets before after cell held (Some x)) (sym is.0) (sound, says_now, now_otherwise h ne is.1)
