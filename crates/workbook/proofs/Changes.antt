-- The texts of names after an edit of one of them.
use Rattle.std.proofs.Common.{◌≡◌, ℕ, Bool, true, false, cond, List, [], ◌∷◌, ◌++◌, map, Option, Some, None, refl, sym, ap, ◌∙◌}
use Rattle.std.specs.Prelude.{◌&&◌, ◌||◌, if◌then◌else◌, not, option_map, string_bytes}
use Rattle.std.specs.List.{find}
use Rattle.std.proofs.lemmas.Bool.{eqb-true}
use Rattle.cell_refs.specs.declared.cell.SheetId.{SheetId}
use Rattle.cell_refs.specs.Names.{IsSameName, same_letters}
use Rattle.cell_refs.proofs.Places.{other, same}
use Rattle.workbook.specs.declared.change.Change.{Change}
use Rattle.workbook.specs.declared.change.Given.{Given}
use Rattle.workbook.specs.Changed.{after_change, after_given, given_text, is_of}
use Rattle.workbook.specs.EditedNames.{without}
use Rattle.workbook.specs.Naming.{is_there, with_new_text}
use Rattle.workbook.specs.Renamed.{OthersStay}
use Rattle.workbook.specs.State.{Name, is_called, is_same_sheet, text_of}
use Rattle.workbook.proofs.NameEdits.{others_stay_named, others_stay_without, own_name, pushed_other, removed_other, retexted_other}
use Rattle.workbook.proofs.NewMeanings.{text_as}

-- ---- names that are called alike
both : (a b : Bool) → (a && b) ≡ true → (a ≡ true) × (b ≡ true)
both true b e = (refl, e)
both false b e = absurd cc

same_sheet_is : (a b : Option ℕ) → is_same_sheet a b ≡ true → a ≡ b
same_sheet_is None None e = refl
same_sheet_is None (Some b) e = absurd cc
same_sheet_is (Some a) None e = absurd cc
same_sheet_is (Some a) (Some b) e = ap Some (eqb-true a b e)

letters_alike : (a b c : List ℕ) → same_letters a b ≡ true → same_letters a c ≡ same_letters b c
letters_alike a b c h = by (same_letters a c) (same_letters b c) refl refl
  where
    small : IsSameName a b
    small = other a b h

    by : (p q : Bool) → same_letters a c ≡ p → same_letters b c ≡ q → p ≡ q
    by true true e f = refl
    by false false e f = refl
    by true false e f = sym (same b c (sym small ∙ other a c e)) ∙ f
    by false true e f = sym e ∙ same a c (small ∙ other b c f)

called_alike : (s t : Option ℕ) (m q : List ℕ) (n : Name) → is_called s m n ≡ true → is_called t q n ≡ (is_same_sheet s t && same_letters m q)
called_alike s t m q n e =
    let b = both (is_same_sheet n.sheet s) (same_letters n.name m) e in
    ap (λ u. is_same_sheet u t && same_letters n.name q) (same_sheet_is n.sheet s b.0)
    ∙ ap (λ x. is_same_sheet s t && x) (letters_alike n.name m q b.1)

-- ---- the text of the name
module _ (s : Option ℕ) (m : List ℕ) where
  abbrev text_if : Bool → Name → List Name → Option (List ℕ)
  text_if b n ns = option_map (λ (n : Name). n.text) (cond b (Some n) (find (is_called s m) ns))

  own_retexted : (text : List ℕ) (ns : List Name) → is_there ns s m ≡ true → text_of (map (with_new_text s m text) ns) s m ≡ Some text
  own_retexted text [] there = absurd cc
  own_retexted text (n ∷ ns) there = by (is_called s m n) refl there (own_retexted text ns)
    where
      by : (b : Bool) → is_called s m n ≡ b → (b || is_there ns s m) ≡ true → (is_there ns s m ≡ true → text_of (map (with_new_text s m text) ns) s m ≡ Some text)
          → text_of ((if b then record n { text = text } else n) ∷ map (with_new_text s m text) ns) s m ≡ Some text
      by true e h ih = ap (λ b. text_if b (record n { text = text }) (map (with_new_text s m text) ns)) e
      by false e h ih = ap (λ b. text_if b n (map (with_new_text s m text) ns)) e ∙ ih h

  own_pushed : (n : Name) (ns : List Name) → is_there ns s m ≡ false → is_called s m n ≡ true → text_of (ns ++ n ∷ []) s m ≡ Some n.text
  own_pushed n [] there own = ap (λ b. text_if b n []) own
  own_pushed n (x ∷ ns) there own = by (is_called s m x) refl there (own_pushed n ns)
    where
      by : (b : Bool) → is_called s m x ≡ b → (b || is_there ns s m) ≡ false → (is_there ns s m ≡ false → is_called s m n ≡ true → text_of (ns ++ n ∷ []) s m ≡ Some n.text)
          → text_of (x ∷ (ns ++ n ∷ [])) s m ≡ Some n.text
      by true e h ih = absurd cc
      by false e h ih = ap (λ b. text_if b x (ns ++ n ∷ [])) e ∙ ih h own

  own_removed : (ns : List Name) → text_of (without s m ns) s m ≡ None
  own_removed [] = refl
  own_removed (n ∷ ns) = by (is_called s m n) refl (own_removed ns)
    where
      by : (b : Bool) → is_called s m n ≡ b → text_of (without s m ns) s m ≡ None → text_of (if not b then n ∷ without s m ns else without s m ns) s m ≡ None
      by true e ih = ih
      by false e ih = ap (λ b. text_if b n (without s m ns)) e ∙ ih

  abbrev named_by : Given → Name
  named_by g = record { sheet = s; sheet_text = string_bytes g.sheet_text; name = m; text = string_bytes g.text; comment = None }

  text_given : (given : Option Given) (ns : List Name) → text_of (after_given s m given ns) s m ≡ option_map (λ (g : Given). string_bytes g.text) given
  text_given None ns = own_removed ns
  text_given (Some g) ns = by (is_there ns s m) refl
    where
      by : (b : Bool) → is_there ns s m ≡ b → text_of (if b then map (with_new_text s m (string_bytes g.text)) ns else ns ++ named_by g ∷ []) s m ≡ Some (string_bytes g.text)
      by true e = own_retexted (string_bytes g.text) ns e
      by false e = own_pushed (named_by g) ns e (own_name (named_by g))

  -- and that of another
  text_beside : (t : Option ℕ) (q : List ℕ) → (is_same_sheet s t && same_letters m q) ≡ false → (given : Option Given) (ns : List Name)
      → text_of (after_given s m given ns) t q ≡ text_of ns t q
  text_beside t q h None ns = removed_other m q s t (λ n e. called_alike s t m q n e ∙ h) ns
  text_beside t q h (Some g) ns = by (is_there ns s m)
    where
      by : (b : Bool) → text_of (if b then map (with_new_text s m (string_bytes g.text)) ns else ns ++ named_by g ∷ []) t q ≡ text_of ns t q
      by true = retexted_other m q s t (λ n e. called_alike s t m q n e ∙ h) (string_bytes g.text) ns
      by false = pushed_other m q s t (λ n e. called_alike s t m q n e ∙ h) (named_by g) ns (own_name (named_by g))

-- ---- an edit
abbrev sheet_of : Change → Option ℕ
sheet_of change = option_map (λ (s : SheetId). s.0) change.sheet

module _ (ns : List Name) (change : Change) (t : Option ℕ) (q : List ℕ) where
  pub text_here : is_of t q change ≡ true → text_of (after_change ns change) t q ≡ given_text change
  text_here h =
      let b = both (is_same_sheet (sheet_of change) t) (same_letters (string_bytes change.name) q) h in
      ap (λ u. text_of (after_change ns change) u q) (sym (same_sheet_is (sheet_of change) t b.0))
      ∙ sym (text_as (sheet_of change) (string_bytes change.name) q (after_change ns change) b.1)
      ∙ text_given (sheet_of change) (string_bytes change.name) change.given ns

  pub text_apart : is_of t q change ≡ false → text_of (after_change ns change) t q ≡ text_of ns t q
  text_apart h = text_beside (sheet_of change) (string_bytes change.name) t q h change.given ns

-- each other name has the text that it had
pub others_changed : (ns : List Name) (change : Change) → OthersStay (string_bytes change.name) ns (after_change ns change)
others_changed ns change = by change.given
  where
    by : (given : Option Given) → OthersStay (string_bytes change.name) ns (after_given (sheet_of change) (string_bytes change.name) given ns)
    by None = others_stay_without (sheet_of change) (string_bytes change.name) ns
    by (Some g) = others_stay_named (named_by (sheet_of change) (string_bytes change.name) g) ns
