-- The error that SUMIF certainly sums.
use Rattle.std.proofs.Common.{◌≡◌, refl, ap, ◌∙◌, Bool, true, false, if◌then◌else◌, ◌==◌, List, [], ◌∷◌, map, Option, Some, None, Err}
use Rattle.cell_refs.specs.declared.error_kind.ErrorKind.{ErrorKind}
use Rattle.sheet_model.specs.declared.value.Value.{Value}
use Rattle.sheet_model.specs.declared.value.Value.TheVariants.{Number, Text, Logical, Empty, Error}
use Rattle.sheet_funcs.specs.Arguments.{behind_first}
use Rattle.sheet_funcs.specs.Criteria.{meets, met}
use Rattle.sheet_funcs.specs.Items.{numbers_among}
use Rattle.affine_forms.specs.Forms.{Assignment, worth}
use Rattle.form_values.specs.Meaning.{abs_at}
use Rattle.form_values.specs.declared.abs.Abs.{Abs}
use Rattle.form_values.specs.declared.abs.Abs.TheVariants.{Known, Affine, Test}
use Rattle.form_table.specs.Choosing.{place_of}
use Rattle.form_table.specs.Criteria.{if_same, certain_beside, summed_error}
use Rattle.form_table.specs.Lookups.{error_of}
use Rattle.form_truth.specs.Picks.{CertainIsSummed}
use Rattle.form_truth.proofs.Sameness.{same_error_is}

-- ---- an element before others
-- an error is the first, and what is none leaves the first of the others
error_first : (x : Assignment) (a : Abs) (l : ErrorKind) (vs : List Value) → error_of a ≡ Some l → numbers_among (abs_at x a ∷ vs) ≡ Err l
error_first x (Known (Error m)) l vs e = let s : m ≡ l = cc in ap Err s
error_first x (Known (Number y)) l vs e = cc
error_first x (Known (Text y)) l vs e = cc
error_first x (Known (Logical y)) l vs e = cc
error_first x (Known Empty) l vs e = cc
error_first x (Affine f) l vs e = cc
error_first x (Test f r) l vs e = cc

error_behind : (x : Assignment) (a : Abs) (k : ErrorKind) (vs : List Value) → error_of a ≡ None → numbers_among vs ≡ Err k → numbers_among (abs_at x a ∷ vs) ≡ Err k
error_behind x (Known (Error m)) k vs e h = cc
error_behind x (Known (Number y)) k vs e h = ap (behind_first y) h
error_behind x (Known (Text y)) k vs e h = h
error_behind x (Known (Logical y)) k vs e h = h
error_behind x (Known Empty) k vs e h = h
error_behind x (Affine o) k vs e h = ap (behind_first (worth x o.form)) h
error_behind x (Test f r) k vs e h = h

-- ---- one place, with what is certain of those that follow
module _ (x : Assignment) (criterion : Value) (a : Abs) (vs : List Value) (later : Option ErrorKind) (others : (k : ErrorKind) → later ≡ Some k → numbers_among vs ≡ Err k) where
  -- no error
  without : (b : Bool) (k : ErrorKind) → error_of a ≡ None → later ≡ Some k → numbers_among (if b then abs_at x a ∷ vs else vs) ≡ Err k
  without true k e h = error_behind x a k vs e (others k h)
  without false k e h = others k h

  -- an error beside an element of which it is known whether it meets the criterion
  beside_known : (b : Bool) (l k : ErrorKind) → error_of a ≡ Some l → (if b then Some l else later) ≡ Some k → numbers_among (if b then abs_at x a ∷ vs else vs) ≡ Err k
  beside_known true l k e h = let s : l ≡ k = cc in error_first x a l vs e ∙ ap Err s
  beside_known false l k e h = others k h

  -- and beside one of which it isn't
  of_same : (b : Bool) (l m k : ErrorKind) → (place_of l == place_of m) ≡ b → (if b then Some m else None) ≡ Some k → l ≡ k
  of_same true l m k same h = let s : m ≡ k = cc in same_error_is l m same ∙ s
  of_same false l m k same h = cc

  same_first : (o : Option ErrorKind) (l k : ErrorKind) → if_same l o ≡ Some k → l ≡ k
  same_first None l k h = cc
  same_first (Some m) l k h = of_same (place_of l == place_of m) l m k refl h

  of_later : (b : Bool) (m k : ErrorKind) → (if b then Some m else None) ≡ Some k → Some m ≡ Some k
  of_later true m k h = h
  of_later false m k h = cc

  same_later : (o : Option ErrorKind) (l k : ErrorKind) → if_same l o ≡ Some k → o ≡ Some k
  same_later None l k h = cc
  same_later (Some m) l k h = of_later (place_of l == place_of m) m k h

  beside_open : (b : Bool) (l k : ErrorKind) → error_of a ≡ Some l → if_same l later ≡ Some k → numbers_among (if b then abs_at x a ∷ vs else vs) ≡ Err k
  beside_open true l k e h = error_first x a l vs e ∙ ap Err (same_first later l k h)
  beside_open false l k e h = others k (same_later later l k h)

  beside : (b : Abs) (o : Option ErrorKind) (k : ErrorKind) → error_of a ≡ o → certain_beside criterion b o later ≡ Some k → numbers_among (if meets criterion (abs_at x b) then abs_at x a ∷ vs else vs) ≡ Err k
  beside b None k e h = without (meets criterion (abs_at x b)) k e h
  beside (Known v) (Some l) k e h = beside_known (meets criterion v) l k e h
  beside (Affine f) (Some l) k e h = beside_open (meets criterion (abs_at x (Affine f))) l k e h
  beside (Test f r) (Some l) k e h = beside_open (meets criterion (abs_at x (Test f r))) l k e h

-- ---- all places
by_test : (b : Bool) (u v : Value) (us vs : List Value) (criterion : Value) → meets criterion u ≡ b → met criterion (u ∷ us) (v ∷ vs) ≡ (if b then v ∷ met criterion us vs else met criterion us vs)
by_test true u v us vs criterion e = cc
by_test false u v us vs criterion e = cc

pub certain_is_summed : CertainIsSummed
certain_is_summed x criterion [] tested k h = cc
certain_is_summed x criterion (a ∷ summed) [] k h = cc
certain_is_summed x criterion (a ∷ summed) (b ∷ tested) k h =
    ap numbers_among (by_test (meets criterion (abs_at x b)) (abs_at x b) (abs_at x a) (map (abs_at x) tested) (map (abs_at x) summed) criterion refl)
    ∙ beside x criterion a (met criterion (map (abs_at x) tested) (map (abs_at x) summed)) (summed_error criterion summed tested)
    (λ l e. certain_is_summed x criterion summed tested l e) b (error_of a) k refl h
