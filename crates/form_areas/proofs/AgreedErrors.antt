-- What a search certainly finds, one element after the other.
use Rattle.std.specs.Prelude.{◌==◌, ◌+◌, if◌then◌else◌}
use Rattle.std.proofs.Common.{◌≡◌, refl, sym, ap, ◌∙◌, Bool, true, false, true≢false, List, ◌∷◌, Option, Some, None, ℕ}
use Rattle.cell_refs.specs.declared.error_kind.ErrorKind.{ErrorKind}
use Rattle.sheet_funcs.specs.declared.lookups.MatchKind.{MatchKind}
use Rattle.sheet_model.specs.declared.value.Value.{Value}
use Rattle.form_values.specs.declared.abs.Abs.{Abs}
use Rattle.form_table.specs.Choosing.{place_of}
use Rattle.form_table.specs.Criteria.{if_same}
use Rattle.form_table.specs.Lookups.{may_be_key}
use Rattle.form_table.specs.CertainRecords.{Errors, same_error, end_at, error_there, error_behind, if_ends, search_error}
use Rattle.form_ops.proofs.FromFormTruth.{same_error_is}
use Rattle.form_areas.specs.Agreed.{is_end, joined, agreed_behind}

-- ---- three errors that are the same
three_same : (k m n : ErrorKind) (p q : Bool) → (place_of k == place_of m) ≡ p → (place_of m == place_of n) ≡ q
    → same_error (if p then Some m else None) (Some n) ≡ if_same k (if q then Some n else None)
three_same k m n true true d e =
    ap (λ b. if b then Some n else None) e ∙ sym (ap (λ l. if place_of l == place_of n then Some n else None) (same_error_is k m d) ∙ ap (λ b. if b then Some n else None) e)
three_same k m n true false d e = ap (λ b. if b then Some n else None) e
three_same k m n false true d e = sym (ap (λ l. if place_of k == place_of l then Some n else None) (sym (same_error_is m n e)) ∙ ap (λ b. if b then Some n else None) d)
three_same k m n false false d e = refl

nothing_same : (m : ErrorKind) (p : Bool) → same_error (if p then Some m else None) None ≡ None
nothing_same m true = refl
nothing_same m false = refl

same_in_turn : (a b c : Option ErrorKind) → same_error (same_error a b) c ≡ same_error a (same_error b c)
same_in_turn None b c = refl
same_in_turn (Some k) None c = refl
same_in_turn (Some k) (Some m) None = nothing_same m (place_of k == place_of m)
same_in_turn (Some k) (Some m) (Some n) = three_same k m n (place_of k == place_of m) (place_of m == place_of n) refl refl

joined_in_turn : (agreed : Option (Option ErrorKind)) (there later : Option ErrorKind) → joined agreed (same_error there later) ≡ same_error (joined agreed there) later
joined_in_turn None there later = refl
joined_in_turn (Some f) there later = sym (same_in_turn f there later)

-- ---- behind one element
module _ (kind : MatchKind) (error : Errors) (key : Option Value) (agreed : Option (Option ErrorKind)) (whole : Option ErrorKind) (i : ℕ) (before : Option ErrorKind) (a : Abs) (keys : List Abs)
    (so_far : whole ≡ joined agreed (search_error kind error key i before (a ∷ keys))) where
  abbrev there : Option ErrorKind
  there = error_there kind (error i) before

  abbrev later : Option ErrorKind
  later = search_error kind error key (i + 1) (error_behind kind (may_be_key a) (error i) before) keys

  -- where the search doesn't end, or may not
  pub gone_on : (o : Option Bool) → o ≡ end_at kind key a → is_end o ≡ false → whole ≡ joined (agreed_behind o agreed there) later
  gone_on (Some true) e h = absurd (true≢false h)
  gone_on (Some false) e h = so_far ∙ ap (λ o. joined agreed (if_ends o there later)) (sym e)
  gone_on None e h = so_far ∙ ap (λ o. joined agreed (if_ends o there later)) (sym e) ∙ joined_in_turn agreed there later
