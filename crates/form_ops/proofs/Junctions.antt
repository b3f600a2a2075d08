-- What is made of all logicals is what is made of what is seen among them.
use Rattle.std.proofs.Common.{◌≡◌, refl, sym, ap, ◌∙◌, ℕ, Bool, true, false, ◌||◌, List, [], ◌∷◌, ◌++◌, Option, Some, None}
use Rattle.std.specs.Prelude.{unwrap_or}
use Rattle.std.specs.List.{filter_map, list_any}
use Rattle.cell_refs.specs.declared.error_kind.ErrorKind.{ErrorKind}
use Rattle.form_values.specs.declared.abs.Abs.{Abs}
use Rattle.form_table.specs.Logic.{Truth, known, none, opened, is_same, known_in, open_in, first_error, of_open, of_truths}
use Rattle.form_ops.specs.declared.logic.Opened.{Opened}
use Rattle.form_ops.specs.declared.logic.Opened.TheVariants.{Nothing, Several}
use Rattle.form_ops.specs.declared.logic.Seen.{Seen}
use Rattle.form_ops.specs.SeenLogicals.{nothing_seen, opened_with, seen_with, seen_all, of_opened, of_seen, concluded}

-- two lists, one after the other
pub seen_all-append : (d : Bool) (s : Seen) (ts us : List Truth) → seen_all d s (ts ++ us) ≡ seen_all d (seen_all d s ts) us
seen_all-append d s [] us = refl
seen_all-append d s (t ∷ ts) us = seen_all-append d (seen_with d s t) ts us

-- ---- what is seen, part by part
abbrev first_of : Option ErrorKind → Option ErrorKind → Option ErrorKind
first_of (Some k) o = Some k
first_of None o = o

error_seen : (d : Bool) (ts : List Truth) (s : Seen) → (seen_all d s ts).error ≡ first_of s.error (first_error ts)
error_seen d [] s = at_end s.error
  where
    at_end : (o : Option ErrorKind) → o ≡ first_of o None
    at_end (Some k) = refl
    at_end None = refl
error_seen d (known b ∷ ts) s = error_seen d ts (seen_with d s (known b))
error_seen d (none k ∷ ts) s = error_seen d ts (seen_with d s (none k)) ∙ at_error s.error
  where
    at_error : (o : Option ErrorKind) → Some (unwrap_or o k) ≡ first_of o (Some k)
    at_error (Some j) = refl
    at_error None = refl
error_seen d (opened i a ∷ ts) s = error_seen d ts (seen_with d s (opened i a))

-- whether there is a logical among some
abbrev some_among : List Truth → Bool
some_among [] = false
some_among (none k ∷ ts) = some_among ts
some_among (_ ∷ ts) = true

or_true : (b : Bool) → (b || true) ≡ true
or_true true = refl
or_true false = refl

or_false : (b : Bool) → (b || false) ≡ b
or_false true = refl
or_false false = refl

or_assoc : (a b c : Bool) → ((a || b) || c) ≡ (a || (b || c))
or_assoc true b c = refl
or_assoc false b c = refl

some_seen : (d : Bool) (ts : List Truth) (s : Seen) → (seen_all d s ts).some ≡ (s.some || some_among ts)
some_seen d [] s = sym (or_false s.some)
some_seen d (known b ∷ ts) s = some_seen d ts (seen_with d s (known b)) ∙ sym (or_true s.some)
some_seen d (none k ∷ ts) s = some_seen d ts (seen_with d s (none k))
some_seen d (opened i a ∷ ts) s = some_seen d ts (seen_with d s (opened i a)) ∙ sym (or_true s.some)

decided_seen : (d : Bool) (ts : List Truth) (s : Seen) → (seen_all d s ts).decided ≡ (s.decided || list_any (is_same d) (filter_map known_in ts))
decided_seen d [] s = sym (or_false s.decided)
decided_seen d (known b ∷ ts) s =
    decided_seen d ts (seen_with d s (known b)) ∙ or_assoc s.decided (is_same d b) (list_any (is_same d) (filter_map known_in ts))
decided_seen d (none k ∷ ts) s = decided_seen d ts (seen_with d s (none k))
decided_seen d (opened i a ∷ ts) s = decided_seen d ts (seen_with d s (opened i a))

abbrev opened_all : Opened → List (ℕ × Abs) → Opened
opened_all o [] = o
opened_all o (p ∷ ps) = opened_all (opened_with o p.0 p.1) ps

opened_seen : (d : Bool) (ts : List Truth) (s : Seen) → (seen_all d s ts).opened ≡ opened_all s.opened (filter_map open_in ts)
opened_seen d [] s = refl
opened_seen d (known b ∷ ts) s = opened_seen d ts (seen_with d s (known b))
opened_seen d (none k ∷ ts) s = opened_seen d ts (seen_with d s (none k))
opened_seen d (opened i a ∷ ts) s = opened_seen d ts (seen_with d s (opened i a))

several_stay : (i : ℕ) (ps : List (ℕ × Abs)) → opened_all (Several i) ps ≡ Several i
several_stay i [] = refl
several_stay i (p ∷ ps) = several_stay i ps

opened_made : (d : Bool) (ps : List (ℕ × Abs)) → of_opened d (opened_all Nothing ps) ≡ of_open d ps
opened_made d [] = refl
opened_made d (p ∷ []) = refl
opened_made d (p ∷ q ∷ ps) = ap (of_opened d) (several_stay p.0 ps)

-- ---- all together
made_of : (d : Bool) (ts : List Truth) (o : Option ErrorKind) → first_error ts ≡ o
    → of_seen d o (some_among ts) (list_any (is_same d) (filter_map known_in ts)) (opened_all Nothing (filter_map open_in ts)) ≡ of_truths d ts o
made_of d [] (Some k) e = refl
made_of d (t ∷ ts) (Some k) e = refl
made_of d [] None e = refl
made_of d (known b ∷ ts) None e =
    ap (Rattle.form_table.specs.Logic.decided_by d (list_any (is_same d) (filter_map known_in (known b ∷ ts)))) (opened_made d (filter_map open_in (known b ∷ ts)))
made_of d (none k ∷ ts) None e = absurd (cc)
made_of d (opened i a ∷ ts) None e =
    ap (Rattle.form_table.specs.Logic.decided_by d (list_any (is_same d) (filter_map known_in (opened i a ∷ ts)))) (opened_made d (filter_map open_in (opened i a ∷ ts)))

pub concluded_all : (d : Bool) (ts : List Truth) → concluded d (seen_all d nothing_seen ts) ≡ of_truths d ts (first_error ts)
concluded_all d ts =
    ap (λ o. of_seen d o (seen_all d nothing_seen ts).some (seen_all d nothing_seen ts).decided (seen_all d nothing_seen ts).opened) (error_seen d ts nothing_seen)
    ∙ ap (λ b. of_seen d (first_error ts) b (seen_all d nothing_seen ts).decided (seen_all d nothing_seen ts).opened) (some_seen d ts nothing_seen)
    ∙ ap (λ b. of_seen d (first_error ts) (some_among ts) b (seen_all d nothing_seen ts).opened) (decided_seen d ts nothing_seen)
    ∙ ap (λ o. of_seen d (first_error ts) (some_among ts) (list_any (is_same d) (filter_map known_in ts)) o) (opened_seen d ts nothing_seen)
    ∙ made_of d ts (first_error ts) refl
