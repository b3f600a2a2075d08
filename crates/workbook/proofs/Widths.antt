-- A file that is not too long has no more records, and no record more fields, than can be counted.
use Rattle.std.proofs.Common.{◌≡◌, ◌+◌, ◌≤◌, ◌<◌, ◌∙◌, ℕ, zero, suc, Bool, false, cond, List, [], ◌∷◌, ◌++◌, length, Option, Some, None, Err, refl, sym, ap, subst, inl, inr, arith}
use Rattle.std.specs.Prelude.{All, nat_lt, not}
use Rattle.std.specs.List.{position_or_len}
use Rattle.std.proofs.lemmas.Bool.{cases_Bool}
use Rattle.std.proofs.lemmas.Bool.Decides.{nat_tests}
use Rattle.std.proofs.lemmas.List.{length_push}
use Rattle.std.proofs.lemmas.List.Elements.{All-cons, All-head, All-nil, All-tail}
use Rattle.csv.specs.Machine.{Read, ends_at_end, field_after, fields_after, is_end, next_record, step}
use Rattle.csv.specs.Reading.{default_config, records_from, records_next, strip_bom}
use Rattle.csv.specs.declared.parser.Action.{Action}
use Rattle.csv.specs.declared.parser.Action.TheVariants as act
use Rattle.csv.specs.declared.parser.State.{State}
use Rattle.csv.specs.declared.parser.State.TheVariants as st
use Rattle.sheet_csv.specs.Sheet.{Record, first_wide, sheet_records}
use Rattle.sheet_csv.specs.Reads.{ReadsSheet}
use Rattle.sheet_csv.specs.declared.fault.SheetFault.{SheetFault}
use Rattle.sheet_csv.specs.declared.fault.SheetFault.TheVariants as sheet_fault
use Rattle.sheet_csv.proofs.Marks.{strip_shorter}
use Rattle.sheet_csv.proofs.Records.{few_records, next_leaves}
use Rattle.workbook.specs.Opened.{ReadsNames, name_fault_of}
use Rattle.workbook.specs.Opening.{name_limits}

-- an action ends at most one field
few_after : (a : Action) (fields : List (List ℕ)) (field : List ℕ) → length (fields_after a fields field) ≤ length fields + 1
few_after act.EndField fields field = omega (arith, length_push fields field)
few_after act.EndRecord fields field = omega (arith, length_push fields field)
few_after act.Skip fields field = omega arith
few_after act.Copy fields field = omega arith

-- a record has at most one field more than bytes are left
fields_of_next : (s : State) (fields : List (List ℕ)) (field xs : List ℕ) (p : Read) → next_record default_config s fields field xs ≡ Some p → length p.0 ≤ length fields + (length xs + 1)
unfolding next_record
fields_of_next s fields field [] p e = elim (cases_Bool (ends_at_end s)) [
  | inl last ↦
      let is : ◌≡◌ {A = Read} (fields ++ (field ∷ []), st.StartRecord, []) p = cc (rw last at e) in
      subst (λ (r : Read). length r.0 ≤ length fields + (0 + 1)) is (omega (arith, length_push fields field))
  | inr more ↦ cc (rw more at e)
]
fields_of_next s fields field (c ∷ rest) p e = elim (cases_Bool (is_end (step default_config s c).1)) [
  | inl ends ↦
      let is : ◌≡◌ {A = Read} (fields_after (step default_config s c).1 fields field, (step default_config s c).0, rest) p = cc (rw ends at e) in
      let few = few_after (step default_config s c).1 fields field in
      subst (λ (r : Read). length r.0 ≤ length fields + (suc (length rest) + 1)) is (omega (arith, few))
  | inr goes ↦
      let few = few_after (step default_config s c).1 fields field in
      let later = fields_of_next (step default_config s c).0 (fields_after (step default_config s c).1 fields field) (field_after (step default_config s c).1 c field) rest p (rw goes at e) in
      omega (arith, few, later)
]

-- so many fields at most
abbrev IsNarrow : ℕ → Record → Type 0
IsNarrow m row = length row ≤ m

left_shorter : (s : State) (xs : List ℕ) (p : Read) → next_record default_config s [] [] xs ≡ Some p → length p.2 ≤ length xs
left_shorter s xs p e = elim (next_leaves s [] [] xs p e).shorter [
  | inl less ↦ omega (arith, less)
  | inr none ↦ omega (arith, ap length none.0, ap length none.1)
]

narrow_next : (m : ℕ) (more : State → List ℕ → List Record) (o : Option Read) → ((p : Read) → o ≡ Some p → (length p.0 ≤ m) × (length p.2 < m))
    → ((s : State) (xs : List ℕ) → length xs < m → All (IsNarrow m) (more s xs)) → All (IsNarrow m) (records_next more o)
narrow_next m more None each rest = All-nil (IsNarrow m)
narrow_next m more (Some p) each rest = let k = each p refl in All-cons (IsNarrow m) p.0 (more p.1 p.2) k.0 (rest p.1 p.2 k.1)

narrow_from : (m n : ℕ) (s : State) (xs : List ℕ) → length xs < m → All (IsNarrow m) (records_from default_config n s xs)
unfolding records_from
narrow_from m zero s xs lt = All-nil (IsNarrow m)
narrow_from m (suc n) s xs lt =
    narrow_next m (records_from default_config n) (next_record default_config s [] [] xs)
    (λ p e. (omega (arith, lt, fields_of_next s [] [] xs p e), omega (arith, lt, left_shorter s xs p e))) (narrow_from m n)

-- a text has no record with more fields than that
narrow_records : (m : ℕ) (bytes : List ℕ) → length bytes < m → All (IsNarrow m) (sheet_records bytes)
narrow_records m bytes lt = narrow_from m (length (strip_bom bytes) + 1) st.StartRecord (strip_bom bytes) (omega (arith, lt, strip_shorter bytes))

abbrev is_wide : ℕ → Record → Bool
is_wide m row = nat_lt m (length row)

is_narrow : (m : ℕ) (row : Record) → length row ≤ m → is_wide m row ≡ false
is_narrow m row h = grind (arith, nat_tests)

all_passed : (m : ℕ) (rows : List Record) → All (IsNarrow m) rows → length rows ≤ position_or_len (is_wide m) rows
all_passed m [] h = omega arith
all_passed m (row ∷ rows) h =
    let later = all_passed m rows (All-tail (IsNarrow m) row rows h) in
    let is : position_or_len (is_wide m) (row ∷ rows) ≡ 1 + position_or_len (is_wide m) rows =
    ap (λ b. cond (not b) (1 + position_or_len (is_wide m) rows) 0) (is_narrow m row (All-head (IsNarrow m) row rows h)) in
    omega (arith, later, is)

past_all : (p n : ℕ) → n ≤ p → cond (nat_lt p n) (Some p) None ≡ None
past_all p n h = let e : nat_lt p n ≡ false = grind (arith, nat_tests) in ap (λ b. cond b (Some p) None) e

none_wide : (m : ℕ) (rows : List Record) → All (IsNarrow m) rows → first_wide m rows ≡ None
none_wide m rows h = past_all (position_or_len (is_wide m) rows) (length rows) (all_passed m rows h)

-- why a file of names is not read
pub names_unread : (sheets : List (List ℕ)) (bytes : List ℕ) (f : SheetFault) → length bytes ≤ 16777216 → ReadsSheet name_limits bytes (Err f) → ReadsNames sheets bytes (Err (name_fault_of f))
names_unread sheets bytes (sheet_fault.NotUtf8 n) few h = h
names_unread sheets bytes sheet_fault.TooManyRows few h = omega (arith, h.1, few_records (strip_bom bytes), strip_shorter bytes)
names_unread sheets bytes (sheet_fault.TooManyColumns n) few h =
    let none = none_wide 4294967295 (sheet_records bytes) (narrow_records 4294967295 bytes (omega (arith, few))) in
    let e : Some n ≡ None = sym h.2 ∙ none in
    cc
names_unread sheets bytes (sheet_fault.FieldTooLong n) few h = h
names_unread sheets bytes sheet_fault.Memory few h = tt
