-- Where no fault but want of memory stands.
use Rattle.std.proofs.Common.{◌≡◌, ◌≢◌, ◌<◌, ◌≤◌, ◌+◌, ℕ, Bool, true, false, cond, List, [], ◌∷◌, ◌++◌, length, Option, Some, None, refl, ap, arith}
use Rattle.std.specs.Prelude.{◌||◌, if◌then◌else◌, map, nat_le, nat_lt, not}
use Rattle.std.specs.FinMap.{entries, insert}
use Rattle.std.proofs.lemmas.Bool.Decides.{nat_tests}
use Rattle.std.proofs.lemmas.List.{length-map, length_push}
use Rattle.cell_refs.specs.declared.cell.Cell.{Cell}
use Rattle.cell_refs.specs.declared.limits.TheConstants.{COLUMNS, FORMULAS, NAMES, ROWS, TEXTS, TEXT_BYTES}
use Rattle.workbook.specs.declared.fault.EditFault.TheVariants as fault
use Rattle.workbook.specs.Edits.{set_fault}
use Rattle.workbook.specs.Files.{is_name}
use Rattle.workbook.specs.Naming.{is_there, name_fault, names_after, new_name, with_new_text}
use Rattle.workbook.specs.State.{State, formula_count, text_count, with_text}
use Rattle.workbook.proofs.Filling.{texts_grow}
use Rattle.workbook.proofs.Gathering.{few_formulas}
use Rattle.made_up_books.specs.MadeUp.{at}
use Rattle.made_up_books.specs.Putting.{HasRoomFor, HasRoomForNames}
use Rattle.made_up_books.proofs.InTurn.{Contents}

-- ---- a text that is put
with_some : (contents : Contents) (cell : Cell) (text : List ℕ) → text ≢ [] → with_text contents cell text ≡ insert contents cell text
with_some contents cell [] some = absurd (some refl)
with_some contents cell (b ∷ text) some = refl

fewer_formulas : (contents : Contents) → formula_count contents ≤ text_count contents
fewer_formulas contents = few_formulas (entries contents)

no_cause : (outside long full many : Bool) → outside ≡ false → long ≡ false → full ≡ false → many ≡ false
    → (if outside then Some fault.OutOfSheet else if long then Some fault.FieldTooLong else if full then Some fault.TooManyCells else if many then Some fault.TooManyFormulas else None)
    ≡ None
no_cause outside long full many a b c d = rw (a, b, c, d) refl

is_inside : (row column : ℕ) → row < ROWS → column < COLUMNS → (nat_le ROWS row || nat_le COLUMNS column) ≡ false
is_inside row column h k = grind (arith, nat_tests)

is_no_more : (most n : ℕ) → n ≤ most → nat_lt most n ≡ false
is_no_more most n h = grind (arith, nat_tests)

pub no_set_fault : (state : State) (row column : ℕ) (text : List ℕ) → row < ROWS → column < COLUMNS → text ≢ [] → length text ≤ TEXT_BYTES → HasRoomFor 1 state
    → set_fault state (at row column text).0 text ≡ None
no_set_fault state row column text h k some short room =
    let cell = (at row column text).0 in
    let put : with_text state.contents cell text ≡ insert state.contents cell text = with_some state.contents cell text some in
    let texts : text_count (with_text state.contents cell text) ≤ text_count state.contents + 1 =
    (let a = ap text_count put in let b = texts_grow state.contents cell text in omega arith) in
    let formulas = fewer_formulas (with_text state.contents cell text) in
    let few_texts : nat_lt TEXTS (text_count (with_text state.contents cell text)) ≡ false = is_no_more TEXTS _ (let a : text_count (with_text state.contents cell text) ≤ TEXTS = omega arith in a) in
    let few_formulas_there : nat_lt FORMULAS (formula_count (with_text state.contents cell text)) ≡ false = is_no_more FORMULAS _ (let a : formula_count (with_text state.contents cell text) ≤ FORMULAS = omega arith in a) in
    no_cause _ _ _ _ (is_inside row column h k) (is_no_more TEXT_BYTES (length text) short) few_texts few_formulas_there

-- ---- a text of a name
no_name_cause : (good long_name long_text many : Bool) → good ≡ true → long_name ≡ false → long_text ≡ false → many ≡ false
    → (if not good then Some fault.BadName else if long_name || long_text then Some fault.FieldTooLong else if many then Some fault.TooManyNames else None)
    ≡ None
no_name_cause good long_name long_text many a b c d = rw (a, b, c, d) refl

pub names_grow : (state : State) (sheet : Option ℕ) (name text : List ℕ) → length (names_after state sheet name text) ≤ length state.names + 1
names_grow state sheet name text = by (is_there state.names sheet name)
  where
    by : (b : Bool) → length (cond b (map (with_new_text sheet name text) state.names) (state.names ++ new_name state.sheets sheet name text ∷ [])) ≤ length state.names + 1
    by true = let a = length-map state.names (with_new_text sheet name text) in omega arith
    by false = let a = length_push state.names (new_name state.sheets sheet name text) in omega arith

pub no_name_fault : (state : State) (name text : List ℕ) → is_name name ≡ true → length name ≤ TEXT_BYTES → length text ≤ TEXT_BYTES → HasRoomForNames 1 state
    → name_fault state (Some 0) name text ≡ None
no_name_fault state name text good h k room =
    let a = names_grow state (Some 0) name text in
    let few : length (names_after state (Some 0) name text) ≤ NAMES = omega arith in
    let many = is_no_more NAMES (length (names_after state (Some 0) name text)) few in
    no_name_cause _ _ _ _ good (is_no_more TEXT_BYTES _ h) (is_no_more TEXT_BYTES _ k) many
