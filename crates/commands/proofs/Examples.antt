-- Small examples of records, addresses, cells, numbers of units and lines.
use Rattle.std.proofs.Common.{◌≡◌, ℕ, List, [], ◌∷◌, Option, codes, refl}
use Rattle.std.specs.Prelude.{Some, None, Result, Ok, Err, Vec, false, true, pos, neg_ℤ}
use Rattle.std.specs.Global.{Global}
use Rattle.std.specs.Fmt.{digits}
use Rattle.fractions.specs.Rational.{ℚ}
use Rattle.fractions.specs.Rational as rational
use Rattle.fractions.specs.Gcd as divisor
use Rattle.fractions.specs.Whole.{whole_ℚ}
use Rattle.cell_refs.specs.declared.cell.Cell.{Cell}
use Rattle.sheet_model.specs.declared.value.Value.TheVariants as value
use Rattle.solver_names.specs.declared.fault.NamesFault.TheVariants as names
use Rattle.cell_refs.specs.declared.place.Place.TheVariants as place
use Rattle.form_needs.specs.declared.refusal.FormRefusal.TheVariants as form
use Rattle.commands.specs.declared.answer.Answer.TheVariants as answer
use Rattle.commands.specs.declared.answer.Answer.{Answer}
use Rattle.commands.specs.declared.price_lines.PriceLine.{PriceLine}
use Rattle.commands.specs.Addresses.{Address, marked_address}
use Rattle.commands.specs.Commands.{Begin, Budget, Cert, Model, Name, Prices, Save, Set, Show, Slice, Stop, Unknown, Unname, command_of}
use Rattle.commands.specs.Lines.{answer_text}
use Rattle.commands.specs.Refusals.{pivot_text}
use Rattle.commands.specs.Locating.{cell_named, sheet_or_book, units_named}
use Rattle.commands.specs.Saved.{SavedFile}

-- ---- records
a_set : command_of (codes "set" ∷ codes "plan!A2" ∷ codes "7" ∷ []) ≡ Set (codes "plan!A2") (codes "7")
a_set = refl

a_show : command_of (codes "show" ∷ codes "plan!A2" ∷ []) ≡ Show (codes "plan!A2")
a_show = refl

a_model : command_of (codes "model" ∷ codes "plan" ∷ []) ≡ Model (codes "plan")
a_model = refl

in_capitals : command_of (codes "SHOW" ∷ codes "plan!A2" ∷ []) ≡ Unknown
in_capitals = refl

a_field_too_few : command_of (codes "set" ∷ codes "plan!A2" ∷ []) ≡ Unknown
a_field_too_few = refl

a_name : command_of (codes "name" ∷ codes "plan" ∷ codes "solver_opt" ∷ codes "=$C$1" ∷ []) ≡ Name (codes "plan") (codes "solver_opt") (codes "=$C$1")
a_name = refl

a_removed_name : command_of (codes "unname" ∷ [] ∷ codes "rate" ∷ []) ≡ Unname [] (codes "rate")
a_removed_name = refl

prices_of_a_sheet : command_of (codes "prices" ∷ codes "plan" ∷ []) ≡ Prices (codes "plan")
prices_of_a_sheet = refl

prices_of_no_sheet : command_of (codes "prices" ∷ []) ≡ Unknown
prices_of_no_sheet = refl

prices_of_two_sheets : command_of (codes "prices" ∷ codes "a" ∷ codes "b" ∷ []) ≡ Unknown
prices_of_two_sheets = refl

a_begin : command_of (codes "begin" ∷ codes "plan" ∷ []) ≡ Begin (codes "plan")
a_begin = refl

a_slice : command_of (codes "slice" ∷ codes "plan" ∷ codes "20" ∷ []) ≡ Slice (codes "plan") (codes "20")
a_slice = refl

a_slice_of_no_number : command_of (codes "slice" ∷ codes "plan" ∷ []) ≡ Unknown
a_slice_of_no_number = refl

a_stop : command_of (codes "stop" ∷ codes "plan" ∷ []) ≡ Stop (codes "plan")
a_stop = refl

a_budget : command_of (codes "budget" ∷ codes "1000" ∷ []) ≡ Budget (codes "1000")
a_budget = refl

a_certificate : command_of (codes "cert" ∷ codes "plan" ∷ []) ≡ Cert (codes "plan")
a_certificate = refl

a_certificate_of_no_sheet : command_of (codes "cert" ∷ []) ≡ Unknown
a_certificate_of_no_sheet = refl

a_save : command_of (codes "save" ∷ []) ≡ Save
a_save = refl

a_save_of_a_sheet : command_of (codes "save" ∷ codes "plan" ∷ []) ≡ Unknown
a_save_of_a_sheet = refl

no_field : command_of [] ≡ Unknown
no_field = refl

-- ---- addresses
at : List ℕ → ℕ → ℕ → Address
at name column row = record { name = name; column = column; row = row }

a_word : marked_address (codes "$plan.$AA$02") ≡ Some (at (codes "plan") 27 2)
unfolding at
a_word = refl

a_quoted_name : marked_address (codes "'Bob''s'!z10") ≡ Some (at (codes "Bob's") 26 10)
unfolding at
a_quoted_name = refl

no_sheet : marked_address (codes "A1") ≡ None
no_sheet = refl

no_letters : marked_address (codes "plan!1A") ≡ None
no_letters = refl

no_closing_quote : marked_address (codes "'plan!A1") ≡ None
no_closing_quote = refl

-- ---- cells
sheets : List (List ℕ)
sheets = codes "plan" ∷ codes "My Plan" ∷ []

named : List ℕ → Result Cell Answer
named text = cell_named sheets text

of_the_second : named (codes "'my plan'!C4096") ≡ Ok (record { sheet = record { 0 = 1 }; row = 4095; col = 2 })
unfolding named sheets
of_the_second = refl

past_the_last_column : named (codes "plan!AMK1") ≡ Err answer.OutOfSheet
unfolding named sheets
past_the_last_column = refl

the_sheet_first : named (codes "nosuch!A0") ≡ Err answer.UnknownSheet
unfolding named sheets
the_sheet_first = refl

-- ---- sheets
home : List ℕ → Result (Option ℕ) Answer
home text = sheet_or_book sheets text

the_second_sheet : home (codes "MY PLAN") ≡ Ok (Some 1)
unfolding home sheets
the_second_sheet = refl

the_whole_workbook : home [] ≡ Ok None
unfolding home sheets
the_whole_workbook = refl

no_such_sheet : home (codes "nosuch") ≡ Err answer.UnknownSheet
unfolding home sheets
no_such_sheet = refl

-- ---- numbers of units
no_units : units_named (codes "0") ≡ Err answer.BadNumber
no_units = refl

the_most_units : units_named (codes "1000000") ≡ Ok 1000000
the_most_units = refl

one_too_many : units_named (codes "1000001") ≡ Err answer.BadNumber
one_too_many = refl

zeros_in_front : units_named (codes "007") ≡ Ok 7
zeros_in_front = refl

a_sign : units_named (codes "+5") ≡ Err answer.BadNumber
a_sign = refl

no_digits : units_named [] ≡ Err answer.BadNumber
no_digits = refl

-- ---- lines
no_objective : answer_text [] (answer.Optimal None) ≡ codes "optimal\n"
no_objective = refl

a_search : answer_text [] answer.Begun ≡ codes "begun\n"
a_search = refl

units_so_far : answer_text [] (answer.More 12) ≡ codes "more 12\n"
unfolding digits
units_so_far = refl

a_closed_search : answer_text [] answer.Stopped ≡ codes "stopped\n"
a_closed_search = refl

no_search : answer_text [] answer.NoSearch ≡ codes "refused no-search\n"
no_search = refl

a_ninth_search : answer_text [] answer.TooManySearches ≡ codes "refused too-many-searches\n"
a_ninth_search = refl

a_large_tree : answer_text [] (answer.CertLimit 100001) ≡ codes "refused cert-limit 100001\n"
unfolding digits
a_large_tree = refl

a_text : answer_text [] (answer.Shown (value.Text (codes "a\"b"))) ≡ codes "text \"a\"\"b\"\n"
a_text = refl

a_wide_cell : answer_text (codes "My Plan" ∷ []) (answer.WideCell (record { sheet = record { 0 = 0 }; row = 1; col = 27 })) ≡ codes "refused wide 'My Plan'!AB2\n"
unfolding digits
a_wide_cell = refl

no_number : answer_text [] answer.BadNumber ≡ codes "refused bad-number\n"
no_number = refl

a_file : SavedFile
a_file = record { sheet = None; bytes = codes "x\n" }

two_files : (files : Vec SavedFile Global) → files.items ≡ a_file ∷ a_file ∷ [] → answer_text [] (answer.ToSave files) ≡ codes "saved 2\n"
unfolding digits
two_files files two = rw two refl

-- ---- prices
number : ℕ → ℚ
number n = whole_ℚ (pos n)

minus : ℕ → ℚ
minus n = whole_ℚ (neg_ℤ (pos n))

binding : PriceLine
binding = record { row = 1; price = number 3; low = Some (minus 4); high = Some (number 2) }

left_over : PriceLine
left_over = record { row = 2; price = number 0; low = Some (minus 2); high = None }

two_prices : (rows : Vec PriceLine Global) → rows.items ≡ binding ∷ left_over ∷ []
    → answer_text [] (answer.Prices (record { value = number 12; rows = rows })) ≡ codes "optimal 12\nrow 1 price 3 from -4 to 2\nrow 2 price 0 from -2 to -\nend\n"
unfolding digits number minus binding left_over rational.numerator rational.denominator rational.frac rational.if_lowest rational.is_lowest divisor.gcd
two_prices rows two = rw two refl

no_row_has_a_price : (rows : Vec PriceLine Global) → rows.items ≡ [] → answer_text [] (answer.Prices (record { value = minus 7; rows = rows })) ≡ codes "optimal -7\nend\n"
unfolding digits minus rational.numerator rational.denominator rational.frac rational.if_lowest rational.is_lowest divisor.gcd
no_row_has_a_price rows none = rw none refl

prices_without_an_objective : answer_text [] answer.NoObjective ≡ codes "refused no-objective\n"
prices_without_an_objective = refl

a_whole_cell : answer_text (codes "My Plan" ∷ []) (answer.NotContinuous (record { sheet = record { 0 = 0 }; row = 1; col = 27 })) ≡ codes "refused not-continuous 'My Plan'!AB2\n"
unfolding digits
a_whole_cell = refl

a_wide_range : answer_text [] (answer.WideRange 2) ≡ codes "refused wide-range 2\n"
unfolding digits
a_wide_range = refl

-- ---- refusals with parts
cell : ℕ → ℕ → Cell
cell row column = record { sheet = record { 0 = 0 }; row = row; col = column }

another_size : answer_text sheets (answer.Names (names.SizeMismatch 1 2 3)) ≡ codes "refused names 5 1 2 3\n"
unfolding digits
another_size = refl

no_decision : answer_text sheets (answer.Names (names.NotDecision 1 (cell 3 2))) ≡ codes "refused names 6 1 plan!C4\n"
unfolding digits sheets cell
no_decision = refl

not_affine : answer_text sheets (answer.Form (form.NotAffine (place.Cell (cell 2 2)) (record { start = 1; end = 6 }))) ≡ codes "refused not-affine plan!C3 1-6\n"
unfolding digits sheets cell
not_affine = refl

a_wide_side : answer_text sheets (answer.Form (form.Wide (place.Side 3))) ≡ codes "refused wide solver_rhs3\n"
unfolding digits
a_wide_side = refl

at_the_root : pivot_text sheets [] (3 ∷ 12 ∷ []) 3 1 ≡ codes "root basis 3,12 at 3 1"
unfolding digits
at_the_root = refl

below_two_steps : pivot_text sheets (record { cell = cell 1 1; upper = false; bound = pos 1 } ∷ record { cell = cell 2 0; upper = true; bound = neg_ℤ (pos 2) } ∷ []) (3 ∷ []) 0 7
    ≡ codes "plan!B2<=1,plan!A3>=-2 basis 3 at 0 7"
unfolding digits sheets cell
below_two_steps = refl
