-- The answers that can be said where nothing is named.
use Rattle.std.proofs.Common.{◌≡◌, ℕ, Bool, if◌then◌else◌, true, false, List, Option, Some, None, sym, subst}
use Rattle.std.specs.Prelude.{Result, Ok, Err, IfOk}
use Rattle.cell_refs.specs.declared.cell.Cell.{Cell}
use Rattle.cell_refs.specs.Names.{place_in}
use Rattle.commands.specs.Addresses.{Address, marked_address}
use Rattle.commands.specs.Lines.{CanBeSaid}
use Rattle.commands.specs.Locating.{cell_at, cell_named, cell_on, is_inside}
use Rattle.commands.specs.declared.answer.Answer.{Answer}
use Rattle.commands.specs.declared.answer.Answer.TheVariants as answer

-- of what was found, or of what is answered where nothing was
abbrev pub SaidIfErr : {A : Type 0} → List (List ℕ) → Result A Answer → Type 0
SaidIfErr sheets (Ok x) = Unit {0}
SaidIfErr sheets (Err a) = CanBeSaid sheets a

inside_said : (sheets : List (List ℕ)) (b : Bool) (c : Cell) → SaidIfErr sheets (if b then Ok c else Err answer.OutOfSheet)
inside_said sheets true c = tt
inside_said sheets false c = tt

on_said : (sheets : List (List ℕ)) (a : Address) (o : Option ℕ) → SaidIfErr sheets (cell_on a o)
on_said sheets a None = tt
on_said sheets a (Some sheet) = inside_said sheets (is_inside a) _

at_said : (sheets : List (List ℕ)) (o : Option Address) → SaidIfErr sheets (cell_at sheets o)
at_said sheets None = tt
at_said sheets (Some a) = on_said sheets a (place_in sheets a.name)

pub named_said : (sheets : List (List ℕ)) (text : List ℕ) (a : Answer) → Err a ≡ cell_named sheets text → CanBeSaid sheets a
named_said sheets text a e = subst (SaidIfErr sheets) (sym e) (at_said sheets (marked_address text))

-- what is answered, where more of it is known
pub if_ok_map : {A E : Type 0} (r : Result A E) (P Q : A → Type 0) → ((a : A) → P a → Q a) → IfOk r P → IfOk r Q
if_ok_map (Ok a) P Q f h = f a h
if_ok_map (Err e) P Q f h = h
