-- What is answered of the names of a sheet.
use Rattle.std.specs.Prelude.{◌≡◌, ℕ, List, [], Result, Ok, Err, Vec, map, string_bytes, unwrap_or}
use Rattle.std.specs.Global.{Global}
use Rattle.optimality.specs.Kinds.{goal_of, relation_of}
use Rattle.workbook.specs.State.{State}
use Rattle.solver_names.specs.declared.fault.NamesFault.{NamesFault}
use Rattle.solver_names.specs.declared.fault.NamesFault.TheVariants as told
use Rattle.solver_names.specs.declared.faults.Fault.{Fault}
use Rattle.solver_names.specs.declared.faults.Fault.TheVariants as fault
use Rattle.solver_names.specs.declared.name.Name.{Name}
use Rattle.solver_names.specs.declared.name.Name.TheVariants as name
use Rattle.solver_names.specs.declared.statements.RowOf.{RowOf as Row}
use Rattle.solver_names.specs.declared.statements.Statement.{Statement as Declared}
use Rattle.solver_names.specs.Statement.{RowOf, Statement}
use Rattle.solver_names.specs.Texts.{name_text, named}
use Rattle.solver_names.specs.Stated.{statement_in}

abbrev pub row_of : Row → RowOf
row_of r = record { number = r.k; left = r.left; relation = relation_of r.rel; right = r.right }

-- lists of numbers of the code
abbrev pub groups_of : List (Vec ℕ Global) → List (List ℕ)
groups_of groups = map (λ (g : Vec ℕ Global). g.items) groups

-- a statement of the code
abbrev pub statement_of : Declared → Statement
statement_of s = record {
  sheet = s.sheet.0;
  decisions = s.adj;
  objective = s.objective;
  goal = goal_of s.goal;
  rows = map row_of s.rows.items;
  whole = s.whole.items;
  binary = s.binary.items;
  explicit = s.explicit.items;
  different = groups_of s.different.items;
  not_negative = s.not_negative;
}

-- how a fault is told: names as they are spelled, a code as it stands
abbrev pub IsTold : State → ℕ → Fault → NamesFault → Type 0
IsTold book sheet f told.Memory = Unit {0}
IsTold book sheet f told.NoNames = f ≡ fault.NoNames
IsTold book sheet f (told.BadReference text) = (n : Name) × ((f ≡ fault.Reference n) × (string_bytes text ≡ name_text n))
IsTold book sheet f (told.MissingPart k) = f ≡ fault.Missing k
IsTold book sheet f (told.BadRelation k text) = (f ≡ fault.Code k) × (string_bytes text ≡ unwrap_or (named book sheet (name.Code k)) [])
IsTold book sheet f (told.SizeMismatch k left right) = f ≡ fault.Sizes k left right
IsTold book sheet f (told.NotDecision k cell) = f ≡ fault.NotDecision k cell
IsTold book sheet f (told.BadOption text) = (n : Name) × ((f ≡ fault.Option n) × (string_bytes text ≡ name_text n))
IsTold book sheet f (told.TooManyDecisions count) = f ≡ fault.TooManyDecisions count
IsTold book sheet f (told.TooManyRows count) = f ≡ fault.TooManyRows count

-- what the names state, or the fault by which they state nothing; memory may always run out
abbrev pub Answers : State → ℕ → Result Declared NamesFault → Type 0
Answers book sheet (Ok s) = statement_in book sheet ≡ Ok (statement_of s)
Answers book sheet (Err told.Memory) = Unit {0}
Answers book sheet (Err e) = (f : Fault) × ((statement_in book sheet ≡ Err f) × IsTold book sheet f e)
