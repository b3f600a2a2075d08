use Rattle.std.proofs.Common.{◌≡◌, true}
use Rattle.touched_places.proofs.Edited.{several_edits, untouched_behind, look_the_same, edits_in_a_row}
use Rattle.touched_places.proofs.list_laws.Goals as goal

pub returns : goal.returns
returns c = record {
  several = λ book other decisions sides edited differ p h. several_edits book other decisions (λ c. edited c ≡ true) differ sides p h;
  looks = λ book other decisions sides edited differ p t tree h b. look_the_same book other decisions (λ c. edited c ≡ true) differ sides p t tree h b;
  behind = λ book other sides edited differ p h. untouched_behind book other (λ c. edited c ≡ true) differ sides p h;
  row = edits_in_a_row;
}
