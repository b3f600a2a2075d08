use Rattle.std.proofs.Common.{length, ap, ◌∙◌, arith}
use Rattle.made_up_books.proofs.Drawing.{length_of_costs, length_of_demands}
use Rattle.made_up_books.proofs.InTurn.{listed_after}
use Rattle.made_up_books.proofs.Whole.{all_cells_are}
use Rattle.made_up_books.proofs.Room.{texts_of_costs, texts_of_demands, texts_of_sent, texts_of_supplies}
use Rattle.made_up_books.proofs.cells.put_cells.Goals as goal

pub put_costs-requires-clause-all : goal.put_costs-requires-clause-all
put_costs-requires-clause-all c = ap length (c.deref.ensures.value ∙ c.requires.costs) ∙ length_of_costs c.args.size

pub put_sent-requires-clause-listed : goal.put_sent-requires-clause-listed
put_sent-requires-clause-listed c = listed_after _ _ _ c.in_ok-put_costs.ensures c.requires.listed

pub put_supplies-requires-clause-listed : goal.put_supplies-requires-clause-listed
put_supplies-requires-clause-listed c =
    listed_after _ _ _ c.in_ok-put_sent.ensures (listed_after _ _ _ c.in_ok-put_costs.ensures c.requires.listed)

pub put_demands-requires-clause-listed : goal.put_demands-requires-clause-listed
put_demands-requires-clause-listed c =
    listed_after _ _ _ c.in_ok-put_supplies.ensures
    (listed_after _ _ _ c.in_ok-put_sent.ensures (listed_after _ _ _ c.in_ok-put_costs.ensures c.requires.listed))

pub put_demands-requires-clause-all : goal.put_demands-requires-clause-all
put_demands-requires-clause-all c = ap length (c.deref-2.ensures.value ∙ c.requires.demands) ∙ length_of_demands c.args.size

pub put_total-requires-clause-listed : goal.put_total-requires-clause-listed
put_total-requires-clause-listed c =
    listed_after _ _ _ c.in_ok-put_demands.ensures
    (listed_after _ _ _ c.in_ok-put_supplies.ensures
    (listed_after _ _ _ c.in_ok-put_sent.ensures (listed_after _ _ _ c.in_ok-put_costs.ensures c.requires.listed)))

pub returns : goal.returns
returns c =
    all_cells_are c.args.size _ _ c.args.book.now _ _ _ _ _ (c.deref.ensures.value ∙ c.requires.costs) (c.deref-2.ensures.value ∙ c.requires.demands)
    c.in_ok-put_costs.ensures c.in_ok-put_sent.ensures c.in_ok-put_supplies.ensures c.in_ok-put_demands.ensures c.in_ok-put_total.ensures

pub put_sent-requires-clause-room : goal.put_sent-requires-clause-room
put_sent-requires-clause-room c =
    let a = texts_of_costs c.args.size _ _ _ c.requires.few c.in_ok-put_costs.ensures in
    omega (arith, c.requires.room)

pub put_supplies-requires-clause-room : goal.put_supplies-requires-clause-room
put_supplies-requires-clause-room c =
    let a = texts_of_costs c.args.size _ _ _ c.requires.few c.in_ok-put_costs.ensures in
    let b = texts_of_sent c.args.size _ _ c.requires.few c.in_ok-put_sent.ensures in
    omega (arith, c.requires.room)

pub put_demands-requires-clause-room : goal.put_demands-requires-clause-room
put_demands-requires-clause-room c =
    let a = texts_of_costs c.args.size _ _ _ c.requires.few c.in_ok-put_costs.ensures in
    let b = texts_of_sent c.args.size _ _ c.requires.few c.in_ok-put_sent.ensures in
    let d = texts_of_supplies c.args.size _ _ c.requires.few c.in_ok-put_supplies.ensures in
    omega (arith, c.requires.room)

pub put_total-requires-clause-room : goal.put_total-requires-clause-room
put_total-requires-clause-room c =
    let a = texts_of_costs c.args.size _ _ _ c.requires.few c.in_ok-put_costs.ensures in
    let b = texts_of_sent c.args.size _ _ c.requires.few c.in_ok-put_sent.ensures in
    let d = texts_of_supplies c.args.size _ _ c.requires.few c.in_ok-put_supplies.ensures in
    let e = texts_of_demands c.args.size _ _ _ c.requires.few c.in_ok-put_demands.ensures in
    omega (arith, c.requires.room)
