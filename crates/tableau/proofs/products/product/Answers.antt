use Rattle.tableau.proofs.Units.{exchanged}
use Rattle.tableau.proofs.products.product.Goals as goal

pub returns-in-Some-unit_product : goal.returns-in-Some-unit_product
returns-in-Some-unit_product c = exchanged c.args.b c.args.c c.in-Some-unit_product.found c.in-Some-unit_product.ensures
