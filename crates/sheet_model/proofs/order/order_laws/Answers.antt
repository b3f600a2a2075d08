use Rattle.sheet_model.proofs.Orders.{order-laws}
use Rattle.sheet_model.proofs.order.order_laws.Goals as goal

pub returns : goal.returns
returns c = order-laws
