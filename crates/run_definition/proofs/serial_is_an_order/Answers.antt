use Rattle.run_definition.proofs.Orders.{serial-journals}
use Rattle.run_definition.proofs.serial_is_an_order.Goals as goal

pub returns : goal.returns
returns c = serial-journals
