use Rattle.std.proofs.Common.{sym, ◌∙◌}
use Rattle.placing.proofs.OrderLaws.{order_entries, order_length}
use Rattle.placing.proofs.order.check_order.Goals as goal

pub returns-then-order-count : goal.returns-then-order-count
returns-then-order-count c =
    c.check_entries.ensures ∙ sym (order_entries c.args.count c.args.order.now c.if-order-count.true)

pub returns-else-order-count : goal.returns-else-order-count
returns-else-order-count c = sym (order_length c.args.count c.args.order.now c.if-order-count.false)
