use Rattle.educe_meaning.proofs.Agreeing.{lawful_orders}
use Rattle.educe_meaning.proofs.laws.order_laws.Goals as goal

pub returns : goal.returns
returns c = lawful_orders
