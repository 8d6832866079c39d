use Rattle.educe_vectors.proofs.examples.handlers.added.Goals as goal

pub trait_meta_handler-answered-requires-clause-ready : goal.trait_meta_handler-answered-requires-clause-ready
trait_meta_handler-answered-requires-clause-ready g c = c.requires.ready c.new-ctx.result c.new-ctx.ensures
