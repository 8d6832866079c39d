use Rattle.educe_grammar.specs.Generics.{predicate}
use Rattle.educe_grammar.specs.Parsed.{depth_limit}
use Rattle.educe_grammar.proofs.ReadsAgain.{predicate_again}
use Rattle.educe_syntax_self.proofs.KnownReads.{only_memory, notes_found}
use Rattle.educe_syntax_self.proofs.notes.predicate_notes.Goals as goal

pub unless_memory-requires : goal.unless_memory-requires
unless_memory-requires c =
    only_memory predicate predicate_again depth_limit c.args.tokens.now c.requires.0 c.requires.1 c.new-input.result c.where_predicate.new.input c.where_predicate.result c.new-input.ensures.cursor c.new-input.ensures.selves c.where_predicate.ensures

pub returns : goal.returns
returns c =
    notes_found predicate predicate_again c.args.tokens.now c.requires.0 c.requires.1 c.new-input.result c.where_predicate.new.input c.where_predicate.result c.in_ok-unless_memory.field-0 c.new-input.ensures.cursor c.new-input.ensures.selves
    c.in_ok-unless_memory.ensures c.where_predicate.ensures
