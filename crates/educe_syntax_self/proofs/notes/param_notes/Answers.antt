use Rattle.educe_grammar.specs.Generics.{generic_param}
use Rattle.educe_grammar.specs.Parsed.{depth_limit}
use Rattle.educe_grammar.proofs.ReadsAgain.{generic_param_again}
use Rattle.educe_syntax_self.proofs.KnownReads.{only_memory, notes_found}
use Rattle.educe_syntax_self.proofs.notes.param_notes.Goals as goal

pub unless_memory-requires : goal.unless_memory-requires
unless_memory-requires c =
    only_memory generic_param generic_param_again depth_limit c.args.tokens.now c.requires.0 c.requires.1 c.new-input.result c.generic_param.new.input c.generic_param.result c.new-input.ensures.cursor c.new-input.ensures.selves c.generic_param.ensures

pub returns : goal.returns
returns c =
    notes_found generic_param generic_param_again c.args.tokens.now c.requires.0 c.requires.1 c.new-input.result c.generic_param.new.input c.generic_param.result c.in_ok-unless_memory.field-0 c.new-input.ensures.cursor c.new-input.ensures.selves
    c.in_ok-unless_memory.ensures c.generic_param.ensures
