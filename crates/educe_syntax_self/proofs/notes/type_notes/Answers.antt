use Rattle.educe_grammar.specs.Parsed.{depth_limit}
use Rattle.educe_grammar.specs.Types.{any_type}
use Rattle.educe_grammar.proofs.ReadsAgain.{any_type_again}
use Rattle.educe_syntax_self.proofs.KnownReads.{only_memory, notes_found}
use Rattle.educe_syntax_self.proofs.notes.type_notes.Goals as goal

pub unless_memory-requires : goal.unless_memory-requires
unless_memory-requires c =
    only_memory any_type any_type_again depth_limit c.args.tokens.now c.requires.0 c.requires.1 c.new-input.result c.any_type.new.input c.any_type.result c.new-input.ensures.cursor c.new-input.ensures.selves c.any_type.ensures

pub returns : goal.returns
returns c =
    notes_found any_type any_type_again c.args.tokens.now c.requires.0 c.requires.1 c.new-input.result c.any_type.new.input c.any_type.result c.in_ok-unless_memory.field-0 c.new-input.ensures.cursor c.new-input.ensures.selves
    c.in_ok-unless_memory.ensures c.any_type.ensures
