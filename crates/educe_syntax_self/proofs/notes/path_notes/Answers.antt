use Rattle.educe_grammar.specs.Parsed.{depth_limit}
use Rattle.educe_grammar.specs.Expressions.{expr_path}
use Rattle.educe_grammar.proofs.ReadsAgain.{expr_path_again}
use Rattle.educe_syntax_self.proofs.KnownReads.{only_memory, notes_found}
use Rattle.educe_syntax_self.proofs.notes.path_notes.Goals as goal

pub unless_memory-requires : goal.unless_memory-requires
unless_memory-requires c =
    only_memory expr_path expr_path_again depth_limit c.args.tokens.now c.requires.0 c.requires.1 c.new-input.result c.expr_path.new.input c.expr_path.result c.new-input.ensures.cursor c.new-input.ensures.selves c.expr_path.ensures

pub returns : goal.returns
returns c =
    notes_found expr_path expr_path_again c.args.tokens.now c.requires.0 c.requires.1 c.new-input.result c.expr_path.new.input c.expr_path.result c.in_ok-unless_memory.field-0 c.new-input.ensures.cursor c.new-input.ensures.selves
    c.in_ok-unless_memory.ensures c.expr_path.ensures
