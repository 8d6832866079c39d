use Rattle.std.proofs.Common.{suc}
use Rattle.educe_grammar.specs.Parsed.{depth_limit}
use Rattle.educe_grammar.specs.Expressions.{expr_path}
use Rattle.educe_grammar.proofs.ReadsAgain.{expr_path_again}
use Rattle.educe_syntax_self.proofs.KnownReads.{only_memory, found_again}
use Rattle.educe_syntax_self.proofs.again.path_again.Goals as goal

pub unless_memory-requires : goal.unless_memory-requires
unless_memory-requires c =
    only_memory expr_path expr_path_again (suc depth_limit) c.args.tokens.now c.requires.0 c.requires.1 c.new-input.result c.expr_path.new.input c.expr_path.result c.new-input.ensures.cursor c.new-input.ensures.selves c.expr_path.ensures

pub returns : goal.returns
returns c =
    found_again expr_path expr_path_again (suc depth_limit) c.args.tokens.now c.requires.0 c.requires.1 c.new-input.result c.expr_path.new.input c.expr_path.result c.unless_memory.result c.new-input.ensures.cursor c.new-input.ensures.selves c.unless_memory.ensures c.expr_path.ensures
