use Rattle.std.proofs.Common.{map, ap, ◌∙◌}
use Rattle.educe_tokens.specs.Lexes.{lexemes}
use Rattle.educe_syntax_self.specs.Heads.{head_of, argument_of, is_head}
use Rattle.educe_syntax_self.proofs.Adding.{Adds-same, lexemes-Adds}
use Rattle.educe_syntax_self.proofs.Named.{head_is}
use Rattle.educe_syntax_self.proofs.replace_self.ReplaceSelf.new.Goals as goal

pub invariant_of-result : goal.invariant_of-result
invariant_of-result c =
    let ast = c.args.ast.now in
    let found = Adds-same (ap (λ params. head_of ast.ident.text (map argument_of params)) c.as_slice.ensures) c.in_ok-push_head.ensures in
    record { is_head = ap is_head (ap lexemes c.in_ok-head.ensures ∙ lexemes-Adds c.new-head.ensures found) ∙ head_is ast.ident.text ast.generics.params c.requires.0 c.requires.1 }
