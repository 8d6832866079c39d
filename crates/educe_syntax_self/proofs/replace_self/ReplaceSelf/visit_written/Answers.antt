use Rattle.std.proofs.Common.{◌≡◌, List, [], sym, ap, ◌∙◌, rules, arith}
use Rattle.std.proofs.lemmas.List.{nil_from_length}
use Rattle.educe_tokens.specs.declared.written.Written.{Written}
use Rattle.educe_grammar.specs.declared.parse_stream.SelfPath.{SelfPath}
use Rattle.educe_syntax_self.specs.Splicing.{spliced}
use Rattle.educe_syntax_self.proofs.Splices.{splice_nothing}
use Rattle.educe_syntax_self.proofs.replace_self.ReplaceSelf.visit_written.Goals as goal

pub returns-then-is_empty : goal.returns-then-is_empty
returns-then-is_empty c =
    let head = c.args.self.now.head in
    let tokens = c.args.written.now.tokens in
    let none : c.args.notes.now ≡ [] = nil_from_length c.args.notes.now (first_of (search rules, grind arith)) in
    ap (λ (w : Written). w.tokens) c.in_ok-same.ensures ∙ sym (ap (λ (ns : List SelfPath). spliced head tokens ns) none ∙ splice_nothing head tokens)
