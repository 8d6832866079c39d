use Rattle.std.proofs.Common.{◌≡◌, ◌++◌, [], zero, sym, ap, ◌∙◌, append-nil, arith}
use Rattle.std.proofs.lemmas.List.{nil_from_length}
use Rattle.educe_grammar.specs.Steps.{Tokens}
use Rattle.educe_syntax_self.specs.Splicing.{note_at, walk}
use Rattle.educe_syntax_self.proofs.Splices.{walk_nothing}
use Rattle.educe_syntax_self.proofs.splice.spliced.Goals as goal

pub returns : goal.returns
returns c =
    let head = c.args.head.now in
    let at = note_at c.args.tokens.now c.args.notes.now in
    let out : Tokens = c.loop-rest.out in
    let none : c.loop-rest.rest.now ≡ [] = nil_from_length c.loop-rest.rest.now (omega arith) in
    sym (append-nil out) ∙ sym (ap (λ (ts : Tokens). out ++ walk head at zero ts) none ∙ ap (λ (us : Tokens). out ++ us) (walk_nothing head at)) ∙ c.loop-rest.invariant.0
