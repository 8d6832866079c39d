use Rattle.std.proofs.Common.{◌≡◌, IsTrue, List, sym, ap, subst, ◌∙◌}
use Rattle.educe_tokens.specs.Copied.{may_be_copied}
use Rattle.educe_tokens.specs.Lexes.{lexemes}
use Rattle.educe_grammar.specs.declared.parse_stream.SelfPath.{SelfPath}
use Rattle.educe_grammar.specs.Generics.{predicate}
use Rattle.educe_grammar.specs.Parsed.{IsWhole}
use Rattle.educe_grammar.specs.Steps.{Tokens}
use Rattle.educe_syntax_self.specs.Splicing.{notes_of, spliced}
use Rattle.educe_syntax_self.proofs.Visiting.{predicate_copied, predicate_answer}
use Rattle.educe_syntax_self.proofs.replace_self.ReplaceSelf.visit_predicate.Goals as goal

pub predicate_notes-requires : goal.predicate_notes-requires
predicate_notes-requires c = (c.args.predicate.now, subst (λ (ts : Tokens). IsWhole predicate ts c.args.predicate.now) (sym c.tokens.ensures) c.requires)

pub visit_written-requires : goal.visit_written-requires
visit_written-requires c =
    let head = c.args.self.now.head in
    let tokens = c.args.predicate.now.written.tokens in
    let notes : c.as_slice.result.now ≡ notes_of predicate tokens = c.as_slice.ensures ∙ c.in_ok-notes.ensures ∙ ap (λ (ts : Tokens). notes_of predicate ts) c.tokens.ensures in
    subst (λ (ns : List SelfPath). IsTrue (may_be_copied (lexemes (spliced head tokens ns)))) (sym notes) (predicate_copied head c.args.self.now.is_head tokens c.args.predicate.now c.requires)

pub returns : goal.returns
returns c =
    let head = c.args.self.now.head in
    let tokens = c.args.predicate.now.written.tokens in
    let notes : c.as_slice.result.now ≡ notes_of predicate tokens = c.as_slice.ensures ∙ c.in_ok-notes.ensures ∙ ap (λ (ts : Tokens). notes_of predicate ts) c.tokens.ensures in
    predicate_answer head c.args.self.now.is_head c.args.predicate.now c.requires (record { written = c.in_ok-written.written }) (c.in_ok-written.ensures ∙ ap (λ (ns : List SelfPath). spliced head tokens ns) notes)
