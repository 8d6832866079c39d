use Rattle.std.proofs.Common.{◌≡◌, IsTrue, List, sym, ap, subst, ◌∙◌}
use Rattle.educe_tokens.specs.Copied.{may_be_copied}
use Rattle.educe_tokens.specs.Lexes.{lexemes}
use Rattle.educe_grammar.specs.Expressions.{expr_path}
use Rattle.educe_grammar.specs.Parsed.{IsWhole}
use Rattle.educe_grammar.specs.Steps.{Tokens}
use Rattle.educe_grammar.specs.declared.parse_stream.SelfPath.{SelfPath}
use Rattle.educe_syntax_self.specs.Splicing.{notes_of, spliced, replaced_in}
use Rattle.educe_syntax_self.proofs.Visiting.{path_copied, known_path, path_answer}
use Rattle.educe_syntax_self.proofs.replace_self.ReplaceSelf.visit_path.Goals as goal

pub path_notes-requires : goal.path_notes-requires
path_notes-requires c = (c.args.path.now, subst (λ (ts : Tokens). IsWhole expr_path ts c.args.path.now) (sym c.tokens.ensures) c.requires)

pub visit_written-requires : goal.visit_written-requires
visit_written-requires c =
    let head = c.args.self.now.head in
    let tokens = c.args.path.now.written.tokens in
    let notes : c.as_slice.result.now ≡ notes_of expr_path tokens = c.as_slice.ensures ∙ c.in_ok-notes.ensures ∙ ap (λ (ts : Tokens). notes_of expr_path ts) c.tokens.ensures in
    subst (λ (ns : List SelfPath). IsTrue (may_be_copied (lexemes (spliced head tokens ns)))) (sym notes) (path_copied head c.args.self.now.is_head tokens c.args.path.now c.requires)

pub path_again-requires : goal.path_again-requires
path_again-requires c =
    let head = c.args.self.now.head in
    let tokens = c.args.path.now.written.tokens in
    let notes : c.as_slice.result.now ≡ notes_of expr_path tokens = c.as_slice.ensures ∙ c.in_ok-notes.ensures ∙ ap (λ (ts : Tokens). notes_of expr_path ts) c.tokens.ensures in
    let all : c.tokens-2.result.now ≡ replaced_in expr_path head tokens = c.tokens-2.ensures ∙ c.in_ok-written.ensures ∙ ap (λ (ns : List SelfPath). spliced head tokens ns) notes in
    known_path head c.args.self.now.is_head c.args.path.now c.requires c.tokens-2.result.now all

pub returns : goal.returns
returns c =
    let head = c.args.self.now.head in
    let tokens = c.args.path.now.written.tokens in
    let notes : c.as_slice.result.now ≡ notes_of expr_path tokens = c.as_slice.ensures ∙ c.in_ok-notes.ensures ∙ ap (λ (ts : Tokens). notes_of expr_path ts) c.tokens.ensures in
    let all : c.tokens-2.result.now ≡ replaced_in expr_path head tokens = c.tokens-2.ensures ∙ c.in_ok-written.ensures ∙ ap (λ (ns : List SelfPath). spliced head tokens ns) notes in
    path_answer head c.args.self.now.is_head c.args.path.now c.requires c.tokens-2.result.now all c.in_ok-found.found c.in_ok-found.ensures
