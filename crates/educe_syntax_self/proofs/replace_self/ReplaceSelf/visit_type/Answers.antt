use Rattle.std.proofs.Common.{◌≡◌, IsTrue, List, sym, ap, subst, ◌∙◌}
use Rattle.educe_tokens.specs.Copied.{may_be_copied}
use Rattle.educe_tokens.specs.Lexes.{lexemes}
use Rattle.educe_tree.specs.declared.ty.Ty.{out-Ty}
use Rattle.educe_grammar.specs.Types.{any_type}
use Rattle.educe_grammar.specs.Parsed.{IsWhole}
use Rattle.educe_grammar.specs.Steps.{Tokens}
use Rattle.educe_grammar.specs.declared.parse_stream.SelfPath.{SelfPath}
use Rattle.educe_syntax_self.specs.Splicing.{notes_of, spliced, replaced_in}
use Rattle.educe_syntax_self.proofs.Visiting.{type_copied, known_type, type_answer}
use Rattle.educe_syntax_self.proofs.replace_self.ReplaceSelf.visit_type.Goals as goal

pub type_notes-requires : goal.type_notes-requires
type_notes-requires c = (c.args.ty.now, subst (λ (ts : Tokens). IsWhole any_type ts c.args.ty.now) (sym c.tokens.ensures) c.requires)

pub visit_written-requires : goal.visit_written-requires
visit_written-requires c =
    let head = c.args.self.now.head in
    let tokens = (out-Ty c.args.ty.now).written.tokens in
    let notes : c.as_slice.result.now ≡ notes_of any_type tokens = c.as_slice.ensures ∙ c.in_ok-notes.ensures ∙ ap (λ (ts : Tokens). notes_of any_type ts) c.tokens.ensures in
    subst (λ (ns : List SelfPath). IsTrue (may_be_copied (lexemes (spliced head tokens ns)))) (sym notes) (type_copied head c.args.self.now.is_head tokens c.args.ty.now c.requires)

pub type_again-requires : goal.type_again-requires
type_again-requires c =
    let head = c.args.self.now.head in
    let tokens = (out-Ty c.args.ty.now).written.tokens in
    let notes : c.as_slice.result.now ≡ notes_of any_type tokens = c.as_slice.ensures ∙ c.in_ok-notes.ensures ∙ ap (λ (ts : Tokens). notes_of any_type ts) c.tokens.ensures in
    let all : c.tokens-2.result.now ≡ replaced_in any_type head tokens = c.tokens-2.ensures ∙ c.in_ok-written.ensures ∙ ap (λ (ns : List SelfPath). spliced head tokens ns) notes in
    known_type head c.args.self.now.is_head c.args.ty.now c.requires c.tokens-2.result.now all

pub returns : goal.returns
returns c =
    let head = c.args.self.now.head in
    let tokens = (out-Ty c.args.ty.now).written.tokens in
    let notes : c.as_slice.result.now ≡ notes_of any_type tokens = c.as_slice.ensures ∙ c.in_ok-notes.ensures ∙ ap (λ (ts : Tokens). notes_of any_type ts) c.tokens.ensures in
    let all : c.tokens-2.result.now ≡ replaced_in any_type head tokens = c.tokens-2.ensures ∙ c.in_ok-written.ensures ∙ ap (λ (ns : List SelfPath). spliced head tokens ns) notes in
    type_answer head c.args.self.now.is_head c.args.ty.now c.requires c.tokens-2.result.now all c.in_ok-found.found c.in_ok-found.ensures
