use Rattle.std.proofs.Common.{◌≡◌, IsTrue, sym, ap, subst, ◌∙◌}
use Rattle.educe_tokens.specs.Copied.{may_be_copied}
use Rattle.educe_tokens.specs.Lexes.{lexemes}
use Rattle.educe_tokens.specs.declared.written.Written.{Written}
use Rattle.educe_tree.specs.Params.{written_of}
use Rattle.educe_tree.specs.declared.generics.GenericParam.TheVariants as param
use Rattle.educe_tree.specs.declared.ident.Ident.{Ident}
use Rattle.educe_tree.specs.declared.lifetime.Lifetime.{Lifetime}
use Rattle.educe_grammar.specs.Generics.{generic_param}
use Rattle.educe_grammar.specs.Parsed.{IsWhole}
use Rattle.educe_grammar.specs.Steps.{Tokens}
use Rattle.educe_syntax_self.specs.Splicing.{notes_of, spliced, replaced_in}
use Rattle.educe_syntax_self.specs.Visits.{with_written, IsVisitedParam}
use Rattle.educe_syntax_self.proofs.Visiting.{param_copied, param_answer}
use Rattle.educe_syntax_self.proofs.replace_self.ReplaceSelf.visit_param.Goals as goal
use Rattle.educe_syntax_self.proofs.replace_self.ReplaceSelf.visit_param.Goals.{in-Lifetime+in_ok-lifetime-in-Lifetime, in-TypeParam+in_ok-ident-in-TypeParam, in-Const+in_ok-ident-in-Const}

pub param_notes-requires : goal.param_notes-requires
param_notes-requires c =
    let is = c.tokens.ensures ∙ ap (λ (w : Written). w.tokens) c.written.ensures in
    (c.args.param.now, subst (λ (ts : Tokens). IsWhole generic_param ts c.args.param.now) (sym is) c.requires)

pub visit_written-requires : goal.visit_written-requires
visit_written-requires c =
    let head = c.args.self.now.head in
    let tokens = (written_of c.args.param.now).tokens in
    let is = c.tokens.ensures ∙ ap (λ (w : Written). w.tokens) c.written.ensures in
    let notes : c.as_slice.result.now ≡ notes_of generic_param tokens = c.as_slice.ensures ∙ c.in_ok-notes.ensures ∙ ap (λ (ts : Tokens). notes_of generic_param ts) is in
    let all : spliced head c.written-2.result.now.tokens c.as_slice.result.now ≡ replaced_in generic_param head tokens = λ i. spliced head (c.written-2.ensures i).tokens (notes i) in
    subst (λ (ts : Tokens). IsTrue (may_be_copied (lexemes ts))) (sym all) (param_copied head c.args.self.now.is_head tokens c.args.param.now c.requires)

pub returns : goal.returns
returns c =
    let head = c.args.self.now.head in
    let x = c.args.param.now in
    let written = c.in_ok-written.written in
    let is = c.tokens.ensures ∙ ap (λ (w : Written). w.tokens) c.written.ensures in
    let notes : c.as_slice.result.now ≡ notes_of generic_param (written_of x).tokens = c.as_slice.ensures ∙ c.in_ok-notes.ensures ∙ ap (λ (ts : Tokens). notes_of generic_param ts) is in
    let tokens : written.tokens ≡ replaced_in generic_param head (written_of x).tokens = c.in_ok-written.ensures ∙ (λ i. spliced head (c.written-2.ensures i).tokens (notes i)) in
    let found : c.match-param.found ≡ with_written x written = elim c.match-param.branch [
      | in-Lifetime+in_ok-lifetime-in-Lifetime w ↦
          w.found-is ∙ ap (λ (l : Lifetime). param.Lifetime (record { lifetime = l; written = written })) w.in_ok-lifetime-in-Lifetime.ensures ∙ ap (λ p. with_written p written) (sym w.in-Lifetime.is)
      | in-TypeParam+in_ok-ident-in-TypeParam w ↦
          w.found-is ∙ ap (λ (i : Ident). param.TypeParam (record { ident = i; written = written })) w.in_ok-ident-in-TypeParam.ensures ∙ ap (λ p. with_written p written) (sym w.in-TypeParam.is)
      | in-Const+in_ok-ident-in-Const w ↦
          w.found-is ∙ ap (λ (i : Ident). param.Const (record { ident = i; written = written })) w.in_ok-ident-in-Const.ensures ∙ ap (λ p. with_written p written) (sym w.in-Const.is)
    ] in
    subst (IsVisitedParam head x) (sym found) (param_answer head c.args.self.now.is_head x c.requires written tokens)
