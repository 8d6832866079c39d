use Rattle.std.proofs.Common.{sym, ◌∙◌, rules, tests}
use Rattle.std.proofs.lemmas.List.Folds.{list_all-map}
use Rattle.std.proofs.lemmas.Iterator.{YieldsList-from_slice}
use Rattle.std.proofs.lemmas.Iterator.Search.{all_from_yields_List}
use Rattle.educe_tokens.specs.declared.token.Token.{Token}
use Rattle.educe_tokens.specs.Lexes.{Lexeme, lexeme_of, lexemes}
use Rattle.educe_tokens.specs.Text.{is_no_doc}
use Rattle.educe_attrs_generated.proofs.balanced.have_no_doc.Goals as goal

pub returns : goal.returns
returns c =
    all_from_yields_List (λ (t : Token). is_no_doc t.kind) _ _ c.all.result c.all.ensures.ran (YieldsList-from_slice c.args.tokens.now cc) (λ x b q k. search (rules, tests))
    ∙ sym (list_all-map (λ (x : Lexeme). is_no_doc x.kind) lexeme_of c.args.tokens.now)
    ∙ sym (list_all-map is_no_doc (λ (x : Lexeme). x.kind) (lexemes c.args.tokens.now))
