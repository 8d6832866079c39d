use Rattle.std.proofs.Common.{◌<◌, ◌^◌, ◌∙◌, [], ◌∷◌, ap, arith}
use Rattle.std.proofs.lemmas.Result.{on_ok_weaker}
use Rattle.educe_tokens.specs.Lexes.{Lexeme}
use Rattle.educe_tokens.proofs.Appending.{Appends-same}
use Rattle.educe_body_forms.proofs.Tokens.{digits_lexeme, one_lexeme}
use Rattle.educe_body_forms.proofs.ident_or_index.IdentOrIndexToTokens.to_tokens.Goals as goal

pub returns-in_ok-digits-in-Index-clause-ok : goal.returns-in_ok-digits-in-Index-clause-ok
returns-in_ok-digits-in-Index-clause-ok c =
    let small : c.in-Index.index < 2 ^ 64 = omega arith in
    let same = ap (λ (x : Lexeme). x ∷ []) (digits_lexeme c.in-Index.index _ small c.in_ok-digits-in-Index.ensures) ∙ one_lexeme c.in-Index.index small in
    rw c.in-Index.is (on_ok_weaker _ (λ grown. Appends-same same grown) c.push_word.ensures.ok)

pub returns-in_ok-digits-in-Index-clause-key : goal.returns-in_ok-digits-in-Index-clause-key
returns-in_ok-digits-in-Index-clause-key c =
    let small : c.in-Index.index < 2 ^ 64 = omega arith in
    let same = ap (λ (x : Lexeme). x ∷ []) (digits_lexeme c.in-Index.index _ small c.in_ok-digits-in-Index.ensures) in
    rw c.in-Index.is (on_ok_weaker _ (λ grown. Appends-same same grown) c.push_word.ensures.ok)
