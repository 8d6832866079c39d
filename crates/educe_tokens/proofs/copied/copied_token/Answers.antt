use Rattle.std.proofs.Common.{◌≡◌, ◌∙◌, ap}
use Rattle.educe_tokens_pieces.specs.declared.kind.TokenKind.{TokenKind}
use Rattle.educe_tokens_pieces.specs.Pieces.{spells}
use Rattle.educe_tokens.specs.Brackets.{kinds}
use Rattle.educe_tokens.specs.Lexes.{lexemes}
use Rattle.educe_tokens.proofs.Copying.{spells-copied}
use Rattle.educe_tokens.proofs.copied.copied_token.Goals as goal

pub invariant_of-result : goal.invariant_of-result
invariant_of-result c =
    let token = c.args.token.now in
    let same : spells c.copied_kind.result token.spelling ≡ spells token.kind token.spelling =
    ap (λ (kind : TokenKind). spells kind token.spelling) c.copied_kind.ensures ∙ spells-copied token.kind (kinds (lexemes c.args.behind.now)) token.spelling in
    record { spelled = ap (spells c.copied_kind.result) c.in_ok-spelling.ensures ∙ same ∙ token.spelled }
