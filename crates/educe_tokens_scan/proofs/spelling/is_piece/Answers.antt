use Rattle.std.proofs.Common.{◌≡◌, ◌∙◌, sym, subst}
use Rattle.educe_tokens_pieces.specs.Pieces.{is_piece}
use Rattle.educe_tokens_scan.proofs.SpellLaws.{piece_sound, piece_complete}
use Rattle.educe_tokens_scan.proofs.Wholes.{IsWhole, whole_value}
use Rattle.educe_tokens_scan.proofs.spelling.is_piece.Goals as goal

-- the answer is that of the test
is_test : (c : goal.After-is_whole) → c.is_whole.result ≡ is_piece c.args.kind c.args.text.now
is_test c =
    whole_value c.args.kind c.args.text.now c.is_whole.result
    (λ h. subst (λ k. IsWhole k c.args.text.now) c.unjoined.ensures (c.is_whole.ensures.is h))
    (λ h. c.is_whole.ensures.only (subst (λ k. IsWhole k c.args.text.now) (sym c.unjoined.ensures) h))

pub returns-clause-value : goal.returns-clause-value
returns-clause-value c = is_test c

pub returns-clause-is : goal.returns-clause-is
returns-clause-is c = λ h. piece_sound c.args.kind c.args.text.now (sym (is_test c) ∙ h)

pub returns-clause-only : goal.returns-clause-only
returns-clause-only c = λ h. is_test c ∙ piece_complete c.args.kind c.args.text.now h
