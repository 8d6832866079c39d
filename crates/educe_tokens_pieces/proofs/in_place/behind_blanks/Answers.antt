use Rattle.std.proofs.Common.{sym, ◌∙◌, rules}
use Rattle.educe_tokens_pieces.specs.Chars.{is_blank}
use Rattle.educe_tokens_pieces.proofs.InPlace.{one_more_passes}
use Rattle.educe_tokens_pieces.proofs.in_place.behind_blanks.Goals as goal

pub loop-c-preserved : goal.loop-c-preserved
loop-c-preserved c = record {
  utf8 = search rules;
  blanks = one_more_passes is_blank _ _ _ c.in-Some.c c.loop-c.invariant.blanks c.in-Some.ensures.parts (sym c.is_blank.ensures ∙ c.if-is_blank.true);
}
