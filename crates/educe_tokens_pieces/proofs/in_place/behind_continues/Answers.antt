use Rattle.std.proofs.Common.{sym, ◌∙◌, rules}
use Rattle.unicode_ident.specs.Ident.{is_xid_continue}
use Rattle.educe_tokens_pieces.proofs.InPlace.{one_more_passes}
use Rattle.educe_tokens_pieces.proofs.in_place.behind_continues.Goals as goal

pub loop-c-preserved : goal.loop-c-preserved
loop-c-preserved c = record {
  utf8 = search rules;
  goes_on = one_more_passes is_xid_continue _ _ _ c.in-Some.c c.loop-c.invariant.goes_on c.in-Some.ensures.parts (sym c.is_xid_continue.ensures.value ∙ c.if-is_xid_continue.true);
}
