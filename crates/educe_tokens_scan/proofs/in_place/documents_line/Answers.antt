use Rattle.std.proofs.Common.{chars, sym, ap, ◌∙◌}
use Rattle.std.specs.Prelude.{not}
use Rattle.educe_tokens_scan.proofs.InPlace.{line_doc_some, line_doc_none}
use Rattle.educe_tokens_scan.proofs.in_place.documents_line.Goals as goal

pub returns-in-Some : goal.returns-in-Some
returns-in-Some c = ap not c.text_begins.ensures ∙ sym (line_doc_some (chars c.args.line.now) (chars c.in-Some.more.now) c.in-Some.ensures.parts)

pub returns-in-None : goal.returns-in-None
returns-in-None c = sym (line_doc_none (chars c.args.line.now) (c.behind_mark.ensures.none c.in-None.is))
