use Rattle.std.proofs.Common.{lit<}
use Rattle.std.proofs.lemmas.Str.Pattern.{ends_char}
use Rattle.educe_tokens_pieces.proofs.InPlace.{slash_ends}
use Rattle.educe_tokens_pieces.proofs.in_place.ends_in_slash.Goals as goal

pub returns : goal.returns
returns c = slash_ends c.args.text.now c.ends_with.result c.utf8.text (ends_char 47 c.args.text.now c.ends_with.result c.ends_with.ensures.cases (lit< tt))
