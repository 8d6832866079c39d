use Rattle.std.proofs.Common.{refl}
use Rattle.educe_tokens.specs.Quote.{quoted}
use Rattle.educe_text.specs.FirstSets.{behind_lexemes, first_set, decides}
use Rattle.educe_text.proofs.Complete.{complete, unique}
use Rattle.educe_text.proofs.Sound.{sound}
use Rattle.educe_text.proofs.laws.text_laws.Goals as goal

pub returns-clause-laws : goal.returns-clause-laws
returns-clause-laws c = record { complete = complete _ _; unique = unique _ _; sound = sound _ }

pub returns-clause-decided : goal.returns-clause-decided
unfolding quoted behind_lexemes first_set decides
returns-clause-decided c = refl
