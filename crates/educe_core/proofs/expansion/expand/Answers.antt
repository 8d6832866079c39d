use Rattle.std.proofs.Common.{ℕ, List, Result, Ok, Err}
use Rattle.std.specs.Prelude.{IfErr}
use Rattle.educe_tokens.specs.declared.error.EduceError.{EduceError}
use Rattle.educe_core.specs.Headline.{IsCause}
use Rattle.educe_core.proofs.Alone.{alone}
use Rattle.educe_core.proofs.Causes.{cause_words}
use Rattle.educe_core.proofs.Places.{cause_placed}
use Rattle.educe_core.proofs.expansion.expand.Goals as goal

-- what follows from a cause holds of a rejection that has one
from_cause : {A : Type 0} (source : List ℕ) (P : EduceError → Type 0) (result : Result A EduceError) → ((e : EduceError) → IsCause source e → P e) → IfErr result (IsCause source) → IfErr result P
from_cause source P (Ok found) follows caused = tt
from_cause source P (Err error) follows caused = follows error caused

pub returns-clause-alone : goal.returns-clause-alone
returns-clause-alone c = λ undefined. from_cause c.args.source.now _ c.expanded.result (alone c.args.source.now undefined) c.expanded.ensures.cause

pub returns-clause-words : goal.returns-clause-words
returns-clause-words c = from_cause c.args.source.now _ c.expanded.result (cause_words c.args.source.now) c.expanded.ensures.cause

pub returns-clause-placed : goal.returns-clause-placed
returns-clause-placed c = from_cause c.args.source.now _ c.expanded.result (cause_placed c.args.source.now c.utf8.source) c.expanded.ensures.cause
