-- What a proof of a reading function computes with.
use Rattle.educe_grammar.specs.Ahead.{sees_any}
use Rattle.educe_grammar.specs.Noting.{run}

-- a line `unfolding rules` opens the program of each rule
unfoldable pub rules : Unit {0}
unfolding run sees_any
rules = tt
