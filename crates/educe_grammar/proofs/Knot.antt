-- The parts are read, whatever follows that may: by induction on how deep they may nest.
use Rattle.std.proofs.Common.{◌≡◌, ℕ, zero, suc, ◌<◌, ◌≤◌, [], refl, ap, sym, ◌∙◌, Ok, append-nil, arith}
use Rattle.educe_grammar.specs.Steps.{Tokens}
use Rattle.educe_grammar.specs.Reading.{Parses}
use Rattle.educe_grammar.specs.Running.{run}
use Rattle.educe_grammar.specs.Rules.{Rule, Part, types, plains, exprs, trees}
use Rattle.educe_grammar.specs.Expressions.{tree}
use Rattle.educe_grammar.specs.Reads.{rule_of, parts_below, parts, Reads, readers_below, readers, read}
use Rattle.educe_grammar.proofs.PartFronts.{parts_seen, whole_seen}
use Rattle.educe_grammar.proofs.Computed.{computed}
use Rattle.educe_grammar.proofs.Again.{Behind, Again, again_part}
use Rattle.educe_grammar.proofs.Deciding.{Follows, Knows}
use Rattle.educe_grammar.proofs.Known.{Known, whatever}
use Rattle.educe_grammar.proofs.TypesAgain.{again_plain_type, again_any_type}
use Rattle.educe_grammar.proofs.ExpressionsAgain.{again_expression}

-- each part, with the parts inside of it
again_rule : (n budget : ℕ) → Known (readers_below n) (parts_below n) n → budget ≤ n → (p : Part) → Again (readers_below n) (parts_below n) budget (rule_of p) (Follows p)
unfolding computed
again_rule n budget known room types = again_any_type known budget room
again_rule n budget known room plains = again_plain_type known budget room
again_rule n budget known room exprs = again_expression known budget room
again_rule n budget known room trees = whatever known tree budget room refl

-- the parts with a budget below the number
knows_below : (n budget : ℕ) → budget < n → Knows (readers_below n) (parts_below n) budget
unfolding parts_below readers_below
knows_below zero budget room p = absurd (omega arith)
knows_below (suc n) budget room p =
    let known : Known (readers_below n) (parts_below n) n = record { reads = knows_below n; begins = parts_seen 2 n } in
    again_part (readers_below (suc n)) (parts_below (suc n)) budget (again_rule n budget known (omega arith) p).reads

-- the parts of the grammar
knows : (budget : ℕ) → Knows readers parts budget
unfolding Parses run
knows budget p = again_part readers parts budget (knows_below (suc budget) budget (omega arith) p).reads

-- all that is known of them
pub known : (limit : ℕ) → Known readers parts limit
known limit = record { reads = λ budget room. knows budget; begins = whole_seen 2 }

-- What is by a rule of the grammar is read to its end.
pub read_whole : {A : Type 0} (g : Rule A) {F : Behind A} (budget : ℕ) → Again readers parts budget g F → (tokens : Tokens) (x : A) → Reads budget g tokens x → F x []
    → read budget g tokens ≡ Ok (x, [])
read_whole g budget ag tokens x h f = ap (read budget g) (sym (append-nil tokens)) ∙ ag.reads tokens [] x h f
