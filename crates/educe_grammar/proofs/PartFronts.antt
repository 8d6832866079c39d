-- What the parts begin with. A part stands inside of brackets or behind an opener in the rules of parts, so their own beginnings need no table.
use Rattle.std.proofs.Common.{◌≡◌, ℕ, zero, suc, true, ◌++◌}
use Rattle.educe_grammar.specs.Steps.{Tokens}
use Rattle.educe_grammar.specs.Ahead.{Look, sees_any}
use Rattle.educe_grammar.specs.Rules.{Rule}
use Rattle.educe_grammar.specs.Reading.{Parses}
use Rattle.educe_grammar.specs.Reads.{rule_of, parts_below, parts}
use Rattle.educe_grammar.proofs.Fronts.{Table, no_table, no_table_obeyed, Obeys, fronts, fronts_seen}

-- the first so many beginnings of each part
unfoldable pub part_fronts : ℕ → Table
part_fronts n p l = fronts n no_table (rule_of p) l

-- the parts begin so, whatever their depth
pub parts_seen : (n depth : ℕ) → Obeys (parts_below depth) (part_fronts n)
unfolding parts_below part_fronts
parts_seen n zero budget p front rest x l h is = absurd h
parts_seen n (suc depth) budget p front rest x l h is = fronts_seen (parts_below depth) n no_table (no_table_obeyed (parts_below depth)) (rule_of p) budget front rest x l h is

-- the parts of the whole grammar begin with these
pub whole_seen : (n : ℕ) → Obeys parts (part_fronts n)
whole_seen n budget p front rest x l h is = parts_seen n (suc budget) budget p front rest x l h is

-- the first so many beginnings of a rule of the grammar
unfoldable pub rule_fronts : ℕ → {A : Type 0} → Rule A → Look → Look
rule_fronts n g l = fronts n (part_fronts n) g l

-- What a rule reads begins so.
pub rule_seen : {A : Type 0} (n budget : ℕ) (g : Rule A) (front rest : Tokens) (x : A) (l : Look) → Parses parts budget g front x → sees_any l rest ≡ true
    → sees_any (rule_fronts n g l) (front ++ rest) ≡ true
unfolding rule_fronts
rule_seen n budget g front rest x l h is = fronts_seen parts n (part_fronts n) (whole_seen n) g budget front rest x l h is
