use Rattle.std.proofs.Common.{◌≡◌, Ok, refl, sym, ◌∙◌, arith}
use Rattle.educe_core.proofs.Numbers.{number_is, read_as, begins}
use Rattle.educe_core.proofs.spoken.count_of.Goals as goal

pub returns-then-not-begins_above_zero : goal.returns-then-not-begins_above_zero
returns-then-not-begins_above_zero c = λ n some few is. let found = c.if-not-begins_above_zero.ensures.1 (begins c.args.word.now n some few is) in cc

pub returns-in-Ok : goal.returns-in-Ok
returns-in-Ok c =
    let found = number_is c.args.word.now c.in-Ok.count c.parse.result (c.if-not-begins_above_zero.ensures.0 refl) c.in-Ok.is c.parse.ensures.value.0 in
    (found.0, (found.1, c.if-count-le1000.true))

pub returns-in_default : goal.returns-in_default
returns-in_default c = λ n some few is.
    let read = sym c.in-Ok.is ∙ read_as c.args.word.now n c.parse.result few is c.parse.ensures.value.0 in
    let same : c.in-Ok.count ≡ n = cc in
    omega (arith, c.if-count-le1000.false)

pub returns-in_default-2 : goal.returns-in_default-2
returns-in_default-2 c = λ n some few is. let read = sym c.in_default.is ∙ read_as c.args.word.now n c.parse.result few is c.parse.ensures.value.0 in cc
