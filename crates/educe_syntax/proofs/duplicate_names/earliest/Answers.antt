use Rattle.std.proofs.Common.{sym, subst, ◌++◌, ◌∷◌, []}
use Rattle.educe_grammar.specs.Naming.{Named, IsRepeatedIn}
use Rattle.educe_grammar.proofs.Repeats.{none_new, first_new, new_before, new_behind}
use Rattle.educe_syntax.proofs.duplicate_names.earliest.Goals as goal

pub returns-in_default : goal.returns-in_default
returns-in_default c = λ lists known.
    let found = rw c.as_slice.ensures.value at (rw c.in_default.is at c.in_ok-found.ensures) in
    none_new c.args.known lists c.args.names.items known found.none

pub returns-in_default-known : goal.returns-in_default-known
returns-in_default-known c = λ lists known.
    let found = rw c.as_slice.ensures.value at (rw c.in-Some.is at c.in_ok-found.ensures) in
    first_new c.args.known lists c.args.names.items c.in-Some.found c.in_default-known.is known found.some

pub returns : goal.returns
returns c = λ lists known.
    let found = rw c.as_slice.ensures.value at (rw c.in-Some.is at c.in_ok-found.ensures) in
    let in_lists = λ (name : Named). IsRepeatedIn name (lists ++ c.args.names.items ∷ []) in
    elim c.if-is_before.branch [
      | goal.then-is_before w ↦ subst in_lists (sym w.first-is)
          (new_before c.args.known c.in-Some-known.known lists c.args.names.items c.in-Some.found c.in-Some-known.is w.if-is_before.ensures known found.some)
      | goal.else-is_before w ↦ subst in_lists (sym w.first-is)
          (new_behind c.args.known c.in-Some-known.known lists c.args.names.items c.in-Some.found c.in-Some-known.is w.if-is_before.ensures known found.some)
    ]
