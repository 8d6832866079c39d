use Rattle.std.proofs.Common.{subst, List, sym}
use Rattle.educe_bound.specs.Predicates.{keys_of, exceptions_of, AreByBound}
use Rattle.educe_meaning.specs.Handlers.{inherited_from}
use Rattle.educe_meaning.specs.Headers.{prerequisites}
use Rattle.educe_meaning.proofs.ReadHeaders.{parts_read, names_read, types_read}
use Rattle.educe_settings.specs.SeenTypes.{read_of, touched_of}
use Rattle.educe_handlers.proofs.header.added.Goals as goal
use Rattle.std.proofs.lemmas.Result.{IfOk-weaker}
use Rattle.educe_syntax.specs.WherePredicate.{WherePredicate}
use Rattle.educe_handlers.specs.Adding.{Adds, IsByRule}
use Rattle.educe_handlers.proofs.RuledBounds.{adds_alone}

pub added_by_rule-requires-clause-by_rule : goal.added_by_rule-requires-clause-by_rule
added_by_rule-requires-clause-by_rule c = subst IsByRule (sym c.in-Auto.is) tt

pub added_by_rule-requires-in-All-clause-by_rule : goal.added_by_rule-requires-in-All-clause-by_rule
added_by_rule-requires-in-All-clause-by_rule c = subst IsByRule (sym c.in-All.is) tt

pub returns-in-Disabled-clause-adds : goal.returns-in-Disabled-clause-adds
returns-in-Disabled-clause-adds c =
    let which = c.args.task.trait_ in
    let d = c.args.task.ast.now in
    let types = c.args.types.now in
    let inherited = inherited_from c.args.ctx.now (prerequisites which) in
    IfOk-weaker c.own_predicates.result
    (λ (found : List WherePredicate). AreByBound c.args.bound.now (exceptions_of which) d.generics.params d.ident.text which (touched_of types) (keys_of found))
    (λ (found : List WherePredicate). Adds which d inherited (keys_of found))
    (λ found by.
    adds_alone which d inherited (read_of types) (touched_of types) c.args.copied c.args.bound.now (keys_of found) c.requires.bound.is (λ rule. subst IsByRule c.in-Disabled.is rule) c.requires.types
    c.requires.copied by)
    c.own_predicates.ensures.keys

pub returns-in-Custom-clause-adds : goal.returns-in-Custom-clause-adds
returns-in-Custom-clause-adds c =
    let which = c.args.task.trait_ in
    let d = c.args.task.ast.now in
    let types = c.args.types.now in
    let inherited = inherited_from c.args.ctx.now (prerequisites which) in
    IfOk-weaker c.own_predicates-in-Custom.result
    (λ (found : List WherePredicate). AreByBound c.args.bound.now (exceptions_of which) d.generics.params d.ident.text which (touched_of types) (keys_of found))
    (λ (found : List WherePredicate). Adds which d inherited (keys_of found))
    (λ found by.
    adds_alone which d inherited (read_of types) (touched_of types) c.args.copied c.args.bound.now (keys_of found) c.requires.bound.is (λ rule. subst IsByRule c.in-Custom.is rule) c.requires.types
    c.requires.copied by)
    c.own_predicates-in-Custom.ensures.keys

pub returns-in-Disabled-clause-read : goal.returns-in-Disabled-clause-read
returns-in-Disabled-clause-read c =
    let d = c.args.task.ast.now in
    let parts = parts_read d c.requires.is_read in
    let types = types_read c.args.task.trait_ d (read_of c.args.types.now) (touched_of c.args.types.now) parts c.requires.types in
    c.own_predicates.ensures.read c.requires.bound.read (names_read d parts) types.1

pub returns-in-Custom-clause-read : goal.returns-in-Custom-clause-read
returns-in-Custom-clause-read c =
    let d = c.args.task.ast.now in
    let parts = parts_read d c.requires.is_read in
    let types = types_read c.args.task.trait_ d (read_of c.args.types.now) (touched_of c.args.types.now) parts c.requires.types in
    c.own_predicates-in-Custom.ensures.read c.requires.bound.read (names_read d parts) types.1
