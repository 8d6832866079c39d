use Rattle.std.proofs.Common.{List, map, subst, sym}
use Rattle.std.specs.Borrow.{Bor}
use Rattle.educe_grammar.specs.Parsed.{depth_limit}
use Rattle.educe_grammar.specs.Readings.{IsReadType}
use Rattle.educe_grammar.proofs.Each.{all_more}
use Rattle.educe_syntax.specs.Ty.{Ty}
use Rattle.educe_syntax.specs.WherePredicate.{WherePredicate}
use Rattle.educe_bound_classes.specs.Needs.{IsReading}
use Rattle.educe_bound_classes.proofs.Lawful.{always_suffice, always_minimal}
use Rattle.educe_bound.specs.declared.bound.Bound.{Bound}
use Rattle.educe_bound.specs.Predicates.{keys_of, asks_for, AreByBound, SufficeBy, AreMinimalBy, AreRead}
use Rattle.educe_bound.proofs.bound.Bound.into_where_predicates_by_generic_parameters_check_types.Goals as goal

pub returns-in_ok-needed-in-Auto-clause-keys : goal.returns-in_ok-needed-in-Auto-clause-keys
returns-in_ok-needed-in-Auto-clause-keys c =
    let ex = c.args.exceptions.now in
    let params = c.args.params.now in
    let self = c.args.self_ident.now.text in
    let which = c.args.bound_trait in
    let types = map (λ (t : Bor Ty). t.now) c.args.types.now in
    subst (λ (found : List WherePredicate). AreByBound c.args.self.now ex params self which types (keys_of found)) (sym c.into_list.ensures.list)
    (subst (λ (bound : Bound). AreByBound bound ex params self which types (keys_of c.in_ok-needed-in-Auto.needed)) (sym c.in-Auto.is) c.in_ok-needed-in-Auto.ensures.keys)

pub returns-in_ok-needed-in-Auto-clause-suffice : goal.returns-in_ok-needed-in-Auto-clause-suffice
returns-in_ok-needed-in-Auto-clause-suffice c =
    let ex = c.args.exceptions.now in
    let params = c.args.params.now in
    let self = c.args.self_ident.now.text in
    let which = c.args.bound_trait in
    let types = map (λ (t : Bor Ty). t.now) c.args.types.now in
    let needed = c.in_ok-needed-in-Auto.needed in
    subst (λ (found : List WherePredicate). SufficeBy c.args.self.now ex params self which types (keys_of found)) (sym c.into_list.ensures.list)
    (subst (λ (bound : Bound). SufficeBy bound ex params self which types (keys_of needed)) (sym c.in-Auto.is)
    (always_suffice ex params self (asks_for which) types (keys_of needed) c.in_ok-needed-in-Auto.ensures.keys))

pub returns-in_ok-needed-in-Auto-clause-minimal : goal.returns-in_ok-needed-in-Auto-clause-minimal
returns-in_ok-needed-in-Auto-clause-minimal c = λ read.
    let ex = c.args.exceptions.now in
    let params = c.args.params.now in
    let self = c.args.self_ident.now.text in
    let which = c.args.bound_trait in
    let types = map (λ (t : Bor Ty). t.now) c.args.types.now in
    let needed = c.in_ok-needed-in-Auto.needed in
    let readings = all_more IsReadType IsReading (λ ty is. (depth_limit, is)) types read in
    subst (λ (found : List WherePredicate). AreMinimalBy c.args.self.now ex params self which types (keys_of found)) (sym c.into_list.ensures.list)
    (subst (λ (bound : Bound). AreMinimalBy bound ex params self which types (keys_of needed)) (sym c.in-Auto.is)
    (always_minimal ex params self (asks_for which) types (keys_of needed) readings c.in_ok-needed-in-Auto.ensures.keys))

pub returns-in_ok-needed-in-Auto-clause-read : goal.returns-in_ok-needed-in-Auto-clause-read
returns-in_ok-needed-in-Auto-clause-read c = λ bound names types. subst AreRead (sym c.into_list.ensures.list) (c.in_ok-needed-in-Auto.ensures.read names types)
