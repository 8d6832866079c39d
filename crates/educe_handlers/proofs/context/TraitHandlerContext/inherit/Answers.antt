use Rattle.std.proofs.Common.{◌≡◌, ◌∙◌, [], ap, List, sym, subst, append-nil}
use Rattle.std.specs.Prelude.{OnOk}
use Rattle.std.proofs.lemmas.List.{drop_all}
use Rattle.educe_tokens.specs.Prefix.{HasPrefix}
use Rattle.educe_bound_classes.specs.Deriving.{Extends}
use Rattle.educe_bound.specs.Predicates.{keys_of, AreRead}
use Rattle.educe_meaning.specs.Handlers.{Noted, AreNotedRead, noted_of}
use Rattle.educe_settings.proofs.Elements.{In-at, In-all}
use Rattle.educe_syntax.specs.WherePredicate.{WherePredicate}
use Rattle.educe_handlers.proofs.Inherited.{noted_passed, noted_found}
use Rattle.educe_handlers.proofs.context.TraitHandlerContext.inherit.Goals as goal

pub returns-then-is_of-clause-ok : goal.returns-then-is_of-clause-ok
returns-then-is_of-clause-ok c =
    let which = c.args.which in
    let items = c.as_slice-noted-items.result.now in
    let noted = c.noted-item.result in
    let found : noted_of which c.args.self.now ≡ keys_of noted.added =
    ap (noted_of which) (sym (c.as_slice-noted-items.ensures ∙ c.self.view_is))
    ∙ noted_found which items c.loop-noted.noted-index noted noted c.loop-noted-test.true c.noted-item.is (sym c.is_of.ensures ∙ c.if-is_of.true) c.loop-noted.invariant.1 in
    subst (λ added. OnOk c.add_to.result (Extends (keys_of c.args.own.now) added (keys_of c.add_to.new.own))) (sym found)
    (subst (λ (own : List WherePredicate). OnOk c.add_to.result (Extends (keys_of own) (keys_of noted.added) (keys_of c.add_to.new.own))) c.loop-noted.invariant.0 c.add_to.ensures.ok)

pub returns-then-is_of-clause-read : goal.returns-then-is_of-clause-read
returns-then-is_of-clause-read c = λ all read.
    let items = c.as_slice-noted-items.result.now in
    let noted = c.noted-item.result in
    let each = subst AreNotedRead (sym (c.as_slice-noted-items.ensures ∙ c.self.view_is)) all in
    let here = In-at items c.loop-noted.noted-index noted noted c.loop-noted-test.true (sym c.noted-item.is) in
    c.add_to.ensures.read (subst AreRead (sym c.loop-noted.invariant.0) read) (In-all (λ (n : Noted). AreRead n.added) items noted each here)

pub returns-then-is_of-clause-kept : goal.returns-then-is_of-clause-kept
returns-then-is_of-clause-kept c = subst (λ (own : List WherePredicate). HasPrefix own c.add_to.new.own) c.loop-noted.invariant.0 c.add_to.ensures.kept

pub returns-clause-ok : goal.returns-clause-ok
returns-clause-ok c =
    let which = c.args.which in
    let items = c.as_slice-noted-items.result.now in
    let own = c.args.own.now in
    let none : noted_of which c.args.self.now ≡ [] =
    ap (noted_of which) (sym (c.as_slice-noted-items.ensures ∙ c.self.view_is)) ∙ c.loop-noted.invariant.1
    ∙ ap (noted_of which) (drop_all c.loop-noted.noted-index items c.loop-noted-test.false) in
    subst (λ added. Extends (keys_of own) added (keys_of c.loop-noted.own)) (sym none)
    (subst (λ (now : List WherePredicate). Extends (keys_of own) [] (keys_of now)) (sym c.loop-noted.invariant.0) (Extends.done (keys_of own)))

pub returns-clause-read : goal.returns-clause-read
returns-clause-read c = λ all read. subst AreRead (sym c.loop-noted.invariant.0) read

pub returns-clause-kept : goal.returns-clause-kept
returns-clause-kept c = record { more = []; joined = c.loop-noted.invariant.0 ∙ sym (append-nil c.args.own.now) }

pub loop-noted-preserved : goal.loop-noted-preserved
loop-noted-preserved c = (
  c.loop-noted.invariant.0,
  noted_passed c.args.which c.as_slice-noted-items.result.now c.loop-noted.noted-index c.noted-item.result c.noted-item.result c.loop-noted-test.true c.noted-item.is
      (sym c.is_of.ensures ∙ c.if-is_of.false) c.loop-noted.invariant.1,
)
