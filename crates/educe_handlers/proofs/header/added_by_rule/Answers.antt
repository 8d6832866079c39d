use Rattle.std.proofs.Common.{◌≡◌, ◌&&◌, Bool, List, sym, subst}
use Rattle.educe_syntax.specs.WherePredicate.{WherePredicate}
use Rattle.educe_bound.specs.declared.bound.Bound.{Bound}
use Rattle.educe_bound.specs.Predicates.{keys_of, exceptions_of, AreByBound, AreRead}
use Rattle.educe_meaning.specs.Handlers.{inherited_from}
use Rattle.educe_meaning.specs.Headers.{ArePacked, Inherits, prerequisites}
use Rattle.educe_settings.specs.Rows.{reads_fields}
use Rattle.educe_meaning.proofs.ReadHeaders.{parts_read, names_read, types_read}
use Rattle.educe_handlers.specs.Adding.{Adds}
use Rattle.educe_settings.specs.SeenTypes.{read_of, touched_of}
use Rattle.educe_handlers.proofs.RuledBounds.{own_is}
use Rattle.educe_handlers.proofs.header.added_by_rule.Goals as goal

pub returns-clause-adds : goal.returns-clause-adds
returns-clause-adds c =
    let which = c.args.task.trait_ in
    let d = c.args.task.ast.now in
    let read = read_of c.args.types.now in
    let touched = touched_of c.args.types.now in
    let own = keys_of c.in_ok-all.all in
    let copies = keys_of c.in_ok-copies.copies in
    let with_copies = keys_of c.extend_where_predicates.new.own in
    let inherited = inherited_from c.args.ctx.now (prerequisites which) in
    let all = c.inherit.new.own in
    let Copies : Bool → Bound → Type 0 = λ copied bound. ArePacked copied bound d read copies in
    let adds : Adds which d inherited (keys_of all) = record {
      own = own;
      are = record {
        read = read;
        touched = touched;
        types_are = c.requires.types;
        own_are = subst (λ bound. AreByBound bound (exceptions_of which) d.generics.params d.ident.text which touched own) c.requires.bound.is
            (own_is c.args.bound.now d (exceptions_of which) which touched own c.requires.by_rule c.requires.is_read.apart c.in_ok-all.ensures.keys);
        copied = c.args.copied;
        copied_are = c.requires.copied;
        copies = copies;
        copies_are = subst (Copies (reads_fields which && c.args.copied)) c.requires.bound.is (subst (λ copied. Copies copied c.args.bound.now) c.are_copied-by_copies.ensures c.in_ok-copies.ensures.keys);
        with_copies = with_copies;
        copies_added = c.in_ok-extend_where_predicates.ensures.ok;
        inherited_added = subst (λ bound. Inherits bound with_copies inherited (keys_of all)) c.requires.bound.is c.in_ok-inherit.ensures.ok;
      };
    } in
    subst (λ (ps : List WherePredicate). Adds which d inherited (keys_of ps)) (sym c.into_list.ensures.list) adds

pub returns-clause-read : goal.returns-clause-read
returns-clause-read c =
    let d = c.args.task.ast.now in
    let parts = parts_read d c.requires.is_read in
    let types = types_read c.args.task.trait_ d (read_of c.args.types.now) (touched_of c.args.types.now) parts c.requires.types in
    let own = c.in_ok-all.ensures.read c.requires.bound.read (names_read d parts) types.1 in
    let copies = c.in_ok-copies.ensures.read (names_read d parts) types.0 in
    let read : AreRead c.inherit.new.own = c.in_ok-inherit.ensures.read c.requires.noted (c.in_ok-extend_where_predicates.ensures.read own copies) in
    subst AreRead (sym c.into_list.ensures.list) read
