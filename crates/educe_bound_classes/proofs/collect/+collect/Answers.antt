use Rattle.std.proofs.Common.{◌≡◌, false, not, ◌&&◌, ◌||◌, ap, sym, ◌∙◌}
use Rattle.std.specs.Prelude.{is_some}
use Rattle.educe_bound_classes.specs.Classes.{name_of}
use Rattle.educe_bound_classes.specs.Names.{params_of}
use Rattle.educe_bound_classes.specs.Walk.{in_type, in_types, in_form, in_optional, in_path, in_paths, in_segments, in_args, in_angle}
use Rattle.educe_bound_classes.proofs.Asking.{into_ok}
use Rattle.educe_bound_classes.proofs.Collecting.{collects_none, collects_as, collects_both, path_behind, path_passed, path_walked}
use Rattle.educe_bound_classes.proofs.Walks.{in_form-Paren, in_form-Tuple, in_form-Reference, in_form-Slice, in_form-Array, in_form-Path, in_form-TraitObject, in_args-Angle, in_args-Round}
use Rattle.educe_bound_classes.proofs.collect.+collect.Goals as goal

pub collect_form-returns-in-Paren-clause-ok : goal.collect_form-returns-in-Paren-clause-ok
collect_form-returns-in-Paren-clause-ok t c =
    let params = params_of c.args.names in
    let ex = c.args.exceptions.now in
    into_ok c.collect_type.result _ _
    (collects_as params ex (λ q. in_type q c.get.result.now) (λ q. in_form q c.args.form.now) c.args.set.now c.collect_type.new.set
    (λ text. let q = name_of params ex text in ap (in_type q) c.get.ensures ∙ sym (in_form-Paren q c.in-Paren.ty) ∙ ap (in_form q) (sym c.in-Paren.is))) c.collect_type.ensures.ok

pub collect_form-returns-in-Tuple-clause-ok : goal.collect_form-returns-in-Tuple-clause-ok
collect_form-returns-in-Tuple-clause-ok t c =
    let params = params_of c.args.names in
    let ex = c.args.exceptions.now in
    into_ok c.collect_types.result _ _
    (collects_as params ex (λ q. in_types q c.in-Tuple.types) (λ q. in_form q c.args.form.now) c.args.set.now c.collect_types.new.set
    (λ text. let q = name_of params ex text in sym (in_form-Tuple q c.in-Tuple.types) ∙ ap (in_form q) (sym c.in-Tuple.is))) c.collect_types.ensures.ok

pub collect_form-returns-else-passes_reference-clause-ok : goal.collect_form-returns-else-passes_reference-clause-ok
collect_form-returns-else-passes_reference-clause-ok t c =
    let params = params_of c.args.names in
    let ex = c.args.exceptions.now in
    into_ok c.collect_type-in-Reference.result _ _
    (collects_as params ex (λ q. in_type q c.get-in-Reference.result.now) (λ q. in_form q c.args.form.now) c.args.set.now c.collect_type-in-Reference.new.set
    (λ text. let q = name_of params ex text in
    let passes : q.passes_references c.in-Reference.mutable ≡ false = sym c.passes_reference.ensures ∙ c.if-passes_reference.false in
    ap (in_type q) c.get-in-Reference.ensures ∙ sym (ap (λ b. not b && in_type q c.in-Reference.ty) passes)
    ∙ sym (in_form-Reference q c.in-Reference.mutable c.in-Reference.ty) ∙ ap (in_form q) (sym c.in-Reference.is))) c.collect_type-in-Reference.ensures.ok

pub collect_form-returns-in-Slice-clause-ok : goal.collect_form-returns-in-Slice-clause-ok
collect_form-returns-in-Slice-clause-ok t c =
    let params = params_of c.args.names in
    let ex = c.args.exceptions.now in
    into_ok c.collect_type-in-Slice.result _ _
    (collects_as params ex (λ q. in_type q c.get-in-Slice.result.now) (λ q. in_form q c.args.form.now) c.args.set.now c.collect_type-in-Slice.new.set
    (λ text. let q = name_of params ex text in ap (in_type q) c.get-in-Slice.ensures ∙ sym (in_form-Slice q c.in-Slice.ty) ∙ ap (in_form q) (sym c.in-Slice.is))) c.collect_type-in-Slice.ensures.ok

pub collect_form-returns-in-Array-clause-ok : goal.collect_form-returns-in-Array-clause-ok
collect_form-returns-in-Array-clause-ok t c =
    let params = params_of c.args.names in
    let ex = c.args.exceptions.now in
    into_ok c.collect_type-in-Array.result _ _
    (collects_as params ex (λ q. in_type q c.get-in-Array.result.now) (λ q. in_form q c.args.form.now) c.args.set.now c.collect_type-in-Array.new.set
    (λ text. let q = name_of params ex text in ap (in_type q) c.get-in-Array.ensures ∙ sym (in_form-Array q c.in-Array.ty c.in-Array.field-1) ∙ ap (in_form q) (sym c.in-Array.is))) c.collect_type-in-Array.ensures.ok

pub collect_form-returns-in-TraitObject-clause-ok : goal.collect_form-returns-in-TraitObject-clause-ok
collect_form-returns-in-TraitObject-clause-ok t c =
    let params = params_of c.args.names in
    let ex = c.args.exceptions.now in
    into_ok c.collect_paths.result _ _
    (collects_as params ex (λ q. in_paths q c.in-TraitObject.paths) (λ q. in_form q c.args.form.now) c.args.set.now c.collect_paths.new.set
    (λ text. let q = name_of params ex text in sym (in_form-TraitObject q c.in-TraitObject.paths) ∙ ap (in_form q) (sym c.in-TraitObject.is))) c.collect_paths.ensures.ok

pub collect_args-returns-in-Angle-clause-ok : goal.collect_args-returns-in-Angle-clause-ok
collect_args-returns-in-Angle-clause-ok t c =
    let params = params_of c.args.names in
    let ex = c.args.exceptions.now in
    into_ok c.collect_angle.result _ _
    (collects_as params ex (λ q. in_angle q c.in-Angle.angle) (λ q. in_args q c.args.args.now) c.args.set.now c.collect_angle.new.set
    (λ text. let q = name_of params ex text in sym (in_args-Angle q c.in-Angle.angle) ∙ ap (in_args q) (sym c.in-Angle.is))) c.collect_angle.ensures.ok

pub collect_args-returns-in_ok-collect_types-in-Round-clause-ok : goal.collect_args-returns-in_ok-collect_types-in-Round-clause-ok
collect_args-returns-in_ok-collect_types-in-Round-clause-ok t c =
    let params = params_of c.args.names in
    let ex = c.args.exceptions.now in
    into_ok c.collect_optional.result _ _
    (λ second.
    collects_as params ex (λ q. in_types q c.in-Round.inputs || in_optional q c.in-Round.output) (λ q. in_args q c.args.args.now) c.args.set.now c.collect_optional.new.set
    (λ text. let q = name_of params ex text in sym (in_args-Round q c.in-Round.inputs c.in-Round.output) ∙ ap (in_args q) (sym c.in-Round.is))
    (collects_both params ex (λ q. in_types q c.in-Round.inputs) (λ q. in_optional q c.in-Round.output) c.args.set.now c.collect_types.new.set c.collect_optional.new.set c.in_ok-collect_types-in-Round.ensures.ok second)) c.collect_optional.ensures.ok

pub collect_form-returns-in_ok-collect_optional-in-Path-clause-ok : goal.collect_form-returns-in_ok-collect_optional-in-Path-clause-ok
collect_form-returns-in_ok-collect_optional-in-Path-clause-ok t c =
    let params = params_of c.args.names in
    let ex = c.args.exceptions.now in
    into_ok c.collect_path.result _ _
    (λ second.
    collects_as params ex (λ q. in_optional q c.in-Path.self_type || in_path q false c.in-Path.path) (λ q. in_form q c.args.form.now) c.args.set.now c.collect_path.new.set
    (λ text.
    let q = name_of params ex text in
    ap (λ b. in_optional q c.in-Path.self_type || b) (path_behind params ex (is_some c.in-Path.self_type) c.in-Path.path text) ∙ sym (in_form-Path q c.in-Path.self_type c.in-Path.path) ∙ ap (in_form q) (sym c.in-Path.is))
    (collects_both params ex (λ q. in_optional q c.in-Path.self_type) (λ q. in_path q false c.in-Path.path) c.args.set.now c.collect_optional.new.set c.collect_path.new.set c.in_ok-collect_optional-in-Path.ensures.ok second)) c.collect_path.ensures.ok

pub collect_path-returns-then-is_unconditional_path-clause-ok : goal.collect_path-returns-then-is_unconditional_path-clause-ok
collect_path-returns-then-is_unconditional_path-clause-ok t c =
    let params = params_of c.args.names in
    let ex = c.args.exceptions.now in
    collects_none params ex (λ q. in_path q false c.args.path.now) c.args.set.now (path_passed params ex c.args.path.now (sym c.is_unconditional_path.ensures ∙ c.if-is_unconditional_path.true))

pub collect_path-returns-clause-ok : goal.collect_path-returns-clause-ok
collect_path-returns-clause-ok t c =
    let params = params_of c.args.names in
    let ex = c.args.exceptions.now in
    into_ok c.collect_segments.result _ _
    (λ second.
    collects_as params ex (λ q. q.at_path false c.args.path.now || in_segments q c.as_slice.result.now) (λ q. in_path q false c.args.path.now) c.args.set.now c.collect_segments.new.set
    (path_walked params ex c.args.path.now c.as_slice.result.now c.as_slice.ensures (sym c.is_unconditional_path.ensures ∙ c.if-is_unconditional_path.false))
    (collects_both params ex (λ q. q.at_path false c.args.path.now) (λ q. in_segments q c.as_slice.result.now) c.args.set.now c.collect_first.new.set c.collect_segments.new.set c.in_ok-collect_first.ensures.ok second)) c.collect_segments.ensures.ok
