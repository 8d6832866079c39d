use Rattle.std.proofs.Common.{◌≡◌, List, take, length, ap, sym, subst, ◌∙◌, arith}
use Rattle.std.specs.Prelude.{OnOk, Option, None, slice_get, ◌-◌}
use Rattle.std.specs.List.{filter_map}
use Rattle.std.proofs.lemmas.Grind.{common_steps}
use Rattle.educe_tree.specs.declared.ty.Ty.{Ty}
use Rattle.educe_tree.specs.declared.path.Args.{Args}
use Rattle.educe_tree.specs.declared.path.AngleArg.{AngleArg}
use Rattle.educe_tree.specs.declared.path.Segment.{Segment}
use Rattle.educe_bound_classes.specs.Classes.{plain_of, angle_of, args_at, types_behind}
use Rattle.educe_bound_classes.specs.Asked.{Adds, AddsAll}
use Rattle.educe_bound_classes.proofs.ClassLaws.{angle_of-Angle}
use Rattle.educe_bound_classes.proofs.Asking.{into_ok, adds_none, step_type, step_other, behind_none, adds_unconditional, adds_without, adds_parts, adds_names, adds_itself}
use Rattle.educe_bound_classes.proofs.needs.+needs.Goals as goal
use Rattle.educe_bound_classes.proofs.needs.+needs.Goals.{append_all-in-Plain+in_ok-append_needs-in-Plain, append_all-in-Lifetime, append_all-in-Binding, append_all-in-Constant}

pub append_needs-returns-then-is_unconditional : goal.append_needs-returns-then-is_unconditional
append_needs-returns-then-is_unconditional t c =
    let asker = c.args.asker.now in
    record { ok = adds_unconditional asker.exceptions.now asker.params.now asker.name.now c.args.ty.now c.args.asked.now.items (sym c.is_unconditional.ensures ∙ c.if-is_unconditional.true) }

pub append_needs-returns-then-not-uses_params : goal.append_needs-returns-then-not-uses_params
append_needs-returns-then-not-uses_params t c =
    let asker = c.args.asker.now in
    record { ok = adds_without asker.exceptions.now asker.params.now asker.name.now c.args.ty.now c.args.asked.now.items (sym c.uses_params.ensures ∙ c.if-not-uses_params.true) }

pub append_needs-returns-then-is_forwarding : goal.append_needs-returns-then-is_forwarding
append_needs-returns-then-is_forwarding t c =
    let asker = c.args.asker.now in
    record {
      ok = into_ok c.append_parts.result _ _
          (adds_parts asker.exceptions.now asker.params.now asker.name.now c.args.ty.now c.args.asked.now.items c.append_parts.new.asked.items
          (sym c.is_unconditional.ensures ∙ c.if-is_unconditional.false) (sym c.uses_params.ensures ∙ c.if-not-uses_params.false)
          (sym c.is_forwarding.ensures ∙ c.if-is_forwarding.true)) c.append_parts.ensures.ok;
    }

pub append_needs-returns-then-in_type : goal.append_needs-returns-then-in_type
append_needs-returns-then-in_type t c =
    let asker = c.args.asker.now in
    record {
      ok = into_ok c.append_names.result _ _
          (adds_names asker.exceptions.now asker.params.now asker.name.now c.args.ty.now c.args.asked.now.items c.append_names.new.asked.items
          (sym c.is_unconditional.ensures ∙ c.if-is_unconditional.false) (sym c.uses_params.ensures ∙ c.if-not-uses_params.false)
          (sym c.is_forwarding.ensures ∙ c.if-is_forwarding.false) (sym c.in_type.ensures ∙ c.if-in_type.true)) c.append_names.ensures.ok;
    }

pub append_needs-returns : goal.append_needs-returns
append_needs-returns t c =
    let asker = c.args.asker.now in
    record {
      ok = adds_itself asker.exceptions.now asker.params.now asker.name.now c.args.ty c.args.asked.now.items c.push.new.self.items
          (sym c.is_unconditional.ensures ∙ c.if-is_unconditional.false) (sym c.uses_params.ensures ∙ c.if-not-uses_params.false)
          (sym c.is_forwarding.ensures ∙ c.if-is_forwarding.false) (sym c.in_type.ensures ∙ c.if-in_type.false) c.in_ok-push.ensures.items;
    }

pub append_parts-returns-in-Path : goal.append_parts-returns-in-Path
append_parts-returns-in-Path t c =
    let asker = c.args.asker.now in
    record {
      ok = subst (λ (ts : List Ty). OnOk c.append_path.result (AddsAll asker.exceptions.now asker.params.now asker.name.now ts c.args.asked.now.items c.append_path.new.asked.items))
          (sym (ap types_behind c.in-Path.is)) c.append_path.ensures.ok;
    }

pub append_parts-returns-in_default : goal.append_parts-returns-in_default
append_parts-returns-in_default t c =
    let asker = c.args.asker.now in
    let none = behind_none asker.exceptions.now asker.params.now asker.name.now c.args.ty.now.form c.in_default.not-Path in
    record {
      ok = subst (λ (ts : List Ty). AddsAll asker.exceptions.now asker.params.now asker.name.now ts c.args.asked.now.items c.args.asked.now.items) (sym none)
          (adds_none asker.exceptions.now asker.params.now asker.name.now c.args.asked.now.items);
    }

-- the types among the arguments of a segment, where there is one
abbrev types_at : Option Segment → List Ty
types_at o = filter_map plain_of (angle_of (args_at o))

pub append_path-returns-in-Some : goal.append_path-returns-in-Some
append_path-returns-in-Some t c =
    let asker = c.args.asker.now in
    let is = c.in-Some.ensures.value ∙ ap (λ (xs : List Segment). slice_get xs (length xs - 1)) c.as_slice.ensures in
    record {
      ok = subst (λ (ts : List Ty). OnOk c.append_args.result (AddsAll asker.exceptions.now asker.params.now asker.name.now ts c.args.asked.now.items c.append_args.new.asked.items))
          (ap types_at is) c.append_args.ensures.ok;
    }

pub append_path-returns-in-None : goal.append_path-returns-in-None
append_path-returns-in-None t c =
    let asker = c.args.asker.now in
    let is = c.in-None.ensures.value ∙ ap (λ (xs : List Segment). slice_get xs (length xs - 1)) c.as_slice.ensures in
    record {
      ok = subst (λ (ts : List Ty). AddsAll asker.exceptions.now asker.params.now asker.name.now ts c.args.asked.now.items c.args.asked.now.items) (ap types_at is)
          (adds_none asker.exceptions.now asker.params.now asker.name.now c.args.asked.now.items);
    }

pub append_args-returns-in-Angle : goal.append_args-returns-in-Angle
append_args-returns-in-Angle t c =
    let asker = c.args.asker.now in
    record {
      ok = subst (λ (ts : List Ty). OnOk c.append_all.result (AddsAll asker.exceptions.now asker.params.now asker.name.now ts c.args.asked.now.items c.append_all.new.asked.items))
          (sym (ap (λ (a : Args). filter_map plain_of (angle_of a)) c.in-Angle.is ∙ ap (filter_map plain_of) (angle_of-Angle c.in-Angle.angle))) c.append_all.ensures.ok;
    }

pub append_all-loop-arg-init : goal.append_all-loop-arg-init
append_all-loop-arg-init t c = let asker = c.args.asker.now in adds_none asker.exceptions.now asker.params.now asker.name.now c.args.asked.now.items

pub append_all-loop-arg-preserved : goal.append_all-loop-arg-preserved
append_all-loop-arg-preserved t c =
    let asker = c.args.asker.now in
    let items = c.as_slice-arg-items.result.now in
    let other = λ (none : plain_of c.arg-item.result ≡ None) (same : c.match-arg.asked ≡ c.loop-arg.asked).
    step_other asker.exceptions.now asker.params.now asker.name.now items c.loop-arg.arg-index c.arg-item.result c.args.asked.now.items c.match-arg.asked.items c.loop-arg-test.true c.arg-item.is none
    (subst (λ (v : _). AddsAll asker.exceptions.now asker.params.now asker.name.now (filter_map plain_of (take c.loop-arg.arg-index items)) c.args.asked.now.items v.items) (sym same) c.loop-arg.invariant) in
    elim c.match-arg.branch [
      | append_all-in-Plain+in_ok-append_needs-in-Plain w ↦
          step_type asker.exceptions.now asker.params.now asker.name.now items c.loop-arg.arg-index c.arg-item.result w.in-Plain.ty c.args.asked.now.items c.loop-arg.asked.items c.match-arg.asked.items c.loop-arg-test.true c.arg-item.is
          (ap plain_of w.in-Plain.is) c.loop-arg.invariant
          (subst (λ v. Adds asker.exceptions.now asker.params.now asker.name.now w.in-Plain.ty c.loop-arg.asked.items v.items) (sym w.asked-is) w.in_ok-append_needs-in-Plain.ensures.ok)
      | append_all-in-Lifetime w ↦ other (ap plain_of w.in-Lifetime.is) w.asked-is
      | append_all-in-Binding w ↦ other (ap plain_of w.in-Binding.is) w.asked-is
      | append_all-in-Constant w ↦ other (ap plain_of w.in-Constant.is) w.asked-is
    ]

pub append_all-returns : goal.append_all-returns
append_all-returns t c =
    let asker = c.args.asker.now in
    let items = c.as_slice-arg-items.result.now in
    let whole : take c.loop-arg.arg-index items ≡ items = grind (arith, common_steps) in
    record {
      ok = subst (λ (found : List AngleArg). AddsAll asker.exceptions.now asker.params.now asker.name.now (filter_map plain_of found) c.args.asked.now.items c.loop-arg.asked.items)
          (whole ∙ c.as_slice-arg-items.ensures) c.loop-arg.invariant;
    }

pub append_args-returns-in-None : goal.append_args-returns-in-None
append_args-returns-in-None t c =
    let asker = c.args.asker.now in
    record {
      ok = subst (λ (a : Args). AddsAll asker.exceptions.now asker.params.now asker.name.now (filter_map plain_of (angle_of a)) c.args.asked.now.items c.args.asked.now.items) (sym c.in-None.is)
          (adds_none asker.exceptions.now asker.params.now asker.name.now c.args.asked.now.items);
    }

pub append_args-returns-in-Round : goal.append_args-returns-in-Round
append_args-returns-in-Round t c =
    let asker = c.args.asker.now in
    record {
      ok = subst (λ (a : Args). AddsAll asker.exceptions.now asker.params.now asker.name.now (filter_map plain_of (angle_of a)) c.args.asked.now.items c.args.asked.now.items) (sym c.in-Round.is)
          (adds_none asker.exceptions.now asker.params.now asker.name.now c.args.asked.now.items);
    }
