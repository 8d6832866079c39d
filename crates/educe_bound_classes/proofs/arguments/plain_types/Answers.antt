use Rattle.std.proofs.Common.{◌≡◌, List, [], ◌∷◌, ◌++◌, take, ap, sym, ◌∙◌, append-nil, None, Bor, Vec, Global}
use Rattle.std.specs.List.{filter_map, cons_option}
use Rattle.std.proofs.lemmas.List.{map-append}
use Rattle.educe_tree.specs.declared.ty.Ty.{Ty}
use Rattle.educe_bound_classes.specs.Classes.{plain_of}
use Rattle.educe_bound_classes.specs.Asked.{types_of}
use Rattle.educe_bound_classes.proofs.Asking.{filter_map-take}
use Rattle.educe_bound_classes.proofs.arguments.plain_types.Goals as goal
use Rattle.educe_bound_classes.proofs.arguments.plain_types.Goals.{in-Plain+in_ok-push-in-Plain, in-Lifetime, in-Binding, in-Constant}

pub loop-arg-preserved : goal.loop-arg-preserved
loop-arg-preserved c =
    let items = c.as_slice-arg-items.result.now in
    let i = c.loop-arg.arg-index in
    let arg = c.arg-item.result in
    let front = filter_map plain_of (take i items) in
    let more = filter_map-take plain_of items i arg c.loop-arg-test.true c.arg-item.is in
    let other = λ (none : plain_of arg ≡ None) (same : c.match-arg.types ≡ c.loop-arg.types).
    ap (λ (v : Vec (Bor Ty) Global). types_of v.items) same ∙ c.loop-arg.invariant ∙ sym (more ∙ ap (λ o. front ++ cons_option o []) none ∙ append-nil front) in
    elim c.match-arg.branch [
      | in-Plain+in_ok-push-in-Plain w ↦
          ap (λ (v : Vec (Bor Ty) Global). types_of v.items) w.types-is ∙ ap types_of w.in_ok-push-in-Plain.ensures.items ∙ map-append (λ (x : Bor Ty). x.now) c.loop-arg.types.items _
          ∙ ap (λ (ts : List Ty). ts ++ w.in-Plain.ty ∷ []) c.loop-arg.invariant ∙ sym (more ∙ ap (λ o. front ++ cons_option o []) (ap plain_of w.in-Plain.is))
      | in-Lifetime w ↦ other (ap plain_of w.in-Lifetime.is) w.types-is
      | in-Binding w ↦ other (ap plain_of w.in-Binding.is) w.types-is
      | in-Constant w ↦ other (ap plain_of w.in-Constant.is) w.types-is
    ]
