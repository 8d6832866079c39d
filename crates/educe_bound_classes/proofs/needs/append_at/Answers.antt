use Rattle.std.proofs.Common.{◌≡◌, filter, subst, ap, ◌∙◌, sym, List, Option, None, Some, length, refl}
use Rattle.std.specs.Prelude.{OnOk, slice_get}
use Rattle.std.proofs.lemmas.Option.{slice_get_read, slice_get_past}
use Rattle.educe_tree.specs.declared.generics.GenericParam.{GenericParam}
use Rattle.educe_bound_classes.specs.Asked.{AddsNames}
use Rattle.educe_bound_classes.specs.Places.{name_list}
use Rattle.educe_bound_classes.specs.Texts.{has_text}
use Rattle.educe_bound_classes.proofs.Asking.{adds_no_names}
use Rattle.educe_bound_classes.proofs.needs.append_at.Goals as goal

pub returns-in-Some : goal.returns-in-Some
returns-in-Some c =
    let is : slice_get c.as_slice.result.now c.args.place ≡ Some c.in-Some.param.now = slice_get_read c.as_slice.result.now (length c.as_slice.result.now) c.args.place c.in-Some.param.now refl c.in-Some.ensures.lookup.3.0 c.in-Some.ensures.lookup.1 in
    record {
      ok = subst (λ (o : Option GenericParam). OnOk c.append_name.result (AddsNames (filter (has_text c.args.found.now) (name_list o)) c.args.asked.now.items c.append_name.new.asked.items))
          (sym is ∙ ap (λ (ps : List GenericParam). slice_get ps c.args.place) c.as_slice.ensures) c.append_name.ensures.ok;
    }

pub returns-in-None : goal.returns-in-None
returns-in-None c =
    let is : slice_get c.as_slice.result.now c.args.place ≡ None = slice_get_past c.as_slice.result.now c.args.place c.in-None.ensures.lookup.3 in
    record {
      ok = subst (λ (o : Option GenericParam). AddsNames (filter (has_text c.args.found.now) (name_list o)) c.args.asked.now.items c.args.asked.now.items)
          (sym is ∙ ap (λ (ps : List GenericParam). slice_get ps c.args.place) c.as_slice.ensures) (adds_no_names c.args.asked.now.items);
    }
