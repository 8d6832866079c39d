use Rattle.std.proofs.Common.{ℕ, List, subst}
use Rattle.std.specs.Prelude.{OnOk}
use Rattle.std.specs.List.{filter_map}
use Rattle.educe_bound_classes.specs.Walk.{in_type}
use Rattle.educe_bound_classes.specs.Classes.{type_name, name_of, names_in}
use Rattle.educe_bound_classes.specs.Asked.{AddsNames}
use Rattle.educe_bound_classes.specs.Texts.{AddsTexts}
use Rattle.educe_bound_classes.proofs.Collecting.{filter_found}
use Rattle.educe_bound_classes.proofs.needs.append_names.Goals as goal

pub returns : goal.returns
returns c =
    let params = c.args.asker.now.params.now in
    let ex = c.args.asker.now.exceptions.now in
    let ty = c.args.ty.now in
    let found = c.add_idents.new.set in
    let adds = subst (λ (old : List (List ℕ)). AddsTexts (names_in params ex ty) old found) c.new-found.ensures c.in_ok-add_idents.ensures.ok in
    record {
      ok = subst (λ (names : List (List ℕ)). OnOk c.append_found.result (AddsNames names c.args.asked.now.items c.append_found.new.asked.items))
          (filter_found (λ name. in_type (name_of params ex name) ty) (filter_map type_name params) found adds) c.append_found.ensures.ok;
    }
