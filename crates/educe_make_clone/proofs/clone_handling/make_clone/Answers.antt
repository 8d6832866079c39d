use Rattle.std.proofs.Common.{◌∙◌, Bool, List, map, ap, sym, subst}
use Rattle.std.specs.List.{AllByRecursion}
use Rattle.educe_syntax.specs.DeriveInput.{DeriveInput}
use Rattle.educe_syntax.specs.Few.{all_fields}
use Rattle.educe_syntax.specs.Field.{Field}
use Rattle.educe_syntax.specs.Laws.{lawful_definitions}
use Rattle.educe_syntax.specs.Refusal.{IsDefinition}
use Rattle.educe_attrs.specs.Causes.{NoCause}
use Rattle.educe_attrs.specs.Fields.{HaveNoCauses}
use Rattle.educe_attrs.specs.Places.{OfField}
use Rattle.educe_bound_traits.specs.declared.traits.Trait.TheVariants.{Clone}
use Rattle.educe_settings.specs.Ranked.{kept_of}
use Rattle.educe_handlers.proofs.Formed.{impl_with}
use Rattle.educe_meaning.specs.Blocks.{AreCloneFunctions}
use Rattle.educe_settings.specs.Cases.{cases_of}
use Rattle.educe_settings.specs.Copying.{copies_whole}
use Rattle.educe_settings.specs.Listed.{listed}
use Rattle.educe_settings.specs.Rows.{field_row}
use Rattle.educe_settings.specs.Settings.{all_kept}
use Rattle.educe_settings.proofs.Elements.{In-all}
use Rattle.educe_meaning.proofs.ReadHeaders.{lawful_headers}
use Rattle.educe_make_clone.specs.CloneNames.{names_of}
use Rattle.educe_make_markers.specs.Marking.{MayMark}
use Rattle.educe_make_markers.proofs.Visiting.{in_case, own_field, markers_visit}
use Rattle.educe_make_clone.proofs.clone_handling.make_clone.Goals as goal

-- what stands in the markers is read
kept_visit : (d : DeriveInput) → IsDefinition d.tokens d → HaveNoCauses Clone (field_row Clone) (listed d) (all_fields d) → AllByRecursion MayMark (all_kept Clone d)
kept_visit d is read =
    markers_visit Clone d (λ (fields : List Field). field_row Clone) (λ (fields : List Field). fields) (cases_of d)
    (λ fields outer f inner.
    let found = in_case d.shape fields f outer inner in
    (own_field d is f found, In-all (λ (f : Field). NoCause (OfField Clone (field_row Clone) (listed d) f.attrs)) (all_fields d) f read found))

pub clone_items-requires-clause-item : goal.clone_items-requires-clause-item
clone_items-requires-clause-item c =
    let ast = c.args.ast.now in
    let names = names_of c.in_ok-names.names in
    impl_with Clone ast (AreCloneFunctions (copies_whole ast) ast names) c.in_ok-functions.functions c.in_ok-item.item c.in_ok-item.ensures.item
    (subst (λ (b : Bool). AreCloneFunctions b ast names c.in_ok-functions.functions) c.requires.copies c.in_ok-functions.ensures)

pub clone_items-requires-clause-named : goal.clone_items-requires-clause-named
clone_items-requires-clause-named c = (lawful_definitions.parts c.args.ast.now.tokens c.args.ast.now c.requires.ready.is_read.whole).named

pub clone_items-requires-clause-generics : goal.clone_items-requires-clause-generics
clone_items-requires-clause-generics c =
    let ast = c.args.ast.now in lawful_headers.generics Clone ast c.in_ok-item.item.generics (lawful_definitions.parts ast.tokens ast c.requires.ready.is_read.whole) c.in_ok-item.ensures.item.header_is

pub clone_items-requires-clause-kept : goal.clone_items-requires-clause-kept
clone_items-requires-clause-kept c = ap (map kept_of) c.deref.ensures.value ∙ c.in_ok-kept.ensures

pub clone_items-requires-clause-marks : goal.clone_items-requires-clause-marks
clone_items-requires-clause-marks c =
    subst (AllByRecursion MayMark) (sym (ap (map kept_of) c.deref.ensures.value ∙ c.in_ok-kept.ensures)) (kept_visit c.args.ast.now c.requires.ready.is_read c.requires.read)
