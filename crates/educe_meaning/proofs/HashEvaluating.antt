-- The function of the block of `Hash` evaluates to what `Hash` means.
use Rattle.std.proofs.Common.{◌≡◌, ◌≤◌, ◌^◌, List, [], length, refl, ◌∙◌}
use Rattle.std.specs.Prelude.{Option, Some, codes}
use Rattle.educe_syntax.specs.DeriveInput.{DeriveInput}
use Rattle.educe_syntax.specs.Few.{all_fields}
use Rattle.educe_syntax.specs.Refusal.{IsDefinition}
use Rattle.educe_syntax.specs.Shape.{Shape}
use Rattle.educe_syntax.specs.Shape.TheVariants.{Struct, Enum}
use Rattle.educe_bound_traits.specs.declared.traits.Trait.TheVariants as trait
use Rattle.educe_attrs.specs.Fields.{HaveNoCauses}
use Rattle.educe_body_values.specs.Meaning.{list_value, parts_of}
use Rattle.educe_body_values.specs.declared.answers.Answers.{Answers}
use Rattle.educe_body_forms.specs.declared.body.Body.{Body}
use Rattle.educe_body_values.specs.declared.environment.Own.TheVariants.{Value as OwnValue}
use Rattle.educe_body_values.specs.declared.outcome.Outcome.TheVariants.{Parts}
use Rattle.educe_body_values.specs.declared.flow.Thing.TheVariants.{Nothing}
use Rattle.educe_body_forms.specs.declared.form.Form.{Form}
use Rattle.educe_body_values.specs.declared.value.Value.{Value}
use Rattle.educe_meaning.specs.Blocks.{Hashes, scene_with}
use Rattle.educe_meaning.specs.HashBodies.{HashNames, AreHashNames, IsHashForms, IsHashBody}
use Rattle.educe_meaning.specs.HashLaws.{HashLaws}
use Rattle.educe_meaning.specs.Hashing.{hash_of, HashCovers}
use Rattle.educe_settings.specs.Listed.{listed}
use Rattle.educe_settings.specs.Rows.{field_row}
use Rattle.educe_meaning.proofs.Fitting.{struct_fits, are_fit, impl_evaluates}
use Rattle.educe_meaning.proofs.HashEnums.{hash_arm_scope, enum_hashes}
use Rattle.educe_meaning.proofs.HashSteps.{at}
use Rattle.educe_meaning.proofs.HashStructs.{outer, params_scoped, begins, struct_hashes}

module _ (d : DeriveInput) (is : IsDefinition d.tokens d) (small : length d.tokens ≤ 2 ^ 64) (uncaused : HaveNoCauses trait.Hash (field_row trait.Hash) (listed d) (all_fields d)) where
  -- the block of `hash` feeds what its value does
  forms_hash : (names : HashNames) → AreHashNames d names → (block : List Form) (shape : Shape) → d.shape ≡ shape → IsHashForms d names shape block → (table : Answers) (a : Value) (other : Option Value)
      → HashCovers table d a → parts_of (list_value (scene_with d a other table) (at (outer names) [] (Some (OwnValue a))) Nothing block) ≡ Parts (hash_of table d a)
  forms_hash names are block (Struct shape) same k =
      let fits = struct_fits trait.Hash d is small uncaused shape same in
      struct_hashes d shape names are block same fits.differ fits.methods k
  forms_hash names are block (Enum variants) same k = enum_hashes d variants names are block (are_fit trait.Hash d is small uncaused variants same) k

  -- the body of `hash` feeds what its value does
  body_hashes : (body : Body) → IsHashBody d body → Hashes d body
  body_hashes body k table a other covers =
      begins (scene_with d a other table) k.names body k.params_are ∙ forms_hash k.names k.names_are body.block d.shape refl k.block_is table a other covers

-- the laws of `Hash` hold
pub lawful_hashes : HashLaws
lawful_hashes = record {
  scope = params_scoped;
  arm_scope = hash_arm_scope;
  evaluates = λ d items is small uncaused block. impl_evaluates trait.Hash d (codes "hash") (IsHashBody d) (λ f named. body_hashes d is small uncaused f.body) items block;
}
