-- The variants of values, and what patterns bind (Rust Reference, Patterns; Struct patterns; Tuple struct patterns).
use Rattle.std.specs.Prelude.{ℕ, Bool, true, false, List, [], ◌∷◌, Option, Some, None, if◌then◌else◌, slice_get}
use Rattle.std.specs.Option.{option_map}
use Rattle.std.specs.Str.{bytes_eq}
use Rattle.educe_tokens.specs.declared.word.Word.{Word}
use Rattle.educe_tree.specs.declared.data.Field.{Field}
use Rattle.educe_tree.specs.declared.data.Variant.{Variant}
use Rattle.educe_tree.specs.declared.derive.DeriveInput.{DeriveInput}
use Rattle.educe_tree.specs.declared.ident.Ident.{Ident}
use Rattle.educe_grammar.specs.Few.{variants_of}
use Rattle.educe_body_values.specs.declared.environment.Binding.{Binding}
use Rattle.educe_body_values.specs.declared.environment.Referent.{Referent}
use Rattle.educe_body_forms.specs.declared.pattern.Pattern.{Pattern}
use Rattle.educe_body_forms.specs.declared.pattern.PatternField.{PatternField}
use Rattle.educe_body_values.specs.declared.value.Value.{Value}

-- ---- variants

-- The variant of a value, if the definition has it.
abbrev pub variant_of : DeriveInput → Value → Option Variant
variant_of definition value = slice_get (variants_of definition) value.variant

-- The variant has this name.
abbrev pub is_named : List ℕ → Option Variant → Bool
is_named name None = false
is_named name (Some variant) = bytes_eq variant.ident.text name

-- The value is of the pattern's variant, by the name as it was written.
abbrev pub fits : DeriveInput → Pattern → Value → Bool
fits definition pattern value = is_named pattern.variant.text (variant_of definition value)

-- ---- bindings

-- The key is the field's name as it was written, and none where the field has none.
abbrev pub has_key : Option Word → Option Ident → Bool
has_key None None = true
has_key None (Some ident) = false
has_key (Some key) None = false
has_key (Some key) (Some ident) = bytes_eq ident.text key.text

-- What a field stands for, under the name that the pattern gives it, if it gives one, and then the others.
abbrev pub bound_to : Option Ident → Referent → List Binding → List Binding
bound_to None referent rest = rest
bound_to (Some name) referent rest = record { name = name.text; referent = referent } ∷ rest

-- What the fields of a pattern bind by position: they are as many as the variant's fields and as what these stand for, and each
-- has the key of its field; otherwise none.
abbrev pub fields_bound : List Field → List PatternField → List Referent → Option (List Binding)
fields_bound [] [] [] = Some []
fields_bound [] [] (r ∷ rs) = None
fields_bound [] (p ∷ ps) rs = None
fields_bound (f ∷ fs) [] rs = None
fields_bound (f ∷ fs) (p ∷ ps) [] = None
fields_bound (f ∷ fs) (p ∷ ps) (r ∷ rs) = if has_key p.key f.ident then option_map (bound_to p.name r) (fields_bound fs ps rs) else None

-- What a pattern binds of a value of this variant, whose fields stand for these; with `..` nothing.
abbrev pub bound_of : Option Variant → Pattern → List Referent → Option (List Binding)
bound_of None pattern referents = None
bound_of (Some variant) pattern referents = if pattern.rest then Some [] else fields_bound variant.fields.fields pattern.fields referents

-- What a pattern binds of a value whose fields stand for these; with `..` nothing; none if the pattern does not match the
-- variant's fields.
abbrev pub bindings_of : DeriveInput → Pattern → Value → List Referent → Option (List Binding)
bindings_of definition pattern value referents = bound_of (variant_of definition value) pattern referents
