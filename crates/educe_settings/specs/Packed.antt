-- Packed structs, of whose fields no references can be taken (Rust Reference, The alignment modifiers).
use Rattle.std.specs.Prelude.{◌↔◌, Bool, IsTrue}
use Rattle.educe_syntax.specs.DeriveInput.{DeriveInput}
use Rattle.educe_attrs.specs.Packed.{IsPacked}
use Rattle.educe_settings.specs.Cases.{is_struct}

-- Whether fields are read by copies: in a packed struct.
pub record AreCopied (definition : DeriveInput) (copied : Bool) : Type 0 where
  pub is : IsTrue copied ↔ (IsTrue (is_struct definition.shape) × IsPacked definition.attrs)
