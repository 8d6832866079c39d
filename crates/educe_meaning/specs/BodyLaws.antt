-- The laws of bodies as terms, which proofs cite with no call.
use Rattle.educe_body_values.specs.Laws.{KeyLaws, FormLaws, ScopeLaws}
use Rattle.educe_body_values.proofs.Lawful as lawful

-- Keys that differ select the values at their places.
pub lawful_keys : KeyLaws
lawful_keys = lawful.lawful_keys

-- Forms that hold forms have values made of theirs.
pub lawful_forms : FormLaws
lawful_forms = lawful.lawful_forms

-- What paths call where names are in scope.
pub lawful_scopes : ScopeLaws
lawful_scopes = lawful.lawful_scopes
