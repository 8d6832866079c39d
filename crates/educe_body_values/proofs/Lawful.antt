-- The laws of bodies hold.
use Rattle.std.proofs.Common.{refl}
use Rattle.educe_body_values.specs.Laws.{KeyLaws, ScopeLaws, FormLaws}
use Rattle.educe_body_values.proofs.Apart.{keys_apart, keys_of-differ}
use Rattle.educe_body_values.proofs.Fields.{KeysGive-part_of}
use Rattle.educe_body_values.proofs.Hiding.{callee_in-own, callee_in-built_in, callee_in-printed, callee_in-made, number_in-own, names_bound-none}
use Rattle.educe_body_values.proofs.Rows.{form_value-Call, form_value-two, form_value-Not, form_value-SomeOf, form_value-IfReturn, form_value-Return, form_value-MatchOrdering, form_value-MatchValue, form_value-IfLet, form_value-Block, form_value-HashPart, form_value-Construct, form_value-AssignField, form_value-AssignThrough, form_value-BuilderEntry, form_value-MethodArgument}

-- keys have them
pub lawful_keys : KeyLaws
lawful_keys = record { apart = keys_apart; differ = keys_of-differ; select = KeysGive-part_of }

-- names in scope have them
pub lawful_scopes : ScopeLaws
lawful_scopes = record { own = callee_in-own; called = callee_in-built_in; printed = callee_in-printed; made = callee_in-made; number = number_in-own; free = names_bound-none }

-- forms have them
pub lawful_forms : FormLaws
lawful_forms = record {
  call = form_value-Call;
  call_two = form_value-two;
  negation = form_value-Not;
  in_some = form_value-SomeOf;
  test = form_value-IfReturn;
  returned = form_value-Return;
  matches = form_value-MatchOrdering;
  match_value = form_value-MatchValue;
  if_let = form_value-IfLet;
  block = form_value-Block;
  hashed = form_value-HashPart;
  construct = form_value-Construct;
  assign_field = form_value-AssignField;
  assign_through = form_value-AssignThrough;
  write_text = λ scene env formatter text. refl;
  helper_type = λ scene env helper formatter. refl;
  builder = λ scene env builder formatter opening. refl;
  entry = form_value-BuilderEntry;
  argument = form_value-MethodArgument;
  finish = λ scene env builder. refl;
}
