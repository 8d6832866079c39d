-- The names that the functions of an enum declare, as texts.
use Rattle.educe_cmp.specs.declared.names.Names.{Names}
use Rattle.educe_meaning.specs.Arms as laws

-- The texts of the names, and the prefixes.
abbrev pub names_of : Names → laws.Names
names_of names = record {
  other = names.other.text;
  discriminant = names.discriminant.text;
  this = names.this.text;
  base = names.base.text;
  own = names.own;
  others = names.others;
}
