use Rattle.std.proofs.Common.{sym}
use Rattle.educe_tokens.proofs.error.worded_message.Goals as goal

pub returns-in-UnsupportedTrait : goal.returns-in-UnsupportedTrait
returns-in-UnsupportedTrait c = rw (c.in-UnsupportedTrait.is, sym c.as_str-word.ensures.bytes) c.around-in-UnsupportedTrait.ensures

pub returns-in-ReuseATrait : goal.returns-in-ReuseATrait
returns-in-ReuseATrait c = rw (c.in-ReuseATrait.is, sym c.as_str-word.ensures.bytes) c.around-in-ReuseATrait.ensures

pub returns-in-TraitNotUsed : goal.returns-in-TraitNotUsed
returns-in-TraitNotUsed c = rw (c.in-TraitNotUsed.is, sym c.as_str-word.ensures.bytes) c.around-in-TraitNotUsed.ensures

pub returns-in-MethodField : goal.returns-in-MethodField
returns-in-MethodField c = rw (c.in-MethodField.is, sym c.as_str-word.ensures.bytes) c.around-in-MethodField.ensures
