-- What is said of a field, and what a reversed field makes of it.
use Rattle.std.proofs.Common.{◌≡◌, Bool, true, false, Option, Some, None, refl}
use Rattle.std.specs.Prelude.{IsSome}
use Rattle.educe_body_forms.specs.declared.comparison.Comparison.TheVariants.{PartialEq}
use Rattle.educe_body_forms.specs.declared.form.Known.{Known}
use Rattle.educe_body_values.specs.declared.answers.Answer.{Answer}
use Rattle.educe_body_values.specs.declared.answers.Answer.TheVariants.{Truth as AnswerTruth}
use Rattle.educe_meaning.specs.Comparing.{said_truth, said, directed}
use Rattle.educe_settings.specs.Settings.{How, plainly, by_method, by_order}

-- a truth is not turned
pub truth_stays : (reverse opposite : Bool) (answer : Option Answer) → directed reverse (said_truth opposite answer) ≡ said_truth opposite answer
truth_stays false opposite answer = refl
truth_stays true opposite (Some (AnswerTruth b)) = refl
truth_stays true opposite answer = refl

-- so what is said to `PartialEq` stays
pub said_stays : (reverse : Bool) (how : How) (answer : Option Answer) → directed reverse (said PartialEq how answer) ≡ said PartialEq how answer
said_stays reverse plainly answer = truth_stays reverse true answer
said_stays reverse (by_method path) answer = truth_stays reverse false answer
said_stays reverse (by_order path) answer = truth_stays reverse false answer

-- what is turned was said
pub said_before : (reverse : Bool) (said : Option Known) → IsSome (directed reverse said) → IsSome said
said_before false said known = known
said_before true None known = known
said_before true (Some k) known = refl
