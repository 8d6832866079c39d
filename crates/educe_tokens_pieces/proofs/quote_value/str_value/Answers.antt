use Rattle.std.proofs.Common.{ℕ, ◌++◌, ◌∙◌, List, length, drop, refl, sym, ap, chars}
use Rattle.std.specs.String.{string_bytes}
use Rattle.std.proofs.lemmas.Iterator.{YieldsList-from_chars}
use Rattle.std.proofs.lemmas.Iterator.Adapters.{YieldsList-from_skip}
use Rattle.std.proofs.lemmas.Iterator.Consumers.{YieldsList-turn, YieldsList-end}
use Rattle.std.proofs.lemmas.List.{length_push}
use Rattle.std.proofs.lemmas.Str.{chars-nil}
use Rattle.educe_tokens_pieces.specs.declared.quotes.Quote.TheVariants.{Str}
use Rattle.educe_tokens_pieces.specs.declared.quotes.Within.TheVariants.{Open}
use Rattle.educe_tokens_pieces.specs.Machine.{given}
use Rattle.educe_tokens_pieces.proofs.Bodies.{body_ends}
use Rattle.educe_tokens_pieces.proofs.Reached.{go_reached}
use Rattle.educe_tokens_pieces.proofs.Values.{value_more, value_here, value_end, str_parts_value}
use Rattle.educe_tokens_pieces.proofs.quote_value.str_value.Goals as goal

-- the text behind the opening quote
abbrev body : List ℕ → List ℕ
body literal = drop 1 (chars literal)

-- what it gives
abbrev whole : List ℕ → List ℕ
whole literal = given (Open Str) (body literal)

pub loop-c-init : goal.loop-c-init
loop-c-init c = record { front = ap (λ v. v ++ whole c.args.literal.now) (sym (ap chars c.new-value.ensures.bytes ∙ chars-nil)); reachable = refl }

pub loop-c-preserved : goal.loop-c-preserved
loop-c-preserved c =
    let at = YieldsList-turn (YieldsList-from_skip 1 (YieldsList-from_chars c.args.literal.now c.utf8.literal cc) cc) c.loop-c.yielded _ c.loop-c.yielded_by _ _ c.in-Some.c c.in-Some.is c.next.ensures.steps in
    let go = sym c.step.ensures ∙ c.in-Go.is in
    let grown = c.in_ok-push_given-in-Go.ensures ∙ ap (λ v. chars (string_bytes c.loop-c.value) ++ v) (c.gives.ensures c.in-Go.more go) in
    let one = length_push c.loop-c.yielded c.in-Some.c in
    record {
      front = value_more (whole c.args.literal.now) (chars (string_bytes c.loop-c.value)) (chars (string_bytes c.push_given.new.value)) (body c.args.literal.now) (length c.loop-c.yielded) c.in-Some.c c.loop-c.within c.in-Go.more
          c.loop-c.invariant.front at.0 at.1 go grown
          ∙ ap (λ n. chars (string_bytes c.push_given.new.value) ++ given c.in-Go.more (drop n (body c.args.literal.now))) (sym one);
      reachable = go_reached c.loop-c.within c.in-Go.more c.in-Some.c c.loop-c.invariant.reachable go;
    }

pub returns-in-End-clause-given : goal.returns-in-End-clause-given
returns-in-End-clause-given c =
    let at = YieldsList-turn (YieldsList-from_skip 1 (YieldsList-from_chars c.args.literal.now c.utf8.literal cc) cc) c.loop-c.yielded _ c.loop-c.yielded_by _ _ c.in-Some.c c.in-Some.is c.next.ensures.steps in
    value_here (whole c.args.literal.now) (chars (string_bytes c.loop-c.value)) (body c.args.literal.now) (length c.loop-c.yielded) c.in-Some.c c.loop-c.within c.step.result
    c.loop-c.invariant.front at.0 at.1 c.step.ensures c.in-End.is

pub returns-clause-given : goal.returns-clause-given
returns-clause-given c =
    let all = YieldsList-end (YieldsList-from_skip 1 (YieldsList-from_chars c.args.literal.now c.utf8.literal cc) cc) c.loop-c.yielded _ c.loop-c.yielded_by _ _ c.in-None.is c.next.ensures.steps in
    value_end (whole c.args.literal.now) (chars (string_bytes c.loop-c.value)) (body c.args.literal.now) (length c.loop-c.yielded) c.loop-c.within c.loop-c.invariant.front all.1

pub returns-in-End-clause-value : goal.returns-in-End-clause-value
returns-in-End-clause-value c = λ parts b. returns-in-End-clause-given c ∙ (body_ends Str (body c.args.literal.now) parts b).1

pub returns-clause-value : goal.returns-clause-value
returns-clause-value c = λ parts b. returns-clause-given c ∙ (body_ends Str (body c.args.literal.now) parts b).1

pub returns-in-End-clause-parts : goal.returns-in-End-clause-parts
returns-in-End-clause-parts c = λ is. str_parts_value (chars c.args.literal.now) (chars (string_bytes c.loop-c.value)) is (returns-in-End-clause-given c)

pub returns-clause-parts : goal.returns-clause-parts
returns-clause-parts c = λ is. str_parts_value (chars c.args.literal.now) (chars (string_bytes c.loop-c.value)) is (returns-clause-given c)
