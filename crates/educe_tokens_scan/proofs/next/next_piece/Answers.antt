use Rattle.std.proofs.Common.{◌-◌, length, chars, rules}
use Rattle.std.specs.Str.{IsUtf8}
use Rattle.educe_tokens_scan.specs.InPlace.{Stands}
use Rattle.educe_tokens_scan.proofs.InPlace.{rest_within, front_is, front_stands, front_longest}
use Rattle.educe_tokens_scan.proofs.Readings.{fits_none}
use Rattle.educe_tokens_scan.proofs.next.next_piece.Goals as goal

pub overflow_sub-result : goal.overflow_sub-result
overflow_sub-result c =
    let s : Stands c.in-Some.kind (chars c.args.text.now) (chars c.in-Some.rest.now) = rw c.in-Some.is at c.in_ok-kind.ensures.stands in
    let v : IsUtf8 c.in-Some.rest.now = search rules in
    rest_within c.args.text.now c.in-Some.rest.now c.in-Some.kind c.utf8.text v s

pub returns-in-Some-clause-value : goal.returns-in-Some-clause-value
returns-in-Some-clause-value c =
    let s : Stands c.in-Some.kind (chars c.args.text.now) (chars c.in-Some.rest.now) = rw c.in-Some.is at c.in_ok-kind.ensures.stands in
    let v : IsUtf8 c.in-Some.rest.now = search rules in
    front_is c.args.text.now c.in-Some.rest.now c.in-Some.kind c.utf8.text v s

pub returns-in-Some-clause-stands : goal.returns-in-Some-clause-stands
returns-in-Some-clause-stands c =
    let s : Stands c.in-Some.kind (chars c.args.text.now) (chars c.in-Some.rest.now) = rw c.in-Some.is at c.in_ok-kind.ensures.stands in
    let v : IsUtf8 c.in-Some.rest.now = search rules in
    front_stands c.args.text.now c.in-Some.kind (length c.args.text.now - length c.in-Some.rest.now) (front_is c.args.text.now c.in-Some.rest.now c.in-Some.kind c.utf8.text v s)

pub returns-in-Some-clause-longest : goal.returns-in-Some-clause-longest
returns-in-Some-clause-longest c =
    let s : Stands c.in-Some.kind (chars c.args.text.now) (chars c.in-Some.rest.now) = rw c.in-Some.is at c.in_ok-kind.ensures.stands in
    let v : IsUtf8 c.in-Some.rest.now = search rules in
    front_longest c.args.text.now c.in-Some.kind (length c.args.text.now - length c.in-Some.rest.now) (front_is c.args.text.now c.in-Some.rest.now c.in-Some.kind c.utf8.text v s)

pub returns-in-None-clause-none : goal.returns-in-None-clause-none
returns-in-None-clause-none c _ = fits_none (chars c.args.text.now) (c.in_ok-kind.ensures.none c.in-None.is)
