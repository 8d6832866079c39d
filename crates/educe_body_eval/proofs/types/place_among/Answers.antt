use Rattle.educe_body_eval.proofs.Places.{place_over, place_found, place_past}
use Rattle.educe_body_eval.proofs.types.place_among.Goals as goal

pub returns-in_default : goal.returns-in_default
returns-in_default c =
    place_over (record {
      variant = c.variant-item.result;
      inside = c.loop-variant-test.true;
      is = c.variant-item.is;
      fields_are = c.as_slice-fields.ensures;
      place_is = c.first_place-place.ensures;
      counted = c.loop-variant.invariant;
    }) _ c.in_default.ensures

pub returns-then-place-fields : goal.returns-then-place-fields
returns-then-place-fields c =
    place_found (record {
      variant = c.variant-item.result;
      inside = c.loop-variant-test.true;
      is = c.variant-item.is;
      fields_are = c.as_slice-fields.ensures;
      place_is = c.first_place-place.ensures;
      counted = c.loop-variant.invariant;
    }) c.in-Some.sum c.in-Some.ensures.1 c.if-place-fields.true

pub loop-variant-preserved : goal.loop-variant-preserved
loop-variant-preserved c =
    place_past (record {
      variant = c.variant-item.result;
      inside = c.loop-variant-test.true;
      is = c.variant-item.is;
      fields_are = c.as_slice-fields.ensures;
      place_is = c.first_place-place.ensures;
      counted = c.loop-variant.invariant;
    }) c.in-Some.sum c.in-Some.ensures.1 c.if-place-fields.false
