use Rattle.educe_attrs_places.proofs.ListingLaws.{answer_listed, answer_listing, answer_cause, answer_uncaused}
use Rattle.educe_attrs_places.proofs.listing.type_listing.Goals as goal

pub returns : goal.returns
returns c = record {
  listed = answer_listed c.args.attributes.now c.args.end c.read_listing.result c.read_listing.ensures;
  listing = answer_listing c.args.attributes.now c.args.end c.read_listing.result c.read_listing.ensures;
  cause = answer_cause c.args.attributes.now c.args.end c.read_listing.result c.read_listing.ensures;
  uncaused = answer_uncaused c.args.attributes.now c.args.end c.read_listing.result c.read_listing.ensures;
}
