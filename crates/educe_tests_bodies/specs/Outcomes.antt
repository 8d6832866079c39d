-- What bodies evaluate to, as tests compare it.
use Rattle.educe_body_values.specs.declared.outcome.Outcome.{Outcome}
use Rattle.educe_body_values.specs.declared.outcome.Outcome.TheVariants.{Truth, Order, PartialOrder, Parts, Made, Whole, Shape, Stuck}
use Rattle.educe_tests_bodies.specs.declared.outcomes.Seen.{Seen}
use Rattle.educe_tests_bodies.specs.declared.outcomes.Seen.TheVariants.{Truth as SeenTruth, Order as SeenOrder, PartialOrder as SeenPartialOrder, Parts as SeenParts, Made as SeenMade, Whole as SeenWhole, Stuck as SeenStuck}

-- The outcome that is lent.
abbrev pub shown : Seen → Outcome
shown (SeenTruth b) = Truth b
shown (SeenOrder o) = Order o
shown (SeenPartialOrder p) = PartialOrder p
shown (SeenParts parts) = Parts parts.now
shown (SeenMade variant fields) = Made (record { variant = variant; fields = fields.now })
shown (SeenWhole x) = Whole x
shown SeenStuck = Stuck

-- What `fmt` shows.
abbrev pub IsShape : Outcome → Type 0
IsShape (Shape seen) = Unit {0}
IsShape outcome = ⊥
