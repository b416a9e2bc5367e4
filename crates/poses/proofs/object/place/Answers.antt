-- `poses::object::place` meets its contract.
use Rattle.std.specs.Prelude.{◌<◌}
use mathlib.Core.Path.{refl}
use borrow.Author.Tests.{lt-ltb}
use Rattle.legs.specs.LegNumbers.{leg_number}
use Rattle.poses.proofs.Named.{number_few}
use Rattle.poses.proofs.object.place.Goals as goal

pub bounds-slots-number : goal.bounds-slots-number
bounds-slots-number c = rw c.number.ensures (number_few c.in-Some.leg)

pub returns-in-Some : goal.returns-in-Some
returns-in-Some c =
    let few : leg_number c.in-Some.leg < 6 = number_few c.in-Some.leg in
    rw (c.in-Some.is, lt-ltb (leg_number c.in-Some.leg) 6 few, c.number.ensures) refl
