-- A length in metres is close to its units, and in document 01's table. Assumes nothing.
use Prim.Native.Nat.{ℕ, suc, ◌+◌, ◌*◌, ◌^◌, ◌≤◌, ◌<◌}
use mathlib.Core.Path.{◌≡◌, refl}
use mathlib.Core.Bool.{true}
use native.Mathlib.Omega.{arith}
use lib.IntN.{ℤ}
use Rattle.units.specs.Units.{unity}
use Rattle.wholes.specs.Wholes.{is_coordinate}
use Rattle.wholes.proofs.Parts.{plus, minus}
use Rattle.wholes_near.specs.Metres.{metres}
use Rattle.wholes_near.proofs.Apart.{Apart}
use Rattle.wholes_near.proofs.Rounding.{small, Length, length_of}
use Rattle.wholes_near.proofs.SidewaysParts.{Close}
use Rattle.wholes_near.proofs.Near.{Near, near_of_close}

length_close : (e u S S' s s' : ℕ) → u ≡ 4194304 * e → Apart (10000 * e) (S * 10000) (S' * 10000) (s * u) (s' * u) → Close u S S' s s'
length_close e u S S' s s' unit a = record { high = omega (arith, unit, a.up); low = omega (arith, unit, a.low) }

pub target_near : (t : ℤ) → is_coordinate t ≡ true → Near (metres t) t
target_near t h =
    let a = length_of t h in
    near_of_close (metres t) a.plus a.minus t a.part
    (length_close small unity a.plus a.minus (plus t) (minus t) refl a.close)
