-- `roots::digits::root_bits` meets its contract. What `settle` finds is the nearest root of the pattern's number, and its bits are the
-- digits beside the power.
use Rattle.std.specs.Prelude.{ℕ, ◌+◌, ◌-◌, ◌*◌, ◌/◌, ◌%◌, ◌^◌, ◌<◌, ◌≤◌}
use native.Mathlib.Omega.{arith}
use mathlib.Core.Path.{sym, ◌∙◌}
use Rattle.units.specs.Patterns.{val}
use Rattle.units.proofs.Patterns.{joined_bits}
use Rattle.roots.proofs.Powers.{joined}
use Rattle.roots.proofs.Nearest.{Nearest, nearest_of, nearest_root_lem, q_low, q_high}
use borrow.Author.Rules.{rules}
use Rattle.roots.proofs.digits.root_bits.Goals as goal

few : (p : ℕ) → p ≤ 402 → (p - 23) / 2 ≤ 200
few p h = omega arith

abbrev Fit : ℕ → ℕ → Type 0
Fit q k = (q < 2 ^ 32) × (k * 8388608 + q < 2 ^ 32) × (k * 8388608 + q < 2139095040)

fits_32 : (q k : ℕ) → q ≤ 2 ^ 24 → k ≤ 200 → Fit q k
fits_32 q k h g = omega arith

pub overflow_cast-result : goal.overflow_cast-result
overflow_cast-result c =
    let power : ℕ = c.spread-x.result.p in
    let near : Nearest (val c.args.b) c.settle-q.result ((power - 23) / 2) = let n = val c.args.b in
    let x = c.spread-x in
    let v = c.radicand-n in
    nearest_of n c.settle-q.result ((x.result.p - 23) / 2) v.result
    (joined n (8388608 + x.result.c % 8388608) x.result.p v.result x.ensures v.ensures)
    v.ensures.r_low v.ensures.r_high c.settle-q.ensures.0 c.settle-q.ensures.1 in
    let k_few : (power - 23) / 2 ≤ 200 = few power c.spread-x.ensures.p_high in
    let fit : Fit c.settle-q.result ((power - 23) / 2) = fits_32 c.settle-q.result ((power - 23) / 2) (q_high near) k_few in
    record { fits = fit.0 }

pub overflow_add-result : goal.overflow_add-result
overflow_add-result c =
    let power : ℕ = c.spread-x.result.p in
    let near : Nearest (val c.args.b) c.settle-q.result ((power - 23) / 2) = let n = val c.args.b in
    let x = c.spread-x in
    let v = c.radicand-n in
    nearest_of n c.settle-q.result ((x.result.p - 23) / 2) v.result
    (joined n (8388608 + x.result.c % 8388608) x.result.p v.result x.ensures v.ensures)
    v.ensures.r_low v.ensures.r_high c.settle-q.ensures.0 c.settle-q.ensures.1 in
    let k_few : (power - 23) / 2 ≤ 200 = few power c.spread-x.ensures.p_high in
    let fit : Fit c.settle-q.result ((power - 23) / 2) = fits_32 c.settle-q.result ((power - 23) / 2) (q_high near) k_few in
    record { fits = fit.1 }

pub returns : goal.returns
returns c =
    let power : ℕ = c.spread-x.result.p in
    let near : Nearest (val c.args.b) c.settle-q.result ((power - 23) / 2) = let n = val c.args.b in
    let x = c.spread-x in
    let v = c.radicand-n in
    nearest_of n c.settle-q.result ((x.result.p - 23) / 2) v.result
    (joined n (8388608 + x.result.c % 8388608) x.result.p v.result x.ensures v.ensures)
    v.ensures.r_low v.ensures.r_high c.settle-q.ensures.0 c.settle-q.ensures.1 in
    let k_few : (power - 23) / 2 ≤ 200 = few power c.spread-x.ensures.p_high in
    let fit : Fit c.settle-q.result ((power - 23) / 2) = fits_32 c.settle-q.result ((power - 23) / 2) (q_high near) k_few in (
      fit.2,
      joined_bits c.settle-q.result ((power - 23) / 2) (q_low near) (q_high near) k_few
          ∙ sym (nearest_root_lem near),
    )
