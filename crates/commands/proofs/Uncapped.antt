-- Inside the limits a time is not capped: the f32 that ours makes is document 01's.
use Rattle.std.specs.Prelude.{◌≡◌, ℕ, ◌+◌, ◌*◌, ◌^◌, ◌≤◌, true, ◌&&◌, ltb, leb}
use mathlib.Core.Path.{ap}
use native.Mathlib.Omega.{arith}
use borrow.Author.Tests.{leb-true}
use Rattle.numbers.proofs.OnePass.{and_left, and_right}
use Rattle.commands.specs.Times.{elapsed_permitted, period_permitted, in_nanoseconds}
use Rattle.commands.specs.How.{counted, capped}
use Rattle.commands.specs.declared.Time.{Time}

pub uncapped : (t : Time) → t.seconds ≤ 2 ^ 24 → capped t ≡ t
uncapped t h = ap (λ (n : ℕ). record { seconds = n; nanoseconds = t.nanoseconds }) (all t.seconds h)
  where
    all : (n : ℕ) → n ≤ 2 ^ 24 → counted n ≡ n
    all n h = omega arith

pub elapsed_uncapped : (t : Time) → elapsed_permitted t ≡ true → capped t ≡ t
unfolding elapsed_permitted
elapsed_uncapped t h = uncapped t (few t.seconds (leb-true _ _ (and_left (leb t.seconds 3600) (ltb t.nanoseconds 1000000000) h)))
  where
    few : (s : ℕ) → s ≤ 3600 → s ≤ 2 ^ 24
    few s h = omega arith

pub period_uncapped : (t : Time) → period_permitted t ≡ true → capped t ≡ t
unfolding period_permitted
period_uncapped t h =
    uncapped t
    (few t.seconds t.nanoseconds
    (leb-true _ _ (and_right (ltb t.nanoseconds 1000000000 && leb 1000000 (in_nanoseconds t)) (leb (in_nanoseconds t) 60000000000) h)))
  where
    few : (s n : ℕ) → s * 1000000000 + n ≤ 60000000000 → s ≤ 2 ^ 24
    few s n h = omega arith
