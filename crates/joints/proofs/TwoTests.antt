-- Two tests, each with its number: the first that holds refuses. What the refusal says of the tests, and the tests of the refusal, for any
-- two numbers that are not 0. Assumes nothing.
use Rattle.std.specs.Prelude.{◌≡◌, ℕ, Bool, true, false, eqb, ◌⊎◌, [], ◌∷◌}
use mathlib.Core.Path.{refl, sym, ◌∙◌}
use mathlib.Core.Bool.{true≢false}
use mathlib.Core.Logic.{inl, inr}
use borrow.Author.Tests.{eqb-false}
use Rattle.numbers.specs.Door.{when, first_of}

abbrev pub refusal : ℕ → ℕ → Bool → Bool → ℕ
refusal n m u w = first_of (when u n ∷ when w m ∷ [])

-- k is the number of a test that holds
abbrev pub Says : ℕ → ℕ → ℕ → Bool → Bool → Type 0
Says n m k u w = ((k ≡ n) × (u ≡ true)) ⊎ ((k ≡ m) × (w ≡ true))

-- neither holds
abbrev pub Neither : Bool → Bool → Type 0
Neither u w = (u ≡ false) × (w ≡ false)

module _ (n m : ℕ) (N : eqb n 0 ≡ false) (M : eqb m 0 ≡ false) where
  first : (w : Bool) → refusal n m true w ≡ n
  first w = rw (N) refl

  pub says : (u w : Bool) → (refusal n m u w ≡ 0 → ⊥) → Says n m (refusal n m u w) u w
  says true w h = inl (first w, refl)
  says false true h = inr (refl, refl)
  says false false h = absurd (h refl)

  pub neither : (u w : Bool) → refusal n m u w ≡ 0 → Neither u w
  neither true w h = absurd (eqb-false n 0 N (sym (first w) ∙ h))
  neither false true h = absurd (eqb-false m 0 M h)
  neither false false h = (refl, refl)

  pub a_number : (k : ℕ) (u w : Bool) → Says n m k u w → k ≡ 0 → ⊥
  a_number k u w (inl (e, h)) z = eqb-false n 0 N (sym e ∙ z)
  a_number k u w (inr (e, h)) z = eqb-false m 0 M (sym e ∙ z)

  -- and back: where the first test holds its number is given, so the second's where they never hold together
  pub refused_by : (k : ℕ) (u w : Bool) → (u ≡ true → w ≡ false) → Says n m k u w → refusal n m u w ≡ k
  refused_by k true w not_both (inl (e, h)) = first w ∙ sym e
  refused_by k false w not_both (inl (e, h)) = absurd (true≢false (sym h))
  refused_by k true w not_both (inr (e, h)) = absurd (true≢false (sym h ∙ not_both refl))
  refused_by k false true not_both (inr (e, h)) = sym e
  refused_by k false false not_both (inr (e, h)) = absurd (true≢false (sym h))

  pub passed_by : (u w : Bool) → Neither u w → refusal n m u w ≡ 0
  passed_by u w (h, k) = simp (h, k)
