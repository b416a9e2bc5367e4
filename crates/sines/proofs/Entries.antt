-- Every entry of the tables is the whole number nearest to 2 ^ 30 (1 + S (j / 8)), or C, by the test of the room `series`; and what that
-- says in units of 2 ^ -35. Assumes nothing.
use Rattle.std.specs.Prelude.{◌≡◌, ℕ, zero, suc, ◌+◌, ◌*◌, ◌^◌, ◌<◌, ◌≤◌, Bool, T, eqb, leb, List, [], ◌∷◌, length, get_or}
use mathlib.Core.Path.{refl, sym, ap, ◌∙◌, subst}
use native.Mathlib.Nat.{add-zero, zero-add, add-suc, suc-add, mul-one, mul-le-mul_left, le_of_suc-le-suc, not-suc-le-zero}
use native.Mathlib.Omega.{arith}
use lib.Dec.{leb→le, eqb→eq, lit<}
use Rattle.series.specs.Fractions.{◌÷◌}
use Rattle.series.specs.Series.{S, C, factorial}
use Rattle.series.specs.Working.{pw, ev, sin_p, sin_m, cos_p, cos_m, denominator}
use Rattle.series.proofs.Tables.{every, at}
use Rattle.series.proofs.Polynomials.{spread, ev_spread}
use Rattle.series.proofs.NearestTables.{NearestTable, nearest, nearest_le, sine_table, cosine_table, sine_nearest, cosine_nearest}
use Rattle.series.proofs.Addition.{fsp, fsm, fcp, fcm, FD, FD_eighths, K, at_eighths}
use Rattle.sines.specs.How.{eighth, table_one, sine_entry, cosine_entry, eighths, rest, square, even, odd}
use Rattle.sines.specs.How.{sine_sum, cosine_sum, fixed_sine, fixed_cosine}

-- f i, f (i + 1), .., so many
unfoldable tabled : (ℕ → ℕ) → ℕ → ℕ → List ℕ
tabled f i zero = []
tabled f i (suc n) = f i ∷ tabled f (suc i) n

tabled_at : (f : ℕ → ℕ) (n i k : ℕ) → k < n → get_or (tabled f i n) k 0 ≡ f (i + k)
unfolding tabled
tabled_at f zero i k h = absurd (not-suc-le-zero h)
tabled_at f (suc n) i zero h = ap f (sym (add-zero i))
tabled_at f (suc n) i (suc k) h = tabled_at f n (suc i) k (le_of_suc-le-suc h) ∙ ap f (suc-add i k ∙ sym (add-suc i k))

tabled_length : (f : ℕ → ℕ) (n i : ℕ) → length (tabled f i n) ≡ n
unfolding tabled
tabled_length f zero i = refl
tabled_length f (suc n) i = ap suc (tabled_length f n (suc i))

unfoldable pub sines : List ℕ
unfolding tabled
sines = tabled sine_entry 0 129

unfoldable pub cosines : List ℕ
unfolding tabled
cosines = tabled cosine_entry 0 129

sines_pass : T (sine_table table_one table_one 1 8 sines)
unfolding sine_table sines sine_entry sin_p sin_m pw ev denominator factorial
sines_pass = tt

cosines_pass : T (cosine_table table_one table_one 1 8 cosines)
unfolding cosine_table cosines cosine_entry cos_p cos_m pw ev denominator factorial
cosines_pass = tt

-- ---- the rule
pub sines_nearest : NearestTable S table_one table_one (1 ÷ 8) sines
sines_nearest = sine_nearest table_one table_one 1 8 sines (lit< tt) sines_pass

pub cosines_nearest : NearestTable C table_one table_one (1 ÷ 8) cosines
cosines_nearest = cosine_nearest table_one table_one 1 8 cosines (lit< tt) cosines_pass

-- ---- an entry s against (p - m) / D
pub record Entry (D s p m : ℕ) : Type 0 where
  pub low : 2 * (s * D + table_one * m) ≤ 2 * (table_one * p + table_one * D) + D
  pub high : 2 * (table_one * p + table_one * D) ≤ 2 * (s * D + table_one * m) + D
  pub small : s ≤ 2 * table_one

grown : (k s p m d p' m' d' : ℕ) → p' ≡ k * p → m' ≡ k * m → d' ≡ k * d → s ≤ 2 * table_one
    → (2 * (s * d + table_one * m) ≤ 2 * (table_one * p + table_one * d) + d)
    × (2 * (table_one * p + table_one * d) ≤ 2 * (s * d + table_one * m) + d) → Entry d' s p' m'
grown k s p m d p' m' d' ep em ed few h =
    let l = mul-le-mul_left k h.0 in
    let g = mul-le-mul_left k h.1 in
    record { low = rw (ep, em, ed) (omega arith); high = rw (ep, em, ed) (omega arith); small = few }

few : ℕ → ℕ → Bool
few k e = leb e (2 * table_one)

few_sines : T (every few 0 sines)
unfolding few sines sine_entry sin_p sin_m pw ev denominator factorial
few_sines = tt

few_cosines : T (every few 0 cosines)
unfolding few cosines cosine_entry cos_p cos_m pw ev denominator factorial
few_cosines = tt

-- a test that a table of f passes holds of each entry
tested_at : (f : ℕ → ℕ) (test : ℕ → ℕ → Bool) → T (every test 0 (tabled f 0 129)) → (j : ℕ) → j < 129 → T (test j (f j))
tested_at f test t j h =
    subst (λ (e : ℕ). T (test j e)) (tabled_at f 129 0 j h ∙ ap f (zero-add j))
    (at test (tabled f 0 129) t j (subst (λ (n : ℕ). j < n) (sym (tabled_length f 129 0)) h))

-- what the test of an entry of S says, and of C, in counts of 2 ^ -35
entry_of : (p m : List ℕ) → length p ≡ 64 → length m ≡ 64 → (j s : ℕ) → s ≤ 2 * table_one
    → T (nearest (spread 8 p) (spread 8 m) (denominator 8) table_one table_one 1 j s)
    → Entry FD s (ev (2 ^ 35) (eighth * j) p) (ev (2 ^ 35) (eighth * j) m)
entry_of p m lp lm j s small t =
    grown K s (ev 8 j p) (ev 8 j m) (denominator 8) _ _ FD (at_eighths j p lp) (at_eighths j m lm) FD_eighths small
    (rw (mul-one j, ev_spread 8 p j, ev_spread 8 m j) at
    (nearest_le (spread 8 p) (spread 8 m) (denominator 8) table_one table_one 1 j s t))

module _ (j : ℕ) (h : j < 129) where
  pub sine_small : sine_entry j ≤ 2 * table_one
  unfolding few sines
  sine_small = leb→le (sine_entry j) (2 * table_one) (tested_at sine_entry few few_sines j h)

  pub cosine_small : cosine_entry j ≤ 2 * table_one
  unfolding few cosines
  cosine_small = leb→le (cosine_entry j) (2 * table_one) (tested_at cosine_entry few few_cosines j h)

  pub sine_entry_lem : Entry FD (sine_entry j) (fsp (eighth * j)) (fsm (eighth * j))
  unfolding sine_table sines
  sine_entry_lem =
      entry_of sin_p sin_m (unfold sin_p in refl) (unfold sin_m in refl) j (sine_entry j) sine_small
      (tested_at sine_entry (nearest (spread 8 sin_p) (spread 8 sin_m) (denominator 8) table_one table_one 1) sines_pass j h)

  pub cosine_entry_lem : Entry FD (cosine_entry j) (fcp (eighth * j)) (fcm (eighth * j))
  unfolding cosine_table cosines
  cosine_entry_lem =
      entry_of cos_p cos_m (unfold cos_p in refl) (unfold cos_m in refl) j (cosine_entry j) cosine_small
      (tested_at cosine_entry (nearest (spread 8 cos_p) (spread 8 cos_m) (denominator 8) table_one table_one 1) cosines_pass j h)

-- ---- the table in the code, held to the rule arm by arm
unfoldable pub Right : ℕ → ℕ → ℕ → Type 0
unfolding sine_entry cosine_entry ev pw sin_p sin_m cos_p cos_m denominator factorial
Right s c k = T (eqb s (sine_entry k)) × T (eqb c (cosine_entry k))

pub arm : (k : ℕ) {s c j : ℕ} → Right s c k → j ≡ k → (s ≡ sine_entry j) × (c ≡ cosine_entry j)
unfolding Right
arm k {s} {c} {j} t h = (
  subst (λ (i : ℕ). s ≡ sine_entry i) (sym h) (eqb→eq s (sine_entry k) t.0),
  subst (λ (i : ℕ). c ≡ cosine_entry i) (sym h) (eqb→eq c (cosine_entry k) t.1),
)

-- ---- the sums of an angle's parts: sine and cosine of its eighths, cosine and sine of its rest
module _
    (x s c a b : ℕ)
    (s_is : s ≡ sine_entry (eighths x))
    (c_is : c ≡ cosine_entry (eighths x))
    (a_is : a ≡ even (square (rest x)))
    (b_is : b ≡ odd (rest x) (square (rest x))) where
  pub sine_of_parts : sine_sum s c a b ≡ fixed_sine x
  unfolding fixed_sine
  sine_of_parts = simp (s_is, c_is, a_is, b_is)

  pub cosine_of_parts : cosine_sum s c a b ≡ fixed_cosine x
  unfolding fixed_cosine
  cosine_of_parts = simp (s_is, c_is, a_is, b_is)
