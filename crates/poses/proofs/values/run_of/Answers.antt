-- `poses::values::run_of` meets its contract. After k digits what is left, behind the number so far, is the whole run.
use Rattle.std.specs.Prelude.{◌≡◌, ℕ, ◌+◌, ◌-◌, ◌*◌, ◌^◌, ◌<◌, ◌≤◌, true, false, List, length, drop}
use mathlib.Core.Path.{sym, ap, ◌∙◌, subst}
use native.Mathlib.Nat.{pow-le-pow_right, mul-le-mul}
use native.Mathlib.Numerals.{add-one}
use native.Mathlib.Omega.{arith}
use lib.Dec.{lit<}
use borrow.Author.Rules.{rules}
use borrow.Author.Tests.{not-true, not-false}
use Rattle.poses.specs.Json.{is_digit}
use Rattle.poses.specs.How.{byte}
use Rattle.poses.specs.Gathering.{run_read}
use Rattle.poses.specs.declared.values.Run.{Run}
use Rattle.poses.proofs.Runs.{run_to, run_begins, run_stops, run_goes_on, run_ends, run_below, run_few, digit_low, digit_below}
use Rattle.std.proofs.lemmas.Bool.{not_from_false, not_from_true}
use Rattle.poses.proofs.values.run_of.Goals as goal

-- the number so far, and it with the noughts that are left
fewer : (n k : ℕ) → k ≤ 8 → n < 10 ^ (k + 1) → n < 10 ^ 9
fewer n k few below = let m : 10 ^ (k + 1) ≤ 10 ^ 9 = pow-le-pow_right (lit< tt) {i = k + 1} {j = 9} (omega arith) in omega arith

small : (n k p : ℕ) → k ≤ 8 → n < 10 ^ (k + 1) → p ≡ 10 ^ (8 - k) → n * p < 18446744073709551616
small n k p few below is =
    let f : n < 10 ^ 9 = fewer n k few below in
    let m : 10 ^ (8 - k) ≤ 10 ^ 8 = pow-le-pow_right (lit< tt) {i = 8 - k} {j = 8} (omega arith) in
    let q : p ≤ 10 ^ 8 = omega arith in
    let l : n ≤ 10 ^ 9 = omega arith in
    let g : n * p ≤ 10 ^ 9 * 10 ^ 8 = mul-le-mul l q in
    omega arith

-- one digit more
goes_on : (s : List ℕ) (from k n b : ℕ) → k < 8 → b ≡ byte s (from + k) → is_digit (byte s (from + k)) ≡ true
    → run_to (k + 1) (n * 10 + (b - 48)) (8 - (k + 1)) (drop (from + (k + 1)) s) ≡ run_to k n (8 - k) (drop (from + k) s)
goes_on s from k n b few e is =
    let at : from + (k + 1) ≡ from + k + 1 = omega arith in
    ap (λ (c : ℕ). run_to (k + 1) (n * 10 + (c - 48)) (8 - (k + 1)) (drop (from + (k + 1)) s)) e
    ∙ ap (λ (i : ℕ). run_to (k + 1) (n * 10 + (byte s (from + k) - 48)) (8 - (k + 1)) (drop i s)) at
    ∙ run_goes_on s (from + k) k n few is

-- what a run of one digit and at most eight more is below
settled : (s : List ℕ) (from first : ℕ) (r : Run) → first < 10 → r ≡ run_read first (drop from s)
    → (r ≡ run_read first (drop from s)) × (r.parts < 10 ^ 9) × (r.taken ≤ 8)
settled s from first r few e = (
  e,
  rw e (run_below 8 first 1 (drop from s) few),
  rw e (run_few 8 first (drop from s)),
)

pub loop-k-init : goal.loop-k-init
loop-k-init c = (c.requires.0, run_begins c.args.first c.args.from c.args.s.now)

pub overflow_add-from : goal.overflow_add-from
overflow_add-from c =
    let text : List ℕ = c.args.s.now in
    let from : ℕ = c.args.from in
    let near : from ≤ length text + 1 = c.requires.1 in
    search (rules, near)

pub overflow_mul-result : goal.overflow_mul-result
overflow_mul-result c = record {
  fits = small c.loop-k.n c.loop-k.k c.power.result (omega arith) c.loop-k.invariant.0 c.power.ensures;
}

pub returns-then-not-is_digit : goal.returns-then-not-is_digit
returns-then-not-is_digit c =
    let text : List ℕ = c.args.s.now in
    let from : ℕ = c.args.from in
    let answered : (r : Run) → r ≡ run_to c.loop-k.k c.loop-k.n (8 - c.loop-k.k) (drop (from + c.loop-k.k) text) →
    (r ≡ run_read c.args.first (drop from text)) × (r.parts < 10 ^ 9) × (r.taken ≤ 8) =
    λ r e. settled text from c.args.first r c.requires.0 (e ∙ c.loop-k.invariant.1) in
    let k = c.loop-k.k in
    let n = c.loop-k.n in
    let no : is_digit (byte text (from + k)) ≡ false =
    sym (ap is_digit c.byte_at-b.ensures)
    ∙ sym c.is_digit.ensures
    ∙ not-true _ (not_from_false _ c.if-not-is_digit.true) in
    answered _
    (ap (λ (p : ℕ). record { parts = n * p; taken = k }) c.power.ensures
    ∙ run_stops text (from + k) k (8 - k) n no)

pub overflow_mul-n : goal.overflow_mul-n
overflow_mul-n c =
    let room : c.loop-k.n < 10 ^ 9 = fewer c.loop-k.n c.loop-k.k (omega arith) c.loop-k.invariant.0 in
    search (rules, room)

pub overflow_sub-n : goal.overflow_sub-n
overflow_sub-n c =
    let a_digit : is_digit c.byte_at-b.result ≡ true = sym c.is_digit.ensures ∙ not-false _ (not_from_true _ c.if-not-is_digit.false) in
    digit_low c.byte_at-b.result a_digit

pub overflow_add-n : goal.overflow_add-n
overflow_add-n c =
    let room : c.loop-k.n < 10 ^ 9 = fewer c.loop-k.n c.loop-k.k (omega arith) c.loop-k.invariant.0 in
    search (rules, room)

pub loop-k-preserved : goal.loop-k-preserved
loop-k-preserved c =
    let text : List ℕ = c.args.s.now in
    let from : ℕ = c.args.from in
    let a_digit : is_digit c.byte_at-b.result ≡ true = sym c.is_digit.ensures ∙ not-false _ (not_from_true _ c.if-not-is_digit.false) in
    let k = c.loop-k.k in
    let n = c.loop-k.n in
    let b = c.byte_at-b.result in
    let there : is_digit (byte text (from + k)) ≡ true = sym (ap is_digit c.byte_at-b.ensures) ∙ a_digit in (
      subst (λ (j : ℕ). n * 10 + (b - 48) < 10 ^ j) (sym (add-one (k + 1))) (digit_below n (k + 1) b c.loop-k.invariant.0 a_digit),
      goes_on text from k n b (omega arith) c.byte_at-b.ensures there ∙ c.loop-k.invariant.1,
    )

pub returns : goal.returns
returns c =
    let text : List ℕ = c.args.s.now in
    let from : ℕ = c.args.from in
    let answered : (r : Run) → r ≡ run_to c.loop-k.k c.loop-k.n (8 - c.loop-k.k) (drop (from + c.loop-k.k) text) →
    (r ≡ run_read c.args.first (drop from text)) × (r.parts < 10 ^ 9) × (r.taken ≤ 8) =
    λ r e. settled text from c.args.first r c.requires.0 (e ∙ c.loop-k.invariant.1) in
    let k : c.loop-k.k ≡ 8 = omega arith in
    let rest = drop (from + c.loop-k.k) text in
    answered _ (run_ends c.loop-k.n rest ∙ ap (λ (j : ℕ). run_to j c.loop-k.n (8 - j) rest) (sym k))
