-- The rule of a number: what is read from a place is derived, and what is derived is read.
use Rattle.std.specs.Prelude.{◌≡◌, ℕ, zero, suc, ◌+◌, ◌-◌, ◌*◌, ◌^◌, ◌≤◌, Bool, true, false, T, eqb, List, [], ◌∷◌, ◌++◌, length, drop}
use mathlib.Core.Path.{refl, ap, ◌∙◌, sym, subst}
use Prim.Native.Nat.{zero-le, suc-le-suc}
use native.Mathlib.Nat.{mul-one, sub-zero, suc-sub-suc, le_of_suc-le-suc, not-suc-le-zero, le_trans}
use native.Mathlib.Omega.{arith}
use lib.Dec.{lit≤}
use lib.Ieee.Bits.{is_true}
use lib.Seq.{drop-drop}
use borrow.Author.Tests.{eq-eqb, ne_eqb, eqb-true, eqb-false}
use Rattle.numbers.proofs.Flags.{chosen}
use Rattle.units.proofs.Door.{holds}
use Rattle.numbers.specs.Told.{choose}
use Rattle.poses.specs.Json.{◌then◌, Number, Amount, number, sign, is_blank, is_digit, digits, digits_from, pointed}
use Rattle.poses.specs.How.{byte, nowhere, Run, run_of, NumberAt, number_to, amount_at, number_at}
use Rattle.poses.proofs.Places.{from_on, no_blank}
use Rattle.poses.proofs.Runs.{digit_low, no_digit, one_digit}
use Rattle.poses.proofs.Spans.{Spans, ◌and_then◌, spans_nothing, byte_spans, At, at_over, at_byte, at_first}

-- ---- digits behind the point
abbrev Ran : ℕ → ℕ → List ℕ → Run → Type 0
Ran left n t r =
    (a : List ℕ)
    × digits a
    × (length a ≡ r.taken)
    × (length a ≤ left)
    × (t ≡ a ++ drop r.taken t)
    × (r.parts ≡ digits_from n a * 10 ^ (left - length a))

run_none : (left n : ℕ) (t : List ℕ) → Ran left n t (no_digit left n)
unfolding digits_from
run_none left n t = ([], tt, refl, zero-le, refl, ap (λ (k : ℕ). n * 10 ^ k) (sym (sub-zero left)))

run_digits : (left n : ℕ) (t : List ℕ) → Ran left n t (run_of left n t)
unfolding run_of digits_from
run_digits zero n t = ([], tt, refl, zero-le, refl, sym (mul-one n))
run_digits (suc left) n [] = run_none (suc left) n []
run_digits (suc left) n (b ∷ t) =
    let more = run_digits left (n * 10 + (b - 48)) t in
    let r = run_of left (n * 10 + (b - 48)) t in
    chosen (Ran (suc left) n (b ∷ t)) (is_digit b) (one_digit r) (no_digit (suc left) n)
    (λ e. (
      b ∷ more.0,
      (holds e, more.1),
      ap suc more.2,
      suc-le-suc more.3,
      ap (λ (u : List ℕ). b ∷ u) more.4,
      more.5 ∙ ap (λ (k : ℕ). digits_from (n * 10 + (b - 48)) more.0 * 10 ^ k) (sym (suc-sub-suc left (length more.0))),
    ))
    (λ e. run_none (suc left) n (b ∷ t))

run_over : (left n : ℕ) (a b : List ℕ) → digits a → length a ≤ left → is_digit (byte b 0) ≡ false
    → run_of left n (a ++ b) ≡ record { parts = digits_from n a * 10 ^ (left - length a); taken = length a }
unfolding run_of digits_from
run_over zero n [] b d few no_more = ap {B = Run} (λ (p : ℕ). record { parts = p; taken = 0 }) (sym (mul-one n))
run_over zero n (c ∷ a) b d few no_more = absurd (not-suc-le-zero few)
run_over (suc left) n [] [] d few no_more = rw sub-zero
run_over (suc left) n [] (c ∷ b) d few no_more = rw (no_more, sub-zero)
run_over (suc left) n (c ∷ a) b d few no_more =
    rw (
      is_true (is_digit c) d.0,
      run_over left (n * 10 + (c - 48)) a b d.1 (le_of_suc-le-suc few) no_more,
      suc-sub-suc,
    )

-- ---- a digit and a point
two_bytes : (s : List ℕ) (i : ℕ) → i + 2 ≤ length s → drop i s ≡ byte s i ∷ byte s (i + 1) ∷ drop (i + 2) s
two_bytes s i h =
    let e : i + 1 + 1 ≡ i + 2 = omega arith in
    from_on s i (omega arith)
    ∙ ap (λ (u : List ℕ). byte s i ∷ u) (from_on s (i + 1) (omega arith))
    ∙ ap (λ (k : ℕ). byte s i ∷ byte s (i + 1) ∷ drop k s) e

pub pointed_some : (a : List ℕ) → (length a ≡ 0 → ⊥) → pointed a ≡ 46 ∷ a
pointed_some [] n = absurd (n refl)
pointed_some (b ∷ a) n = refl

-- ---- a number without its sign
abbrev AmountRead : Bool → List ℕ → ℕ → NumberAt → Type 0
AmountRead minus s i r = r.next ≤ length s → (r.number.minus ≡ minus) × Spans s i r.next (Amount r.number.parts)

amount_spans : (minus : Bool) (s : List ℕ) (i : ℕ) → AmountRead minus s i (amount_at minus s i)
unfolding amount_at digits_from
amount_spans minus s i =
    let n = byte s i - 48 in
    let run = run_of 8 n (drop (i + 2) s) in
    let nothing : AmountRead minus s i (number_to minus 0 (nowhere s)) = λ h. absurd (omega arith) in
    chosen (AmountRead minus s i) (is_digit (byte s i))
    (choose (eqb (byte s (i + 1)) 46)
    (choose (eqb run.taken 0) (number_to minus 0 (nowhere s)) (number_to minus run.parts (i + 2 + run.taken)))
    (number_to minus (n * 10 ^ 8) (i + 1)))
    (number_to minus 0 (nowhere s))
    (λ digit.
    chosen (AmountRead minus s i) (eqb (byte s (i + 1)) 46)
    (choose (eqb run.taken 0) (number_to minus 0 (nowhere s)) (number_to minus run.parts (i + 2 + run.taken)))
    (number_to minus (n * 10 ^ 8) (i + 1))
    (λ point.
    chosen (AmountRead minus s i) (eqb run.taken 0) (number_to minus 0 (nowhere s))
    (number_to minus run.parts (i + 2 + run.taken))
    (λ none. nothing)
    (λ some h.
    let ran = run_digits 8 n (drop (i + 2) s) in
    let is : byte s (i + 1) ≡ 46 = eqb-true (byte s (i + 1)) 46 point in (
      refl,
      record {
        from_in = omega arith;
        to_in = h;
        between = byte s i ∷ 46 ∷ ran.0;
        derives = record {
          first = byte s i;
          more = ran.0;
          first_digit = holds digit;
          more_digits = ran.1;
          at_most_eight = ran.3;
          bytes = ap (λ (u : List ℕ). byte s i ∷ u) (sym (pointed_some ran.0 (λ e. eqb-false run.taken 0 some (sym ran.2 ∙ e))));
          value = ran.5;
        };
        cut = two_bytes s i (omega arith)
            ∙ ap (λ (b : ℕ). byte s i ∷ b ∷ drop (i + 2) s) is
            ∙ ap (λ (u : List ℕ). byte s i ∷ 46 ∷ u) (ran.4 ∙ ap (λ (u : List ℕ). ran.0 ++ u) (drop-drop run.taken (i + 2) s));
      },
    )))
    (λ no_point h. (
      refl,
      record {
        from_in = omega arith;
        to_in = h;
        between = byte s i ∷ [];
        derives = record {
          first = byte s i;
          more = [];
          first_digit = holds digit;
          more_digits = tt;
          at_most_eight = zero-le;
          bytes = refl;
          value = refl;
        };
        cut = from_on s i (omega arith);
      },
    )))
    (λ not_digit. nothing)

-- ---- a number
-- behind its sign, which ends where it begins
signed_spans : (s : List ℕ) (i j : ℕ) (minus : Bool) → AmountRead minus s j (amount_at minus s j)
    → (j ≤ length s → Spans s i j (sign minus)) → (amount_at minus s j).next ≤ length s
    → Spans s i (amount_at minus s j).next (number (amount_at minus s j).number)
signed_spans s i j minus reads sign_spans h =
    let r = reads h in
    let x = amount_at minus s j in
    subst (λ (m : Bool). Spans s i x.next (sign m then Amount x.number.parts)) (sym r.0)
    (sign_spans r.1.from_in and_then r.1)

pub number_spans : (s : List ℕ) (i : ℕ) → (number_at s i).next ≤ length s
    → Spans s i (number_at s i).next (number (number_at s i).number)
unfolding number_at
number_spans s i =
    chosen (λ (r : NumberAt). r.next ≤ length s → Spans s i r.next (number r.number)) (eqb (byte s i) 45)
    (amount_at true s (i + 1)) (amount_at false s i)
    (λ e. signed_spans s i (i + 1) true (amount_spans true s (i + 1)) (byte_spans 45 s i (eqb-true (byte s i) 45 e)))
    (λ e. signed_spans s i i false (amount_spans false s i) (spans_nothing s i))

-- ---- what is derived is read, where neither a digit nor a point follows
abbrev pub Ends : List ℕ → Type 0
Ends r = (is_digit (byte r 0) ≡ false) × (eqb (byte r 0) 46 ≡ false)

amount_is : (minus : Bool) (s : List ℕ) (i f : ℕ) (m r : List ℕ) → T (is_digit f) → digits m → length m ≤ 8 → Ends r
    → At s i (f ∷ (pointed m ++ r))
    → amount_at minus s i ≡ number_to minus (digits_from (f - 48) m * 10 ^ (8 - length m)) (i + length (f ∷ pointed m))
unfolding amount_at digits_from
amount_is minus s i f [] r d ds few end x =
    rw (at_first x, is_true (is_digit f) d, at_byte x 1, end.1)
amount_is minus s i f (c ∷ m) r d ds few end x =
    let e : drop (i + 2) s ≡ (c ∷ m) ++ r = (at_over (f ∷ 46 ∷ []) ((c ∷ m) ++ r) x).rest in
    let long : i + 2 + suc (length m) ≡ i + length (f ∷ pointed (c ∷ m)) = omega arith in
    rw (
      at_first x,
      is_true (is_digit f) d,
      at_byte x 1,
      e,
      run_over 8 (f - 48) (c ∷ m) r ds few end.0,
      ne_eqb (suc (length m)) 0 (omega arith),
      long,
    )

amount_at_lem : (minus : Bool) (s : List ℕ) (i p : ℕ) (t r : List ℕ) → Amount p t → Ends r → At s i (t ++ r)
    → ((amount_at minus s i).number ≡ record { minus = minus; parts = p }) × At s (amount_at minus s i).next r
amount_at_lem minus s i p t r a end x =
    let y : At s i (a.first ∷ (pointed a.more ++ r)) = subst (λ (u : List ℕ). At s i (u ++ r)) a.bytes x in
    let e = amount_is minus s i a.first a.more r a.first_digit a.more_digits a.at_most_eight end y in (
      ap (λ (q : NumberAt). q.number) e ∙ ap {B = Number} (λ (v : ℕ). record { minus = minus; parts = v }) (sym a.value),
      subst (λ (q : NumberAt). At s q.next r) (sym e) (at_over (a.first ∷ pointed a.more) r y),
    )

amount_first : (p : ℕ) (t r : List ℕ) → Amount p t → 48 ≤ byte (t ++ r) 0
amount_first p t r a =
    subst (λ (u : List ℕ). 48 ≤ byte (u ++ r) 0) (sym a.bytes)
    (digit_low a.first (is_true (is_digit a.first) a.first_digit))

-- the text of a number behind its sign
signed : (m : Bool) (p : ℕ) (t : List ℕ) → number (record { minus = m; parts = p }) t
    → (b : List ℕ) × (t ≡ choose m (45 ∷ b) b) × Amount p b
signed true p t d = (d.1, d.2 ∙ ap (λ (u : List ℕ). u ++ d.1) d.3, d.4)
signed false p t d = (d.1, d.2 ∙ ap (λ (u : List ℕ). u ++ d.1) d.3, d.4)

number_of : (s : List ℕ) (i : ℕ) (m : Bool) (p : ℕ) (b r : List ℕ) → Amount p b → Ends r → At s i (choose m (45 ∷ b) b ++ r)
    → ((number_at s i).number ≡ record { minus = m; parts = p }) × At s (number_at s i).next r
unfolding number_at
number_of s i true p b r a end x =
    rw (eq-eqb (byte s i) 45 (at_first x)) (amount_at_lem true s (i + 1) p b r a end (at_over (45 ∷ []) (b ++ r) x))
number_of s i false p b r a end x =
    let low : 48 ≤ byte s i = subst (λ (c : ℕ). 48 ≤ c) (sym (at_first x)) (amount_first p b r a) in
    rw (ne_eqb (byte s i) 45 (omega arith)) (amount_at_lem false s i p b r a end x)

pub number_at_lem : (s : List ℕ) (i : ℕ) (n : Number) (t r : List ℕ) → number n t → Ends r → At s i (t ++ r)
    → ((number_at s i).number ≡ n) × At s (number_at s i).next r
number_at_lem s i n t r d end x =
    let f = signed n.minus n.parts t d in
    number_of s i n.minus n.parts f.0 r f.2 end (subst (λ (u : List ℕ). At s i (u ++ r)) f.1 x)

-- no blank begins a number
begins : (m : Bool) (p : ℕ) (b r : List ℕ) → Amount p b → 33 ≤ byte (choose m (45 ∷ b) b ++ r) 0
begins true p b r a = lit≤ tt
begins false p b r a = le_trans (lit≤ {m = 33} {n = 48} tt) (amount_first p b r a)

pub number_begins : (n : Number) (t r : List ℕ) → number n t → is_blank (byte (t ++ r) 0) ≡ false
number_begins n t r d =
    let f = signed n.minus n.parts t d in
    no_blank (byte (t ++ r) 0)
    (subst (λ (u : List ℕ). 33 ≤ byte (u ++ r) 0) (sym f.1) (begins n.minus n.parts f.0 r f.2))
