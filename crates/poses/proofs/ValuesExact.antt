-- The rule of a value: what is read from a place is derived, and what is derived is read.
use Rattle.std.specs.Prelude.{◌≡◌, ℕ, ◌<◌, ◌≤◌, Bool, false, T, eqb, List, [], ◌∷◌, ◌++◌, length}
use mathlib.Core.Path.{refl, ap, ◌∙◌, sym, subst}
use mathlib.Core.Bool.{false≢true}
use mathlib.Core.Logic.{⊎_elim}
use native.Mathlib.Omega.{arith}
use lib.Ieee.Bits.{is_true}
use borrow.Author.Tests.{eq-eqb, ne_eqb, lt-leb}
use Rattle.numbers.proofs.Flags.{chosen, lt_or_le}
use Rattle.numbers.specs.Told.{choose}
use Rattle.poses.specs.Json.{Language, ◌then◌, word, one, ws, Number, number, Value, null, three, value, null_word, is_blank, is_digit}
use Rattle.poses.specs.How.{byte, past, after, token, number_at, ValueAt, null_at, three_at, value_at}
use Rattle.poses.proofs.Spans.{Spans, ◌and_then◌, spans_as, after_spans, past_spans, At, at_first, after_at}
use Rattle.poses.proofs.Spans.{taken_apart, opened, begins_with, after_then, past_then}
use Rattle.poses.proofs.Places.{no_blank}
use Rattle.poses.proofs.NumbersExact.{number_spans, Ends, number_at_lem, number_begins}

-- ---- null
word_on : {s : List ℕ} {i j k : ℕ} {c : ℕ} {w : List ℕ} → Spans s i j (one c) → Spans s j k (word w) → Spans s i k (word (c ∷ w))
word_on {c = c} {w = w} x y =
    spans_as (λ t d. d.2 ∙ ap (λ (u : List ℕ). u ++ d.1) d.3 ∙ ap (λ (u : List ℕ). c ∷ u) d.4) (x and_then y)

null_spans : (s : List ℕ) (i : ℕ) → (null_at s i).next ≤ length s → Spans s i (null_at s i).next (word null_word)
unfolding null_at
null_spans s i h =
    let d = after_spans 108 s (after 108 s (after 117 s (after 110 s i))) h in
    let c = after_spans 108 s (after 117 s (after 110 s i)) d.from_in in
    let b = after_spans 117 s (after 110 s i) c.from_in in
    let a = after_spans 110 s i b.from_in in
    word_on a (word_on b (word_on c d))

-- ---- three numbers
three_spans : (s : List ℕ) (i : ℕ) → (three_at s i).next ≤ length s → Spans s i (three_at s i).next (value (three_at s i).value)
unfolding three_at
three_spans s i h =
    let x = number_at s (token 91 s i) in
    let y = number_at s (token 44 s (past s x.next)) in
    let z = number_at s (token 44 s (past s y.next)) in
    let close = after_spans 93 s (past s z.next) h in
    let w6 = past_spans s z.next close.from_in in
    let n3 = number_spans s (token 44 s (past s y.next)) w6.from_in in
    let w5 = past_spans s (after 44 s (past s y.next)) n3.from_in in
    let c2 = after_spans 44 s (past s y.next) w5.from_in in
    let w4 = past_spans s y.next c2.from_in in
    let n2 = number_spans s (token 44 s (past s x.next)) w4.from_in in
    let w3 = past_spans s (after 44 s (past s x.next)) n2.from_in in
    let c1 = after_spans 44 s (past s x.next) w3.from_in in
    let w2 = past_spans s x.next c1.from_in in
    let n1 = number_spans s (token 91 s i) w2.from_in in
    let w1 = past_spans s (after 91 s i) n1.from_in in
    let open_it = after_spans 91 s i w1.from_in in
    open_it and_then w1 and_then n1 and_then w2 and_then c1 and_then w3 and_then n2 and_then w4 and_then c2 and_then w5 and_then n3 and_then
    w6 and_then close

pub value_spans : (s : List ℕ) (i : ℕ) → (value_at s i).next ≤ length s → Spans s i (value_at s i).next (value (value_at s i).value)
unfolding value_at null_at
value_spans s i =
    chosen (λ (r : ValueAt). r.next ≤ length s → Spans s i r.next (value r.value)) (eqb (byte s i) 110) (null_at s i) (three_at s i)
    (λ e. null_spans s i)
    (λ e. three_spans s i)

-- ---- what is derived is read
-- behind a number stand blanks and a byte that is none, nor a digit nor a point
abbrev Parts : ℕ → Type 0
Parts c = (is_blank c ≡ false) × (is_digit c ≡ false) × (eqb c 46 ≡ false)

blank_low : (b : ℕ) → T (is_blank b) → b ≤ 32
blank_low b t =
    ⊎_elim (λ (low : b < 33). omega arith)
    (λ (high : 33 ≤ b). absurd (false≢true (sym (no_blank b high) ∙ is_true (is_blank b) t)))
    (lt_or_le b 33)

ends_low : (b : ℕ) → b ≤ 32 → (is_digit b ≡ false) × (eqb b 46 ≡ false)
ends_low b h = (rw (lt-leb 48 b (omega arith)), ne_eqb b 46 (omega arith))

ends_behind : (c : ℕ) (a u : List ℕ) → ws a → byte u 0 ≡ c → Parts c → Ends (a ++ u)
ends_behind c [] u w e p = rw e (p.1, p.2)
ends_behind c (b ∷ a) u w e p = ends_low b (blank_low b w.0)

number_ws : (s : List ℕ) (i : ℕ) (n : Number) (R : Language) (t r : List ℕ) (c : ℕ) (d : (number n then ws then R) t)
    → byte (d.4.1 ++ r) 0 ≡ c → Parts c → At s i (t ++ r)
    → ((number_at s i).number ≡ n) × At s (past s (number_at s i).next) (d.4.1 ++ r)
number_ws s i n R t r c d first p x =
    let blanks = d.4 in
    let ends : Ends (d.1 ++ r) =
    subst Ends (sym (taken_apart ws R d.1 r blanks)) (ends_behind c blanks.0 (blanks.1 ++ r) blanks.3 first p) in
    let y = number_at_lem s i n d.0 (d.1 ++ r) d.3 ends (opened (number n) (ws then R) t r d x) in
    (y.0, past_then R d.1 r blanks (rw first p.0) y.1)

null_at_lem : (s : List ℕ) (i : ℕ) (r : List ℕ) → At s i (null_word ++ r) → ((null_at s i).value ≡ null) × At s (null_at s i).next r
unfolding null_at
null_at_lem s i r x =
    (refl, after_at 108 r (after_at 108 (108 ∷ r) (after_at 117 (108 ∷ 108 ∷ r) (after_at 110 (117 ∷ 108 ∷ 108 ∷ r) x))))

first_begins : (n : Number) (R : Language) (t r : List ℕ) → (number n then R) t → is_blank (byte (t ++ r) 0) ≡ false
first_begins n R t r d =
    subst (λ (u : List ℕ). is_blank (byte u 0) ≡ false) (sym (taken_apart (number n) R t r d)) (number_begins n d.0 (d.1 ++ r) d.3)

-- a number, a comma, and the text of the next number
comma_then : (s : List ℕ) (i : ℕ) (n m : Number) (R : Language) (t r : List ℕ)
    → (number n then ws then one 44 then ws then number m then R) t → At s i (t ++ r)
    → ((number_at s i).number ≡ n)
    × (u : List ℕ)
    × (number m then R) u
    × At s (token 44 s (past s (number_at s i).next)) (u ++ r)
comma_then s i n m R t r d x =
    let c = d.4.4 in
    let w = c.4 in
    let e = number_ws s i n (one 44 then ws then number m then R) t r 44 d (begins_with 44 (ws then number m then R) d.4.1 r c)
    (refl, refl, refl) x in (
      e.0,
      w.1,
      w.4,
      past_then (number m then R) c.1 r w (first_begins m R w.1 r w.4)
          (after_then 44 (ws then number m then R) d.4.1 r c e.1),
    )

-- what follows in the rule of three numbers
abbrev Third : Number → Language
Third z = number z then ws then one 93

abbrev Second : Number → Number → Language
Second y z = number y then ws then one 44 then ws then Third z

abbrev First : Number → Number → Number → Language
First x y z = number x then ws then one 44 then ws then Second y z

three_at_lem : (s : List ℕ) (i : ℕ) (x y z : Number) (t r : List ℕ) → value (three x y z) t → At s i (t ++ r)
    → ((three_at s i).value ≡ three x y z) × At s (three_at s i).next r
unfolding three_at
three_at_lem s i x y z t r d a =
    let w = d.4 in
    let a1 : At s (token 91 s i) (w.1 ++ r) =
    past_then (First x y z) d.1 r w (first_begins x (ws then one 44 then ws then Second y z) w.1 r w.4)
    (after_then 91 (ws then First x y z) t r d a) in
    let e1 = comma_then s (token 91 s i) x y (ws then one 44 then ws then Third z) w.1 r w.4 a1 in
    let j2 = token 44 s (past s (number_at s (token 91 s i)).next) in
    let e2 = comma_then s j2 y z (ws then one 93) e1.1 r e1.2 e1.3 in
    let j3 = token 44 s (past s (number_at s j2).next) in
    let d3 = e2.2 in
    let last : d3.4.1 ++ r ≡ 93 ∷ r = ap (λ (u : List ℕ). u ++ r) d3.4.4 in
    let e3 = number_ws s j3 z (one 93) e2.1 r 93 d3 (ap (λ (u : List ℕ). byte u 0) last) (refl, refl, refl) e2.3 in
    (λ k. three (e1.0 k) (e2.0 k) (e3.0 k), after_at 93 r (subst (At s (past s (number_at s j3).next)) last e3.1))

pub value_at_lem : (s : List ℕ) (i : ℕ) (v : Value) (t r : List ℕ) → value v t → At s i (t ++ r)
    → ((value_at s i).value ≡ v) × At s (value_at s i).next r
unfolding value_at
value_at_lem s i null t r d x =
    let y : At s i (null_word ++ r) = subst (λ (u : List ℕ). At s i (u ++ r)) d x in
    let e : value_at s i ≡ null_at s i = ap (λ (b : Bool). choose b (null_at s i) (three_at s i)) (eq-eqb (byte s i) 110 (at_first y)) in
    subst (λ (q : ValueAt). (q.value ≡ null) × At s q.next r) (sym e) (null_at_lem s i r y)
value_at_lem s i (three n m l) t r d x =
    let is : byte s i ≡ 91 = at_first x ∙ begins_with 91 (ws then First n m l) t r d in
    let e : value_at s i ≡ three_at s i =
    ap (λ (b : Bool). choose b (null_at s i) (three_at s i)) (ne_eqb (byte s i) 110 (omega arith)) in
    subst (λ (q : ValueAt). (q.value ≡ three n m l) × At s q.next r) (sym e) (three_at_lem s i n m l t r d x)

-- no blank begins a value
pub value_begins : (v : Value) (t r : List ℕ) → value v t → is_blank (byte (t ++ r) 0) ≡ false
value_begins null t r d = ap (λ (u : List ℕ). is_blank (byte (u ++ r) 0)) d
value_begins (three n m l) t r d = ap is_blank (begins_with 91 (ws then First n m l) t r d)
