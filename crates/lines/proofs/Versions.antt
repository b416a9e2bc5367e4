-- What a listing's version says of its lines: with more digits than it allows a count is no line of it, without a version nothing but a
-- header is a line; 147457 and 99999 under both versions, by computation.
use mathlib.Core.Path.{◌≡◌, refl, sym, ap, ◌∙◌, subst}
use mathlib.Core.List.{List, [], ◌∷◌, ◌++◌}
use Prim.Native.Nat.{ℕ}
use native.Mathlib.Omega.{arith}
use lib.ListN.{length}
use borrow.Author.Tests.{ne_eqb}
use Rattle.lines.specs.declared.listed.Line.{Line}
use Rattle.lines.specs.declared.listed.Line.TheVariants.{Header, Move, Arrived, Refused}
use Rattle.std.specs.Prelude.{Option}
use Rattle.std.specs.Prelude.{Some, None}
use Rattle.lines.specs.Digits.{digit, numeral, hex, decimal, decimal_within, value_of, push, push_all, count_of, hex_of}
use Rattle.lines.specs.Fields.{parted, AreBits}
use Rattle.lines.specs.Parts.{tabbed, tabbeds, all_good, bits_of, short_of}
use Rattle.lines.specs.Lines.{body, Digited, Listable, count_digits}
use Rattle.lines.specs.Reading.{move_of, line_of}
use Rattle.lines.proofs.Decimal.{length_positive}
use Rattle.lines.proofs.Listings.{line_back, line_exact}

-- ---- no other version is one
pub no_other : (v : ℕ) → (v ≡ 1 → ⊥) → (v ≡ 2 → ⊥) → count_digits v ≡ 0
unfolding count_digits
no_other v not_one not_two = rw (ne_eqb v 1 not_one, ne_eqb v 2 not_two)

pub only_a_header : (s : List ℕ) (line : Line) → line_of 0 s ≡ Some line → (v : ℕ) × (line ≡ Header v)
unfolding Listable
only_a_header s line e = by_kind line (line_exact 0 s line e).listable
  where
    none : {A : Type 0} (n : ℕ) → Digited 0 n → A
    none n d = absurd (omega (arith, length_positive n, d.0))

    by_kind : (l : Line) → Listable 0 l → (v : ℕ) × (l ≡ Header v)
    by_kind (Header v) d = (v, refl)
    by_kind (Move m) d = none m.count d.0
    by_kind (Arrived n) d = none n d
    by_kind (Refused n) d = none n d

-- ---- a line whose count has too many digits is not found
pub same_line : (a b : Line) → Some a ≡ Some b → a ≡ b
same_line a b e = cc

-- a line of a version is a line of any that allows more digits
pub wider : (limit : ℕ) (l : Line) → Listable limit l → Listable 9 l
unfolding Listable
wider limit (Header v) d = d
wider limit (Move m) d = ((d.0.1, d.0.1), d.1)
wider limit (Arrived n) d = (d.1, d.1)
wider limit (Refused n) d = (d.1, d.1)

pub too_many_digits : (limit : ℕ) (line : Line) → Listable 9 line → (Listable limit line → ⊥) → line_of limit (body line) ≡ None
unfolding Listable
too_many_digits limit line good many = by_found (line_of limit (body line)) refl
  where
    by_found : (f : Option Line) → line_of limit (body line) ≡ f → line_of limit (body line) ≡ None
    by_found None e = e
    by_found (Some l) e =
        let was = line_exact limit (body line) l e in
        let is : line ≡ l =
        same_line line l (sym (line_back 9 line good) ∙ ap (line_of 9) was.bytes ∙ line_back 9 l (wider limit l was.listable)) in
        absurd (many (subst (Listable limit) (sym is) was.listable))

-- request K9: "a six-digit count under header 1 is no listing line"
module _ (n : ℕ) (six : length (decimal n) ≡ 6) where
  nine : Digited 9 n
  nine = (omega (arith, six), omega (arith, six))

  pub arrived_not_in_1 : line_of (count_digits 1) (body (Arrived n)) ≡ None
  unfolding count_digits Listable
  arrived_not_in_1 = too_many_digits 5 (Arrived n) nine (λ d. omega (arith, six, d.0))

  pub moved_not_in_1 : (x y z : ℕ) → AreBits (x ∷ y ∷ z ∷ [])
      → line_of (count_digits 1) (body (Move (record { count = n; x = x; y = y; z = z }))) ≡ None
  unfolding count_digits Listable
  moved_not_in_1 x y z bits =
      too_many_digits 5 (Move (record { count = n; x = x; y = y; z = z })) (nine, bits) (λ d. omega (arith, six, d.0.0))

-- ---- by computation: six digits under version 2 and not under version 1, five under both. The bytes are computed once, then read
far_digits : decimal 147457 ≡ 49 ∷ 52 ∷ 55 ∷ 52 ∷ 53 ∷ 55 ∷ []
unfolding decimal decimal_within digit
far_digits = refl

near_digits : decimal 99999 ≡ 57 ∷ 57 ∷ 57 ∷ 57 ∷ 57 ∷ []
unfolding decimal decimal_within digit
near_digits = refl

-- A, tab, 147457; A, tab, 99999
pub far_bytes : body (Arrived 147457) ≡ 65 ∷ 9 ∷ 49 ∷ 52 ∷ 55 ∷ 52 ∷ 53 ∷ 55 ∷ []
unfolding body parted
far_bytes = ap (λ (d : List ℕ). 65 ∷ 9 ∷ d) far_digits

near_bytes : body (Arrived 99999) ≡ 65 ∷ 9 ∷ 57 ∷ 57 ∷ 57 ∷ 57 ∷ 57 ∷ []
unfolding body parted
near_bytes = ap (λ (d : List ℕ). 65 ∷ 9 ∷ d) near_digits

pub far_read : line_of (count_digits 2) (body (Arrived 147457)) ≡ Some (Arrived 147457)
unfolding count_digits line_of short_of count_of push_all push value_of
far_read = ap (line_of (count_digits 2)) far_bytes ∙ refl

pub far_not_in_1 : line_of (count_digits 1) (body (Arrived 147457)) ≡ None
unfolding count_digits line_of short_of count_of push_all push value_of
far_not_in_1 = ap (line_of (count_digits 1)) far_bytes ∙ refl

pub near_in_both : (line_of (count_digits 2) (body (Arrived 99999)) ≡ Some (Arrived 99999))
    × (line_of (count_digits 1) (body (Arrived 99999)) ≡ Some (Arrived 99999))
unfolding count_digits line_of short_of count_of push_all push value_of
near_in_both = (ap (line_of (count_digits 2)) near_bytes ∙ refl, ap (line_of (count_digits 1)) near_bytes ∙ refl)

pub none_in_3 : line_of (count_digits 3) (body (Arrived 1)) ≡ None
unfolding count_digits line_of short_of count_of push_all push value_of body parted decimal decimal_within digit
none_in_3 = refl

-- the line of a step: M, tab, its number, and 3, -3, -0 as floats
abbrev far_step : ℕ → Line
far_step k = Move (record { count = k; x = 0x4040_0000; y = 0xc040_0000; z = 0x8000_0000 })

abbrev step_text : List ℕ → List ℕ
step_text digits = 77 ∷ 9 ∷ (digits ++ (9 ∷ (hex 0x4040_0000 ++ (9 ∷ (hex 0xc040_0000 ++ (9 ∷ hex 0x8000_0000))))))

step_bytes : (k : ℕ) (d : List ℕ) → decimal k ≡ d → body (far_step k) ≡ step_text d
unfolding body parted
step_bytes k d e = ap step_text e

pub steps_read : (line_of (count_digits 2) (body (far_step 147457)) ≡ Some (far_step 147457))
    × (line_of (count_digits 1) (body (far_step 147457)) ≡ None)
    × (line_of (count_digits 1) (body (far_step 99999)) ≡ Some (far_step 99999))
unfolding count_digits line_of move_of tabbeds tabbed all_good bits_of hex_of count_of push_all push value_of hex numeral digit
steps_read = (
  ap (line_of (count_digits 2)) (step_bytes 147457 _ far_digits) ∙ refl,
  ap (line_of (count_digits 1)) (step_bytes 147457 _ far_digits) ∙ refl,
  ap (line_of (count_digits 1)) (step_bytes 99999 _ near_digits) ∙ refl,
)
