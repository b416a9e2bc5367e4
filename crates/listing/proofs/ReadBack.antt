-- Every line that is printed is a line of the version in the header: its number has at most six digits, and read back it is itself.
use Rattle.std.specs.Prelude.{◌≡◌, ℕ, ◌^◌, ◌<◌, ◌≤◌, Bool, true, false, ◌&&◌, [], ◌∷◌}
use native.Mathlib.Nat.{le_trans, lt_of_le_of_lt}
use native.Mathlib.Omega.{arith}
use lib.Dec.{lit≤, lit<}
use lib.Ieee.{Float, nan, inf, fin, binary32}
use lib.Ieee.Bits.{to_bits-lt}
use Rattle.numbers.specs.Door.{finite, permits, unless, first_of}
use Rattle.numbers.specs.Patterns.{pattern_of}
use Rattle.numbers.specs.Limits.{walk_foot, walk_move}
use Rattle.legs.specs.Legs.{finite_point, permitted_point}
use Rattle.legs.specs.declared.Point.{Point}
use Rattle.moves.specs.Distance.{Each}
use Rattle.walks.specs.Walk.{point_after, Walk}
use Rattle.walks.specs.Answers.{walk_refusal}
use Rattle.walks.proofs.Aim.{Fit}
use Rattle.walks.proofs.Door.{let_in}
use Rattle.walks.proofs.Given.{aimed, set_out}
use Rattle.walks.proofs.Trail.{on_way}
use Rattle.walks.proofs.Table.{at_most_147457}
use Rattle.lines.specs.Record.{shown_bits}
use Rattle.lines.specs.Lines.{body, Digited, Listable, count_digits}
use Rattle.lines.specs.Reading.{line_of}
use Rattle.lines.specs.declared.listed.Line.{Line}
use Rattle.lines.specs.declared.listed.Line.TheVariants.{Header, Arrived, Refused}
use Rattle.std.specs.Prelude.{Some}
use Rattle.lines.proofs.Decimal.{length_at_most}
use Rattle.lines.proofs.Listings.{line_back}
use Rattle.listing.specs.Listing.{step, listing_version}

-- a line of the version that is printed
abbrev pub OfVersion : Line → Type 0
OfVersion = Listable (count_digits listing_version)

pub read_back : (line : Line) → OfVersion line → line_of (count_digits listing_version) (body line) ≡ Some line
read_back = line_back (count_digits listing_version)

-- ---- numbers below a million, floats of 32 bits
six_digits : (n : ℕ) → n < 10 ^ 6 → Digited (count_digits listing_version) n
unfolding count_digits
six_digits n h = let l = length_at_most 5 n h in (l, le_trans l (lit≤ tt))

bits : (x : Float) → Fit x → shown_bits x < 2 ^ 32
unfolding pattern_of
bits nan F = lit< tt
bits (inf s) F = to_bits-lt binary32 (inf s) F
bits (fin s m e) F = to_bits-lt binary32 (fin s m e) F

-- ---- the header, and the number of a line that is no record
pub header_of_version : OfVersion (Header listing_version)
unfolding Listable
header_of_version = let d = length_at_most 0 listing_version (lit< tt) in (le_trans d (lit≤ tt), le_trans d (lit≤ tt))

pub no_record_of_version : OfVersion (Refused 7)
unfolding Listable
no_record_of_version = six_digits 7 (lit< tt)

-- ---- a walk: its steps and its count, or its refusal
module _ (m : Float) (s t : Point) (Fm : Fit m) (Fs : Each Fit s) (Ft : Each Fit t) (e : walk_refusal m s t ≡ 0) (n : ℕ)
    (w : Walk m s t n) where
  few : (k : ℕ) → k ≤ n → Digited (count_digits listing_version) k
  few k h = six_digits k (lt_of_le_of_lt (le_trans h (at_most_147457 m s t Fm Fs Ft e n w)) (lit< tt))

  pub step_of_version : (k : ℕ) → k ≤ n → OfVersion (step k (point_after m s t k))
  unfolding Listable
  step_of_version k h =
      let r = let_in m s t Fm Fs Ft e in
      let p = point_after m s t k in
      let F = (on_way m s t (aimed m s t r Fm Fs Ft) (set_out m s t r Fm Fs Ft) k).held in
      (few k h, (bits p.x F.0, (bits p.y F.1, (bits p.z F.2, tt))))

  pub arrived_of_version : OfVersion (Arrived n)
  unfolding Listable
  arrived_of_version = few n (omega arith)

pub refused_of_version : (m : Float) (s t : Point) → OfVersion (Refused (walk_refusal m s t))
unfolding Listable walk_refusal
refused_of_version m s t =
    six_digits (walk_refusal m s t)
    (lt_of_le_of_lt
    (at_most_2 (finite_point s && finite_point t && finite m)
    (permitted_point walk_foot s && permitted_point walk_foot t && permits walk_move m)) (lit< tt))
  where
    at_most_2 : (a b : Bool) → first_of (unless a 1 ∷ unless b 2 ∷ []) ≤ 2
    at_most_2 true true = lit≤ tt
    at_most_2 true false = lit≤ tt
    at_most_2 false b = lit≤ tt
