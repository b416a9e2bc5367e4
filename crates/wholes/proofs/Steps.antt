-- A signed number that code holds is read back from its bits; what is read is the number, where it is within 31 bits. No difference,
-- product, share or sum of a step passes them. Assumes nothing.
use Prim.Native.Nat.{ℕ, ◌-◌, ◌*◌, ◌/◌, ◌≤◌, ◌<◌}
use mathlib.Core.Path.{◌≡◌, refl, sym, ap, ap₂, ◌∙◌, subst}
use mathlib.Core.Bool.{Bool, true, ◌&&◌}
use native.Mathlib.Nat.{le_trans, mul-le-mul, mul-le-mul_left}
use native.Mathlib.Omega.{arith}
use lib.Dec.{T, leb, eqb, lit<}
use lib.IntN.{ℤ, pos, negsuc, nat_abs, ◌+ℤ◌, ◌-ℤ◌, ◌*ℤ◌}
use lib.Signed.{shr_z, non_neg}
use mir.Syntax.{w32}
use mir.Val.{Fits, SFits, to_z, of_z}
use mir.Facts.{to_z-of_z}
use borrow.Author.Tests.{leb-true, leb-false, ne_eqb}
use Rattle.numbers.proofs.Flags.{chosen, where_false}
use Rattle.wholes.specs.Wholes.{in_range, is_coordinate, is_place, is_height, is_progress, table_scale, entry, used, down, sideways}
use Rattle.wholes.specs.Wholes.{upwards, whole_step}
use Rattle.wholes.specs.declared.WholePoint.{WholePoint}
use Rattle.wholes.proofs.Parts.{plus, minus, sum_made, difference_made, times_plus, times_minus, share}
use Rattle.wholes.proofs.Ranges.{fits, coordinate}
use Rattle.wholes.proofs.Rule.{entry_most}
use Rattle.wholes.proofs.Ranges.{height, progress}
use Rattle.wholes.proofs.Door.{all_good, four, start_good, target_good, height_good, progress_good, x_good, y_good, z_good}

abbrev pub read : ℤ → ℤ
read z = to_z w32 (of_z w32 z)

pub as_read : (z : ℤ) → SFits w32 z → read z ≡ z
as_read z h = to_z-of_z h

pub shift_is : (z : ℤ) (d : ℕ) → shr_z z d ≡ down z d
shift_is (pos n) d = refl
shift_is (negsuc n) d = refl

pub natural_fits : (n : ℕ) → n ≤ 2048 → SFits w32 (pos n)
natural_fits n h = fits (pos n) (omega arith)

pub coordinate_fits : (z : ℤ) → is_coordinate z ≡ true → SFits w32 z
coordinate_fits z h = let c = coordinate z h in fits z (omega (arith, c.plus_most, c.minus_most))

pub coordinate_read : (z : ℤ) → is_coordinate z ≡ true → read z ≡ z
coordinate_read z h = as_read z (coordinate_fits z h)

pub still_coordinate : (z : ℤ) → is_coordinate z ≡ true → is_coordinate (read z) ≡ true
still_coordinate z h = ap is_coordinate (coordinate_read z h) ∙ h

-- ---- a test of what is read
pub tested : (from to n : ℤ) (r : Bool) → SFits w32 n → r ≡ in_range from to (read n) → r ≡ in_range from to n
tested from to n r h e = e ∙ ap (λ (z : ℤ). in_range from to z) (as_read n h)

pub all_three : {a b c d e f : Bool} → a ≡ d → b ≡ e → c ≡ f → (a && b && c) ≡ (d && e && f)
all_three h i j = ap₂ (λ (x y : Bool). x && y) (ap₂ (λ (x y : Bool). x && y) h i) j

-- ---- a start and a share that is rounded down
module _ (s a : ℤ) (d : ℕ) (D : 0 < d) (S : is_coordinate s ≡ true) (P : plus a ≤ 163840000) (N : minus a ≤ 163840000) where
  share_fits : SFits w32 (down a d)
  share_fits = let q = share a d D in fits (down a d) (omega (arith, q.plus_most, q.minus_most, P, N))

  place_fits : SFits w32 (s +ℤ down a d)
  place_fits =
      let q = share a d D in
      let m = sum_made s (down a d) in
      let c = coordinate s S in
      fits (s +ℤ down a d)
      (omega (arith, m.plus_most, m.minus_most, c.plus_most, c.minus_most, q.plus_most, q.minus_most, P, N))

  place_is : (z : ℤ) → z ≡ a → read s +ℤ read (shr_z z d) ≡ s +ℤ down a d
  place_is z e =
      ap₂ (λ (x y : ℤ). x +ℤ y) (coordinate_read s S)
      (ap (λ (w : ℤ). read (shr_z w d)) e ∙ ap read (shift_is a d) ∙ as_read (down a d) share_fits)

  place_read_fits : (z : ℤ) → z ≡ a → SFits w32 (read s +ℤ read (shr_z z d))
  place_read_fits z e = subst (λ (w : ℤ). SFits w32 w) (sym (place_is z e)) place_fits

  place_read : (z : ℤ) → z ≡ a → read (read s +ℤ read (shr_z z d)) ≡ s +ℤ down a d
  place_read z e = ap read (place_is z e) ∙ as_read (s +ℤ down a d) place_fits

-- ---- x and y: the way, and its part by the progress
pub record InRange (s t : ℤ) (p : ℕ) : Type 0 where
  pub start : is_coordinate s ≡ true
  pub target : is_coordinate t ≡ true
  pub progress : p ≤ 2048

module _ (s t : ℤ) (p : ℕ) (G : InRange s t p) where
  way_most : (plus (t -ℤ s) ≤ 80000) × (minus (t -ℤ s) ≤ 80000)
  way_most =
      let m = difference_made t s in
      let a = coordinate s G.start in
      let b = coordinate t G.target in
      (omega (arith, m.plus_most, a.minus_most, b.plus_most), omega (arith, m.minus_most, a.plus_most, b.minus_most))

  way_is : read t -ℤ read s ≡ t -ℤ s
  way_is = ap₂ (λ (x y : ℤ). x -ℤ y) (coordinate_read t G.target) (coordinate_read s G.start)

  way_fits : SFits w32 (t -ℤ s)
  way_fits = fits (t -ℤ s) (omega (arith, way_most.0, way_most.1))

  pub way_read_fits : SFits w32 (read t -ℤ read s)
  way_read_fits = subst (λ (w : ℤ). SFits w32 w) (sym way_is) way_fits

  part : ℤ
  part = (t -ℤ s) *ℤ pos p

  part_most : (plus part ≤ 163840000) × (minus part ≤ 163840000)
  unfolding part
  part_most = (
    subst (λ (w : ℕ). w ≤ 163840000) (sym (times_plus (t -ℤ s) p)) (mul-le-mul way_most.0 G.progress),
    subst (λ (w : ℕ). w ≤ 163840000) (sym (times_minus (t -ℤ s) p)) (mul-le-mul way_most.1 G.progress),
  )

  part_is : read (read t -ℤ read s) *ℤ read (pos p) ≡ part
  unfolding part
  part_is = ap₂ (λ (x y : ℤ). x *ℤ y) (ap read way_is ∙ as_read (t -ℤ s) way_fits) (as_read (pos p) (natural_fits p G.progress))

  part_fits : SFits w32 part
  part_fits = fits part (omega (arith, part_most.0, part_most.1))

  pub part_read_fits : SFits w32 (read (read t -ℤ read s) *ℤ read (pos p))
  part_read_fits = subst (λ (w : ℤ). SFits w32 w) (sym part_is) part_fits

  part_read : read (read (read t -ℤ read s) *ℤ read (pos p)) ≡ part
  part_read = ap read part_is ∙ as_read part part_fits

  pub sideways_within : SFits w32 (sideways s t p)
  unfolding part
  sideways_within = place_fits s part 2048 (lit< tt) G.start part_most.0 part_most.1

  pub sideways_fits : SFits w32 (read s +ℤ read (shr_z (read (read (read t -ℤ read s) *ℤ read (pos p))) 2048))
  sideways_fits = place_read_fits s part 2048 (lit< tt) G.start part_most.0 part_most.1 _ part_read

  pub sideways_read : read (read s +ℤ read (shr_z (read (read (read t -ℤ read s) *ℤ read (pos p))) 2048)) ≡ sideways s t p
  unfolding part
  sideways_read = place_read s part 2048 (lit< tt) G.start part_most.0 part_most.1 _ part_read

-- ---- z: a start and a natural share
module _ (s : ℤ) (n : ℕ) (S : is_coordinate s ≡ true) (N : n ≤ 1000) where
  pub raised_fits : SFits w32 (s +ℤ pos n)
  raised_fits =
      let m = sum_made s (pos n) in
      let c = coordinate s S in
      fits (s +ℤ pos n) (omega (arith, m.plus_most, m.minus_most, c.plus_most, c.minus_most))

  raised_is : read s +ℤ read (pos n) ≡ s +ℤ pos n
  raised_is = ap₂ (λ (x y : ℤ). x +ℤ y) (coordinate_read s S) (as_read (pos n) (natural_fits n (omega arith)))

  pub raised_read_fits : SFits w32 (read s +ℤ read (pos n))
  raised_read_fits = subst (λ (w : ℤ). SFits w32 w) (sym raised_is) raised_fits

  pub raised_read : read (read s +ℤ read (pos n)) ≡ s +ℤ pos n
  raised_read = ap read raised_is ∙ as_read (s +ℤ pos n) raised_fits

-- a share of a height by an entry is at most the height
pub share_below : (h e : ℕ) → e ≤ 16384 → h * e / 16384 ≤ h
share_below h e E = let l : h * e ≤ h * 16384 = mul-le-mul_left h E in omega arith

pub share_most : (h e : ℕ) → h ≤ 1000 → e ≤ 16384 → h * e / 16384 ≤ 1000
share_most h e H E = le_trans (share_below h e E) H

-- ---- a height or a progress, as a natural number
module _ (n : ℤ) (k : ℕ) (K : k ≤ 2048) (N : (n ≡ pos (nat_abs n)) × (nat_abs n ≤ k)) where
  natural_read : read n ≡ pos (nat_abs n)
  natural_read =
      let l = N.1 in
      as_read n (subst (λ (z : ℤ). SFits w32 z) (sym N.0) (natural_fits (nat_abs n) (omega (arith, l, K)))) ∙ N.0

  pub count_read : nat_abs (read n) ≡ nat_abs n
  count_read = ap nat_abs natural_read

  pub count_fits : T (non_neg (read n)) × Fits w32 (nat_abs (read n))
  count_fits =
      let l = N.1 in
      subst (λ (z : ℤ). T (non_neg z) × Fits w32 (nat_abs z)) (sym natural_read) (tt, record { fits = omega (arith, l, K) })

  pub count_most : nat_abs (read n) ≤ k
  count_most = subst (λ (w : ℕ). w ≤ k) (sym count_read) N.1

-- ---- the entry that a progress uses is in the table
pub used_below : (p : ℕ) → p ≤ 2048 → used p < 1025
used_below p h = chosen (λ (k : ℕ). k < 1025) (leb p 1024) p (2048 - p) (λ e. first (leb-true p 1024 e)) (λ e. second (leb-false p 1024 e))
  where
    first : p ≤ 1024 → p < 1025
    first l = omega arith

    second : 1024 < p → 2048 - p < 1025
    second l = omega arith

pub used_most : (p : ℕ) → p ≤ 2048 → entry (used p) ≤ table_scale
used_most p h = entry_most (used p) (used_below p h)

pub same_point : {a b c d e f : ℤ} → a ≡ d → b ≡ e → c ≡ f
    → ◌≡◌ {A = WholePoint} (record { x = a; y = b; z = c }) (record { x = d; y = e; z = f })
same_point i j k = cc

-- ---- a step's point is made of what its three parts answer of coordinates that are read
module _ (start target : WholePoint) (h p : ℕ) (A : is_place start ≡ true) (B : is_place target ≡ true) (H : h ≤ 1000) (P : p ≤ 2048)
  where
    answered : (z w : ℤ) → SFits w32 w → z ≡ w → read z ≡ w
    answered z w F e = ap read e ∙ as_read w F

    pub by_coordinates : (x y z : ℤ) → (p ≡ 2048 → ⊥)
        → x ≡ sideways (read start.x) (read target.x) p
        → y ≡ sideways (read start.y) (read target.y) p
        → z ≡ upwards start.z h p
        → ◌≡◌ {A = WholePoint} (record { x = read x; y = read y; z = read z }) (whole_step start target h p)
    by_coordinates x y z N ex ey ez =
        let sx = x_good start A in
        let sy = y_good start A in
        let sz = z_good start A in
        let tx = x_good target B in
        let ty = y_good target B in
        let X : read x ≡ sideways start.x target.x p =
        answered x _ (sideways_within start.x target.x p (record { start = sx; target = tx; progress = P }))
        (ex ∙ ap₂ (λ (a b : ℤ). sideways a b p) (coordinate_read start.x sx) (coordinate_read target.x tx)) in
        let Y : read y ≡ sideways start.y target.y p =
        answered y _ (sideways_within start.y target.y p (record { start = sy; target = ty; progress = P }))
        (ey ∙ ap₂ (λ (a b : ℤ). sideways a b p) (coordinate_read start.y sy) (coordinate_read target.y ty)) in
        let Z : read z ≡ upwards start.z h p =
        answered z _ (raised_fits start.z (h * entry (used p) / 16384) sz (share_most h (entry (used p)) H (used_most p P)))
        ez in
        same_point X Y Z ∙ where_false (eqb p 2048) target _ (ne_eqb p 2048 N)

-- ---- the door of a step, by its four tests of what is read, and what has passed it
pub by_tests : (start target : WholePoint) (h p : ℤ) {a b c d v : Bool} → SFits w32 h → SFits w32 p → a ≡ is_place start → b
    ≡ is_place target
    → c ≡ is_height (read h) → d ≡ is_progress (read p) → (a && b && c && d) ≡ v → all_good start target h p ≡ v
by_tests start target h p H P e f g i is =
    sym (four e f (tested (pos 0) (pos 1000) h _ H g) (tested (pos 0) (pos 2048) p _ P i)) ∙ is

pub record Passed (start target : WholePoint) (h p : ℤ) : Type 0 where
  pub from : is_place start ≡ true
  pub to : is_place target ≡ true
  pub height : (h ≡ pos (nat_abs h)) × (nat_abs h ≤ 1000)
  pub progress : (p ≡ pos (nat_abs p)) × (nat_abs p ≤ 2048)

pub passed : (start target : WholePoint) (h p : ℤ) → all_good start target h p ≡ true → Passed start target h p
passed start target h p e =
    record {
      from = start_good start target h p e;
      to = target_good start target h p e;
      height = height h (height_good start target h p e);
      progress = progress p (progress_good start target h p e);
    }
