-- Six feet walk as six single ones: each foot's way is its own walk, an arrived foot stays, and the largest count is the six feet's.
use Rattle.std.specs.Prelude.{◌≡◌, ℕ, zero, suc, ◌*◌, ◌<◌, ◌≤◌, Bool, true, false, ◌&&◌, T, eqb, ltb, ◌⊎◌}
use mathlib.Core.Path.{refl, sym, ap, ◌∙◌, subst}
use mathlib.Core.Logic.{inl, inr, ⊎_elim}
use native.Mathlib.Nat.{le_trans, le_of_lt, le_refl, eq-or-lt_of_le, lt_of_lt_of_le, le_of_eq}
use native.Mathlib.Omega.{arith}
use borrow.Author.Tests.{ltb-true, ltb-false}
use lib.Dec.{T_not, not_T, eqb_refl}
use lib.Ieee.{Float, nan, inf, fin, up, down, eq}
use lib.Ieee.Fits.{and_i, and_l, and_r}
use lib.Ieee.Bits.{is_true}
use Rattle.numbers.specs.Told.{choose}
use Rattle.legs.specs.Legs.{Leg, left_front, right_front, left_middle, right_middle, left_rear, right_rear, row, point, every}
use Rattle.legs.specs.declared.Point.{Point}
use Rattle.legs.specs.Legs.{Points}
use Rattle.moves.specs.Distance.{same}
use Rattle.moves.specs.Moving.{move_towards, point_of, place_of}
use Rattle.moves.proofs.Steps.{stands}
use Rattle.moves.proofs.FootByFoot.{each_foot}
use Rattle.walks.specs.Walk.{point_after, points_after, Walk, WalkFeet, larger, largest, all_arrived}
use Rattle.legs.proofs.Laws.{each_of_every, every_of_each}

-- ---- each foot's way is its own
pub each_foot_after : (m : Float) (s t : Points) (k : ℕ) (l : Leg) →
    point (points_after m s t k) l ≡ point_after m (point s l) (point t l) k
unfolding points_after point_after
each_foot_after m s t zero l = refl
each_foot_after m s t (suc k) l =
    each_foot (points_after m s t k) t m l ∙ ap (λ (p : Point). point_of (move_towards p (point t l) m)) (each_foot_after m s t k l)

-- ---- what is equal to something is equal to itself
eq_self : (x y : Float) → T (eq x y) → T (eq y y)
unfolding eq
eq_self nan y h = absurd h
eq_self (inf i) nan h = absurd h
eq_self (inf i) (inf true) h = tt
eq_self (inf i) (inf false) h = tt
eq_self (inf i) (fin t k d) h = absurd h
eq_self (fin s m e) nan h = absurd h
eq_self (fin s m e) (inf i) h = absurd h
eq_self (fin s m e) (fin true k d) h = and_i (eqb (k * up d * down d) (k * up d * down d)) true (eqb_refl (k * up d * down d)) tt
eq_self (fin s m e) (fin false k d) h = and_i (eqb (k * up d * down d) (k * up d * down d)) true (eqb_refl (k * up d * down d)) tt

same_self : (l t : Point) → T (same l t) → T (same t t)
unfolding same
same_self l t h =
    let xy = and_l (eq l.x t.x && eq l.y t.y) (eq l.z t.z) h in
    and_i (eq t.x t.x && eq t.y t.y) (eq t.z t.z)
    (and_i (eq t.x t.x) (eq t.y t.y)
    (eq_self l.x t.x (and_l (eq l.x t.x) (eq l.y t.y) xy))
    (eq_self l.y t.y (and_r (eq l.x t.x) (eq l.y t.y) xy)))
    (eq_self l.z t.z (and_r (eq l.x t.x && eq l.y t.y) (eq l.z t.z) h))

-- ---- what has arrived stays
pub stays : (m : Float) (s t : Point) (k : ℕ) → T (same (point_after m s t k) t) → T (same (point_after m s t (suc k)) t)
unfolding point_after place_of
stays m s t k h =
    let e : point_of (move_towards (point_after m s t k) t m) ≡ t =
    ap point_of (stands (point_after m s t k) t m (is_true (same (point_after m s t k) t) h)) in
    subst (λ (p : Point). T (same p t)) (sym e) (same_self (point_after m s t k) t h)

pub still_there : (m : Float) (s t : Point) (k j : ℕ) → k ≤ j → T (same (point_after m s t k) t) → T (same (point_after m s t j) t)
still_there m s t k zero h a = subst (λ (n : ℕ). T (same (point_after m s t n) t)) (none h) a
  where
    none : k ≤ 0 → k ≡ 0
    none h = omega arith
still_there m s t k (suc j) h a =
    ⊎_elim (λ e. subst (λ (n : ℕ). T (same (point_after m s t n) t)) e a)
    (λ l. stays m s t j (still_there m s t k j (before l) a)) (eq-or-lt_of_le h)
  where
    before : k < suc j → k ≤ j
    before l = omega arith

-- ---- the largest of six
larger_cases : (a b : ℕ) → (a ≤ larger a b) × (b ≤ larger a b) × ((larger a b ≡ a) ⊎ (larger a b ≡ b))
larger_cases a b = by_test (ltb a b) (ltb-true a b) (ltb-false a b)
  where
    by_test : (x : Bool) → (x ≡ true → a < b) → (x ≡ false → b ≤ a)
        → (a ≤ choose x b a) × (b ≤ choose x b a) × ((choose x b a ≡ a) ⊎ (choose x b a ≡ b))
    by_test true f g = (le_of_lt (f refl), le_refl b, inr refl)
    by_test false f g = (le_refl a, g refl, inl refl)

module _ (g : Leg → ℕ) where
  abbrev two : ℕ
  two = larger (g left_front) (g right_front)

  abbrev three : ℕ
  three = larger two (g left_middle)

  abbrev four : ℕ
  four = larger three (g right_middle)

  abbrev five : ℕ
  five = larger four (g left_rear)

  pub none_larger : (l : Leg) → g l ≤ largest (row g)
  none_larger left_front =
      le_trans (larger_cases (g left_front) (g right_front)).0
      (le_trans (larger_cases two (g left_middle)).0
      (le_trans (larger_cases three (g right_middle)).0
      (le_trans (larger_cases four (g left_rear)).0 (larger_cases five (g right_rear)).0)))
  none_larger right_front =
      le_trans (larger_cases (g left_front) (g right_front)).1
      (le_trans (larger_cases two (g left_middle)).0
      (le_trans (larger_cases three (g right_middle)).0
      (le_trans (larger_cases four (g left_rear)).0 (larger_cases five (g right_rear)).0)))
  none_larger left_middle =
      le_trans (larger_cases two (g left_middle)).1
      (le_trans (larger_cases three (g right_middle)).0
      (le_trans (larger_cases four (g left_rear)).0 (larger_cases five (g right_rear)).0))
  none_larger right_middle =
      le_trans (larger_cases three (g right_middle)).1 (le_trans (larger_cases four (g left_rear)).0 (larger_cases five (g right_rear)).0)
  none_larger left_rear = le_trans (larger_cases four (g left_rear)).1 (larger_cases five (g right_rear)).0
  none_larger right_rear = (larger_cases five (g right_rear)).1

  or_else : (a b : ℕ) (l : Leg) → g l ≡ b → ((k : Leg) × (a ≡ g k)) → (k : Leg) × (larger a b ≡ g k)
  or_else a b l e w = ⊎_elim (λ h. (w.0, h ∙ w.1)) (λ h. (l, h ∙ sym e)) (larger_cases a b).2

  pub one_largest : (l : Leg) × (largest (row g) ≡ g l)
  one_largest =
      or_else five (g right_rear) right_rear refl
      (or_else four (g left_rear) left_rear refl
      (or_else three (g right_middle) right_middle refl
      (or_else two (g left_middle) left_middle refl
      (or_else (g left_front) (g right_front) right_front refl (left_front, refl)))))

module _ (m : Float) (s t : Points) where
  at_foot : (k : ℕ) (l : Leg) →
      same (point (points_after m s t k) l) (point t l) ≡ same (point_after m (point s l) (point t l) k) (point t l)
  at_foot k l = ap (λ (p : Point). same p (point t l)) (each_foot_after m s t k l)

  -- six walks, with their counts, are the walk of six feet
  pub walk_of_six : (g : Leg → ℕ) → ((l : Leg) → Walk m (point s l) (point t l) (g l)) → WalkFeet m s t (largest (row g))
  unfolding all_arrived
  walk_of_six g w = record {
    counts = g;
    walks = w;
    most = refl;
    arrives = every_of_each (λ l. same (point (points_after m s t (largest (row g))) l) (point t l))
        (λ l. subst T (sym (at_foot (largest (row g)) l))
        (still_there m (point s l) (point t l) (g l) (largest (row g)) (none_larger g l) (w l).arrives));
    least = λ j h.
        let o = one_largest g in
        let l = o.0 in
        let short : j < g l = lt_of_lt_of_le h (le_of_eq o.1) in
        not_T (every (λ k. same (point (points_after m s t j) k) (point t k)))
        (λ a. T_not (same (point_after m (point s l) (point t l) j) (point t l)) ((w l).least j short)
        (subst T (at_foot j l) (each_of_every (λ k. same (point (points_after m s t j) k) (point t k)) a l)));
  }
