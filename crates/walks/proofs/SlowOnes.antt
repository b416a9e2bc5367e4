-- Six feet of which only the slow ones are walked: their count is the six feet's.
use Rattle.std.specs.Prelude.{◌≡◌, ℕ, ◌≤◌, Bool, true, false, T}
use mathlib.Core.Path.{refl, sym, ◌∙◌, subst}
use mathlib.Core.Logic.{⊎_elim}
use Prim.Native.Nat.{zero-le}
use native.Mathlib.Nat.{le_trans, le_of_eq, le_antisymm, lt_irrefl}
use lib.Ieee.{Float, binary32, add, mul, le, lt}
use Rattle.numbers.specs.Told.{choose}
use Rattle.numbers.specs.Finite.{greater}
use Rattle.legs.specs.Legs.{Leg, left_front, right_front, left_middle, right_middle, left_rear, right_rear, row, point}
use Rattle.legs.specs.declared.Point.{Point}
use Rattle.legs.specs.Legs.{Points}
use Rattle.moves.specs.Distance.{same, distance, longest_distance, largest as largest_of}
use Rattle.walks.specs.Walk.{point_after, Walk, WalkFeet, largest}
use Rattle.walks.specs.Reach.{Reach, ReachFeet}
use Rattle.walks.specs.How.{share, SlowOnes}
use Rattle.walks.proofs.Aim.{Aim, OnWay}
use Rattle.walks.proofs.Steps.{spread_self, same_of_spread}
use Rattle.walks.proofs.Feet.{none_larger, one_largest}
use Rattle.walks.proofs.Reached.{count_within}
use Rattle.walks.proofs.Outlasted.{longer, outlasted}

-- ---- the longest distance is one foot's
module _ (g : Leg → Float) where
  abbrev One : Float → Type 0
  One x = (l : Leg) × (x ≡ g l)

  or_else : (x y : Float) → One x → One y → One (greater x y)
  or_else x y a b = by_test (lt x y)
    where
      by_test : (t : Bool) → One (choose t y x)
      by_test true = b
      by_test false = a

  one_longest : One (largest_of (row g))
  one_longest =
      or_else _ (g right_rear)
      (or_else _ (g left_rear)
      (or_else _ (g right_middle)
      (or_else _ (g left_middle) (or_else (g left_front) (g right_front) (left_front, refl) (right_front, refl)) (left_middle, refl))
      (right_middle, refl)) (left_rear, refl)) (right_rear, refl)

module _ (m : Float) (s t : Points) where
  lead : (l : Leg) × (longest_distance s t ≡ distance (point s l) (point t l))
  unfolding longest_distance
  lead = one_longest (λ l. distance (point s l) (point t l))

  module _ (p : Points) (slow : SlowOnes m s t p) where
    abbrev Out : Leg → Type 0
    Out l = T (le (add binary32 (distance (point s l) (point t l)) m) (mul binary32 (longest_distance s t) share))

    -- what a foot does: as it was, or left out at its target
    by_place : (P : Leg → Type 0) → ((l : Leg) → Out l → point p l ≡ point t l → P l) → ((l : Leg) → point p l ≡ point s l → P l)
        → (l : Leg) → P l
    by_place P f g l = ⊎_elim (g l) (λ o. f l o.1 o.0) (slow l)

    pub slow_reach : ReachFeet m s t → ReachFeet m p t
    slow_reach r =
        by_place (λ l. Reach m (point p l) (point t l))
        (λ l _ e. subst (λ (q : Point). Reach m q (point t l)) (sym e)
        (record { start = (r l).target; target = (r l).target; move = (r l).move; from = (r l).from; to = (r l).to }))
        (λ l e. subst (λ (q : Point). Reach m q (point t l)) (sym e) (r l))

    module _ (aim : (l : Leg) → Aim m (point t l)) (way : (l : Leg) → OnWay (point s l) (point t l))
        (k n : ℕ) (v : WalkFeet m p t k) (w : WalkFeet m s t n) where
      at_target : (l : Leg) → T (same (point_after m (point t l) (point t l) 0) (point t l))
      unfolding point_after
      at_target l = same_of_spread (point t l) (point t l) (aim l).target (aim l).target (spread_self (point t l))

      no_more : (l : Leg) → v.counts l ≤ w.counts l
      no_more =
          by_place (λ l. v.counts l ≤ w.counts l)
          (λ l _ e. le_trans
          (count_within m (point t l) (point t l) 0 (v.counts l)
          (subst (λ (q : Point). Walk m q (point t l) (v.counts l)) e (v.walks l)) (at_target l))
          zero-le)
          (λ l e. count_within m (point s l) (point t l) (w.counts l) (v.counts l)
          (subst (λ (q : Point). Walk m q (point t l) (v.counts l)) e (v.walks l)) (w.walks l).arrives)

      as_before : (l : Leg) → point p l ≡ point s l → w.counts l ≤ v.counts l
      as_before l e =
          count_within m (point s l) (point t l) (v.counts l) (w.counts l) (w.walks l)
          (subst (λ (q : Point). Walk m q (point t l) (v.counts l)) e (v.walks l)).arrives

      out_of : (l : Leg) → Out l
          → T (le (add binary32 (distance (point s l) (point t l)) m)
          (mul binary32 (distance (point s lead.0) (point t lead.0)) share))
      out_of l e =
          subst (λ (d : Float). T (le (add binary32 (distance (point s l) (point t l)) m) (mul binary32 d share))) lead.1 e

      lead_walks : w.counts lead.0 ≤ v.counts lead.0
      lead_walks =
          by_place (λ l. l ≡ lead.0 → w.counts l ≤ v.counts l)
          (λ l o _ e. absurd
          (lt_irrefl _ (longer m _ _ _ _ (aim lead.0) (way lead.0) (aim lead.0) (way lead.0)
          (subst (λ (i : Leg). T (le (add binary32 (distance (point s i) (point t i)) m)
          (mul binary32 (distance (point s lead.0) (point t lead.0)) share))) e (out_of l o))).1))
          (λ l e _. as_before l e) lead.0 refl

      no_fewer : (l : Leg) → w.counts l ≤ largest (row v.counts)
      no_fewer =
          by_place (λ l. w.counts l ≤ largest (row v.counts))
          (λ l o _. le_trans
          (outlasted m _ _ _ _ (aim lead.0) (way lead.0) (aim l) (way l) (out_of l o) (w.counts lead.0) (w.counts l)
          (w.walks lead.0) (w.walks l))
          (le_trans lead_walks (none_larger v.counts lead.0)))
          (λ l e. le_trans (as_before l e) (none_larger v.counts l))

      pub slow_count : WalkFeet m s t k
      slow_count =
          let o = one_largest w.counts in
          let i = one_largest v.counts in
          subst (WalkFeet m s t)
          (le_antisymm
          (le_trans (le_of_eq (w.most ∙ o.1)) (le_trans (no_fewer o.0) (le_of_eq (sym v.most))))
          (le_trans (le_of_eq (v.most ∙ i.1))
          (le_trans (no_more i.0) (le_trans (none_larger w.counts i.0) (le_of_eq (sym w.most)))))) w
