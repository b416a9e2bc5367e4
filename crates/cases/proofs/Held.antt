-- p1 to p12, k5 and k12 hold: p8 for all permitted feet, by what the masks 0 and 63 name, the others by computation.
use mathlib.Core.Path.{◌≡◌, refl}
use mathlib.Core.Bool.{true, false}
use Prim.Native.Nat.{ℕ}
use lib.Dec.{ltb}
use lib.Count.{ones}
use lib.Ieee.{of_bits, add, sub, mul, div, le, eq, round}
use Rattle.numbers.specs.Door.{finite}
use Rattle.numbers.specs.Limits.{over, minus, mask_to, foot_limit, max_move, direction, walk_foot, walk_move}
use Rattle.legs.specs.Legs.{finite_point, permitted_point, permitted_feet}
use Rattle.legs.specs.Answers.{given_feet}
use Rattle.legs.specs.Merge.{merged, merge_refusal, merge_told}
use Rattle.legs.specs.Update.{updated}
use Rattle.legs.specs.Legs.{Feet}
use Rattle.legs.proofs.OnePass.{feet_finite}
use Rattle.rows.specs.Rows.{update_refusal, update_told}
use Rattle.roots.specs.Root.{square_root}
use Rattle.moves.specs.Moving.{component, move_towards, step_at, nearer, along, has_moved, place_of}
use Rattle.moves.specs.Distance.{same, square_sum, distance}
use Rattle.moves.specs.Refusals.{move_refusal}
use Rattle.moves.specs.Entries.{move_told}
use Rattle.walks.specs.Answers.{walk_refusal}
use Rattle.walks.proofs.Examples.{p6, p7}
use Rattle.commands.specs.Constants.{one}
use Rattle.commands.specs.Times.{elapsed_permitted, period_permitted, whole_number, in_seconds}
use Rattle.steps.specs.Progress.{timed_progress, even_progress}
use Rattle.steps.specs.Leg.{half, half_turn, step_lifted_leg}
use Rattle.steps.specs.Shift.{shift_legs}
use Rattle.steps.specs.Marks.{mark_after, stepped}
use Rattle.steps.specs.Next.{even_at, next_even}
use Rattle.steps.specs.Refusals.{progress_refusal, lift_refusal}
use Rattle.steps.specs.Entries.{timed_progress_told, even_progress_told, next_even_told}
use Rattle.cases.specs.Cases.{cases, Hold}

-- one more case of a list
infixr 20 ◌and◌
◌and◌ : {P Q : Type 0} → P → Q → P × Q
h and hs = (h, hs)

module _ (a b : Feet) (p : permitted_feet foot_limit a ≡ true) (q : permitted_feet foot_limit b ≡ true) where
  unrefused : (mask : ℕ) → ltb mask_to mask ≡ false → merge_refusal a b mask ≡ 0
  unfolding merge_refusal foot_limit finite
  unrefused mask low = simp (feet_finite foot_limit (refl, refl) a p, feet_finite foot_limit (refl, refl) b q, p, q, low)

  none_merged : merge_told a b 0 ≡ given_feet a
  unfolding merge_told merged
  none_merged = rw (unrefused 0 refl)

  all_merged : merge_told a b 63 ≡ given_feet b
  unfolding merge_told merged
  all_merged = rw (unrefused 63 refl)

pub all_hold : Hold cases
unfolding move_told move_refusal move_towards step_at same nearer along component distance square_sum square_root walk_refusal
    merge_told merge_refusal merged update_told update_refusal updated ones finite_point permitted_point finite
    timed_progress_told even_progress_told timed_progress even_progress progress_refusal elapsed_permitted period_permitted whole_number
    in_seconds
    next_even_told next_even even_at lift_refusal shift_legs stepped mark_after step_lifted_leg has_moved place_of one half half_turn
    foot_limit max_move direction walk_foot walk_move over minus round of_bits add sub mul div le eq
all_hold =
    -- p1 to p5
    refl and refl and refl and refl and refl
    -- p6: one step, and the walk of one step
    and refl and (1, refl, λ _. p6)
    -- p7, p8
    and (2, refl, λ _. p7)
    and none_merged and all_merged
    -- p9; p10, p11 and p12; k5 and k12
    and refl
    and refl and refl and refl and refl and refl
    and refl
    and refl and refl
    and tt
