-- What is told of an answer on poses can be read back, so telling loses nothing and no second answer fits a contract stated by it. And each
-- leg of a pose that is read depends on its own member alone.
use Rattle.std.specs.Prelude.{◌≡◌, ℕ, Bool, true, false, eqb, List, [], ◌∷◌, ◌++◌, map, get_or, drop}
use mathlib.Core.Path.{refl, sym, ap, ap₂, ◌∙◌}
use lib.Ieee.{Float}
use Rattle.numbers.specs.Told.{Told, choose}
use Rattle.numbers.proofs.OneAnswer.{told_by_loses_nothing}
use Rattle.legs.specs.Legs.{Leg, left_front, right_front, left_middle, right_middle, left_rear, right_rear, row, coordinates, values}
use Rattle.legs.specs.declared.Point.{Point}
use Rattle.legs.proofs.OneAnswer.{point_at}
use Rattle.std.specs.Prelude.{Some, None}
use Rattle.poses.specs.Answers.{OptionalFoot, OptionalLegPositions}
use Rattle.std.specs.Prelude.{Result}
use Rattle.numbers.specs.declared.refusal.Refusal.{Refusal}
use Rattle.poses.specs.Json.{Member}
use Rattle.poses.specs.Names.{number}
use Rattle.poses.specs.Answers.{leg_of, six_legs, foot_mark, foot_values, given_pose, given_length, told, told_written}
use Rattle.poses.specs.Reading.{foot_of, value_for, pose_of}

-- ---- a foot by its mark and the floats from its place on, and the floats behind it
foot_read : ℕ → List Float → OptionalFoot
foot_read k xs = choose (eqb k 0) None (Some (record { point = point_at xs 0; lifted = eqb k 2 }))

floats_behind : ℕ → List Float → List Float
floats_behind k xs = choose (eqb k 0) xs (drop 3 xs)

feet_read : List ℕ → List Float → List OptionalFoot
feet_read [] xs = []
feet_read (k ∷ ks) xs = foot_read k xs ∷ feet_read ks (floats_behind k xs)

known_back : (b : Bool) (p : Point) (xs : List Float) →
    foot_read (choose b 2 1) (coordinates p ++ xs) ≡ Some (record { point = p; lifted = b })
unfolding foot_read
known_back true p xs = refl
known_back false p xs = refl

floats_back : (b : Bool) (p : Point) (xs : List Float) → floats_behind (choose b 2 1) (coordinates p ++ xs) ≡ xs
unfolding floats_behind
floats_back true p xs = refl
floats_back false p xs = refl

feet_back : (fs : List OptionalFoot) → feet_read (map foot_mark fs) (values foot_values fs) ≡ fs
unfolding feet_read foot_read floats_behind
feet_back [] = refl
feet_back (None ∷ fs) = ap (λ (gs : List OptionalFoot). None ∷ gs) (feet_back fs)
feet_back (Some f ∷ fs) =
    ap₂ (λ (g : OptionalFoot) (gs : List OptionalFoot). g ∷ gs) (known_back f.lifted f.point (values foot_values fs))
    (ap (λ (xs : List Float). feet_read (map foot_mark fs) xs) (floats_back f.lifted f.point (values foot_values fs)) ∙ feet_back fs)

-- ---- six feet of a list; a refusal has no marks, and six feet have
abbrev six_of : List OptionalFoot → OptionalLegPositions
six_of fs = six_legs (λ l. get_or fs (number l) None)

pose_back : (p : OptionalLegPositions) → six_of (feet_read (given_pose p).marks (given_pose p).values) ≡ p
unfolding given_pose
pose_back p = ap six_of (feet_back (row (leg_of p)))

pose_from_told : (p q : OptionalLegPositions) → given_pose p ≡ given_pose q → p ≡ q
pose_from_told p q e = sym (pose_back p) ∙ ap (λ (t : Told). six_of (feet_read t.marks t.values)) e ∙ pose_back q

pub told_loses_nothing : (a b : Result OptionalLegPositions Refusal) → told a ≡ told b → a ≡ b
unfolding given_pose
told_loses_nothing = told_by_loses_nothing given_pose pose_from_told (λ p. refl)

pub told_written_loses_nothing : (a b : Result ℕ Refusal) → told_written a ≡ told_written b → a ≡ b
told_written_loses_nothing =
    told_by_loses_nothing given_length (λ n m e. let k : n ∷ [] ≡ m ∷ [] = ap (λ (t : Told). t.marks) e in cc) (λ n. refl)

-- ---- a leg of six
pub leg_of_six : (g : Leg → OptionalFoot) (l : Leg) → leg_of (six_legs g) l ≡ g l
leg_of_six g left_front = refl
leg_of_six g right_front = refl
leg_of_six g left_middle = refl
leg_of_six g right_middle = refl
leg_of_six g left_rear = refl
leg_of_six g right_rear = refl

pub one_member_alone : (l : Leg) (ms ns : List Member) → value_for l ms ≡ value_for l ns → leg_of (pose_of ms) l ≡ leg_of (pose_of ns) l
one_member_alone l ms ns e =
    leg_of_six (λ k. foot_of (value_for k ms)) l ∙ ap foot_of e ∙ sym (leg_of_six (λ k. foot_of (value_for k ns)) l)
