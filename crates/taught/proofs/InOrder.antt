-- The code's order of tests against the list of refusals: the pose, then the id.
use Rattle.std.specs.Prelude.{◌≡◌, ℕ, Bool, true, false, not, ◌&&◌, ◌||◌, eqb, ltb, leb, [], ◌∷◌}
use mathlib.Core.Path.{refl, ◌∙◌}
use mathlib.Core.Bool.{false≢true}
use native.Mathlib.Omega.{arith}
use borrow.Author.Tests.{ltb-true, ltb-false, lt-leb, le-leb}
use Rattle.numbers.specs.Told.{choose}
use Rattle.numbers.specs.Door.{either, unless, when, first_of}
use Rattle.numbers.specs.Limits.{foot_limit}
use Rattle.numbers.specs.Refusals.{number_of}
use Rattle.numbers.specs.declared.refusal.Refusal.{Refusal}
use Rattle.numbers.proofs.Numbers.{a_refusal_has_a_number}
use Rattle.numbers.proofs.Flags.{by_test}
use Rattle.numbers.proofs.OnePass.{kept_out_of, let_through_to}
use Rattle.legs.specs.Legs.{finite_feet, permitted_feet}
use Rattle.legs.specs.Legs.{Feet}
use Rattle.legs.proofs.OnePass.{in_feet_row}
use Rattle.taught.specs.declared.look.Seen.{Seen}
use Rattle.taught.specs.Map.{put_number}
use Rattle.taught.specs.Room.{most}

-- a new id finds the store full
abbrev pub is_full : Seen → Bool
is_full s = not s.there && leb most s.used

-- of a put, where the pose is not permitted, and where it is
module _ (s : Seen) (id : ℕ) (f : Feet) where
  pub pose_refused : permitted_feet foot_limit f ≡ false → choose (finite_feet f) 2 1 ≡ put_number id f (is_full s)
  pose_refused out = kept_out_of (finite_feet f) (permitted_feet foot_limit f) (either (when (eqb id 0) 15) (when (is_full s) 11)) out

  pub pose_taken : permitted_feet foot_limit f ≡ true → either (when (eqb id 0) 15) (when (is_full s) 11) ≡ put_number id f (is_full s)
  pose_taken p =
      let_through_to {F = finite_feet f} {P = permitted_feet foot_limit f} (either (when (eqb id 0) 15) (when (is_full s) 11))
      (in_feet_row f p) p

-- the id's two tests: 0 first, and then whether a new one finds room
pub id_0 : (id : ℕ) (r : Refusal) (next : ℕ) → number_of r ≡ unless (not (eqb id 0)) 15 → number_of r ≡ either (when (eqb id 0) 15) next
id_0 id r next e =
    by_test (eqb id 0)
    (λ z. e ∙ rw z refl)
    (λ z. absurd (a_refusal_has_a_number r (e ∙ rw z refl)))

pub room_for : (s : Seen) (id r : ℕ) → 0 ≡ unless (not (eqb id 0)) 15 → r ≡ unless (s.there || ltb s.used 64) 11
    → r ≡ either (when (eqb id 0) 15) (when (is_full s) 11)
room_for s id r none is =
    by_test (eqb id 0)
    (λ z. absurd (let fifteen : 0 ≡ 15 = none ∙ rw z refl in omega arith))
    (λ z. is ∙ by_leg s.there ∙ rw z refl)
  where
    by_leg : (t : Bool) → unless (t || ltb s.used 64) 11 ≡ when (not t && leb most s.used) 11
    by_leg true = refl
    by_leg false =
        by_test (ltb s.used 64)
        (λ b. rw (b, lt-leb 64 s.used (ltb-true s.used 64 b)) refl)
        (λ b. rw (b, le-leb 64 s.used (ltb-false s.used 64 b)) refl)

-- ---- where nothing is refused: the pose is permitted, the id is not 0 and a new one finds room; the id is there
pub put_flags : (F P z b : Bool) → eqb (first_of (unless F 1 ∷ unless P 2 ∷ when z 15 ∷ when b 11 ∷ [])) 0 ≡ true
    → ((F && P) ≡ true) × (z ≡ false) × (b ≡ false)
put_flags false P z b e = absurd (false≢true e)
put_flags true false z b e = absurd (false≢true e)
put_flags true true true b e = absurd (false≢true e)
put_flags true true false true e = absurd (false≢true e)
put_flags true true false false e = (refl, refl, refl)

pub find_flags : (z t : Bool) → eqb (first_of (when z 15 ∷ unless t 12 ∷ [])) 0 ≡ true → (z ≡ false) × (t ≡ true)
find_flags true t e = absurd (false≢true e)
find_flags false false e = absurd (false≢true e)
find_flags false true e = (refl, refl)
