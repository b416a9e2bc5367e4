-- Sorted lists of places behave as a plain map: what is looked up after a place is put in or taken out, how long the list is then, that it
-- stays sorted, and which ids it has. Assumes nothing.
use Rattle.std.specs.Prelude.{◌≡◌, ℕ, zero, suc, ◌+◌, ◌<◌, ◌≤◌, Bool, true, false, eqb, ltb, ◌⊎◌, List, [], ◌∷◌, length}
use Prim.Native.Nat.{zero-le, suc-le-suc}
use native.Mathlib.Nat.{le_of_suc-le-suc, le_antisymm}
use native.Mathlib.Omega.{arith}
use mathlib.Core.Path.{refl, sym, ap, ◌∙◌, subst}
use mathlib.Core.Logic.{⊎_elim}
use borrow.Author.Tests.{ltb-true, ltb-false, eqb-true, eqb-false, eq-eqb, ne_eqb}
use Rattle.numbers.specs.Told.{choose}
use Rattle.numbers.proofs.Flags.{by_test, chosen, lt_or_le}
use Rattle.legs.specs.Legs.{Feet}
use Rattle.taught.specs.Map.{Slot, none, kept, there, Map, with, list_from, list_of}
use Rattle.taught.specs.Room.{Place, look_up}
use Rattle.taught.proofs.Written.{Good, Sound, ids_of, insert, remove}

-- ---- sound is sorted and not too long
abbrev pub Rising : ℕ → List Place → Type 0
Rising last [] = Unit {0}
Rising last (p ∷ ps) = (last < p.id) × Good p × Rising p.id ps

pub rising : (n last : ℕ) (ps : List Place) → Sound n last ps → Rising last ps
rising n last [] s = tt
rising zero last (p ∷ ps) s = absurd s
rising (suc n) last (p ∷ ps) s = (s.0, s.1, rising n p.id ps s.2)

pub few : (n last : ℕ) (ps : List Place) → Sound n last ps → length ps ≤ n
few n last [] s = zero-le
few zero last (p ∷ ps) s = absurd s
few (suc n) last (p ∷ ps) s = suc-le-suc (few n p.id ps s.2)

pub sound_of : (n last : ℕ) (ps : List Place) → length ps ≤ n → Rising last ps → Sound n last ps
sound_of n last [] l r = tt
sound_of zero last (p ∷ ps) l r = absurd (omega arith)
sound_of (suc n) last (p ∷ ps) l r = (r.0, r.1, sound_of n p.id ps (le_of_suc-le-suc l) r.2)

-- a sound list is one too under a smaller id and within more places
pub sound_more : (n m last : ℕ) (ps : List Place) → Sound n last ps → n ≤ m → Sound m last ps
sound_more n m last ps s more =
    sound_of m last ps (omega (arith, few n last ps s)) (rising n last ps s)

rising_lower : (last low : ℕ) (ps : List Place) → Rising last ps → low ≤ last → Rising low ps
rising_lower last low [] r l = tt
rising_lower last low (p ∷ ps) r l = (omega (arith, r.0), r.1, r.2)

pub sound_lower : (n last low : ℕ) (ps : List Place) → Sound n last ps → low ≤ last → Sound n low ps
sound_lower n last low ps s l = sound_of n low ps (few n last ps s) (rising_lower last low ps (rising n last ps s) l)

-- ---- an id that is not above what the list begins behind is not there
pub absent : (last k : ℕ) (ps : List Place) → Rising last ps → k ≤ last → look_up ps k ≡ none
absent last k [] r l = refl
absent last k (p ∷ ps) r l =
    rw (ne_eqb k p.id (λ e. omega (arith, r.0, e))) (absent p.id k ps r.2 (omega (arith, r.0)))

pub absent_below : (n last k : ℕ) (ps : List Place) → Sound n last ps → k ≤ last → look_up ps k ≡ none
absent_below n last k ps s l = absent last k ps (rising n last ps s) l

-- ---- two tests of which at most one holds go in either order; of two alike the first decides
either_order : {A : Type 0} (a b : Bool) (x y z : A) → (a ≡ true → b ≡ false) → choose a x (choose b y z) ≡ choose b y (choose a x z)
either_order true b x y z h = rw (h refl) refl
either_order false b x y z h = refl

first_decides : {A : Type 0} (a : Bool) (x y z : A) → choose a x z ≡ choose a x (choose a y z)
first_decides true x y z = refl
first_decides false x y z = refl

-- a test of the same number
same_test : (k a b : ℕ) → eqb a b ≡ true → eqb k a ≡ eqb k b
same_test k a b e = ap (eqb k) (eqb-true a b e)

-- ---- what is looked up once a place is put in
pub look_insert : (id : ℕ) (f : Feet) (ps : List Place) (k : ℕ) → look_up (insert id f ps) k ≡ with (look_up ps) id (kept f) k
look_insert id f [] k = refl
look_insert id f (p ∷ ps) k =
    by_test (ltb p.id id)
    (λ low. rw (low, look_insert id f ps k)
    (either_order (eqb k p.id) (eqb k id) (kept p.pose) (kept f) (look_up ps k) (λ e. ne_eqb k id (apart low e))))
    (λ high. rw high (by_test (eqb p.id id)
    (λ e. rw (e, same_test k p.id id e) (first_decides (eqb k id) (kept f) (kept p.pose) (look_up ps k)))
    (λ e. rw e refl)))
  where
    apart : ltb p.id id ≡ true → eqb k p.id ≡ true → k ≡ id → ⊥
    apart low e same = omega (arith, ltb-true p.id id low, eqb-true k p.id e, same)

-- and once the one with an id is taken out
taken_out : (last id : ℕ) (ps : List Place) → Rising last ps → (k : ℕ) → look_up (remove id ps) k ≡ with (look_up ps) id none k
taken_out last id [] r k = chosen (λ (s : Slot). none ≡ s) (eqb k id) none none (λ e. refl) (λ e. refl)
taken_out last id (p ∷ ps) r k =
    by_test (eqb p.id id)
    (λ e. rw (e, same_test k p.id id e) (by_test (eqb k id)
    (λ same. rw same (absent p.id k ps r.2 (omega (arith, eqb-true p.id id e, eqb-true k id same))))
    (λ other. rw other refl)))
    (λ e. rw (e, taken_out p.id id ps r.2 k)
    (either_order (eqb k p.id) (eqb k id) (kept p.pose) none (look_up ps k) (λ h. ne_eqb k id (apart e h))))
  where
    apart : eqb p.id id ≡ false → eqb k p.id ≡ true → k ≡ id → ⊥
    apart e h same = eqb-false p.id id e (sym (eqb-true k p.id h) ∙ same)

pub look_remove : (n last id : ℕ) (ps : List Place) → Sound n last ps → (k : ℕ) → look_up (remove id ps) k ≡ with (look_up ps) id none k
look_remove n last id ps s k = taken_out last id ps (rising n last ps s) k

-- ---- the list stays sorted
rise_insert : (last id : ℕ) (f : Feet) (ps : List Place) → Rising last ps → last < id → Good (record { id = id; pose = f })
    → Rising last (insert id f ps)
rise_insert last id f [] r above good = (above, good, tt)
rise_insert last id f (p ∷ ps) r above good =
    by_test (ltb p.id id)
    (λ low. rw low (r.0, r.1, rise_insert p.id id f ps r.2 (ltb-true p.id id low) good))
    (λ high. rw high (above, good, behind (ltb-false p.id id high)))
  where
    behind : id ≤ p.id → Rising id (choose (eqb p.id id) ps (p ∷ ps))
    behind h =
        chosen (Rising id) (eqb p.id id) ps (p ∷ ps)
        (λ e. rising_lower p.id id ps r.2 h)
        (λ e. (not_equal h (eqb-false p.id id e), r.1, r.2))
      where
        not_equal : id ≤ p.id → (p.id ≡ id → ⊥) → id < p.id
        not_equal h e = ⊎_elim (λ l. l) (λ l. absurd (e (le_antisymm l h))) (lt_or_le id p.id)

rise_remove : (last id : ℕ) (ps : List Place) → Rising last ps → Rising last (remove id ps)
rise_remove last id [] r = tt
rise_remove last id (p ∷ ps) r =
    chosen (Rising last) (eqb p.id id) ps (p ∷ remove id ps)
    (λ e. rising_lower p.id last ps r.2 (omega (arith, r.0)))
    (λ e. (r.0, r.1, rise_remove p.id id ps r.2))

-- ---- how long it is: one more, unless the id was there; and taking out makes none longer
pub long_insert : (last id : ℕ) (f : Feet) (ps : List Place) → Rising last ps
    → length (insert id f ps) ≡ choose (there (look_up ps id)) (length ps) (suc (length ps))
long_insert last id f [] r = refl
long_insert last id f (p ∷ ps) r =
    by_test (ltb p.id id)
    (λ low. rw (low, ne_eqb id p.id (λ e. omega (arith, ltb-true p.id id low, e)), long_insert p.id id f ps r.2)
    (one_more (there (look_up ps id)) (length ps)))
    (λ high. rw high (by_test (eqb p.id id)
    (λ e. rw (e, eq-eqb id p.id (sym (eqb-true p.id id e))) refl)
    (λ e. rw (e, absent p.id id ps r.2 (ltb-false p.id id high), ne_eqb id p.id (λ h. eqb-false p.id id e (sym h))) refl)))
  where
    one_more : (b : Bool) (n : ℕ) → suc (choose b n (suc n)) ≡ choose b (suc n) (suc (suc n))
    one_more true n = refl
    one_more false n = refl

long_remove : (id : ℕ) (ps : List Place) → length (remove id ps) ≤ length ps
long_remove id [] = zero-le
long_remove id (p ∷ ps) =
    chosen (λ (qs : List Place). length qs ≤ suc (length ps)) (eqb p.id id) ps (p ∷ remove id ps)
    (λ e. omega arith)
    (λ e. suc-le-suc (long_remove id ps))

-- a place goes in where its id is there, or where there is room
pub sound_insert : (n last id : ℕ) (f : Feet) (ps : List Place) → Sound n last ps → last < id → Good (record { id = id; pose = f })
    → (there (look_up ps id) ≡ true) ⊎ (length ps < n) → Sound n last (insert id f ps)
sound_insert n last id f ps s above good room =
    let r = rising n last ps s in
    let most : choose (there (look_up ps id)) (length ps) (suc (length ps)) ≤ n = ⊎_elim
    (λ is. rw is (few n last ps s))
    (λ less. chosen (λ (k : ℕ). k ≤ n) (there (look_up ps id)) (length ps) (suc (length ps)) (λ e. few n last ps s) (λ e. less)) room in
    sound_of n last (insert id f ps) (rw (long_insert last id f ps r) most) (rise_insert last id f ps r above good)

pub sound_remove : (n last id : ℕ) (ps : List Place) → Sound n last ps → Sound n last (remove id ps)
sound_remove n last id ps s =
    sound_of n last (remove id ps) (omega (arith, long_remove id ps, few n last ps s)) (rise_remove last id ps (rising n last ps s))

-- ---- the ids that a map lists are those of the places
pub length_ids : (ps : List Place) → length (ids_of ps) ≡ length ps
length_ids [] = refl
length_ids (p ∷ ps) = ap suc (length_ids ps)

-- only what the map has from the first number on is looked at
pub list_same : (n first : ℕ) (m m' : Map) → ((j : ℕ) → first ≤ j → m j ≡ m' j) → list_from n first m ≡ list_from n first m'
list_same zero first m m' same = refl
list_same (suc n) first m m' same =
    rw (same first (omega arith), list_same n (suc first) m m' (λ j l. same j (omega arith))) refl

-- the numbers up to 65535, n of them from above `last` on
module _ (n : ℕ)
    (goes_on : (last : ℕ) (ps : List Place) → Rising last ps → suc last + n ≡ 65536 → list_from n (suc last) (look_up ps) ≡ ids_of ps)
  where
    first_listed : (last : ℕ) (p : Place) (ps : List Place) → Rising last (p ∷ ps) → suc last + suc n ≡ 65536 → p.id ≡ suc last
        → list_from (suc n) (suc last) (look_up (p ∷ ps)) ≡ ids_of (p ∷ ps)
    first_listed last p ps r all is =
        let later : list_from n (suc (suc last)) (look_up (p ∷ ps)) ≡ ids_of ps =
        list_same n (suc (suc last)) (look_up (p ∷ ps)) (look_up ps) (λ j l. rw (ne_eqb j p.id (λ e. omega (arith, l, e, is))) refl)
        ∙ goes_on (suc last) ps (subst (λ (k : ℕ). Rising k ps) is r.2) (omega (arith, all)) in
        rw (eq-eqb (suc last) p.id (sym is)) (ap (λ (l : List ℕ). suc last ∷ l) later ∙ ap (λ (k : ℕ). k ∷ ids_of ps) (sym is))

    first_passed : (last : ℕ) (ps : List Place) → Rising (suc last) ps → suc last + suc n ≡ 65536
        → list_from (suc n) (suc last) (look_up ps) ≡ ids_of ps
    first_passed last ps r all =
        rw (absent (suc last) (suc last) ps r (omega arith)) (goes_on (suc last) ps r (omega (arith, all)))

    one_number : (last : ℕ) (ps : List Place) → Rising last ps → suc last + suc n ≡ 65536
        → list_from (suc n) (suc last) (look_up ps) ≡ ids_of ps
    one_number last [] r all = first_passed last [] tt all
    one_number last (p ∷ ps) r all =
        by_test (eqb p.id (suc last))
        (λ e. first_listed last p ps r all (eqb-true p.id (suc last) e))
        (λ e. first_passed last (p ∷ ps) (beyond (eqb-false p.id (suc last) e), r.1, r.2) all)
      where
        beyond : (p.id ≡ suc last → ⊥) → suc last < p.id
        beyond e = ⊎_elim (λ l. l) (λ l. absurd (e (le_antisymm l r.0))) (lt_or_le (suc last) p.id)

pub list_from_places : (n last : ℕ) (ps : List Place) → Rising last ps → suc last + n ≡ 65536 →
    list_from n (suc last) (look_up ps) ≡ ids_of ps
list_from_places zero last [] r all = refl
list_from_places zero last (p ∷ ps) r all = absurd (omega (arith, r.0, r.1.small, all))
list_from_places (suc n) last ps r all = one_number n (list_from_places n) last ps r all

pub list_of_places : (n : ℕ) (ps : List Place) → Sound n 0 ps → list_of (look_up ps) ≡ ids_of ps
unfolding list_of
list_of_places n ps s = list_from_places 65535 0 ps (rising n 0 ps s) refl
