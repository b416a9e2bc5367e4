-- What the members of a list make of the six slots, of `outside` and of `strange`, one after the other; and that this is what the request
-- says of the list as a whole.
use Rattle.std.specs.Prelude.{◌≡◌, ℕ, ◌+◌, ◌<◌, Bool, true, false, not, ◌&&◌, ◌||◌, eqb, ltb, List, [], ◌∷◌, length, set, replicate}
use mathlib.Core.Path.{refl, sym, ap, subst, ◌∙◌}
use mathlib.Core.Bool.{true≢false}
use native.Mathlib.Nat.{add-zero}
use native.Mathlib.Omega.{arith}
use lib.ListN.{length-set, get_or-replicate}
use lib.Seq.{get_or-set_same, get_or-set_other}
use borrow.Author.Tests.{eqb-true, eqb-false, eq-eqb, lt-ltb, ltb-true, not-true}
use Rattle.numbers.specs.Told.{choose, mark}
use Rattle.numbers.proofs.OnePass.{and_left, and_right}
use Rattle.legs.specs.Legs.{Leg, every}
use Rattle.numbers.proofs.Flags.{chosen, both_ways, and_both, or_left, or_right}
use Rattle.poses.specs.Json.{Value, null, three, Member}
use Rattle.poses.specs.Names.{number}
use Rattle.poses.specs.Reading.{inside, all_inside, leg_of_member, times, all_known, each_once, foot_of, value_from}
use Rattle.poses.specs.Gathering.{Slot, slot_at, has_value, is_strange, placed, is_complete, foot_from}
use Rattle.poses.specs.Answers.{OptionalFoot}
use Rattle.poses.specs.Writing.{foot_permitted}
use Rattle.std.specs.Prelude.{Some, None}
use Rattle.legs.proofs.OnePass.{each_true, every_true}
use Rattle.poses.proofs.Named.{below_six, at_legs}

-- ---- the members' work
unfoldable pub slots_after : List Slot → List Member → List Slot
slots_after slots [] = slots
slots_after slots (m ∷ ms) = slots_after (placed slots (leg_of_member m) (foot_of m.value)) ms

unfoldable pub outside_after : Bool → List Member → Bool
outside_after o [] = o
outside_after o (m ∷ ms) = outside_after (o || not (foot_permitted (foot_of m.value))) ms

unfoldable pub strange_after : Bool → List Slot → List Member → Bool
strange_after b slots [] = b
strange_after b slots (m ∷ ms) =
    strange_after (b || is_strange slots (leg_of_member m)) (placed slots (leg_of_member m) (foot_of m.value)) ms

abbrev pub no_slots : List Slot
no_slots = replicate 6 None

-- ---- of flags and their marks
or_false : (o : Bool) → o ≡ (o || false)
or_false true = refl
or_false false = refl

marked_one : (b : Bool) → mark b ≡ 1 → b ≡ true
marked_one true e = refl
marked_one false e = absurd (omega arith)

unmarked : (b : Bool) (n : ℕ) → mark b + (1 + n) ≡ 1 → b ≡ false
unmarked true n e = absurd (omega arith)
unmarked false n e = refl

-- ---- 2: a number outside
inside_by_slot : (v : Value) → foot_permitted (foot_of v) ≡ inside v
inside_by_slot null = refl
inside_by_slot (three x y z) = refl

either_outside : (o a b : Bool) → ((o || not a) || not b) ≡ (o || not (a && b))
either_outside true a b = refl
either_outside false true b = refl
either_outside false false b = refl

pub outside_means : (o : Bool) (ms : List Member) → outside_after o ms ≡ (o || not (all_inside ms))
unfolding outside_after all_inside
outside_means o [] = or_false o
outside_means o (m ∷ ms) =
    outside_means (o || not (foot_permitted (foot_of m.value))) ms
    ∙ ap (λ (b : Bool). (o || not b) || not (all_inside ms)) (inside_by_slot m.value)
    ∙ either_outside o (inside m.value) (all_inside ms)

-- ---- a slot that is filled
pub length_placed : (slots : List Slot) (j : ℕ) (f : OptionalFoot) → length (placed slots j f) ≡ length slots
length_placed slots j f =
    chosen (λ (r : List Slot). length r ≡ length slots) (ltb j 6) (set slots j (Some f)) slots (λ e. length-set slots j (Some f))
    (λ e. refl)

placed_same : (slots : List Slot) (j k : ℕ) (f : OptionalFoot) → length slots ≡ 6 → k < 6 → eqb j k ≡ true →
    slot_at (placed slots j f) k ≡ Some f
placed_same slots j k f six h e =
    let q : j ≡ k = eqb-true j k e in
    rw (q, lt-ltb k 6 h) (get_or-set_same slots k (Some f) None (omega arith))

placed_other : (slots : List Slot) (j k : ℕ) (f : OptionalFoot) → eqb j k ≡ false → slot_at (placed slots j f) k ≡ slot_at slots k
placed_other slots j k f e =
    chosen (λ (r : List Slot). slot_at r k ≡ slot_at slots k) (ltb j 6) (set slots j (Some f)) slots
    (λ t. get_or-set_other slots j k (Some f) None (λ q. eqb-false j k e (sym q)))
    (λ t. refl)

-- ---- the value of a leg
foot_placed : (slots : List Slot) (j k : ℕ) (u v : Value) (b : Bool) → length slots ≡ 6 → k < 6 → foot_from (slot_at slots k) ≡ foot_of v →
    eqb j k ≡ b → foot_from (slot_at (placed slots j (foot_of u)) k) ≡ foot_of (choose b u v)
foot_placed slots j k u v true six h was e = ap foot_from (placed_same slots j k (foot_of u) six h e)
foot_placed slots j k u v false six h was e = ap foot_from (placed_other slots j k (foot_of u) e) ∙ was

pub slots_mean : (slots : List Slot) (ms : List Member) (v : Value) (k : ℕ) → length slots ≡ 6 → k < 6 →
    foot_from (slot_at slots k) ≡ foot_of v → foot_from (slot_at (slots_after slots ms) k) ≡ foot_of (value_from v k ms)
unfolding slots_after value_from
slots_mean slots [] v k six h was = was
slots_mean slots (m ∷ ms) v k six h was =
    let j = leg_of_member m in
    slots_mean (placed slots j (foot_of m.value)) ms (choose (eqb j k) m.value v) k (length_placed slots j (foot_of m.value) ∙ six) h
    (foot_placed slots j k m.value v (eqb j k) six h was refl)

-- ---- 14: how often a leg is there, counted with what its slot has
abbrev count : List Slot → ℕ → ℕ
count slots k = mark (has_value (slot_at slots k))

one_placed : (slots : List Slot) (j k : ℕ) (v : Value) (n : ℕ) (b : Bool) → length slots ≡ 6 → k < 6 → has_value (slot_at slots j) ≡ false →
    eqb j k ≡ b → count slots k + (mark b + n) ≡ count (placed slots j (foot_of v)) k + n
one_placed slots j k v n true six h free e =
    let q : j ≡ k = eqb-true j k e in
    let none : count slots k ≡ 0 = ap mark (subst (λ (i : ℕ). has_value (slot_at slots i) ≡ false) q free) in
    let one : count (placed slots j (foot_of v)) k ≡ 1 =
    ap (λ (slot : Slot). mark (has_value slot)) (placed_same slots j k (foot_of v) six h e) in
    omega arith
one_placed slots j k v n false six h free e =
    let same : count (placed slots j (foot_of v)) k ≡ count slots k =
    ap (λ (slot : Slot). mark (has_value slot)) (placed_other slots j k (foot_of v) e) in
    omega arith

known_and_free : (t h : Bool) → choose t h true ≡ false → (t ≡ true) × (h ≡ false)
known_and_free true h e = (refl, e)
known_and_free false h e = absurd (true≢false e)

pub never_strange : (b : Bool) (slots : List Slot) (ms : List Member) → length slots ≡ 6 → strange_after b slots ms ≡ false →
    (b ≡ false) × (all_known ms ≡ true) × ((k : ℕ) → k < 6 → count slots k + times k ms ≡ count (slots_after slots ms) k)
unfolding strange_after slots_after all_known times
never_strange b slots [] six e = (e, refl, λ k h. add-zero (count slots k))
never_strange b slots (m ∷ ms) six e =
    let j = leg_of_member m in
    let foot = foot_of m.value in
    let was = never_strange (b || is_strange slots j) (placed slots j foot) ms (length_placed slots j foot ∙ six) e in
    let free = known_and_free (ltb j 6) (has_value (slot_at slots j)) (or_right b (is_strange slots j) was.0) in (
      or_left b (is_strange slots j) was.0,
      and_both (ltb j 6) (all_known ms) free.0 was.1,
      λ k h. one_placed slots j k m.value (times k ms) (eqb j k) six h free.1 refl ∙ was.2 k h,
    )

pub once_each : (slots : List Slot) (ms : List Member) → length slots ≡ 6 → all_known ms ≡ true →
    ((k : ℕ) → k < 6 → count slots k + times k ms ≡ 1) →
    (strange_after false slots ms ≡ false) × ((k : ℕ) → k < 6 → count (slots_after slots ms) k ≡ 1)
unfolding strange_after slots_after all_known times
once_each slots [] six known once = (refl, λ k h. sym (add-zero (count slots k)) ∙ once k h)
once_each slots (m ∷ ms) six known once =
    let j = leg_of_member m in
    let foot = foot_of m.value in
    let below : ltb j 6 ≡ true = and_left (ltb j 6) (all_known ms) known in
    let low : j < 6 = ltb-true j 6 below in
    let free : has_value (slot_at slots j) ≡ false =
    unmarked (has_value (slot_at slots j)) (times j ms)
    (ap (λ (b : Bool). count slots j + (mark b + times j ms)) (sym (eq-eqb j j refl)) ∙ once j low) in
    let not_strange : is_strange slots j ≡ false = simp (below, free) in
    let after =
    once_each (placed slots j foot) ms (length_placed slots j foot ∙ six) (and_right (ltb j 6) (all_known ms) known)
    (λ k h. sym (one_placed slots j k m.value (times k ms) (eqb j k) six h free refl) ∙ once k h) in
    (ap (λ (b : Bool). strange_after b (placed slots j foot) ms) not_strange ∙ after.0, after.1)

-- ---- the six, each once
nothing_yet : (k : ℕ) → k < 6 → count no_slots k ≡ 0
nothing_yet k h = ap (λ (slot : Slot). mark (has_value slot)) (get_or-replicate 6 k None None h)

pub once_means : (ms : List Member) → (not (strange_after false no_slots ms) && is_complete (slots_after no_slots ms)) ≡ each_once ms
once_means ms = both_ways (not strange && is_complete slots) (each_once ms) there back
  where
    strange : Bool
    strange = strange_after false no_slots ms

    slots : List Slot
    slots = slots_after no_slots ms

    full : Leg → Bool
    full l = has_value (slot_at slots (number l))

    once : Leg → Bool
    once l = eqb (times (number l) ms) 1

    there : (not strange && is_complete slots) ≡ true → each_once ms ≡ true
    there e =
        let was = never_strange false no_slots ms refl (not-true strange (and_left (not strange) (is_complete slots) e)) in
        let has : (l : Leg) → full l ≡ true = each_true full (and_right (not strange) (is_complete slots) e) in
        and_both (all_known ms) (every once) was.1
        (every_true once
        (λ l.
        let none = nothing_yet (number l) (below_six l) in
        let one : count slots (number l) ≡ 1 = ap mark (has l) in
        eq-eqb (times (number l) ms) 1 (omega (arith, none, one, was.2 (number l) (below_six l)))))

    back : each_once ms ≡ true → (not strange && is_complete slots) ≡ true
    back e =
        let each : (k : ℕ) → k < 6 → times k ms ≡ 1 =
        at_legs (λ k. times k ms ≡ 1)
        (λ l. eqb-true (times (number l) ms) 1 (each_true once (and_right (all_known ms) (every once) e) l)) in
        let after =
        once_each no_slots ms refl (and_left (all_known ms) (every once) e) (λ k h. omega (arith, nothing_yet k h, each k h)) in
        and_both (not strange) (is_complete slots) (ap not after.0)
        (every_true full (λ l. marked_one (full l) (after.1 (number l) (below_six l))))
