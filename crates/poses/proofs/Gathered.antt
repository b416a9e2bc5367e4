-- What is gathered member by member says what the members say: the code's way through an object and the reading of its text agree.
use Rattle.std.specs.Prelude.{◌≡◌, ℕ, zero, suc, Bool, true, false, not, ◌||◌, eqb, ◌⊎◌, List, [], ◌∷◌, length}
use mathlib.Core.Path.{refl, ap, fun_ext, ◌∙◌, sym}
use mathlib.Core.Logic.{inl, inr, ⊎_elim}
use native.Mathlib.Omega.{arith}
use lib.ListN.{get_or-replicate}
use borrow.Author.Tests.{ne_eqb}
use Rattle.numbers.specs.Told.{Told, choose, answer}
use Rattle.numbers.specs.Door.{unless, either}
use Rattle.poses.specs.declared.object.Progress.{Progress}
use Rattle.poses.specs.Json.{Member, null}
use Rattle.poses.specs.How.{byte, nowhere, past, token, MemberAt, member_at, Found, found_from, found, derived, underived, reading}
use Rattle.poses.specs.Names.{number}
use Rattle.poses.specs.Answers.{six_legs, given_pose}
use Rattle.poses.specs.Reading.{leg_of_member, foot_of, all_inside, each_once, pose_of, read_told, from_json_told}
use Rattle.poses.specs.Writing.{foot_permitted}
use Rattle.std.specs.Prelude.{None}
use Rattle.poses.specs.Gathering.{Slot, is_strange, placed, member_read, one_more, go_on, object_read}
use Rattle.poses.specs.Gathering.{progress_refused, foot_from, pose_from}
use Rattle.poses.proofs.ByCases.{go_on_stops}
use Rattle.poses.proofs.Named.{below_six, leg_back}
use Rattle.poses.proofs.Folded.{slots_after, outside_after, strange_after, no_slots, outside_means, slots_mean, once_means}

-- ---- the two ways side by side: the members were too many, and both know of no end; or the object closed, at the same place
abbrev state : ℕ → Bool → Bool → Bool → List Slot → Progress
state at due outside strange slots = record { at = at; due = due; outside = outside; strange = strange; slots = slots }

abbrev Endless : List ℕ → Progress → Found → Type 0
Endless s p f = (p.due ≡ true) × (f.next ≡ nowhere s)

abbrev after : ℕ → Bool → Bool → List Slot → List Member → Progress
after next o b slots ms = state next false (outside_after o ms) (strange_after b slots ms) (slots_after slots ms)

abbrev Follows : List ℕ → Bool → Bool → List Slot → Progress → Found → Type 0
Follows s o b slots p f = Endless s p f ⊎ (p ≡ after f.next o b slots f.members)

-- one member more
abbrev with_member : ℕ → Bool → Bool → Bool → List Slot → Member → Progress
with_member at due o b slots m =
    state at due (o || not (foot_permitted (foot_of m.value))) (b || is_strange slots (leg_of_member m))
    (placed slots (leg_of_member m) (foot_of m.value))

-- one member, and a comma behind it or none
by_comma : (most : ℕ) (s : List ℕ) (comma : Bool) (m : MemberAt) (o b : Bool) (slots : List Slot) →
    ((at : ℕ) (o b : Bool) (slots : List Slot) → Follows s o b slots (go_on most s (state at true o b slots)) (found_from most s at)) →
    Follows s o b slots (go_on most s (with_member (token (choose comma 44 125) s m.next) comma o b slots m.member))
    (choose comma
    (record {
      members = m.member ∷ (found_from most s (token 44 s m.next)).members;
      next = (found_from most s (token 44 s m.next)).next;
    })
    (record { members = m.member ∷ []; next = token 125 s m.next }))
unfolding outside_after strange_after slots_after
by_comma most s true m o b slots before =
    let p = with_member (token 44 s m.next) true o b slots m.member in
    before p.at p.outside p.strange p.slots
by_comma most s false m o b slots before =
    inr (sym (go_on_stops most s (with_member (token 125 s m.next) false o b slots m.member) refl))

members_follow : (most : ℕ) (s : List ℕ) (at : ℕ) (o b : Bool) (slots : List Slot) →
    Follows s o b slots (go_on most s (state at true o b slots)) (found_from most s at)
unfolding go_on one_more member_read found_from
members_follow zero s at o b slots = inl (refl, refl)
members_follow (suc most) s at o b slots =
    rw (leg_back (member_at s at).member.name)
    (by_comma most s (eqb (byte s (member_at s at).next) 44) (member_at s at) o b slots (members_follow most s))

-- the whole object
by_closing : (s : List ℕ) (closes : Bool) (i : ℕ) →
    Follows s false false no_slots
    (choose closes (state (token 125 s i) false false false no_slots) (go_on (length s) s (state i true false false no_slots)))
    (choose closes (record { members = []; next = token 125 s i }) (found_from (length s) s i))
unfolding outside_after strange_after slots_after
by_closing s true i = inr refl
by_closing s false i = members_follow (length s) s i false false no_slots

object_follows : (s : List ℕ) → Follows s false false no_slots (object_read s) (found s)
unfolding object_read found
object_follows s = let i = token 123 s (past s 0) in by_closing s (eqb (byte s i) 125) i

-- ---- what each leg has
pose_means : (ms : List Member) → pose_from (slots_after no_slots ms) ≡ pose_of ms
unfolding pose_from
pose_means ms =
    ap six_legs
    (fun_ext
    (λ l.
    slots_mean no_slots ms null (number l) refl (below_six l)
    (ap foot_from (get_or-replicate 6 (number l) None None (below_six l)))))

-- ---- the refusals
refused_alike : (inside once : Bool) (t : Told) →
    answer (choose (not inside) 2 (unless once 14)) t ≡ answer (either (unless inside 2) (unless once 14)) t
refused_alike true once t = refl
refused_alike false once t = refl

told_alike : (n next : ℕ) (ms : List Member) (t : Bool) → eqb next n ≡ t →
    answer (progress_refused (after next false false no_slots ms) n) (given_pose (pose_from (slots_after no_slots ms)))
    ≡ read_told (choose t (derived ms) underived)
unfolding read_told
told_alike n next ms true e =
    rw (e, outside_means false ms, once_means ms, pose_means ms) (refused_alike (all_inside ms) (each_once ms) (given_pose (pose_of ms)))
told_alike n next ms false e = rw e

told_endless : (n : ℕ) (p : Progress) (f : Found) (t : Told) → p.due ≡ true → f.next ≡ suc n →
    answer (progress_refused p n) t ≡ read_told (choose (eqb f.next n) (derived f.members) underived)
unfolding read_told
told_endless n p f t due far =
    let no : eqb f.next n ≡ false = ne_eqb f.next n (λ e. omega arith) in
    simp (due, no)

pub gathered : (s : List ℕ) →
    answer (progress_refused (object_read s) (length s)) (given_pose (pose_from (object_read s).slots)) ≡ from_json_told s
unfolding reading
gathered s =
    ⊎_elim
    (λ (h : Endless s (object_read s) (found s)).
    told_endless (length s) (object_read s) (found s) (given_pose (pose_from (object_read s).slots)) h.0 h.1)
    (λ (e : object_read s ≡ after (found s).next false false no_slots (found s).members).
    ap (λ (p : Progress). answer (progress_refused p (length s)) (given_pose (pose_from p.slots))) e
    ∙ told_alike (length s) (found s).next (found s).members (eqb (found s).next (length s)) refl)
    (object_follows s)
