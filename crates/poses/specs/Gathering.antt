-- How ours gathers what the members say, member by member, in the structs of the code; nothing of the request.
use Rattle.std.specs.Prelude.{ℕ, zero, suc, ◌-◌, Bool, true, false, not, ◌&&◌, ◌||◌, List, [], ◌∷◌, length, take, drop, replicate, ◌==◌}
use Rattle.std.specs.Prelude.{nat_eq, nat_lt, slice_index_or, slice_set}
use Rattle.std.specs.Prelude.{Option, Some, None, is_some}
use Rattle.std.specs.Option.{option_flatten}
use Rattle.numbers.specs.Told.{choose}
use Rattle.legs.specs.LegNumbers.{leg_number}
use Rattle.legs.specs.declared.leg.Leg.{Leg}
use Rattle.legs.specs.declared.leg.Leg.TheVariants.{LeftFront, RightFront, LeftMiddle, RightMiddle, LeftRear, RightRear}
use Rattle.numbers.specs.Door.{unless}
use Rattle.legs.specs.declared.Point.{Point}
use Rattle.poses.specs.Answers.{OptionalFoot, OptionalLegPositions, six_legs}
use Rattle.poses.specs.declared.values.Run.{Run}
use Rattle.poses.specs.declared.values.NumberRead.{NumberRead}
use Rattle.poses.specs.declared.values.ValueRead.{ValueRead}
use Rattle.poses.specs.declared.object.MemberRead.{MemberRead}
use Rattle.poses.specs.declared.object.Progress.{Progress}
use Rattle.poses.specs.Decimals.{read_as}
use Rattle.poses.specs.How.{NumberAt, byte, past, token, run_of, amount_at, number_at, null_at, three_at, value_at, member_at}
use Rattle.poses.specs.Names.{number, leg_named}
use Rattle.poses.specs.Reading.{foot_of}
use Rattle.poses.specs.Writing.{foot_permitted}

-- ---- numbers and values
abbrev pub run_read : ℕ → List ℕ → Run
run_read n s = record { parts = (run_of 8 n s).parts; taken = (run_of 8 n s).taken }

abbrev pub number_of : NumberAt → NumberRead
number_of x = record { minus = x.number.minus; parts = x.number.parts; next = x.next }

abbrev pub amount_read : Bool → List ℕ → ℕ → NumberRead
amount_read minus s i = number_of (amount_at minus s i)

abbrev pub number_read : List ℕ → ℕ → NumberRead
number_read s i = number_of (number_at s i)

-- what a leg has: nothing yet, or what its member says
abbrev pub Slot : Type 0
Slot = Option OptionalFoot

abbrev pub point_read : NumberRead → NumberRead → NumberRead → Point
point_read x y z =
    record { x = read_as x.minus x.parts; y = read_as y.minus y.parts; z = read_as z.minus z.parts }

abbrev pub null_read : List ℕ → ℕ → ValueRead
null_read s i = record { foot = foot_of (null_at s i).value; next = (null_at s i).next }

abbrev pub three_read : List ℕ → ℕ → ValueRead
three_read s i = record { foot = foot_of (three_at s i).value; next = (three_at s i).next }

abbrev pub value_read : List ℕ → ℕ → ValueRead
value_read s i = record { foot = foot_of (value_at s i).value; next = (value_at s i).next }

-- ---- names: the leg of a number, and the number of a leg, 6 where there is none
abbrev pub the_leg : ℕ → Option Leg
the_leg k =
    slice_index_or
    (Some LeftFront ∷ Some RightFront ∷ Some LeftMiddle ∷ Some RightMiddle ∷ Some LeftRear ∷ Some RightRear ∷ [])
    k None

abbrev pub number_or_6 : Option Leg → ℕ
number_or_6 (Some leg) = leg_number leg
number_or_6 None = 6

-- the number of the one leg whose name has so many bytes and begins with this one, 6 where there is none
abbrev pub likely : ℕ → ℕ → ℕ
likely n first =
    choose (first == 108) (choose (n == 10) 0 (choose (n == 11) 2 (choose (n == 9) 4 6)))
    (choose (n == 11) 1 (choose (n == 12) 3 (choose (n == 10) 5 6)))

unfoldable pub leg_between : List ℕ → ℕ → ℕ → ℕ
leg_between s from end = leg_named (take (end - 1 - from) (drop from s))

-- ---- a member
unfoldable pub member_read : List ℕ → ℕ → MemberRead
member_read s i =
    let m = member_at s i in
    record { leg = the_leg (leg_named m.member.name); foot = foot_of m.member.value; next = m.next }

-- ---- members
abbrev pub has_value : Slot → Bool
has_value slot = is_some slot

-- the slot of a leg
abbrev pub slot_at : List Slot → ℕ → Slot
slot_at slots k = slice_index_or slots k None

abbrev pub is_strange : List Slot → ℕ → Bool
is_strange slots k = choose (nat_lt k 6) (has_value (slot_at slots k)) true

abbrev pub placed : List Slot → ℕ → OptionalFoot → List Slot
placed slots k foot = choose (nat_lt k 6) (slice_set slots k (Some foot)) slots

unfoldable pub one_more : List ℕ → Progress → Progress
unfolding member_read
one_more s p =
    let m = member_read s p.at in
    let comma = nat_eq (byte s m.next) 44 in
    record {
      at = token (choose comma 44 125) s m.next;
      due = comma;
      outside = p.outside || not (foot_permitted m.foot);
      strange = p.strange || is_strange p.slots (number_or_6 m.leg);
      slots = placed p.slots (number_or_6 m.leg) m.foot;
    }

abbrev pub begun : ℕ → Bool → Progress
begun at due = record { at = at; due = due; outside = false; strange = false; slots = replicate 6 None }

-- so many members at most
unfoldable pub go_on : ℕ → List ℕ → Progress → Progress
unfolding one_more
go_on zero s p = p
go_on (suc most) s p = choose p.due (go_on most s (one_more s p)) p

abbrev pub members_read : List ℕ → ℕ → Progress
members_read s at = go_on (length s) s (begun at true)

unfoldable pub object_read : List ℕ → Progress
unfolding go_on
object_read s =
    let i = token 123 s (past s 0) in
    choose (byte s i == 125) (begun (token 125 s i) false) (members_read s i)

-- ---- what is made of it
abbrev pub is_complete : List Slot → Bool
is_complete slots =
    has_value (slot_at slots 0) && has_value (slot_at slots 1) && has_value (slot_at slots 2) && has_value (slot_at slots 3)
    && has_value (slot_at slots 4) && has_value (slot_at slots 5)

abbrev pub progress_refused : Progress → ℕ → ℕ
progress_refused p n =
    choose (p.due || not (p.at == n)) 13
    (choose p.outside 2 (unless (not p.strange && is_complete p.slots) 14))

abbrev pub foot_from : Slot → OptionalFoot
foot_from slot = option_flatten slot

unfoldable pub pose_from : List Slot → OptionalLegPositions
pose_from slots = six_legs (λ l. foot_from (slot_at slots (number l)))
