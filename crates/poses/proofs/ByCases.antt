-- What a number, a value, a member and an object read as in each case and step, over any text and place.
use Rattle.std.specs.Prelude.{◌≡◌, ℕ, zero, suc, ◌+◌, ◌-◌, ◌<◌, ◌≤◌, Bool, true, false, not, ◌||◌, eqb, List, drop}
use mathlib.Core.Path.{refl, sym, ap, ◌∙◌}
use native.Mathlib.Omega.{arith}
use borrow.Author.Tests.{eq-eqb, ne_eqb}
use Rattle.numbers.specs.Told.{choose}
use Rattle.legs.specs.declared.Point.{Point}
use Rattle.legs.specs.declared.Foot.{Foot}
use Rattle.poses.specs.Json.{is_digit}
use Rattle.poses.specs.How.{byte, nowhere, past, token, after, amount_at, three_at, value_at, name_end, member_at}
use Rattle.poses.specs.Gathering.{run_read, amount_read, number_read, null_read, three_read, value_read, point_read}
use Rattle.std.specs.Prelude.{Option, Some}
use Rattle.legs.specs.declared.leg.Leg.{Leg}
use Rattle.poses.specs.Writing.{foot_permitted}
use Rattle.poses.specs.Gathering.{Slot, the_leg, number_or_6, leg_between, member_read, is_strange, placed, one_more, begun, go_on}
use Rattle.poses.specs.Gathering.{members_read, object_read}
use Rattle.poses.specs.declared.values.Run.{Run}
use Rattle.poses.specs.declared.values.NumberRead.{NumberRead}
use Rattle.poses.specs.declared.values.ValueRead.{ValueRead}
use Rattle.poses.specs.declared.object.MemberRead.{MemberRead}
use Rattle.poses.specs.declared.object.Progress.{Progress}

abbrev number_to : Bool → ℕ → ℕ → NumberRead
number_to minus parts next = record { minus = minus; parts = parts; next = next }

module _ (minus : Bool) (s : List ℕ) (i : ℕ) (is : is_digit (byte s i) ≡ true) (point : byte s (i + 1) ≡ 46) (r : Run)
    (run : r ≡ run_read (byte s i - 48) (drop (i + 2) s)) where
  pub no_decimals : r.taken ≡ 0 → number_to minus 0 (nowhere s) ≡ amount_read minus s i
  unfolding amount_at
  no_decimals none =
      let e : (run_read (byte s i - 48) (drop (i + 2) s)).taken ≡ 0 = sym (ap (λ (q : Run). q.taken) run) ∙ none in
      simp (is, eq-eqb (byte s (i + 1)) 46 point, eq-eqb (run_read (byte s i - 48) (drop (i + 2) s)).taken 0 e)

  pub with_decimals : (r.taken ≡ 0 → ⊥) → number_to minus r.parts (i + 2 + r.taken) ≡ amount_read minus s i
  unfolding amount_at
  with_decimals some =
      let e : (run_read (byte s i - 48) (drop (i + 2) s)).taken ≡ 0 → ⊥ = λ z. some (ap (λ (q : Run). q.taken) run ∙ z) in
      ap (λ (q : Run). number_to minus q.parts (i + 2 + q.taken)) run
      ∙ simp (is, eq-eqb (byte s (i + 1)) 46 point, ne_eqb (run_read (byte s i - 48) (drop (i + 2) s)).taken 0 e)

-- three numbers, each step by the one before it
pub three_in_order : (s : List ℕ) (i : ℕ) {t p u q v o next : ℕ} {x y z : NumberRead} {point : Point} {foot : Foot}
    → t ≡ token 91 s i → x ≡ number_read s t → p ≡ past s x.next
    → u ≡ token 44 s p → y ≡ number_read s u → q ≡ past s y.next
    → v ≡ token 44 s q → z ≡ number_read s v → o ≡ past s z.next
    → next ≡ after 93 s o → point ≡ point_read x y z → foot ≡ record { point = point; lifted = false }
    → ◌≡◌ {A = ValueRead} (record { foot = Some foot; next = next }) (three_read s i)
unfolding three_at
three_in_order s i ht hx hp hu hy hq hv hz ho hn hpoint hfoot =
    rw (hfoot, hpoint, hn, ho, hz, hv, hq, hy, hu, hp, hx, ht) refl

module _ (s : List ℕ) (i : ℕ) where
  pub value_null : byte s i ≡ 110 → null_read s i ≡ value_read s i
  unfolding value_at
  value_null is = simp (eq-eqb (byte s i) 110 is)

  pub value_three : (byte s i ≡ 110 → ⊥) → three_read s i ≡ value_read s i
  unfolding value_at
  value_three other = simp (ne_eqb (byte s i) 110 other)

-- ---- a member, and one more, each step by the one before it
pub member_in_order : (s : List ℕ) (i : ℕ) {from end p t next : ℕ} {leg : Option Leg} {v : ValueRead}
    → from ≡ after 34 s i → end ≡ name_end s from → p ≡ past s end → t ≡ token 58 s p → v ≡ value_read s t
    → leg ≡ the_leg (leg_between s from end) → next ≡ past s v.next
    → ◌≡◌ {A = MemberRead} (record { leg = leg; foot = v.foot; next = next }) (member_read s i)
unfolding member_read member_at leg_between
member_in_order s i hf he hp ht hv hl hn = rw (hn, hl, hv, ht, hp, he, hf) refl

pub one_more_in_order : (s : List ℕ) (p : Progress) {m : MemberRead} {b c at : ℕ} {inside strange : Bool} {next : List Slot}
    → m ≡ member_read s p.at → b ≡ byte s m.next → inside ≡ foot_permitted m.foot
    → strange ≡ is_strange p.slots (number_or_6 m.leg) → next ≡ placed p.slots (number_or_6 m.leg) m.foot → c ≡ choose (eqb b 44) 44 125
    → at ≡ token c s m.next
    → ◌≡◌ {A = Progress}
    (record { at = at; due = eqb b 44; outside = p.outside || not inside; strange = p.strange || strange; slots = next }) (one_more s p)
unfolding one_more
one_more_in_order s p hm hb hi hs hn hc ha = rw (ha, hc, hn, hs, hi, hb, hm) refl

-- ---- members, so many at most
pub go_on_stops : (n : ℕ) (s : List ℕ) (p : Progress) → p.due ≡ false → p ≡ go_on n s p
unfolding go_on
go_on_stops zero s p none = refl
go_on_stops (suc n) s p none = sym (ap (λ (b : Bool). choose b (go_on n s (one_more s p)) p) none)

pub go_on_steps : (n k : ℕ) (s : List ℕ) (p : Progress) → k < n → p.due ≡ true → go_on (n - (k + 1)) s (one_more s p) ≡ go_on (n - k) s p
unfolding go_on
go_on_steps n k s p more due =
    let e : n - k ≡ suc (n - (k + 1)) = omega arith in
    sym (ap (λ (m : ℕ). go_on m s p) e ∙ ap (λ (b : Bool). choose b (go_on (n - (k + 1)) s (one_more s p)) p) due)

pub go_on_ends : (n k : ℕ) (s : List ℕ) (p : Progress) → n ≤ k → p ≡ go_on (n - k) s p
unfolding go_on
go_on_ends n k s p h = let e : n - k ≡ 0 = omega arith in sym (ap (λ (m : ℕ). go_on m s p) e)

pub go_on_begins : (n : ℕ) (s : List ℕ) (p : Progress) → go_on (n - 0) s p ≡ go_on n s p
go_on_begins n s p = let e : n - 0 ≡ n = omega arith in ap (λ (m : ℕ). go_on m s p) e

-- ---- the whole object
pub object_empty : (s : List ℕ) (i : ℕ) → i ≡ token 123 s (past s 0) → byte s i ≡ 125 → begun (token 125 s i) false ≡ object_read s
unfolding object_read
object_empty s i hi closed =
    let e : byte s (token 123 s (past s 0)) ≡ 125 = ap (byte s) (sym hi) ∙ closed in
    ap (λ (j : ℕ). begun (token 125 s j) false) hi ∙ (simp (eq-eqb (byte s (token 123 s (past s 0))) 125 e))

pub object_members : (s : List ℕ) (i : ℕ) → i ≡ token 123 s (past s 0) → (byte s i ≡ 125 → ⊥) → members_read s i ≡ object_read s
unfolding object_read
object_members s i hi other =
    ap (members_read s) hi ∙ (simp (ne_eqb (byte s (token 123 s (past s 0))) 125 (λ e. other (ap (byte s) hi ∙ e))))
