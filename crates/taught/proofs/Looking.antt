-- What a look at a room goes through, place by place: how many hold a pose, whether all bytes behind are 0, where an id stands, which ids
-- there are.
use Rattle.std.specs.Prelude.{◌≡◌, ℕ, zero, suc, ◌+◌, ◌-◌, ◌*◌, ◌<◌, ◌≤◌, Bool, true, false, ◌&&◌, eqb, ltb, List, [], ◌∷◌, ◌++◌, length}
use Rattle.std.specs.Prelude.{get_or, drop, set}
use mathlib.Core.Path.{refl, sym, ap, ap₂, ◌∙◌}
use mathlib.Core.List.{append-nil}
use native.Mathlib.Nat.{add-zero, add-suc, suc-add}
use native.Mathlib.Omega.{arith}
use lib.ListN.{drop_of_length-le}
use lib.Seq.{drop-cons, drop-drop, set_at, append_snoc}
use borrow.Author.Tests.{eqb-true}
use Rattle.numbers.specs.Told.{choose}
use Rattle.numbers.proofs.OnePass.{and_left, and_right}
use Rattle.packed.specs.Packed.{pair_at}
use Rattle.packed.proofs.Back.{pair_behind}
use Rattle.taught.specs.Room.{id_of, behind, holds, used_from, all_zero, place_from, ids_from, zeros, used, taught}

-- the id of the place that begins there, and the places behind it
pub id_at : (l : List ℕ) (at : ℕ) → pair_at l at ≡ id_of (drop at l)
unfolding id_of
id_at l at = ap (pair_at l) (sym (add-zero at)) ∙ sym (pair_behind at l 0)

pub next_place : (l : List ℕ) (n : ℕ) → behind (drop (80 * n) l) ≡ drop (80 * suc n) l
next_place l n = let e : 80 * n + 80 ≡ 80 * suc n = omega arith in drop-drop 80 (80 * n) l ∙ ap (λ (k : ℕ). drop k l) e

-- ---- how many of N places hold poses, n of which are behind us
pub used_stops : (N n last : ℕ) (l : List ℕ) → n < N → holds last l ≡ false → n ≡ n + used_from (N - n) last l
unfolding used_from
used_stops N n last l h past =
    let more : N - n ≡ suc (N - suc n) = omega arith in
    sym (ap (λ (k : ℕ). n + used_from k last l) more
    ∙ ap (λ (t : Bool). n + choose t (suc (used_from (N - suc n) (id_of l) (behind l))) 0) past
    ∙ add-zero n)

pub used_goes_on : (N n last : ℕ) (l : List ℕ) → n < N → holds last l ≡ true
    → suc n + used_from (N - suc n) (id_of l) (behind l) ≡ n + used_from (N - n) last l
unfolding used_from
used_goes_on N n last l h there =
    let more : N - n ≡ suc (N - suc n) = omega arith in
    let rest = used_from (N - suc n) (id_of l) (behind l) in
    suc-add n rest
    ∙ sym (add-suc n rest)
    ∙ sym (ap (λ (k : ℕ). n + used_from k last l) more ∙ ap (λ (t : Bool). n + choose t (suc rest) 0) there)

pub used_ends : (N last : ℕ) (l : List ℕ) → N ≡ N + used_from (N - N) last l
unfolding used_from
used_ends N last l = let none : N - N ≡ 0 = omega arith in sym (ap (λ (k : ℕ). N + used_from k last l) none ∙ add-zero N)

-- ---- the first of N places whose id is not below this one
pub place_stops : (N k id : ℕ) (l : List ℕ) → k < N → ltb (id_of l) id ≡ false → k ≡ k + place_from (N - k) id l
unfolding place_from
place_stops N k id l h past =
    let more : N - k ≡ suc (N - suc k) = omega arith in
    sym (ap (λ (j : ℕ). k + place_from j id l) more
    ∙ ap (λ (t : Bool). k + choose t (suc (place_from (N - suc k) id (behind l))) 0) past
    ∙ add-zero k)

pub place_goes_on : (N k id : ℕ) (l : List ℕ) → k < N → ltb (id_of l) id ≡ true
    → suc k + place_from (N - suc k) id (behind l) ≡ k + place_from (N - k) id l
unfolding place_from
place_goes_on N k id l h below =
    let more : N - k ≡ suc (N - suc k) = omega arith in
    let rest = place_from (N - suc k) id (behind l) in
    suc-add k rest
    ∙ sym (add-suc k rest)
    ∙ sym (ap (λ (j : ℕ). k + place_from j id l) more ∙ ap (λ (t : Bool). k + choose t (suc rest) 0) below)

pub place_ends : (N id : ℕ) (l : List ℕ) → N ≡ N + place_from (N - N) id l
unfolding place_from
place_ends N id l = let none : N - N ≡ 0 = omega arith in sym (ap (λ (k : ℕ). N + place_from k id l) none ∙ add-zero N)

-- what counts places counts at most all
at_most : (t : Bool) (m n : ℕ) → m ≤ n → choose t (suc m) 0 ≤ suc n
at_most true m n h = omega arith
at_most false m n h = omega arith

pub used_most : (n last : ℕ) (l : List ℕ) → used_from n last l ≤ n
unfolding used_from
used_most zero last l = omega arith
used_most (suc n) last l = at_most (holds last l) (used_from n (id_of l) (behind l)) n (used_most n (id_of l) (behind l))

pub place_most : (n id : ℕ) (l : List ℕ) → place_from n id l ≤ n
unfolding place_from
place_most zero id l = omega arith
place_most (suc n) id l = at_most (ltb (id_of l) id) (place_from n id (behind l)) n (place_most n id (behind l))

-- ---- bytes that are all 0
and_right_side : (a b c : Bool) → (a && b && c) ≡ (a && (b && c))
and_right_side true b c = refl
and_right_side false b c = refl

pub zero_goes_on : (l : List ℕ) (i : ℕ) (good : Bool) → i < length l
    → (good && eqb (get_or l i 0) 0 && all_zero (drop (suc i) l)) ≡ (good && all_zero (drop i l))
unfolding all_zero
zero_goes_on l i good h =
    and_right_side good (eqb (get_or l i 0) 0) (all_zero (drop (suc i) l))
    ∙ ap (λ (m : List ℕ). good && all_zero m) (sym (drop-cons l i 0 h))

pub zero_ends : (l : List ℕ) (i : ℕ) (good : Bool) → length l ≤ i → good ≡ (good && all_zero (drop i l))
unfolding all_zero
zero_ends l i true h = sym (ap all_zero (drop_of_length-le l h))
zero_ends l i false h = refl

pub zero_is : (l : List ℕ) → all_zero l ≡ true → l ≡ zeros (length l)
unfolding all_zero
zero_is [] e = refl
zero_is (b ∷ l) e =
    ap₂ (λ (x : ℕ) (m : List ℕ). x ∷ m) (eqb-true b 0 (and_left (eqb b 0) (all_zero l) e)) (zero_is l (and_right (eqb b 0) (all_zero l) e))

-- ---- the ids of k places and of one more
pub one_id_more : (k : ℕ) (l : List ℕ) → ids_from (suc k) l ≡ ids_from k l ++ (id_of (drop (80 * k) l) ∷ [])
unfolding ids_from
one_id_more zero l = refl
one_id_more (suc k) l =
    let e : 80 + 80 * k ≡ 80 * suc k = omega arith in
    ap (λ (m : List ℕ). id_of l ∷ m)
    (one_id_more k (behind l)
    ∙ ap (λ (m : List ℕ). ids_from k (behind l) ++ (id_of m ∷ [])) (drop-drop (80 * k) 80 l ∙ ap (λ (n : ℕ). drop n l) e))

pub ids_long : (k : ℕ) (l : List ℕ) → length (ids_from k l) ≡ k
unfolding ids_from
ids_long zero l = refl
ids_long (suc k) l = ap suc (ids_long k (behind l))

pub id_stored : (N k : ℕ) (l : List ℕ) → k < N
    → set (ids_from k l ++ zeros (N - k)) k (id_of (drop (80 * k) l)) ≡ ids_from (suc k) l ++ zeros (N - suc k)
id_stored N k l h =
    let id = id_of (drop (80 * k) l) in
    let more : N - k ≡ suc (N - suc k) = omega arith in
    ap (λ (n : ℕ). set (ids_from k l ++ zeros n) k id) more
    ∙ set_at (ids_from k l) 0 (zeros (N - suc k)) id k (ids_long k l)
    ∙ sym (append_snoc (ids_from k l) id (zeros (N - suc k)))
    ∙ ap (λ (m : List ℕ). m ++ zeros (N - suc k)) (sym (one_id_more k l))

pub ids_begin : (N : ℕ) (l : List ℕ) → zeros N ≡ ids_from 0 l ++ zeros (N - 0)
unfolding ids_from
ids_begin N l = let all : N ≡ N - 0 = omega arith in ap zeros all

pub ids_end : (N k : ℕ) (l : List ℕ) → k ≡ N → ids_from k l ++ zeros (N - k) ≡ ids_from N l
ids_end N k l e =
    let none : N - N ≡ 0 = omega arith in
    ap (λ (j : ℕ). ids_from j l ++ zeros (N - j)) e ∙ ap (λ (j : ℕ). ids_from N l ++ zeros j) none ∙ append-nil (ids_from N l)

-- ---- a room that passes the test has 5,120 bytes, all 0 behind the used places
pub long_taught : (room : List ℕ) → taught room ≡ true → length room ≡ 5120
unfolding taught
long_taught room e =
    eqb-true (length room) 5120 (and_left (eqb (length room) 5120) (all_zero (drop (80 * used room) room)) e)

pub rest_taught : (room : List ℕ) → taught room ≡ true → all_zero (drop (80 * used room) room) ≡ true
unfolding taught
rest_taught room e = and_right (eqb (length room) 5120) (all_zero (drop (80 * used room) room)) e
