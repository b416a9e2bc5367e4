-- Bytes of a row go 80 places up, or 80 down, or become 0, at once or one by one; and what several such moves leave. Assumes nothing.
use Rattle.std.specs.Prelude.{◌≡◌, ℕ, suc, ◌+◌, ◌-◌, ◌<◌, ◌≤◌, List, [], ◌∷◌, ◌++◌, length, get_or, take, drop, set}
use mathlib.Core.Path.{sym, ap, ◌∙◌, subst}
use mathlib.Core.List.{append_assoc, append-nil}
use native.Mathlib.Nat.{suc-add}
use native.Mathlib.Omega.{arith}
use lib.ListN.{length-append, length-drop, length-replicate, take-append-drop, drop_of_length-le}
use lib.ListN.{get_or-append, replicate-append-replicate}
use lib.Seq.{slice, slice_empty, slice-cons, length-slice, set_at, take-suc, take_at, drop_at, drop-cons, drop-drop, append_snoc}
use lib.Seq.{length-take-le, get_or-take, get_or-drop, get_or-append-add, drop-append-le, take-append-le, take-take, sets, sets-eq}
use Rattle.std.specs.List.{copy_within}
use borrow.Rule.Slice.PartMut.{put_mid}
use Rattle.std.proofs.lemmas.List.{drop-take}
use Rattle.taught.specs.Room.{zeros, replaced, inserted, removed}
use Rattle.taught.specs.How.{up, down, cleared}

-- ---- a part moved 80 places up, or 80 down onto what stands before it; a part set to 0
pub moved_up : (l : List ℕ) (from to : ℕ) → from ≤ to → copy_within l from to (from + 80) ≡ up l to from
unfolding up
moved_up l from to h =
    let e : from + (to - from) ≡ to = omega arith in
    let f : from + 80 + (to - from) ≡ to + 80 = omega arith in
    append_assoc (take (from + 80) l) (take (to - from) (drop from l)) (drop (from + 80 + (to - from)) l)
    ∙ ap (λ (m : List ℕ). take (from + 80) l ++ (m ++ drop (from + 80 + (to - from)) l))
    (sym (drop-take from (to - from) l) ∙ ap (λ (n : ℕ). slice from n l) e)
    ∙ ap (λ (n : ℕ). take (from + 80) l ++ (slice from to l ++ drop n l)) f

pub moved_down : (l : List ℕ) (from to : ℕ) → from ≤ to → copy_within l (from + 80) (to + 80) from ≡ down l from to
unfolding down
moved_down l from to h =
    let n : to + 80 - (from + 80) ≡ to - from = omega arith in
    let e : from + 80 + (to - from) ≡ to + 80 = omega arith in
    let f : from + (to - from) ≡ to = omega arith in
    ap (λ (k : ℕ). take from l ++ take k (drop (from + 80) l) ++ drop (from + k) l) n
    ∙ append_assoc (take from l) (take (to - from) (drop (from + 80) l)) (drop (from + (to - from)) l)
    ∙ ap (λ (m : List ℕ). take from l ++ (m ++ drop (from + (to - from)) l))
    (sym (drop-take (from + 80) (to - from) l) ∙ ap (λ (k : ℕ). slice (from + 80) k l) e)
    ∙ ap (λ (k : ℕ). take from l ++ (slice (from + 80) (to + 80) l ++ drop k l)) f

pub set_to_0 : (l part : List ℕ) (from to : ℕ) → from ≤ to → to ≤ length l
    → part ≡ zeros (length (take (to - from) (drop from l))) → put_mid from (to - from) l part ≡ cleared l from to
unfolding cleared
set_to_0 l part from to h g is =
    let f : from + (to - from) ≡ to = omega arith in
    let behind : length (drop from l) ≡ length l - from = length-drop from l in
    let long : length (take (to - from) (drop from l)) ≡ to - from = length-take-le (to - from) (drop from l) (omega (arith, behind)) in
    ap (λ (m : List ℕ). put_mid from (to - from) l m) (is ∙ ap zeros long)
    ∙ ap (λ (m : List ℕ). take from l ++ (zeros (to - from) ++ m)) (drop-drop (to - from) from l ∙ ap (λ (k : ℕ). drop k l) f)

-- ---- one at a time: up, the last first
-- nothing has gone up yet
pub up_none : (l : List ℕ) (to : ℕ) → l ≡ up l to to
unfolding up
up_none l to = sym (ap (λ (m : List ℕ). take (to + 80) l ++ (m ++ drop (to + 80) l)) (slice_empty to l) ∙ take-append-drop (to + 80) l)

get_d_taken : (n : ℕ) (l : List ℕ) (i : ℕ) → i < n → n ≤ length l → (ys : List ℕ) → get_or (take n l ++ ys) i 0 ≡ get_or l i 0
get_d_taken n l i h k ys =
    get_or-append (take n l) ys 0 i (subst (λ (m : ℕ). i < m) (sym (length-take-le n l k)) h) ∙ get_or-take n l i 0 h

pub up_step : (l : List ℕ) (to k : ℕ) → k < to → to + 80 ≤ length l
    → set (up l to (suc k)) (k + 80) (get_or (up l to (suc k)) k 0) ≡ up l to k
unfolding up
up_step l to k h g =
    let rest : List ℕ = slice (suc k) to l ++ drop (to + 80) l in
    let r : get_or (take (suc k + 80) l ++ rest) k 0 ≡ get_or l k 0 = get_d_taken (suc k + 80) l k (omega arith) (omega arith) rest in
    let t : take (suc k + 80) l ≡ take (k + 80) l ++ (get_or l (k + 80) 0 ∷ []) =
    ap (λ (n : ℕ). take n l) (suc-add k 80) ∙ take-suc l (k + 80) 0 (omega arith) in
    ap (λ (x : ℕ). set (take (suc k + 80) l ++ rest) (k + 80) x) r
    ∙ ap (λ (m : List ℕ). set (m ++ rest) (k + 80) (get_or l k 0)) t
    ∙ ap (λ (m : List ℕ). set m (k + 80) (get_or l k 0)) (append_assoc (take (k + 80) l) (get_or l (k + 80) 0 ∷ []) rest)
    ∙ set_at (take (k + 80) l) (get_or l (k + 80) 0) rest (get_or l k 0) (k + 80) (length-take-le (k + 80) l (omega arith))
    ∙ ap (λ (m : List ℕ). take (k + 80) l ++ (m ++ drop (to + 80) l)) (sym (slice-cons k to l 0 h (omega arith)))

-- ---- a front that has changed, and what stands behind it: one byte more of the front
one_more : (front l : List ℕ) (i x : ℕ) → length front ≡ i → i < length l
    → set (front ++ drop i l) i x ≡ (front ++ (x ∷ [])) ++ drop (suc i) l
one_more front l i x long h =
    ap (λ (m : List ℕ). set (front ++ m) i x) (drop-cons l i 0 h)
    ∙ set_at front (get_or l i 0) (drop (suc i) l) x i long
    ∙ sym (append_snoc front x (drop (suc i) l))

slice_snoc : (f t : ℕ) (l : List ℕ) → f ≤ t → t < length l → slice f (suc t) l ≡ slice f t l ++ (get_or l t 0 ∷ [])
slice_snoc f t l h g =
    ap (drop f) (take-suc l t 0 g)
    ∙ drop-append-le f (take t l) (get_or l t 0 ∷ []) (subst (λ (n : ℕ). f ≤ n) (sym (length-take-le t l (omega arith))) h)

-- ---- down, the first first, as a front that has changed and what stands behind it
abbrev front_down : List ℕ → ℕ → ℕ → List ℕ
front_down l from i = take from l ++ slice (from + 80) (i + 80) l

front_down_long : (l : List ℕ) (from i : ℕ) → from ≤ i → i + 80 ≤ length l → length (front_down l from i) ≡ i
front_down_long l from i h g =
    let a : length (take from l) ≡ from = length-take-le from l (omega arith) in
    let b : length (slice (from + 80) (i + 80) l) ≡ i + 80 - (from + 80) = length-slice (from + 80) (i + 80) l g in
    length-append (take from l) (slice (from + 80) (i + 80) l) ∙ (omega (arith, a, b))

down_is : (l : List ℕ) (from i : ℕ) → down l from i ≡ front_down l from i ++ drop i l
unfolding down
down_is l from i = sym (append_assoc (take from l) (slice (from + 80) (i + 80) l) (drop i l))

pub down_none : (l : List ℕ) (from : ℕ) → l ≡ down l from from
unfolding down
down_none l from = sym (ap (λ (m : List ℕ). take from l ++ (m ++ drop from l)) (slice_empty (from + 80) l) ∙ take-append-drop from l)

pub down_step : (l : List ℕ) (from i : ℕ) → from ≤ i → i + 80 < length l
    → set (down l from i) i (get_or (down l from i) (i + 80) 0) ≡ down l from (suc i)
down_step l from i h g =
    let front = front_down l from i in
    let long : length front ≡ i = front_down_long l from i h (omega arith) in
    let byte : get_or (front ++ drop i l) (i + 80) 0 ≡ get_or l (i + 80) 0 =
    ap (λ (n : ℕ). get_or (front ++ drop i l) (n + 80) 0) (sym long)
    ∙ get_or-append-add front (drop i l) 80 0
    ∙ get_or-drop i l 80 0 in
    let next : (front ++ (get_or l (i + 80) 0 ∷ [])) ≡ front_down l from (suc i) =
    append_assoc (take from l) (slice (from + 80) (i + 80) l) (get_or l (i + 80) 0 ∷ [])
    ∙ ap (λ (m : List ℕ). take from l ++ m)
    (sym (slice_snoc (from + 80) (i + 80) l (omega arith) g) ∙ ap (λ (n : ℕ). slice (from + 80) n l) (sym (suc-add i 80))) in
    ap (λ (m : List ℕ). set m i (get_or m (i + 80) 0)) (down_is l from i)
    ∙ ap (λ (x : ℕ). set (front ++ drop i l) i x) byte
    ∙ one_more front l i (get_or l (i + 80) 0) long (omega arith)
    ∙ ap (λ (m : List ℕ). m ++ drop (suc i) l) next
    ∙ sym (down_is l from (suc i))

-- ---- to 0
pub cleared_none : (l : List ℕ) (from : ℕ) → l ≡ cleared l from from
unfolding cleared
cleared_none l from =
    let none : from - from ≡ 0 = omega arith in
    sym (ap (λ (n : ℕ). take from l ++ (zeros n ++ drop from l)) none ∙ take-append-drop from l)

pub cleared_step : (l : List ℕ) (from i : ℕ) → from ≤ i → i < length l → set (cleared l from i) i 0 ≡ cleared l from (suc i)
unfolding cleared
cleared_step l from i h g =
    let front : List ℕ = take from l ++ zeros (i - from) in
    let a : length (take from l) ≡ from = length-take-le from l (omega arith) in
    let b : length (zeros (i - from)) ≡ i - from = length-replicate (i - from) 0 in
    let long : length front ≡ i = length-append (take from l) (zeros (i - from)) ∙ (omega (arith, a, b)) in
    let n : i - from + 1 ≡ suc i - from = omega arith in
    ap (λ (m : List ℕ). set m i 0) (sym (append_assoc (take from l) (zeros (i - from)) (drop i l)))
    ∙ one_more front l i 0 long g
    ∙ ap (λ (m : List ℕ). m ++ drop (suc i) l)
    (append_assoc (take from l) (zeros (i - from)) (0 ∷ [])
    ∙ ap (λ (m : List ℕ). take from l ++ m) (replicate-append-replicate (i - from) 1 0 ∙ ap zeros n))
    ∙ append_assoc (take from l) (zeros (suc i - from)) (drop (suc i) l)

pub all_cleared : (l : List ℕ) (n : ℕ) → length l ≡ n → cleared l 0 n ≡ zeros n
unfolding cleared
all_cleared l n long =
    let all : n - 0 ≡ n = omega arith in
    let past : length l ≤ n = omega (arith, long) in
    ap (λ (k : ℕ). zeros k ++ drop n l) all
    ∙ ap (λ (m : List ℕ). zeros n ++ m) (drop_of_length-le l past) ∙ append-nil (zeros n)

-- ---- what the calls leave: a place stored over another; over the room that the places behind it left, gone up; and a place that the
-- places behind it went down onto, where what stood last is 0 now
pub stored_over : (l new : List ℕ) (at : ℕ) → length new ≡ 80 → at + 80 ≤ length l → sets l at new ≡ replaced at new l
stored_over l new at long h =
    let inside : at + length new ≤ length l = omega (arith, long, h) in
    sets-eq new l at inside
    ∙ append_assoc (take at l) new (drop (at + length new) l)
    ∙ ap (λ (n : ℕ). take at l ++ (new ++ drop (at + n) l)) long

pub stored_between : (l new : List ℕ) (at to : ℕ) → length new ≡ 80 → at ≤ to → to + 80 ≤ length l
    → sets (up l to at) at new ≡ inserted at to new l
unfolding up
stored_between l new at to long h g =
    let rest : List ℕ = slice at to l ++ drop (to + 80) l in
    let front : length (take (at + 80) l) ≡ at + 80 = length-take-le (at + 80) l (omega arith) in
    let far : length (take (at + 80) l ++ rest) ≡ length (take (at + 80) l) + length rest = length-append (take (at + 80) l) rest in
    let near : at ≤ length (take (at + 80) l) = omega (arith, front) in
    stored_over (take (at + 80) l ++ rest) new at long (omega (arith, front, far))
    ∙ ap (λ (m : List ℕ). m ++ (new ++ drop (at + 80) (take (at + 80) l ++ rest)))
    (take-append-le at (take (at + 80) l) rest near ∙ take-take at (at + 80) l (omega arith))
    ∙ ap (λ (m : List ℕ). take at l ++ (new ++ m)) (drop_at (take (at + 80) l) rest (at + 80) front)

zeros_round : (a b : ℕ) → zeros a ++ zeros b ≡ zeros b ++ zeros a
zeros_round a b =
    let same : a + b ≡ b + a = omega arith in
    replicate-append-replicate a b 0 ∙ ap zeros same ∙ sym (replicate-append-replicate b a 0)

drop_slice : (f t : ℕ) (l : List ℕ) → f ≤ t → t ≤ length l → drop f l ≡ slice f t l ++ drop t l
drop_slice f t l h g =
    ap (drop f) (sym (take-append-drop t l))
    ∙ drop-append-le f (take t l) (drop t l) (subst (λ (n : ℕ). f ≤ n) (sym (length-take-le t l g)) h)

pub gone_down : (l : List ℕ) (at last k : ℕ) → at ≤ last → last + 80 ≤ length l → drop (last + 80) l ≡ zeros k
    → cleared (down l at last) last (last + 80) ≡ removed at l
unfolding cleared
gone_down l at last k h g rest =
    let front = front_down l at last in
    let long : length front ≡ last = front_down_long l at last h g in
    let n : last + 80 - last ≡ 80 = omega arith in
    let behind_front : drop (last + 80) (front ++ drop last l) ≡ drop (last + 80) l =
    sym (drop-drop 80 last (front ++ drop last l))
    ∙ ap (drop 80) (drop_at front (drop last l) last long)
    ∙ drop-drop 80 last l in
    ap (λ (m : List ℕ). take last m ++ (zeros (last + 80 - last) ++ drop (last + 80) m)) (down_is l at last)
    ∙ ap (λ (m : List ℕ). m ++ (zeros (last + 80 - last) ++ drop (last + 80) (front ++ drop last l)))
    (take_at front (drop last l) last long)
    ∙ ap (λ (j : ℕ). front ++ (zeros j ++ drop (last + 80) (front ++ drop last l))) n
    ∙ ap (λ (m : List ℕ). front ++ (zeros 80 ++ m)) (behind_front ∙ rest)
    ∙ ap (λ (m : List ℕ). front ++ m) (zeros_round 80 k)
    ∙ ap (λ (m : List ℕ). front ++ (m ++ zeros 80)) (sym rest)
    ∙ append_assoc (take at l) (slice (at + 80) (last + 80) l) (drop (last + 80) l ++ zeros 80)
    ∙ ap (λ (m : List ℕ). take at l ++ m)
    (sym (append_assoc (slice (at + 80) (last + 80) l) (drop (last + 80) l) (zeros 80))
    ∙ ap (λ (m : List ℕ). m ++ zeros 80) (sym (drop_slice (at + 80) (last + 80) l (omega arith) g)))
