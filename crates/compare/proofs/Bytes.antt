-- Comparing what was read is comparing bytes: two good lines say the same exactly where their bytes are the same.
use mathlib.Core.Path.{◌≡◌, refl, ap, ◌∙◌, sym, subst}
use mathlib.Core.Bool.{Bool, true, false, ◌&&◌, false≢true}
use mathlib.Core.List.{List, [], ◌∷◌}
use Prim.Native.Nat.{ℕ, suc, ◌+◌, ◌≤◌, ◌<◌}
use native.Mathlib.Numerals.{add-one}
use lib.Dec.{eqb}
use lib.ListN.{length, get_or, drop, drop_of_length-le}
use lib.Seq.{drop-cons}
use borrow.Author.Tests.{eqb-true, eq-eqb}
use Rattle.numbers.specs.Told.{choose}
use Rattle.numbers.proofs.OnePass.{and_left, and_right}
use Rattle.numbers.proofs.Flags.{both_ways}
use Rattle.lines.specs.Fields.{parted}
use Rattle.lines.specs.Lines.{body, count_digits, Listable}
use Rattle.lines.specs.Reading.{line_of}
use Rattle.lines.specs.declared.listed.Moved.{Moved}
use Rattle.lines.specs.declared.listed.Line.{Line}
use Rattle.lines.specs.declared.listed.Line.TheVariants.{Header, Move, Arrived, Refused}
use Rattle.std.specs.Prelude.{Option, Some, None}
use Rattle.lines.specs.declared.compared.Told.TheVariants as told
use Rattle.lines.proofs.Listings.{line_back, line_exact}
use Rattle.lines.proofs.Versions.{same_line, wider}
use Rattle.compare.specs.Seen.{good_later, may_stand, seen_in, read}
use Rattle.compare.specs.Step.{same_move, told_moves, told_numbers, told_lines}
use Rattle.compare.specs.Rule.{same_bytes, moved_in, difference}
use Rattle.compare.specs.declared.seen.Seen.TheVariants.{Good, Bad}

-- ---- what a good line was read from
pub record ReadAs (version : ℕ) (s : List ℕ) (l : Line) : Type 0 where
  pub bytes : s ≡ body l
  pub listable : Listable 9 l
  pub stands : may_stand version l ≡ true

pub good_read : (version : ℕ) (s : List ℕ) (l : Line) → read version s ≡ Good l → ReadAs version s l
unfolding read
good_read version s l = by_found (line_of (count_digits version) s) refl
  where
    is_good : (t : Bool) (m : Line) → choose t (Good m) Bad ≡ Good l → (t ≡ true) × (m ≡ l)
    is_good true m e = (refl, cc)
    is_good false m e = let z : ◌≡◌ {A = Bool} true false = cc in absurd (false≢true (sym z))

    by_found : (f : Option Line) → line_of (count_digits version) s ≡ f → seen_in version f ≡ Good l → ReadAs version s l
    by_found None e g = let z : ◌≡◌ {A = Bool} true false = cc in absurd (false≢true (sym z))
    by_found (Some m) e g =
        let was = line_exact (count_digits version) s m e in
        let is = is_good (may_stand version m) m g in
        subst (ReadAs version s) is.1
        (record { bytes = was.bytes; listable = wider (count_digits version) m was.listable; stands = is.0 })

-- ---- equal bytes are equal values
pub one_line : (l m : Line) → Listable 9 l → Listable 9 m → body l ≡ body m → l ≡ m
one_line l m d e same = same_line l m (sym (line_back 9 l d) ∙ ap (line_of 9) same ∙ line_back 9 m e)

pub values_are_bytes : (v w : ℕ) (s t : List ℕ) (l m : Line) → read v s ≡ Good l → read w t ≡ Good m
    → (s ≡ t → l ≡ m) × (l ≡ m → s ≡ t)
values_are_bytes v w s t l m e f =
    let a = good_read v s l e in
    let b = good_read w t m f in (
      λ same. one_line l m a.listable b.listable (sym a.bytes ∙ same ∙ b.bytes),
      λ same. a.bytes ∙ ap body same ∙ sym b.bytes,
    )

-- ---- the test on bytes
pub same_is_equal : (s t : List ℕ) → same_bytes s t ≡ true → s ≡ t
unfolding same_bytes
same_is_equal [] [] e = refl
same_is_equal [] (c ∷ t) e = absurd (false≢true e)
same_is_equal (b ∷ s) [] e = absurd (false≢true e)
same_is_equal (b ∷ s) (c ∷ t) e =
    let h : b ≡ c = eqb-true b c (and_left (eqb b c) (same_bytes s t) e) in
    ap (λ (x : ℕ). x ∷ s) h ∙ ap (λ (u : List ℕ). c ∷ u) (same_is_equal s t (and_right (eqb b c) (same_bytes s t) e))

pub same_itself : (s : List ℕ) → same_bytes s s ≡ true
unfolding same_bytes
same_itself [] = refl
same_itself (b ∷ s) = rw (eq-eqb b b refl) (same_itself s)

-- the test, byte by byte from the left: what is seen so far, and what is left
pub same_step : (a b : List ℕ) (i : ℕ) (t : Bool) → i < length a → i < length b
    → (t && same_bytes (drop i a) (drop i b)) ≡ (t && eqb (get_or a i 0) (get_or b i 0) && same_bytes (drop (i + 1) a) (drop (i + 1) b))
unfolding same_bytes
same_step a b i t h g =
    rw (add-one i, drop-cons a i 0 h, drop-cons b i 0 g)
    (regroup t (eqb (get_or a i 0) (get_or b i 0)) (same_bytes (drop (suc i) a) (drop (suc i) b)))
  where
    regroup : (x y z : Bool) → (x && (y && z)) ≡ (x && y && z)
    regroup true y z = refl
    regroup false y z = refl

pub same_end : (a b : List ℕ) (i : ℕ) (t : Bool) → length a ≤ i → length b ≤ i → (t && same_bytes (drop i a) (drop i b)) ≡ t
unfolding same_bytes
same_end a b i t h g = rw (drop_of_length-le a h, drop_of_length-le b g) (with_true t)
  where
    with_true : (x : Bool) → (x && true) ≡ x
    with_true true = refl
    with_true false = refl

pub other_length : (a b : List ℕ) → (length a ≡ length b → ⊥) → same_bytes a b ≡ false
other_length a b apart = by_flag (same_bytes a b) refl
  where
    by_flag : (t : Bool) → same_bytes a b ≡ t → t ≡ false
    by_flag true e = absurd (apart (ap length (same_is_equal a b e)))
    by_flag false e = refl

-- a test on values that holds exactly where they are equal is the test on bytes
module _ (l m : Line) (d : Listable 9 l) (e : Listable 9 m) where
  same_test : (t : Bool) → (t ≡ true → l ≡ m) → (l ≡ m → t ≡ true) → t ≡ same_bytes (body l) (body m)
  same_test t to from =
      both_ways t (same_bytes (body l) (body m))
      (λ h. ap (same_bytes (body l)) (sym (ap body (to h))) ∙ same_itself (body l))
      (λ h. from (one_line l m d e (same_is_equal (body l) (body m) h)))

-- two steps
abbrev from_list : List ℕ → Moved
from_list p = record { count = get_or p 0 0; x = get_or p 1 0; y = get_or p 2 0; z = get_or p 3 0 }

same_moved : (a b : Moved) → same_move a b ≡ true → a ≡ b
unfolding same_move
same_moved a b h =
    let n = eqb a.count b.count in
    let x = eqb a.x b.x in
    let y = eqb a.y b.y in
    let z = eqb a.z b.z in
    let nxy = and_left (n && x && y) z h in
    let nx = and_left (n && x) y nxy in
    let en : a.count ≡ b.count = eqb-true a.count b.count (and_left n x nx) in
    let ex : a.x ≡ b.x = eqb-true a.x b.x (and_right n x nx) in
    let ey : a.y ≡ b.y = eqb-true a.y b.y (and_right (n && x) y nxy) in
    let ez : a.z ≡ b.z = eqb-true a.z b.z (and_right (n && x && y) z h) in
    rebuilt (a.count ∷ a.x ∷ a.y ∷ a.z ∷ []) (b.count ∷ b.x ∷ b.y ∷ b.z ∷ []) (rw (en, ex, ey, ez))
  where
    rebuilt : (p q : List ℕ) → p ≡ q → from_list p ≡ from_list q
    rebuilt p q e = ap from_list e

moved_itself : (a : Moved) → same_move a a ≡ true
unfolding same_move
moved_itself a = rw (eq-eqb a.count a.count refl, eq-eqb a.x a.x refl, eq-eqb a.y a.y refl, eq-eqb a.z a.z refl)

-- ---- what two good lines behind line 1 tell, by their values and by their bytes
same_number : (kind : ℕ → Line) (k n m : ℕ) → Listable 9 (kind n) → Listable 9 (kind m) → (kind n ≡ kind m → n ≡ m)
    → told_numbers k n m ≡ choose (same_bytes (body (kind n)) (body (kind m))) told.Same (told.Differs k)
unfolding told_numbers
same_number kind k n m d e back =
    ap (λ (t : Bool). choose t told.Same (told.Differs k))
    (same_test (kind n) (kind m) d e (eqb n m) (λ h. ap kind (eqb-true n m h)) (λ h. eq-eqb n m (back h)))

by_kinds : (k : ℕ) (l m : Line) → Listable 9 l → Listable 9 m → good_later l ≡ true → good_later m ≡ true
    → told_lines k l m ≡ choose (same_bytes (body l) (body m)) told.Same (difference k (moved_in l) (moved_in m))
unfolding told_lines told_moves good_later difference body parted same_bytes
by_kinds k (Header a) m d e g h = absurd (false≢true g)
by_kinds k (Move a) (Header b) d e g h = absurd (false≢true h)
by_kinds k (Move a) (Move b) d e g h =
    ap (λ (t : Bool). choose t told.Same (told.Moves (record { position = k; bench = a; office = b })))
    (same_test (Move a) (Move b) d e (same_move a b) (λ t. ap Move (same_moved a b t))
    (λ t. let same : a ≡ b = cc in ap (same_move a) (sym same) ∙ moved_itself a))
by_kinds k (Move a) (Arrived b) d e g h = refl
by_kinds k (Move a) (Refused b) d e g h = refl
by_kinds k (Arrived a) (Header b) d e g h = absurd (false≢true h)
by_kinds k (Arrived a) (Move b) d e g h = refl
by_kinds k (Arrived a) (Arrived b) d e g h = same_number Arrived k a b d e (λ t. cc)
by_kinds k (Arrived a) (Refused b) d e g h = refl
by_kinds k (Refused a) (Header b) d e g h = absurd (false≢true h)
by_kinds k (Refused a) (Move b) d e g h = refl
by_kinds k (Refused a) (Arrived b) d e g h = refl
by_kinds k (Refused a) (Refused b) d e g h = same_number Refused k a b d e (λ t. cc)

-- two headers tell nothing, whatever their versions: "header aside"
pub headers_aside : (k v w : ℕ) → told_lines k (Header v) (Header w) ≡ told.Same
unfolding told_lines
headers_aside k v w = refl

stands_later : (version : ℕ) (l : Line) → eqb version 0 ≡ false → may_stand version l ≡ true → good_later l ≡ true
unfolding may_stand
stands_later version l later h = rw later at h

pub told_by_bytes : (k v w : ℕ) (s t : List ℕ) (l m : Line) → eqb v 0 ≡ false → eqb w 0 ≡ false → read v s ≡ Good l → read w t ≡ Good m
    → told_lines k l m ≡ choose (same_bytes s t) told.Same (difference k (moved_in l) (moved_in m))
told_by_bytes k v w s t l m v_later w_later e f =
    let a = good_read v s l e in
    let b = good_read w t m f in
    by_kinds k l m a.listable b.listable (stands_later v l v_later a.stands) (stands_later w m w_later b.stands)
    ∙ ap (λ (x : List ℕ). choose (same_bytes x (body m)) told.Same (difference k (moved_in l) (moved_in m))) (sym a.bytes)
    ∙ ap (λ (x : List ℕ). choose (same_bytes s x) told.Same (difference k (moved_in l) (moved_in m))) (sym b.bytes)
