-- A block's lines, one after the other, join to the block; what is left of a walk's block is that of document 01.
use Rattle.std.specs.Prelude.{◌≡◌, ℕ, zero, suc, ◌+◌, ◌-◌, ◌<◌, ◌≤◌, Bool, true, false, not, ◌&&◌, T, ltb, leb, List, [], ◌++◌, length}
use mathlib.Core.Path.{refl, sym, ap, ◌∙◌, subst}
use mathlib.Core.Bool.{false≢true}
use mathlib.Core.List.{append_assoc, append-nil}
use native.Mathlib.Omega.{arith}
use native.Mathlib.Numerals.{add-one}
use lib.Ieee.{Float, binary32, of_bits, eq}
use lib.Ieee.Bits.{is_true, is_false}
use borrow.Author.Tests.{ltb-true, ltb-false, leb-true, leb-false}
use Rattle.legs.specs.declared.Point.{Point}
use Rattle.moves.specs.Distance.{Each, same}
use Rattle.moves.specs.Moving.{move_towards, point_of}
use Rattle.walks.specs.Walk.{point_after, Walk}
use Rattle.walks.specs.Answers.{walk_refusal}
use Rattle.walks.proofs.Aim.{Fit}
use Rattle.walks.proofs.Ends.{let_in_ends}
use Rattle.numbers.specs.Told.{choose}
use Rattle.numbers.specs.Stored.{Stored}
use Rattle.lines.specs.Lines.{written, has_room}
use Rattle.lines.specs.declared.listed.Line.TheVariants.{Arrived, Refused}
use Rattle.numbers.proofs.Stores.{stored_more, stored_as, stored_nothing, stored_length}
use Rattle.listing.specs.Listing.{step, steps, WalkPrints}
use Rattle.listing.specs.Block.{end_line, most_steps, moves_on, left, text_of, is_done, lines_left, Part, IsNext}
use Rattle.listing.specs.declared.block.Rest.{Rest}
use Rattle.listing.specs.declared.block.Rest.TheVariants.{Walking, Refusing, Done}
use Rattle.listing.specs.declared.block.Next.{Next}
use Rattle.listing.specs.declared.block.Way.{Way}
use Rattle.numbers.specs.Refusals.{number_of}
use Rattle.numbers.specs.declared.refusal.Refusal.{Refusal}
use Rattle.numbers.proofs.Numbers.{has_a_number, a_refusal_has_a_number}
use Rattle.numbers.proofs.Flags.{not_true}
use Rattle.numbers.proofs.OnePass.{and_left, and_right}

-- of two tests, that the first fails and the second holds
pub is_going : (d b : Bool) → (not d && b) ≡ true → d ≡ false
is_going true b e = cc
is_going false b e = refl

pub is_fit : (d b : Bool) → (not d && b) ≡ true → b ≡ true
is_fit true b e = cc
is_fit false b e = e

-- at the target, and where no step may follow, the last line is left
at_target : (m : Float) (t : Point) (refused k d : ℕ) (l : Point) → same l t ≡ true → left m t refused k d l ≡ written (end_line k refused)
unfolding left
at_target m t refused k zero l e = refl
at_target m t refused k (suc d) l e = rw e

-- so where nothing is to be gone
abbrev nowhere : Point
nowhere = record { x = of_bits binary32 0; y = of_bits binary32 0; z = of_bits binary32 0 }

pub nowhere_left : (refused d : ℕ) → left (of_bits binary32 0) nowhere refused 0 d nowhere ≡ written (end_line 0 refused)
unfolding same eq of_bits
nowhere_left refused d = at_target (of_bits binary32 0) nowhere refused 0 d nowhere refl

-- elsewhere the line of the next step comes first
elsewhere : (m : Float) (t : Point) (refused k d : ℕ) (l : Point) → same l t ≡ false
    → left m t refused k (suc d) l ≡ written (step (k + 1) (point_of (move_towards l t m))) ++ left m t refused (k + 1) d
    (point_of (move_towards l t m))
unfolding left
elsewhere m t refused k d l e = rw e

-- what is left after j of the n steps of a walk from s: the lines of the i steps after them, and the last line
module _ (m : Float) (s t : Point) (n : ℕ) (w : Walk m s t n) where
  at_end : (j d : ℕ) → j ≡ n → left m t 0 j d (point_after m s t j) ≡ written (Arrived n)
  at_end j d e =
      at_target m t 0 j d (point_after m s t j)
      (is_true (same (point_after m s t j) t) (subst (λ (k : ℕ). T (same (point_after m s t k) t)) (sym e) w.arrives))
      ∙ ap (λ (k : ℕ). written (Arrived k)) e

  left_walk : (i j d : ℕ) → j + i ≡ n → i ≤ d → left m t 0 j d (point_after m s t j) ≡ steps m s t j i ++ written (Arrived n)
  unfolding steps point_after
  left_walk zero j d e h = at_end j d (none e)
    where
      none : j + 0 ≡ n → j ≡ n
      none e = omega arith
  left_walk (suc i) j zero e h = absurd (none h)
    where
      none : suc i ≤ 0 → ⊥
      none h = omega arith
  left_walk (suc i) j (suc d) e h =
      let p = point_after m s t (suc j) in
      let here : j < n = omega arith in
      let there : suc j + i ≡ n = omega arith in
      let fewer : i ≤ d = omega arith in
      elsewhere m t 0 j d (point_after m s t j) (is_false (same (point_after m s t j) t) (w.least j here))
      ∙ ap (λ (k : ℕ). written (step k p) ++ left m t 0 k d p) (add-one j)
      ∙ ap (λ (r : List ℕ). written (step (suc j) p) ++ r) (left_walk i (suc j) d there fewer)
      ∙ sym (append_assoc (written (step (suc j) p)) (steps m s t (suc j) i) (written (Arrived n)))

  -- from the start
  walk_left : n ≤ most_steps → left m t 0 0 (most_steps - 0) s ≡ steps m s t 0 n ++ written (Arrived n)
  unfolding point_after
  walk_left h =
      let all : 0 + n ≡ n = omega arith in
      let most : n ≤ most_steps - 0 = omega arith in
      left_walk n 0 (most_steps - 0) all most

-- the next line of a walk and what is left after it
module _ (w : Way) where
  abbrev next_place : Point
  next_place = point_of (move_towards w.last w.target w.max_move)

  abbrev pub stepped : Way
  stepped = record { max_move = w.max_move; last = next_place; target = w.target; made = w.made + 1; refused = w.refused }

  abbrev here : ℕ → List ℕ
  here d = left w.max_move w.target w.refused w.made d w.last

  pub goes_on : moves_on w.last w.target w.made ≡ true
      → IsNext (Walking w) (record { line = step (w.made + 1) next_place; rest = Walking stepped })
  unfolding text_of lines_left moves_on
  goes_on e =
      let away = not_true (same w.last w.target) (and_left (not (same w.last w.target)) (ltb w.made most_steps) e) in
      let more : w.made < most_steps =
      ltb-true w.made most_steps (and_right (not (same w.last w.target)) (ltb w.made most_steps) e) in
      let k : most_steps - w.made ≡ suc (most_steps - (w.made + 1)) = omega arith in
      record {
        joins =
            ap here k ∙ elsewhere w.max_move w.target w.refused w.made (most_steps - (w.made + 1)) w.last away;
        fewer = omega arith;
      }

  all_made : ltb w.made most_steps ≡ false → here (most_steps - w.made) ≡ written (end_line w.made w.refused)
  unfolding left
  all_made e =
      let none : most_steps ≤ w.made = ltb-false w.made most_steps e in
      let k : most_steps - w.made ≡ zero = omega arith in
      ap here k

  ends_by : (a b : Bool) → same w.last w.target ≡ a → ltb w.made most_steps ≡ b → (not a && b) ≡ false
      → here (most_steps - w.made) ≡ written (end_line w.made w.refused)
  ends_by true b there more e = at_target w.max_move w.target w.refused w.made (most_steps - w.made) w.last there
  ends_by false b there more e = all_made (more ∙ e)

  pub ends : moves_on w.last w.target w.made ≡ false → IsNext (Walking w) (record { line = end_line w.made w.refused; rest = Done })
  unfolding text_of lines_left moves_on
  ends e =
      record {
        joins =
            ends_by (same w.last w.target) (ltb w.made most_steps) refl refl e
            ∙ sym (append-nil (written (end_line w.made w.refused)));
        fewer = omega arith;
      }

pub refuses : (r : Refusal) → IsNext (Refusing r) (record { line = Refused (number_of r); rest = Done })
unfolding text_of lines_left
refuses r = record { joins = sym (append-nil (written (Refused (number_of r)))); fewer = omega arith }

-- the number of a step that follows is a u32 (of six digits: proofs/ReadBack)
pub made_fits : (l t : Point) (k : ℕ) → moves_on l t k ≡ true → k + 1 < 4294967296
unfolding moves_on most_steps
made_fits l t k e = let h : k < most_steps = ltb-true k most_steps (is_fit (same l t) (ltb k most_steps) e) in omega arith

-- nothing is stored yet
pub part_none : (l : List ℕ) (at : ℕ) (whole : List ℕ) → Part l at whole at whole l
part_none l at whole = record { text = []; stored = stored_nothing; joins = refl; within = λ h. h }

-- at the same place of a buffer of the same length there is the same room
pub same_room : (l l' : List ℕ) (k k' : ℕ) → k' ≡ k → length l' ≡ length l → has_room l k ≡ has_room l' k'
same_room l l' k k' at long = ap (λ (n : ℕ). leb (k + 40) n) (sym long) ∙ ap (λ (i : ℕ). leb (i + 40) (length l')) (sym at)

pub no_room : {A : Type 0} (l l' : List ℕ) (k k' : ℕ) → has_room l k ≡ false → k' ≡ k → length l' ≡ length l → has_room l' k' ≡ true → A
no_room l l' k k' none at long room = absurd (false≢true (sym none ∙ same_room l l' k k' at long ∙ room))

-- one line more
pub part_more : {l l' l'' : List ℕ} {at k k' : ℕ} {whole : List ℕ} (r : Rest) (n : Next)
    → Part l at whole k (text_of r) l' → has_room l' k ≡ true → IsNext r n
    → Stored l' k (choose (has_room l' k) (written n.line) []) k' l'' → k' ≤ k + 40 → Part l at whole k' (text_of n.rest) l''
part_more {l} {l'} {l''} {at} {k} {k'} {whole} r n p room is s few =
    let fits : k + 40 ≤ length l' = leb-true (k + 40) (length l') room in
    let same : length l'' ≡ length l' = stored_length s in
    record {
      text = p.text ++ written n.line;
      stored = stored_more p.stored (stored_as (ap (λ (b : Bool). choose b (written n.line) []) room) s);
      joins =
          p.joins ∙ ap (λ (u : List ℕ). p.text ++ u) is.joins ∙ sym (append_assoc p.text (written n.line) (text_of n.rest));
      within = λ h. omega arith;
    }

-- ---- the block of a walk, and of one that is refused
abbrev begins : Float → Point → Point → Rest
begins m s t = Walking (record { max_move = m; last = s; target = t; made = 0; refused = 0 })

given_walk : (m : Float) (s t : Point) → Fit m → Each Fit s → Each Fit t → walk_refusal m s t ≡ 0 →
    WalkPrints m s t (text_of (begins m s t))
unfolding text_of most_steps
given_walk m s t Fm Fs Ft e =
    let w = let_in_ends m s t Fm Fs Ft e in
    (w.0, rw e (walk_left m s t w.0 w.1 w.2), λ z. w.1)

refused_walk : (m : Float) (s t : Point) (r : Refusal) → walk_refusal m s t ≡ number_of r → WalkPrints m s t (text_of (Refusing r))
unfolding text_of
refused_walk m s t r is =
    (0, rw (is, has_a_number r), λ z. absurd (a_refusal_has_a_number r (sym is ∙ z)))

-- between the record's points and their copies
module _ (m : Float) (s t s' t' : Point) (es : s' ≡ s) (et : t' ≡ t) where
  same_walk : (text : List ℕ) → WalkPrints m s' t' text → WalkPrints m s t text
  same_walk text w = subst (λ (p : Point). WalkPrints m p t text) es (subst (λ (p : Point). WalkPrints m s' p text) et w)

  pub walk_printed : Fit m → Each Fit s' → Each Fit t' → walk_refusal m s' t' ≡ 0 → WalkPrints m s t (text_of (begins m s' t'))
  walk_printed Fm Fs Ft e = same_walk (text_of (begins m s' t')) (given_walk m s' t' Fm Fs Ft e)

  pub refusal_printed : (r : Refusal) → walk_refusal m s' t' ≡ number_of r → WalkPrints m s t (text_of (Refusing r))
  refusal_printed r is = same_walk (text_of (Refusing r)) (refused_walk m s' t' r is)

-- ---- with nothing left
pub done_text : (r : Rest) → is_done r ≡ true → text_of r ≡ []
unfolding text_of
done_text (Walking w) e = absurd (false≢true e)
done_text (Refusing r) e = absurd (false≢true e)
done_text Done e = refl

-- where a block is not done and there is room, the next part is not empty: filling from the front of a buffer of 40 bytes or more goes on
pub part_goes_on : {l l' : List ℕ} {at next : ℕ} {whole rest : List ℕ} (d : Bool) → Part l at whole next rest l' → d ≡ false
    → (not d && has_room l' next) ≡ false → at + 40 ≤ length l' → at < next
part_goes_on {l} {l'} {at} {next} d p going stop room =
    let full : leb (next + 40) (length l') ≡ false = subst (λ (b : Bool). (not b && has_room l' next) ≡ false) going stop in
    let h : length l' < next + 40 = leb-false (next + 40) (length l') full in
    omega arith
