-- The fields of a line, nine bytes apart, and what the record and the step's line make of them.
use mathlib.Core.Path.{◌≡◌, refl, sym, ap, subst, ◌∙◌}
use mathlib.Core.Bool.{Bool, true, false, ◌&&◌}
use mathlib.Core.List.{List, [], ◌∷◌}
use Prim.Native.Nat.{ℕ, suc, ◌+◌, ◌-◌, ◌≤◌, ◌<◌, ◌^◌}
use native.Mathlib.Nat.{add-zero}
use native.Mathlib.Omega.{arith}
use lib.Dec.{eqb}
use lib.ListN.{length, get_or, take, drop, length-drop}
use lib.Seq.{get_or-drop, drop-drop, length-take-le}
use borrow.Author.Tests.{eq-eqb, ne_eqb, le-ltb}
use Rattle.lines.specs.Digits.{Digits}
use Rattle.lines.specs.Parts.{Field}
use Rattle.lines.specs.declared.listed.Line.TheVariants.{Move}
use Rattle.std.specs.Prelude.{Some, None}
use Rattle.std.specs.Prelude.{Option}
use Rattle.std.specs.Prelude.{Some, None}
use Rattle.numbers.proofs.OnePass.{and_left, and_right}
use Rattle.lines.specs.Digits.{read_in, hex_of}
use borrow.Rule.Slice.PartMut.{put_mid}
use Rattle.std.proofs.lemmas.Slice.{put_mid-paste}
use lib.Seq.{sets, sets-eq, take_all}
use Rattle.std.specs.Prelude.{option_map}
use Rattle.lines.specs.declared.listed.Line.{Line}
use Rattle.lines.specs.Parts.{field_number, tabbed, tabbeds, all_good, bits_of}
use Rattle.lines.specs.Reading.{step_count, moved, move_of, found}
use Rattle.lines.specs.Record.{record_of, walk_of}
use Rattle.lines.proofs.Reading.{hex_fits}

-- ---- one field: a tab, and the eight bytes behind it as they are cut out of the line
module _ (s : List ℕ) (at : ℕ) (room : at + 9 ≤ length s) where
  abbrev pub behind : List ℕ
  behind = take (at + 9 - (at + 1)) (drop (at + 1) s)

  pub eight_behind : length behind ≡ 8
  eight_behind =
      let eight : at + 9 - (at + 1) ≡ 8 = omega arith in
      rw eight (length-take-le 8 (drop (at + 1) s) (omega (arith, length-drop (at + 1) s)))

  hex_behind : hex_of 8 8 (take 8 (drop 1 (drop at s))) ≡ read_in 16 behind
  unfolding hex_of
  hex_behind =
      let eight : at + 9 - (at + 1) ≡ 8 = omega arith in
      let same : take 8 (drop 1 (drop at s)) ≡ behind = rw (eight, drop-drop 1 at s) in
      rw (same, eight_behind)

  pub field_is : tabbed (drop at s) ≡ record { good = eqb (get_or s at 0) 9 && (read_in 16 behind).good; bits = (read_in 16 behind).value }
  unfolding tabbed
  field_is =
      let place : at + 0 ≡ at = add-zero at in
      rw (hex_behind, get_or-drop at s 0 0, place)

  pub bits_fit : (read_in 16 behind).value < 2 ^ 32
  bits_fit = subst (λ (d : Digits). d.value < 2 ^ 32) hex_behind (hex_fits (take 8 (drop 1 (drop at s))))

-- ---- several fields are good where each is
abbrev pub EachGood : List Field → Type 0
EachGood [] = Unit
EachGood (f ∷ fs) = (f.good ≡ true) × EachGood fs

none_good : (fs : List Field) → all_good false fs ≡ false
unfolding all_good
none_good [] = refl
none_good (f ∷ fs) = none_good fs

good_after : (t : Bool) (fs : List Field) → all_good t fs ≡ (t && all_good true fs)
good_after true fs = refl
good_after false fs = none_good fs

each_good : (t : Bool) (fs : List Field) → all_good t fs ≡ true → (t ≡ true) × EachGood fs
unfolding all_good
each_good t [] good = (good, tt)
each_good t (f ∷ fs) good =
    let was = each_good (t && f.good) fs good in
    (and_left t f.good was.0, (and_right t f.good was.0, was.1))

module _ (s : List ℕ) where
  -- one field, and those from nine bytes on
  field_next : (k at : ℕ) (f : Field) (fs : List Field) → f ≡ tabbed (drop at s) → tabbeds k (drop (at + 9) s) ≡ fs
      → tabbeds (suc k) (drop at s) ≡ f ∷ fs
  unfolding tabbeds
  field_next k at f fs e h = cc (ap (tabbeds k) (drop-drop 9 at s))

  abbrev field : ℕ → Field
  field at = tabbed (drop at s)

  abbrev pub three : ℕ → List Field
  three at = field at ∷ field (at + 9) ∷ field (at + 9 + 9) ∷ []

  pub fields_three : (at : ℕ) → tabbeds 3 (drop at s) ≡ three at
  unfolding tabbeds
  fields_three at =
      field_next 2 at (field at) _ refl
      (field_next 1 (at + 9) (field (at + 9)) _ refl (field_next 0 (at + 9 + 9) (field (at + 9 + 9)) [] refl refl))

  abbrev pub seven : List Field
  seven = field 1 ∷ field 10 ∷ field 19 ∷ field 28 ∷ field 37 ∷ field 46 ∷ field 55 ∷ []

  pub fields_seven : tabbeds 7 (drop 1 s) ≡ seven
  unfolding tabbeds
  fields_seven =
      field_next 6 1 (field 1) _ refl
      (field_next 5 10 (field 10) _ refl
      (field_next 4 19 (field 19) _ refl
      (field_next 3 28 (field 28) _ refl (fields_three 37))))

  pub three_good : (at : ℕ) → all_good true (tabbeds 3 (drop at s)) ≡ true → EachGood (three at)
  three_good at good = (each_good true (three at) (ap (all_good true) (sym (fields_three at)) ∙ good)).1

  pub seven_good : all_good true (tabbeds 7 (drop 1 s)) ≡ true → EachGood seven
  seven_good good = (each_good true seven (ap (all_good true) (sym fields_seven) ∙ good)).1

  -- a line of 64 bytes: not by its letter, and by its fields
  module _ (long : length s ≡ 64) where
    abbrev parts : List Field
    parts = tabbeds 7 (drop 1 s)

    pub another_letter : (get_or s 0 0 ≡ 87 → ⊥) → None ≡ record_of s
    unfolding record_of
    another_letter other = rw (eq-eqb (length s) 64 long, ne_eqb (get_or s 0 0) 87 other, none_good parts)

    pub record_yes : get_or s 0 0 ≡ 87 → all_good true parts ≡ true → Some (walk_of (bits_of parts)) ≡ record_of s
    unfolding record_of
    record_yes letter good = rw (eq-eqb (length s) 64 long, eq-eqb (get_or s 0 0) 87 letter, good)

    pub record_no : get_or s 0 0 ≡ 87 → all_good true parts ≡ false → None ≡ record_of s
    unfolding record_of
    record_no letter bad = rw (eq-eqb (length s) 64 long, eq-eqb (get_or s 0 0) 87 letter, bad)

  -- a step's line, by what its count and its fields were found to be
  module _ (limit : ℕ) (long : 29 ≤ length s) (d : Digits) (e : d ≡ step_count limit s) (t : Bool)
      (f : t ≡ all_good true (tabbeds 3 (drop (length s - 27) s))) where
    abbrev last : List Field
    last = tabbeds 3 (drop (length s - 27) s)

    abbrev begun : Bool
    begun = eqb (get_or s 0 0) 77 && eqb (get_or s 1 0) 9 && d.good

    tests : (b : Bool) → (begun && t) ≡ b
        → all_good (eqb (get_or s 0 0) 77 && eqb (get_or s 1 0) 9 && (step_count limit s).good) last ≡ b
    tests b h =
        good_after (eqb (get_or s 0 0) 77 && eqb (get_or s 1 0) 9 && (step_count limit s).good) last
        ∙ ap (λ (x : Digits). eqb (get_or s 0 0) 77 && eqb (get_or s 1 0) 9 && x.good && all_good true last) (sym e)
        ∙ ap (λ (x : Bool). begun && x) (sym f)
        ∙ h

    pub fields_good : (begun && t) ≡ true → all_good true last ≡ true
    fields_good good = sym f ∙ and_right begun t good

    pub move_yes : (begun && t) ≡ true → Some (Move (moved d.value (bits_of last))) ≡ move_of limit s
    unfolding move_of
    move_yes good =
        ap (λ (x : Digits). Some (Move (moved x.value (bits_of last)))) e ∙ rw (le-ltb (length s) 29 long, tests true good)

    pub move_no : (begun && t) ≡ false → None ≡ move_of limit s
    unfolding move_of
    move_no bad = rw (le-ltb (length s) 29 long, tests false bad)

-- ---- a line of one number is found where its field is good
found_by : (kind : ℕ → Line) (t : Bool) (v : ℕ) (o : Option ℕ) → field_number (record { good = t; bits = v }) ≡ o
    → option_map kind o ≡ found kind (record { good = t; bits = v })
found_by kind true v o e = ap (option_map kind) (sym e)
found_by kind false v o e = ap (option_map kind) (sym e)

pub found_is : (kind : ℕ → Line) (f : Field) (o : Option ℕ) → field_number f ≡ o → option_map kind o ≡ found kind f
found_is kind f o e = found_by kind f.good f.bits o e

-- ---- what is copied over a part of a buffer is stored there
pub stored_copied : (l a : List ℕ) (at n : ℕ) → n ≡ at + n - at → length a ≡ n → at + n ≤ length l
    → put_mid at (at + n - at) l a ≡ sets l at a
stored_copied l a at n k full room =
    put_mid-paste at (at + n - at) l a a n refl k (sym full)
    ∙ rw take_whole (sym (sets-eq a l at (rw full room) ∙ rw full refl))
  where
    take_whole : take n a ≡ a
    take_whole = take_all n a (omega (arith, full))
