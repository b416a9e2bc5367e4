-- Two ways to stand in a text: a span from a place to a place that a rule derives (what is read is derived), and a place from which
-- a known text follows (what is derived is read). And how both go over one byte and over blanks.
use Rattle.std.specs.Prelude.{◌≡◌, ℕ, suc, ◌+◌, ◌≤◌, false, eqb, List, [], ◌∷◌, ◌++◌, length, get_or, drop}
use mathlib.Core.Path.{refl, ap, ◌∙◌, sym, subst}
use mathlib.Core.List.{append_assoc, append-nil}
use native.Mathlib.Nat.{add-zero}
use native.Mathlib.Omega.{arith}
use lib.Ieee.Bits.{is_true}
use lib.ListN.{length-append}
use lib.Seq.{drop-drop, drop-append_seam, drop-length, get_or-drop}
use borrow.Author.Tests.{eq-eqb, eqb-true}
use Rattle.numbers.proofs.Flags.{chosen}
use Rattle.units.proofs.Door.{holds}
use Rattle.poses.specs.Json.{Language, ◌then◌, word, one, ws, is_blank}
use Rattle.poses.specs.How.{byte, nowhere, blanks, past, after}
use Rattle.poses.proofs.Places.{from_on}

-- ---- from one place of the text to another a rule derives the bytes
pub record Spans (s : List ℕ) (i j : ℕ) (P : Language) : Type 0 where
  pub from_in : i ≤ length s
  pub to_in : j ≤ length s
  pub between : List ℕ
  pub derives : P between
  pub cut : drop i s ≡ between ++ drop j s

-- ---- from a place of the text on these bytes stand, up to its end
pub record At (s : List ℕ) (i : ℕ) (t : List ℕ) : Type 0 where
  pub rest : drop i s ≡ t
  pub ends : i + length t ≡ length s

infixr 5 ◌and_then◌
pub ◌and_then◌ : {s : List ℕ} {i j k : ℕ} {P Q : Language} → Spans s i j P → Spans s j k Q → Spans s i k (P then Q)
◌and_then◌ {s} {k = k} x y =
    let a = x.between in
    let b = y.between in
    record {
      from_in = x.from_in;
      to_in = y.to_in;
      between = a ++ b;
      derives = (a, b, refl, x.derives, y.derives);
      cut = x.cut ∙ ap (λ (r : List ℕ). a ++ r) y.cut ∙ sym (append_assoc a b (drop k s));
    }

-- nothing between
pub spans_nothing : (s : List ℕ) (i : ℕ) → i ≤ length s → Spans s i i (word [])
spans_nothing s i h = record { from_in = h; to_in = h; between = []; derives = refl; cut = refl }

-- another rule for the same bytes
pub spans_as : {s : List ℕ} {i j : ℕ} {P Q : Language} → ((t : List ℕ) → P t → Q t) → Spans s i j P → Spans s i j Q
spans_as f x =
    record { from_in = x.from_in; to_in = x.to_in; between = x.between; derives = f x.between x.derives; cut = x.cut }

-- the whole text
pub spans_all : {s : List ℕ} {P : Language} → Spans s 0 (length s) P → P s
spans_all {s} {P} x =
    subst P (sym (x.cut ∙ ap (λ (r : List ℕ). x.between ++ r) (drop-length s) ∙ append-nil x.between)) x.derives

-- ---- one byte
pub byte_spans : (c : ℕ) (s : List ℕ) (i : ℕ) → byte s i ≡ c → i + 1 ≤ length s → Spans s i (i + 1) (one c)
byte_spans c s i is h =
    record {
      from_in = omega arith;
      to_in = h;
      between = c ∷ [];
      derives = refl;
      cut = from_on s i (omega arith) ∙ ap (λ (b : ℕ). b ∷ drop (i + 1) s) is;
    }

pub after_spans : (c : ℕ) (s : List ℕ) (i : ℕ) → after c s i ≤ length s → Spans s i (after c s i) (one c)
after_spans c s i =
    chosen (λ (j : ℕ). j ≤ length s → Spans s i j (one c)) (eqb (byte s i) c) (i + 1) (nowhere s)
    (λ e. byte_spans c s i (eqb-true (byte s i) c e))
    (λ e h. absurd (omega arith))

-- ---- blanks
blanks_lead : (t : List ℕ) → (a : List ℕ) × ws a × (t ≡ a ++ drop (blanks t) t)
unfolding blanks
blanks_lead [] = ([], tt, refl)
blanks_lead (b ∷ t) =
    let more = blanks_lead t in
    chosen (λ (n : ℕ). (a : List ℕ) × ws a × (b ∷ t ≡ a ++ drop n (b ∷ t))) (is_blank b) (suc (blanks t)) 0
    (λ e. (b ∷ more.0, (holds e, more.1), ap (λ (r : List ℕ). b ∷ r) more.2))
    (λ e. ([], tt, refl))

pub past_spans : (s : List ℕ) (i : ℕ) → past s i ≤ length s → Spans s i (past s i) ws
past_spans s i h =
    let led = blanks_lead (drop i s) in
    record {
      from_in = omega arith;
      to_in = h;
      between = led.0;
      derives = led.1;
      cut = led.2 ∙ ap (λ (r : List ℕ). led.0 ++ r) (drop-drop (blanks (drop i s)) i s);
    }

-- ---- a text that follows
pub at_place : (s : List ℕ) → At s 0 s
at_place s = record { rest = refl; ends = omega arith }

pub at_end : {s : List ℕ} {i : ℕ} → At s i [] → i ≡ length s
at_end {i = i} x = sym (add-zero i) ∙ x.ends

pub at_over : {s : List ℕ} {i : ℕ} (a b : List ℕ) → At s i (a ++ b) → At s (i + length a) b
at_over {s} {i} a b x =
    record {
      rest = sym (drop-drop (length a) i s) ∙ ap (drop (length a)) x.rest ∙ drop-append_seam a b;
      ends = omega (arith, x.ends, length-append a b);
    }

pub at_byte : {s : List ℕ} {i : ℕ} {t : List ℕ} → At s i t → (k : ℕ) → byte s (i + k) ≡ byte t k
at_byte {s} {i} x k = sym (get_or-drop i s k 0) ∙ ap (λ (r : List ℕ). get_or r k 0) x.rest

pub at_first : {s : List ℕ} {i : ℕ} {t : List ℕ} → At s i t → byte s i ≡ byte t 0
at_first {s} {i} {t} x = ap (λ (k : ℕ). byte s k) (sym (add-zero i)) ∙ at_byte x 0

pub after_at : {s : List ℕ} {i : ℕ} (c : ℕ) (t : List ℕ) → At s i (c ∷ t) → At s (after c s i) t
after_at {s} {i} c t x =
    rw (eq-eqb (byte s i) c (at_first x)) (at_over (c ∷ []) t x)

blanks_over : (a b : List ℕ) → ws a → is_blank (byte b 0) ≡ false → blanks (a ++ b) ≡ length a
unfolding blanks
blanks_over [] [] w n = refl
blanks_over [] (c ∷ b) w n = rw n
blanks_over (c ∷ a) b w n = rw (is_true (is_blank c) w.0) (ap suc (blanks_over a b w.1 n))

pub past_at : {s : List ℕ} {i : ℕ} (a b : List ℕ) → At s i (a ++ b) → ws a → is_blank (byte b 0) ≡ false → At s (past s i) b
past_at {s} {i} a b x w n = rw (x.rest, blanks_over a b w n) (at_over a b x)

-- ---- what a text of two rules begins with
module _ (P Q : Language) (t r : List ℕ) (d : (P then Q) t) where
  pub taken_apart : t ++ r ≡ d.0 ++ (d.1 ++ r)
  taken_apart = ap (λ (u : List ℕ). u ++ r) d.2 ∙ append_assoc d.0 d.1 r

  pub opened : {s : List ℕ} {i : ℕ} → At s i (t ++ r) → At s i (d.0 ++ (d.1 ++ r))
  opened {s} {i} x = subst (λ (u : List ℕ). At s i u) taken_apart x

module _ (c : ℕ) (Q : Language) (t r : List ℕ) (d : (one c then Q) t) where
  byte_leads : t ≡ c ∷ d.1
  byte_leads = d.2 ∙ ap (λ (u : List ℕ). u ++ d.1) d.3

  pub begins_with : byte (t ++ r) 0 ≡ c
  begins_with = ap (λ (u : List ℕ). byte (u ++ r) 0) byte_leads

  pub after_then : {s : List ℕ} {i : ℕ} → At s i (t ++ r) → At s (after c s i) (d.1 ++ r)
  after_then {s} {i} x = after_at c (d.1 ++ r) (subst (λ (u : List ℕ). At s i (u ++ r)) byte_leads x)

pub past_then : {s : List ℕ} {i : ℕ} (Q : Language) (t r : List ℕ) (d : (ws then Q) t) → is_blank (byte (d.1 ++ r) 0) ≡ false
    → At s i (t ++ r) → At s (past s i) (d.1 ++ r)
past_then Q t r d n x = past_at d.0 (d.1 ++ r) (opened ws Q t r d x) d.3 n

-- ---- rules one behind the other, grouped otherwise
module _ (P Q R : Language) (t : List ℕ) where
  pub then_right : ((P then Q) then R) t → (P then Q then R) t
  then_right d =
      let f = d.3 in (
        f.0,
        f.1 ++ d.1,
        d.2 ∙ ap (λ (u : List ℕ). u ++ d.1) f.2 ∙ append_assoc f.0 f.1 d.1,
        f.3,
        (f.1, d.1, refl, f.4, d.4),
      )

  pub then_left : (P then Q then R) t → ((P then Q) then R) t
  then_left d =
      let f = d.4 in (
        d.0 ++ f.0,
        f.1,
        d.2 ∙ ap (λ (u : List ℕ). d.0 ++ u) f.2 ∙ sym (append_assoc d.0 f.0 f.1),
        (d.0, f.0, refl, d.3, f.3),
        f.4,
      )

pub then_as : (P Q R : Language) → ((t : List ℕ) → Q t → R t) → (t : List ℕ) → (P then Q) t → (P then R) t
then_as P Q R f t d = (d.0, d.1, d.2, d.3, f d.1 d.4)

pub then_long : (P Q : Language) (t : List ℕ) (d : (P then Q) t) → length t ≡ length d.0 + length d.1
then_long P Q t d = ap length d.2 ∙ length-append d.0 d.1
