-- The character at a text's front: where one is found, its bytes are those of a character that a name may have, and of every such
-- character so many bytes are found.
use Rattle.std.specs.Prelude.{◌≡◌, ℕ, suc, ◌+◌, ◌/◌, ◌<◌, ◌≤◌, Bool, true, ◌&&◌, T, eqb, ltb, leb, List, [], ◌∷◌, ◌++◌, length, drop}
use mathlib.Core.Path.{refl, ap, ◌∙◌, sym, subst}
use mathlib.Core.Logic.{⊎_elim, inl}
use Prim.Native.Nat.{zero-le}
use native.Mathlib.Omega.{arith}
use native.Mathlib.Nat.{add-zero}
use lib.Dec.{lit≤}
use lib.Ieee.Bits.{is_true}
use lib.Seq.{get_or-drop}
use borrow.Author.Tests.{ne_eqb, eqb-true, eqb-false, le-leb, leb-true, lt-ltb, le-ltb, ltb-true, eq-eqb}
use Rattle.numbers.proofs.OnePass.{and_left, and_right}
use Rattle.numbers.proofs.Flags.{chosen, lt_or_le}
use Rattle.units.proofs.Door.{holds}
use Rattle.numbers.specs.Told.{choose}
use Rattle.poses.specs.Json.{Char, plain, escape, unicode, char_bytes, is_char, is_plain, is_escape, is_hex, utf8, tail}
use Rattle.poses.specs.How.{byte, between, is_tail, many_where, escaped, wide, char_long}
use Rattle.poses.proofs.Utf8.{plain_is, plain_no_slash, plain_no_quote, plain_low, plain_high, plain_apart}
use Rattle.poses.proofs.Utf8.{Within, within_was, second_of_three, second_of_four, of_two, of_three_lem, of_four_lem}
use Rattle.poses.proofs.Utf8.{two_bytes, three_bytes, four_bytes, wide_two, wide_three, wide_four}

abbrev four_hex : ℕ → ℕ → ℕ → ℕ → Bool
four_hex a b c d = is_hex a && is_hex b && is_hex c && is_hex d

-- ---- what is known where so many bytes are found
where_many : (P : ℕ → Type 0) (t : Bool) (n : ℕ) → P 0 → (t ≡ true → P n) → P (many_where t n)
where_many P t n none some = chosen P t n 0 some (λ e. none)

module _ (P : ℕ → Type 0) (none : P 0) where
  escaped_cases : (b c d e f : ℕ) → (b ≡ 117 → four_hex c d e f ≡ true → P 6) → (is_escape b ≡ true → P 2) → P (escaped b c d e f)
  unfolding escaped
  escaped_cases b c d e f six two =
      chosen P (eqb b 117) (many_where (four_hex c d e f) 6) (many_where (is_escape b) 2)
      (λ is. where_many P (four_hex c d e f) 6 none (six (eqb-true b 117 is)))
      (λ is. where_many P (is_escape b) 2 none two)

  wide_cases : (a b c d : ℕ) → (Within 194 223 a → Within 128 191 b → P 2)
      → (Within 224 239 a → second_of_three a b ≡ true → Within 128 191 c → P 3)
      → (Within 240 244 a → second_of_four a b ≡ true → Within 128 191 c → Within 128 191 d → P 4)
      → P (wide a b c d)
  unfolding wide
  wide_cases a b c d two three four =
      let threes = many_where (second_of_three a b && is_tail c) 3 in
      let fours = many_where (second_of_four a b && is_tail c && is_tail d) 4 in
      chosen P (between 194 223 a) (many_where (is_tail b) 2) (choose (between 224 239 a) threes (choose (between 240 244 a) fours 0))
      (λ e. where_many P (is_tail b) 2 none (λ f. two (within_was 194 223 a e) (within_was 128 191 b f)))
      (λ _.
      chosen P (between 224 239 a) threes (choose (between 240 244 a) fours 0)
      (λ e.
      where_many P (second_of_three a b && is_tail c) 3 none
      (λ f.
      three (within_was 224 239 a e) (and_left (second_of_three a b) (is_tail c) f)
      (within_was 128 191 c (and_right (second_of_three a b) (is_tail c) f))))
      (λ _.
      chosen P (between 240 244 a) fours 0
      (λ e.
      where_many P (second_of_four a b && is_tail c && is_tail d) 4 none
      (λ f.
      let g = and_left (second_of_four a b && is_tail c) (is_tail d) f in
      four (within_was 240 244 a e) (and_left (second_of_four a b) (is_tail c) g)
      (within_was 128 191 c (and_right (second_of_four a b) (is_tail c) g))
      (within_was 128 191 d (and_right (second_of_four a b && is_tail c) (is_tail d) f))))
      (λ _. none)))

  char_cases : (t : List ℕ) → (byte t 0 ≡ 92 → P (escaped (byte t 1) (byte t 2) (byte t 3) (byte t 4) (byte t 5)))
      → ((byte t 0 ≡ 92 → ⊥) → byte t 0 < 128 → 32 ≤ byte t 0 → P 1)
      → P (wide (byte t 0) (byte t 1) (byte t 2) (byte t 3))
      → P (char_long t)
  unfolding char_long
  char_cases t slashed low high =
      let b = byte t 0 in
      let plainly = many_where (leb 32 b) 1 in
      let widely = wide b (byte t 1) (byte t 2) (byte t 3) in
      chosen P (eqb b 92) (escaped (byte t 1) (byte t 2) (byte t 3) (byte t 4) (byte t 5)) (choose (ltb b 128) plainly widely)
      (λ is. slashed (eqb-true b 92 is))
      (λ other.
      chosen P (ltb b 128) plainly widely
      (λ below. where_many P (leb 32 b) 1 none (λ h. low (eqb-false b 92 other) (ltb-true b 128 below) (leb-true 32 b h)))
      (λ above. high))

-- no character has more than six bytes
pub char_few : (t : List ℕ) → char_long t ≤ 6
char_few t =
    let Few : ℕ → Type 0 = λ n. n ≤ 6 in
    char_cases Few zero-le t
    (λ is. escaped_cases Few zero-le (byte t 1) (byte t 2) (byte t 3) (byte t 4) (byte t 5) (λ u h. lit≤ tt) (λ h. lit≤ tt))
    (λ other below h. lit≤ tt)
    (wide_cases Few zero-le (byte t 0) (byte t 1) (byte t 2) (byte t 3) (λ p q. lit≤ tt) (λ p q h. lit≤ tt) (λ p q h l. lit≤ tt))

-- ---- a character by the bytes from a place on
char_at : (s : List ℕ) (i : ℕ) → char_long (drop i s)
    ≡ choose (eqb (byte s i) 92) (escaped (byte s (i + 1)) (byte s (i + 2)) (byte s (i + 3)) (byte s (i + 4)) (byte s (i + 5)))
    (choose (ltb (byte s i) 128) (many_where (leb 32 (byte s i)) 1) (wide (byte s i) (byte s (i + 1)) (byte s (i + 2)) (byte s (i + 3))))
unfolding char_long
char_at s i =
    rw (
      get_or-drop i s 0 0,
      get_or-drop i s 1 0,
      get_or-drop i s 2 0,
      get_or-drop i s 3 0,
      get_or-drop i s 4 0,
      get_or-drop i s 5 0,
      add-zero i,
    ) refl

module _ (s : List ℕ) (i : ℕ) where
  pub char_escaped : byte s i ≡ 92
      → escaped (byte s (i + 1)) (byte s (i + 2)) (byte s (i + 3)) (byte s (i + 4)) (byte s (i + 5)) ≡ char_long (drop i s)
  char_escaped is = sym (char_at s i ∙ (simp (eq-eqb (byte s i) 92 is)))

  module _ (other : byte s i ≡ 92 → ⊥) where
    pub char_plain : byte s i < 128 → many_where (leb 32 (byte s i)) 1 ≡ char_long (drop i s)
    char_plain low = sym (char_at s i ∙ (simp (ne_eqb (byte s i) 92 other, lt-ltb (byte s i) 128 low)))

    pub char_wide : 128 ≤ byte s i
        → wide (byte s i) (byte s (i + 1)) (byte s (i + 2)) (byte s (i + 3)) ≡ char_long (drop i s)
    char_wide high = sym (char_at s i ∙ (simp (ne_eqb (byte s i) 92 other, le-ltb (byte s i) 128 high)))

-- ---- a character's first byte and those behind it
abbrev Back : ℕ → List ℕ → Type 0
Back b a = (c : Char) × T (is_char c) × (char_bytes c ≡ b ∷ a)

-- by how many there are
module _ (b : ℕ) where
  back_one : (a : List ℕ) → suc (length a) ≡ 1 → (b ≡ 34 → ⊥) → (b ≡ 92 → ⊥) → b < 128 → 32 ≤ b → Back b a
  unfolding utf8
  back_one [] e no_quote no_slash high low =
      (plain b, plain_is b low no_quote no_slash (omega arith) (inl (omega arith)), rw (lt-ltb b 128 high))
  back_one (x ∷ a) e no_quote no_slash high low = absurd (omega arith)

  back_escape : (a r : List ℕ) → suc (length a) ≡ 2 → b ≡ 92 → is_escape (byte (a ++ r) 0) ≡ true → Back b a
  back_escape [] r e is h = absurd (omega arith)
  back_escape (x ∷ []) r e is h = (escape x, holds h, ap (λ (k : ℕ). k ∷ x ∷ []) (sym is))
  back_escape (x ∷ y ∷ a) r e is h = absurd (omega arith)

  back_two : (a r : List ℕ) → suc (length a) ≡ 2 → Within 194 223 b → Within 128 191 (byte (a ++ r) 0) → Back b a
  back_two [] r e p q = absurd (omega arith)
  back_two (x ∷ []) r e p q = let n = of_two b x p q in (plain n.0, n.1.0, n.1.1)
  back_two (x ∷ y ∷ a) r e p q = absurd (omega arith)

  back_three : (a r : List ℕ) → suc (length a) ≡ 3 → Within 224 239 b → second_of_three b (byte (a ++ r) 0) ≡ true
      → Within 128 191 (byte (a ++ r) 1) → Back b a
  back_three [] r e p q h = absurd (omega arith)
  back_three (x ∷ []) r e p q h = absurd (omega arith)
  back_three (x ∷ y ∷ []) r e p q h = let n = of_three_lem b x y p q h in (plain n.0, n.1.0, n.1.1)
  back_three (x ∷ y ∷ z ∷ a) r e p q h = absurd (omega arith)

  back_four : (a r : List ℕ) → suc (length a) ≡ 4 → Within 240 244 b → second_of_four b (byte (a ++ r) 0) ≡ true
      → Within 128 191 (byte (a ++ r) 1) → Within 128 191 (byte (a ++ r) 2) → Back b a
  back_four [] r e p q h l = absurd (omega arith)
  back_four (x ∷ []) r e p q h l = absurd (omega arith)
  back_four (x ∷ y ∷ []) r e p q h l = absurd (omega arith)
  back_four (x ∷ y ∷ z ∷ []) r e p q h l = let n = of_four_lem b x y z p q h l in (plain n.0, n.1.0, n.1.1)
  back_four (x ∷ y ∷ z ∷ w ∷ a) r e p q h l = absurd (omega arith)

  back_unicode : (a r : List ℕ) → suc (length a) ≡ 6 → b ≡ 92 → byte (a ++ r) 0 ≡ 117
      → four_hex (byte (a ++ r) 1) (byte (a ++ r) 2) (byte (a ++ r) 3) (byte (a ++ r) 4) ≡ true → Back b a
  back_unicode [] r e is u h = absurd (omega arith)
  back_unicode (x ∷ []) r e is u h = absurd (omega arith)
  back_unicode (x ∷ y ∷ []) r e is u h = absurd (omega arith)
  back_unicode (x ∷ y ∷ z ∷ []) r e is u h = absurd (omega arith)
  back_unicode (x ∷ y ∷ z ∷ w ∷ []) r e is u h = absurd (omega arith)
  back_unicode (x ∷ y ∷ z ∷ w ∷ v ∷ []) r e is u h = (unicode y z w v, holds h, λ k. sym is k ∷ sym u k ∷ y ∷ z ∷ w ∷ v ∷ [])
  back_unicode (x ∷ y ∷ z ∷ w ∷ v ∷ g ∷ a) r e is u h = absurd (omega arith)

pub char_back : (b : ℕ) (a r : List ℕ) → (b ≡ 34 → ⊥) → suc (length a) ≡ char_long (b ∷ (a ++ r)) → Back b a
char_back b a r no_quote =
    let t = b ∷ (a ++ r) in
    let P : ℕ → Type 0 = λ n. suc (length a) ≡ n → Back b a in
    let none : P 0 = λ e. absurd (omega arith) in
    char_cases P none t
    (λ is.
    escaped_cases P none (byte t 1) (byte t 2) (byte t 3) (byte t 4) (byte t 5)
    (λ u h e. back_unicode b a r e is u h)
    (λ h e. back_escape b a r e is h))
    (λ no_slash low h e. back_one b a e no_quote no_slash low h)
    (wide_cases P none b (byte t 1) (byte t 2) (byte t 3)
    (λ p q e. back_two b a r e p q)
    (λ p q h e. back_three b a r e p q h)
    (λ p q h l e. back_four b a r e p q h l))

-- ---- of a character so many bytes are found as it has; its first is no quote
pub record Long (c : Char) (r : List ℕ) : Type 0 where
  pub first : ℕ
  pub more : List ℕ
  pub spelt : char_bytes c ≡ first ∷ more
  pub no_quote : first ≡ 34 → ⊥
  pub long : char_long (first ∷ (more ++ r)) ≡ suc (length more)

-- a byte of 128 or more stands for no character by itself
long_wide : (t : List ℕ) → 128 ≤ byte t 0 → char_long t ≡ wide (byte t 0) (byte t 1) (byte t 2) (byte t 3)
long_wide t h = sym (char_wide t 0 (omega arith) h)

long_plain : (n : ℕ) (r : List ℕ) → T (is_plain n) → Long (plain n) r
unfolding utf8 char_long
long_plain n r p =
    ⊎_elim
    (λ (low : n < 128). record {
      first = n;
      more = [];
      spelt = rw (lt-ltb n 128 low);
      no_quote = plain_no_quote n p;
      long = rw (ne_eqb n 92 (plain_no_slash n p), lt-ltb n 128 low, le-leb 32 n (plain_low n p));
    })
    (λ (above : 128 ≤ n).
    ⊎_elim
    (λ (two : n < 2048). record {
      first = 192 + n / 64;
      more = tail n ∷ [];
      spelt = two_bytes n above two;
      no_quote = omega arith;
      long = long_wide ((192 + n / 64) ∷ tail n ∷ r) (omega arith) ∙ wide_two n (byte r 0) (byte r 1) above two;
    })
    (λ (above' : 2048 ≤ n).
    ⊎_elim
    (λ (three : n < 65536). record {
      first = 224 + n / 4096;
      more = tail (n / 64) ∷ tail n ∷ [];
      spelt = three_bytes n above' three;
      no_quote = omega arith;
      long = long_wide ((224 + n / 4096) ∷ tail (n / 64) ∷ tail n ∷ r) (omega arith)
          ∙ wide_three n (byte r 0) above' three (plain_apart n p);
    })
    (λ (above'' : 65536 ≤ n). record {
      first = 240 + n / 262144;
      more = tail (n / 4096) ∷ tail (n / 64) ∷ tail n ∷ [];
      spelt = four_bytes n above'';
      no_quote = omega arith;
      long = long_wide ((240 + n / 262144) ∷ tail (n / 4096) ∷ tail (n / 64) ∷ tail n ∷ r) (omega arith)
          ∙ wide_four n above'' (plain_high n p);
    })
    (lt_or_le n 65536))
    (lt_or_le n 2048))
    (lt_or_le n 128)

pub char_long_lem : (c : Char) (r : List ℕ) → T (is_char c) → Long c r
unfolding char_long escaped
char_long_lem (plain n) r p = long_plain n r p
char_long_lem (escape b) r p =
    let no_u : b ≡ 117 → ⊥ = λ e. subst (λ (k : ℕ). T (is_escape k)) e p in
    record {
      first = 92;
      more = b ∷ [];
      spelt = refl;
      no_quote = omega arith;
      long = rw (ne_eqb b 117 no_u, is_true (is_escape b) p);
    }
char_long_lem (unicode a b c d) r p =
    record {
      first = 92;
      more = 117 ∷ a ∷ b ∷ c ∷ d ∷ [];
      spelt = refl;
      no_quote = omega arith;
      long = rw (is_true (four_hex a b c d) p);
    }
