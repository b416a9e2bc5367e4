-- The rule of a name behind its first quote: what is read up to the closing quote is spelled of characters, and a text that is so
-- spelled is read up to its closing quote.
use Rattle.std.specs.Prelude.{◌≡◌, ℕ, zero, suc, ◌+◌, ◌-◌, ◌≤◌, eqb, List, [], ◌∷◌, ◌++◌, length, take, drop}
use mathlib.Core.Path.{refl, ap, ◌∙◌, sym, subst}
use mathlib.Core.List.{append_assoc}
use native.Mathlib.Omega.{arith}
use lib.ListN.{length-append}
use lib.Seq.{drop-drop, drop_at, take_at, drop-append_seam}
use borrow.Author.Tests.{ne_eqb, eqb-true, eqb-false}
use Rattle.numbers.proofs.Flags.{chosen}
use Rattle.numbers.specs.Told.{choose}
use Rattle.poses.specs.Json.{Language, Char, char_bytes, spelled, AreChars, chars}
use Rattle.poses.specs.How.{nowhere, char_long, further, closing, name_end}
use Rattle.poses.proofs.Closing.{further_some, onward, skipped}
use Rattle.poses.proofs.Spans.{Spans, At, at_over}
use Rattle.poses.proofs.Characters.{char_back, char_long_lem}

-- ---- so many bytes to be passed, then characters and the closing quote, n bytes in all
record Closed (k : ℕ) (t : List ℕ) (n : ℕ) : Type 0 where
  skipped : List ℕ
  letters : List Char
  behind : List ℕ
  right : AreChars letters
  so_many : length skipped ≡ k
  cut : t ≡ skipped ++ (spelled letters ++ (34 ∷ behind))
  in_all : n ≡ k + (length (spelled letters) + 1)

closed_quote : (b : ℕ) (t : List ℕ) → b ≡ 34 → Closed 0 (b ∷ t) 1
unfolding spelled
closed_quote b t e =
    record {
      skipped = [];
      letters = [];
      behind = t;
      right = tt;
      so_many = refl;
      cut = ap (λ (c : ℕ). c ∷ t) e;
      in_all = refl;
    }

closed_char : (b : ℕ) (t : List ℕ) (l n : ℕ) → (b ≡ 34 → ⊥) → (l ≡ 0 → ⊥) → l ≡ char_long (b ∷ t) → Closed (l - 1) t n
    → Closed 0 (b ∷ t) (suc n)
unfolding spelled
closed_char b t l n no_quote some is x =
    let a = x.skipped in
    let u = spelled x.letters ++ (34 ∷ x.behind) in
    let full : suc (length a) ≡ l = omega (arith, x.so_many) in
    let c = char_back b a u no_quote (full ∙ is ∙ ap (λ (v : List ℕ). char_long (b ∷ v)) x.cut) in
    let long : length (char_bytes c.0 ++ spelled x.letters) ≡ suc (length a) + length (spelled x.letters) =
    length-append (char_bytes c.0) (spelled x.letters) ∙ ap (λ (v : List ℕ). length v + length (spelled x.letters)) c.2 in
    record {
      skipped = [];
      letters = c.0 ∷ x.letters;
      behind = x.behind;
      right = (c.1, x.right);
      so_many = refl;
      cut = ap (λ (v : List ℕ). b ∷ v) x.cut
          ∙ ap (λ (v : List ℕ). v ++ u) (sym c.2)
          ∙ sym (append_assoc (char_bytes c.0) (spelled x.letters) (34 ∷ x.behind));
      in_all = omega (arith, x.in_all, long, full);
    }

abbrev Closes : ℕ → List ℕ → ℕ → Type 0
Closes k t n = (n ≡ 0 → ⊥) → Closed k t n

closing_step : (b : ℕ) (t : List ℕ) → ((k : ℕ) → Closes k t (closing k t)) → (k : ℕ) → Closes k (b ∷ t) (closing k (b ∷ t))
unfolding closing
closing_step b t more zero =
    let l = char_long (b ∷ t) in
    let next = closing (l - 1) t in
    chosen (Closes 0 (b ∷ t)) (eqb b 34) 1 (choose (eqb l 0) 0 (further next))
    (λ quote h. closed_quote b t (eqb-true b 34 quote))
    (λ no_quote.
    chosen (Closes 0 (b ∷ t)) (eqb l 0) 0 (further next)
    (λ none h. absurd (h refl))
    (λ some h.
    let on : next ≡ 0 → ⊥ = λ e. h (ap further e) in
    subst (Closed 0 (b ∷ t)) (sym (further_some next on))
    (closed_char b t l next (eqb-false b 34 no_quote) (eqb-false l 0 some) refl (more (l - 1) on))))
closing_step b t more (suc k) =
    λ h.
    let on : closing k t ≡ 0 → ⊥ = λ e. h (ap further e) in
    let x = more k on in
    record {
      skipped = b ∷ x.skipped;
      letters = x.letters;
      behind = x.behind;
      right = x.right;
      so_many = ap suc x.so_many;
      cut = ap (λ (v : List ℕ). b ∷ v) x.cut;
      in_all = further_some (closing k t) on ∙ omega (arith, x.in_all);
    }

closing_back : (t : List ℕ) (k : ℕ) → Closes k t (closing k t)
unfolding closing
closing_back [] k h = absurd (h refl)
closing_back (b ∷ t) k h = closing_step b t (closing_back t) k h

-- ---- the other way round
closing_skip : (a r : List ℕ) → (closing 0 r ≡ 0 → ⊥) → closing (length a) (a ++ r) ≡ length a + closing 0 r
closing_skip a r h =
    skipped (length a) (a ++ r)
    ∙ ap (λ (t : List ℕ). onward (length a) (closing 0 t)) (drop-append_seam a r)
    ∙ (simp (ne_eqb (closing 0 r) 0 h))

closing_char : (b : ℕ) (a r : List ℕ) (n : ℕ) → (b ≡ 34 → ⊥) → char_long (b ∷ (a ++ r)) ≡ suc (length a) → closing 0 r ≡ n + 1
    → closing 0 (b ∷ (a ++ r)) ≡ suc (length a) + n + 1
unfolding closing
closing_char b a r n no_quote long on =
    let less : suc (length a) - 1 ≡ length a = omega arith in
    let skip : closing (length a) (a ++ r) ≡ length a + closing 0 r = closing_skip a r (omega arith) in
    rw (ne_eqb b 34 no_quote, long, ne_eqb (suc (length a)) 0 (omega arith), less)
    (further_some (closing (length a) (a ++ r)) (omega arith) ∙ omega arith)

closing_over : (cs : List Char) (u : List ℕ) → AreChars cs → closing 0 (spelled cs ++ (34 ∷ u)) ≡ length (spelled cs) + 1
unfolding closing spelled
closing_over [] u h = refl
closing_over (c ∷ cs) u h =
    let r = spelled cs ++ (34 ∷ u) in
    let x = char_long_lem c r h.0 in
    let on : closing 0 r ≡ length (spelled cs) + 1 = closing_over cs u h.1 in
    let text : (char_bytes c ++ spelled cs) ++ (34 ∷ u) ≡ x.first ∷ (x.more ++ r) =
    append_assoc (char_bytes c) (spelled cs) (34 ∷ u) ∙ ap (λ (v : List ℕ). v ++ r) x.spelt in
    let long : length (char_bytes c ++ spelled cs) ≡ suc (length x.more) + length (spelled cs) =
    length-append (char_bytes c) (spelled cs) ∙ ap (λ (v : List ℕ). length v + length (spelled cs)) x.spelt in
    ap (closing 0) text ∙ closing_char x.first x.more r (length (spelled cs)) x.no_quote x.long on ∙ omega arith

-- ---- by places
abbrev pub Unquoted : List ℕ → Language
Unquoted name t = chars name × (t ≡ name ++ (34 ∷ []))

abbrev pub name_from : List ℕ → ℕ → ℕ → List ℕ
name_from s i end = take (end - 1 - i) (drop i s)

no_bytes : (a : List ℕ) → length a ≡ 0 → a ≡ []
no_bytes [] e = refl
no_bytes (b ∷ a) e = absurd (omega arith)

name_cut : (s : List ℕ) (i n : ℕ) → Closed 0 (drop i s) n → i + n ≤ length s → Spans s i (i + n) (Unquoted (name_from s i (i + n)))
name_cut s i n x h =
    let w = spelled x.letters in
    let text : drop i s ≡ w ++ (34 ∷ x.behind) =
    x.cut ∙ ap (λ (v : List ℕ). v ++ (w ++ (34 ∷ x.behind))) (no_bytes x.skipped x.so_many) in
    let less : length w ≡ i + n - 1 - i = omega (arith, x.in_all) in
    let name : name_from s i (i + n) ≡ w =
    ap (take (i + n - 1 - i)) text ∙ take_at w (34 ∷ x.behind) (i + n - 1 - i) less in
    let long : length (w ++ (34 ∷ [])) ≡ n = omega (arith, length-append w (34 ∷ []), x.in_all) in
    let text' : drop i s ≡ (w ++ (34 ∷ [])) ++ x.behind = text ∙ sym (append_assoc w (34 ∷ []) x.behind) in
    let rest : x.behind ≡ drop (i + n) s =
    sym (drop_at (w ++ (34 ∷ [])) x.behind n long) ∙ ap (drop n) (sym text') ∙ drop-drop n i s in
    record {
      from_in = omega arith;
      to_in = h;
      between = w ++ (34 ∷ []);
      derives = ((x.letters, name, x.right), ap (λ (v : List ℕ). v ++ (34 ∷ [])) (sym name));
      cut = text' ∙ ap (λ (v : List ℕ). (w ++ (34 ∷ [])) ++ v) rest;
    }

pub name_spans : (s : List ℕ) (i : ℕ) → name_end s i ≤ length s → Spans s i (name_end s i) (Unquoted (name_from s i (name_end s i)))
unfolding name_end
name_spans s i =
    let n = closing 0 (drop i s) in
    chosen (λ (k : ℕ). k ≤ length s → Spans s i k (Unquoted (name_from s i k))) (eqb n 0) (nowhere s) (i + n)
    (λ none h. absurd (omega arith))
    (λ some. name_cut s i n (closing_back (drop i s) 0 (eqb-false n 0 some)))

pub name_at : (s : List ℕ) (i : ℕ) (name r : List ℕ) → chars name → At s i (name ++ (34 ∷ r))
    → (name_from s i (name_end s i) ≡ name) × At s (name_end s i) r
unfolding name_end
name_at s i name r c x =
    let n = length name + 1 in
    let found : closing 0 (drop i s) ≡ n =
    ap (closing 0) (x.rest ∙ ap (λ (v : List ℕ). v ++ (34 ∷ r)) c.1)
    ∙ closing_over c.0 r c.2
    ∙ ap (λ (v : List ℕ). length v + 1) (sym c.1) in
    let long : length (name ++ (34 ∷ [])) ≡ n = length-append name (34 ∷ []) in
    let less : length name ≡ i + n - 1 - i = omega arith in
    let over : At s (i + n) r =
    subst (λ (k : ℕ). At s (i + k) r) long
    (at_over (name ++ (34 ∷ [])) r (subst (At s i) (sym (append_assoc name (34 ∷ []) r)) x)) in
    rw (found, ne_eqb n 0 (omega arith)) (
      ap (take (i + n - 1 - i)) x.rest ∙ take_at name (34 ∷ r) (i + n - 1 - i) less,
      over,
    )
