-- A stretch of positions is so many steps: none where it stops, one for each position told, and two stretches behind each other are one.
use mathlib.Core.Path.{◌≡◌, refl, ap, ◌∙◌, sym}
use mathlib.Core.Bool.{Bool, true, false}
use mathlib.Core.List.{List, [], ◌∷◌, ◌++◌, append_assoc}
use Prim.Native.Nat.{ℕ, ◌+◌, ◌-◌, ◌≤◌, ◌<◌}
use native.Mathlib.Nat.{add_assoc, add-zero, min-eq_left}
use native.Mathlib.Numerals.{add-one}
use native.Mathlib.Omega.{arith}
use lib.ListN.{length, take, drop}
use Rattle.numbers.specs.Told.{choose}
use Rattle.lines.specs.Carry.{fresh}
use Rattle.lines.specs.Compared.{told_text, has_told_room}
use Rattle.lines.specs.Fields.{newline, span}
use Rattle.numbers.specs.Stored.{Stored}
use Rattle.lines.specs.declared.compared.Told.{Told}
use Rattle.numbers.proofs.Stores.{stored_more, stored_as, stored_nothing}
use Rattle.compare.specs.Seen.{read}
use Rattle.compare.specs.Step.{is_last, step_of}
use Rattle.compare.specs.Rule.{printed}
use Rattle.compare.specs.Parts.{Pulled, next, steps}
use Rattle.compare.specs.Stretch.{told_at, left, Goes, Nearer}
use Rattle.compare.specs.declared.seen.Seen.{Seen}
use Rattle.compare.specs.declared.step.Step.{Step}
use Rattle.compare.specs.declared.stretch.Reached.{Reached}
use Rattle.compare.proofs.Chunks.{line_ends}
use Rattle.compare.proofs.Kept.{kept_whole}

module _ (bench office : List ℕ) where
  -- nothing yet
  pub goes_nowhere : (before : List ℕ) (r : Reached) → Goes bench office before r before r
  goes_nowhere before r =
      record {
        text = [];
        count = 0;
        stored = stored_nothing;
        joins = λ turns f ps g qs. ap (λ (n : ℕ). left bench office r n f ps g qs) (add-zero turns);
      }

  -- and one behind the other
  pub goes_more : {before between after : List ℕ} {r q p : Reached} → Goes bench office before r between q
      → Goes bench office between q after p → Goes bench office before r after p
  goes_more {before} {between} {after} {r} {q} {p} a b =
      record {
        text = a.text ++ b.text;
        count = b.count + a.count;
        stored = stored_more a.stored b.stored;
        joins = λ turns f ps g qs.
            ap (λ (n : ℕ). left bench office r n f ps g qs) (sym (add_assoc turns b.count a.count))
            ∙ a.joins (turns + b.count) f ps g qs
            ∙ ap (λ (s : List ℕ). a.text ++ s) (b.joins turns f ps g qs)
            ∙ sym (append_assoc a.text b.text (left bench office p turns f ps g qs));
      }

-- what is next in a chunk whose next line is whole
module _ (chunk : List ℕ) (i e : ℕ) (at : e ≡ i + span newline (drop i chunk)) (inside : e < length chunk) where
  pub next_whole : (v : ℕ) (f : Bool) (ps : List (List ℕ)) → next v (record { failed = f; parts = drop i chunk ∷ ps })
      ≡ record { what = read v (take (e - i) (drop i chunk)); left = record { failed = f; parts = drop (e + 1) chunk ∷ ps } }
  next_whole v f ps =
      let few : i ≤ length chunk = omega arith in
      line_ends chunk i i e (sym (min-eq_left few)) at v f fresh ps inside
      ∙ ap (λ (s : Seen). record { what = s; left = record { failed = f; parts = drop (e + 1) chunk ∷ ps } })
      (kept_whole v (take (e - i) (drop i chunk)))

-- one step of two files whose next lines are whole
printed_choice : (t : Bool) (ts : List Told) → printed (choose t [] ts) ≡ choose t [] (printed ts)
unfolding printed
printed_choice true ts = refl
printed_choice false ts = refl

module _ (bench office : List ℕ) (r : Reached) (going : r.done ≡ false) (e f : ℕ)
    (bench_at : e ≡ r.bench + span newline (drop r.bench bench)) (bench_inside : e < length bench)
    (office_at : f ≡ r.office + span newline (drop r.office office)) (office_inside : f < length office) where
  abbrev here : Step
  here =
      step_of r.st (read r.st.bench (take (e - r.bench) (drop r.bench bench)))
      (read r.st.office (take (f - r.office) (drop r.office office)))

  one_told : (at turns : ℕ) (x : Bool) (ps : List (List ℕ)) (y : Bool) (qs : List (List ℕ))
      → left bench office r (turns + 1) x ps y qs
      ≡ told_text here.told ++ left bench office (told_at at here (e + 1) (f + 1)) turns x ps y qs
  unfolding steps printed
  one_told at turns x ps y qs =
      let go : Pulled → Pulled → List ℕ =
      λ a b.
      told_text (step_of r.st a.what b.what).told
      ++ printed (choose (is_last (step_of r.st a.what b.what).told) []
      (steps turns (step_of r.st a.what b.what).next a.left b.left)) in
      rw (going, add-one turns)
      (ap (λ (a : Pulled). go a (next r.st.office (record { failed = y; parts = drop r.office office ∷ qs })))
      (next_whole bench r.bench e bench_at bench_inside r.st.bench x ps)
      ∙ ap (go (record {
        what = read r.st.bench (take (e - r.bench) (drop r.bench bench));
        left = record { failed = x; parts = drop (e + 1) bench ∷ ps };
      })) (next_whole office r.office f office_at office_inside r.st.office y qs)
      ∙ ap (λ (s : List ℕ). told_text here.told ++ s) (printed_choice (is_last here.told) _))

  pub told_onward : (before after : List ℕ) (q : Reached) (s : Step) → s ≡ here → q ≡ told_at q.at s (e + 1) (f + 1)
      → has_told_room before r.at ≡ true
      → Stored before r.at (choose (has_told_room before r.at) (told_text s.told) []) q.at after
      → Nearer bench office before r after q
  told_onward before after q s is told room stored =
      let there : q ≡ told_at q.at here (e + 1) (f + 1) = told ∙ ap (λ (t : Step). told_at q.at t (e + 1) (f + 1)) is in
      record {
        goes = record {
          text = told_text here.told;
          count = 1;
          stored =
              stored_as (ap (λ (b : Bool). choose b (told_text s.told) []) room ∙ ap (λ (t : Step). told_text t.told) is) stored;
          joins = λ turns x ps y qs.
              one_told q.at turns x ps y qs
              ∙ ap (λ (p : Reached). told_text here.told ++ left bench office p turns x ps y qs) (sym there);
        };
        nearer =
            let b : q.bench ≡ e + 1 = ap (λ (p : Reached). p.bench) there in
            (omega arith, omega arith);
      }
