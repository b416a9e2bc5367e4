-- `sines::fixed::both_at` meets its contract: the parts are those of x, and their sums its sine and its cosine.
use Rattle.std.specs.Prelude.{◌≡◌, ℕ, ◌*◌, ◌≤◌}
use mathlib.Core.Path.{sym, ap, ◌∙◌, subst}
use Rattle.sines.specs.How.{sixteen, table_one, sine_entry, cosine_entry, eighths, rest, square, even, odd}
use Rattle.sines.proofs.Entries.{sine_small, cosine_small, sine_of_parts, cosine_of_parts}
use Rattle.sines.proofs.Whole.{row_lt}
use Rattle.sines.proofs.fixed.both_at.Goals as goal

s_high : (x s : ℕ) → x ≤ sixteen → s ≡ sine_entry (eighths x) → s ≤ 2 * table_one
s_high x s h e = subst (λ (n : ℕ). n ≤ 2 * table_one) (sym e) (sine_small (eighths x) (row_lt x h))

c_high : (x c : ℕ) → x ≤ sixteen → c ≡ cosine_entry (eighths x) → c ≤ 2 * table_one
c_high x c h e = subst (λ (n : ℕ). n ≤ 2 * table_one) (sym e) (cosine_small (eighths x) (row_lt x h))

pub sine_sum-requires : goal.sine_sum-requires
sine_sum-requires c =
    let a = c.args in (
      s_high a.x a.s c.requires.0 c.requires.1,
      c_high a.x a.c c.requires.0 c.requires.2,
      c.even_part-a.ensures.1,
      c.odd_part-b.ensures.1,
    )

pub cosine_sum-requires : goal.cosine_sum-requires
cosine_sum-requires c = (let a = c.args in (
  s_high a.x a.s c.requires.0 c.requires.1,
  c_high a.x a.c c.requires.0 c.requires.2,
  c.even_part-a.ensures.1,
  c.odd_part-b.ensures.1,
))

pub returns : goal.returns
returns c =
    let x = c.args.x in
    let q : c.square_of-q.result ≡ square (rest x) = c.square_of-q.ensures.0 in
    let a = c.even_part-a.ensures.0 ∙ ap even q in
    let b = c.odd_part-b.ensures.0 ∙ ap (odd (rest x)) q in (
      c.sine_sum.ensures ∙ sine_of_parts x _ _ _ _ c.requires.1 c.requires.2 a b,
      c.cosine_sum.ensures ∙ cosine_of_parts x _ _ _ _ c.requires.1 c.requires.2 a b,
    )
