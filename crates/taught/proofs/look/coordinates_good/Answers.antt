-- `taught::look::coordinates_good` meets its contract: after i words, whether they all are low.
use Rattle.std.specs.Prelude.{◌≡◌, ℕ, ◌+◌, ◌*◌, Bool, true, ◌&&◌, List}
use mathlib.Core.Path.{refl, sym, ap, ◌∙◌}
use native.Mathlib.Omega.{arith}
use native.Mathlib.Numerals.{add-one}
use Rattle.packed.specs.Packed.{word_at}
use Rattle.taught.specs.How.{low, words_low}
use Rattle.taught.proofs.look.coordinates_good.Goals as goal

first : (room : List ℕ) (at : ℕ) → true ≡ words_low 0 room at
unfolding words_low
first room at = refl

goes_on : (room : List ℕ) (at i bits : ℕ) (good is : Bool) → good ≡ words_low i room at → is ≡ low bits → bits ≡ word_at room (at + 4 * i)
    → (good && is) ≡ words_low (i + 1) room at
unfolding words_low
goes_on room at i bits good is so one word =
    ap (λ (b : Bool). b && is) so
    ∙ ap (λ (b : Bool). words_low i room at && b) (one ∙ ap low word)
    ∙ ap (λ (n : ℕ). words_low n room at) (sym (add-one i))

pub loop-i-init : goal.loop-i-init
loop-i-init c = first _ _

pub loop-i-preserved : goal.loop-i-preserved
loop-i-preserved c = goes_on _ _ _ _ _ _ c.loop-i.invariant c.is_low-good.ensures c.word_at.ensures

pub returns : goal.returns
returns c =
    let all : c.loop-i.i ≡ 18 = omega arith in c.loop-i.invariant ∙ ap
    (λ (n : ℕ). words_low n c.args.room.now c.args.at) all
