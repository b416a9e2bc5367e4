-- `taught::look::looked` meets its contract: 5,120 bytes, places in front, zeros behind them, and where the id stands.
use Rattle.std.specs.Prelude.{◌≡◌, ℕ, ◌*◌, ◌≤◌, length}
use mathlib.Core.Path.{sym, ap, ◌∙◌, subst}
use Rattle.std.proofs.lemmas.List.{take_rest}
use native.Mathlib.Omega.{arith}
use borrow.Author.Rules.{rules}
use borrow.Author.Tests.{not-true, not-false}
use Rattle.taught.specs.Room.{most, used, all_zero}
use Rattle.taught.proofs.Calls.{seen_short, seen_bad, seen_good, used_few}
use borrow.Author.Rules.{rules}
use Rattle.std.proofs.lemmas.Bool.{not_from_false, not_from_true}
use Rattle.taught.proofs.look.looked.Goals as goal

few : (n : ℕ) (room : mathlib.Core.List.List ℕ) → n ≡ used room → n ≤ most
few n room e = subst (λ (k : ℕ). k ≤ most) (sym e) (used_few room)

pub returns-then-room-ne5120 : goal.returns-then-room-ne5120
returns-then-room-ne5120 c =
    seen_short c.args.room.now c.args.id
    c.if-room-ne5120.true

pub overflow_mul-used : goal.overflow_mul-used
overflow_mul-used c = let h : c.used-used.result ≤ most = few _ _ c.used-used.ensures in search (rules, h)

pub slice_bounds-all_zero-start : goal.slice_bounds-all_zero-start
slice_bounds-all_zero-start c =
    let h : c.used-used.result ≤ most = few _ _ c.used-used.ensures in
    let long : length c.args.room.now ≡ 5120 = c.if-room-ne5120.false in
    omega (arith, h, long)

pub slice_bounds-all_zero-count : goal.slice_bounds-all_zero-count
slice_bounds-all_zero-count c =
    let h : c.used-used.result ≤ most = few _ _ c.used-used.ensures in
    let long : length c.args.room.now ≡ 5120 = c.if-room-ne5120.false in
    omega (arith, h, long)

pub returns-then-not-all_zero : goal.returns-then-not-all_zero
returns-then-not-all_zero c =
    seen_bad c.args.room.now c.args.id _ _ c.if-room-ne5120.false c.used-used.ensures
    (c.all_zero.ensures ∙ ap all_zero (take_rest c.args.room.now (80 * c.used-used.result)))
    (not-true _ (not_from_false _ c.if-not-all_zero.true))

pub place_of-place-requires : goal.place_of-place-requires
place_of-place-requires c = (few _ _ c.used-used.ensures, c.if-room-ne5120.false)

pub is_at-there-requires : goal.is_at-there-requires
is_at-there-requires c = (few _ _ c.used-used.ensures, c.if-room-ne5120.false)

pub returns : goal.returns
returns c =
    seen_good c.args.room.now c.args.id _ _ _ _ c.if-room-ne5120.false c.used-used.ensures
    (c.all_zero.ensures ∙ ap all_zero (take_rest c.args.room.now (80 * c.used-used.result)))
    (not-false _ (not_from_true _ c.if-not-all_zero.false)) c.place_of-place.ensures
    c.is_at-there.ensures
