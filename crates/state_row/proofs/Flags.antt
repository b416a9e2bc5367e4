-- The marks of a row, as a list that is looked at from its first to its last. Assumes nothing.
use Rattle.std.specs.Prelude.{◌≡◌, ℕ, zero, suc, ◌+◌, ◌<◌, ◌≤◌, Bool, ◌&&◌, List, length, take, drop, nat_le}
use Rattle.std.specs.List.{list_all}
use Rattle.std.proofs.Common.{refl, sym, ap, ap₂, ◌∙◌, arith, length-drop, add-one}
use Rattle.std.proofs.lemmas.List.{get_or-drop}
use Rattle.std.proofs.lemmas.List.Folds.{list_all_more}
use Rattle.state_row.specs.Layout.{flags}

pub flags_listed : (n : ℕ) (l : List ℕ) (at : ℕ) → at + n ≤ length l → flags n l at ≡ list_all (λ b. nat_le b 1) (take n (drop at l))
flags_listed zero l at h = refl
flags_listed (suc n) l at h =
    let room : n < length (drop at l) = simp length-drop (omega arith) in
    ap₂ (λ (a b : Bool). a && b) (flags_listed n l at (omega arith)) (ap (λ (b : ℕ). nat_le b 1) (sym (get_or-drop at l n 0)))
    ∙ sym (list_all_more (λ b. nat_le b 1) (drop at l) n 0 room)
    ∙ ap (λ (m : ℕ). list_all (λ b. nat_le b 1) (take m (drop at l))) (add-one n)
