-- A run of bytes that is copied into a part is stored from the part's place on; and the runs of several points, one behind the other.
use Rattle.std.proofs.Common.{◌≡◌, ℕ, ◌+◌, ◌*◌, ◌<◌, ◌≤◌, List, [], ◌∷◌, ◌++◌, length, take, drop, get_or, sym, ap, ◌∙◌, arith}
use Rattle.std.proofs.lemmas.List.{drop-drop, append_assoc, append-nil, length-append, take_more, take_all}
use Rattle.std.proofs.lemmas.List.Concat.{flat_map-append}
use Rattle.std.proofs.lemmas.List.Edits.{sets, sets-eq}
use Rattle.std.specs.List.{flat_map}
use lib.Seq.{length-take-le}
use native.Mathlib.Nat.{mul-suc}
use borrow.Rule.Slice.PartMut.{put_mid}
use Rattle.numbers.proofs.Stores.{stores_append}
use Rattle.legs.specs.declared.Foot.{Foot}
use Rattle.legs.specs.Legs.{Feet, row, at as six_at}
use Rattle.packed.specs.Packed.{point_bytes, points_bytes}

pub put_is : (l ys bytes : List ℕ) (at k : ℕ) → ys ≡ bytes → k ≡ length bytes → at + length bytes ≤ length l
    → put_mid at k l ys ≡ sets l at bytes
put_is l ys bytes at k same long room =
    simp (same, long, drop-drop)
    (sym (sets-eq bytes l at room ∙ append_assoc (take at l) bytes (drop (at + length bytes) l)))

-- runs of w bytes each, one behind the other
runs_length : {X : Type 0} (run : X → List ℕ) (w : ℕ) → ((x : X) → length (run x) ≡ w) → (xs : List X)
    → length (flat_map run xs) ≡ w * length xs
runs_length run w each [] = omega arith
runs_length run w each (x ∷ xs) =
    length-append (run x) (flat_map run xs) ∙ omega (arith, each x, runs_length run w each xs, mul-suc w (length xs))

-- with that of number i
pub runs_more : {X : Type 0} (run : X → List ℕ) (w : ℕ) → ((x : X) → length (run x) ≡ w)
    → (l m n : List ℕ) (at i : ℕ) (xs : List X) (d : X) → i < length xs → m ≡ sets l at (flat_map run (take i xs))
    → n ≡ sets m (at + w * i) (run (get_or xs i d)) → n ≡ sets l at (flat_map run (take (i + 1) xs))
runs_more run w each l m n at i xs d within before after =
    let x = get_or xs i d in
    let first = flat_map run (take i xs) in
    let long : length first ≡ w * i =
    runs_length run w each (take i xs) ∙ ap (λ (k : ℕ). w * k) (length-take-le i xs (omega arith)) in
    let next : flat_map run (take (i + 1) xs) ≡ first ++ run x =
    ap (flat_map run) (take_more xs i d within)
    ∙ flat_map-append run (take i xs) (x ∷ [])
    ∙ ap (λ (r : List ℕ). first ++ r) (append-nil (run x)) in
    after
    ∙ ap (λ (k : List ℕ). sets k (at + w * i) (run x)) before
    ∙ ap (λ (k : ℕ). sets (sets l at first) (at + k) (run x)) (sym long)
    ∙ stores_append l at first (run x)
    ∙ ap (sets l at) (sym next)

-- the bytes of the points of some feet
abbrev pub points_run : List Foot → List ℕ
points_run ps = flat_map (λ p. point_bytes p.point) ps

pub six_points_run : (f : Feet) (n : ℕ) → 6 ≤ n → points_run (take n (row (six_at f))) ≡ points_bytes f
six_points_run f n h = ap points_run (take_all n (row (six_at f)) h) ∙ simp append-nil
