-- What a put and a drop leave in the bytes that a list of places is written in: the bytes of the list after it.
use Rattle.std.specs.Prelude.{◌≡◌, ℕ, zero, suc, ◌+◌, ◌*◌, ◌<◌, ◌≤◌, Bool, true, false, eqb, ltb, List, [], ◌∷◌, ◌++◌, length, take, drop}
use native.Mathlib.Omega.{arith}
use mathlib.Core.Path.{ap, ap₂, sym, ◌∙◌}
use mathlib.Core.Bool.{false≢true}
use mathlib.Core.List.{append_assoc}
use lib.ListN.{replicate-append-replicate}
use lib.Seq.{slice}
use borrow.Author.Tests.{ltb-true, ne_eqb}
use Rattle.numbers.specs.Told.{choose}
use Rattle.numbers.proofs.Flags.{by_test}
use Rattle.legs.specs.Legs.{Feet}
use Rattle.taught.specs.Map.{there}
use Rattle.taught.specs.Room.{Place, place_bytes, zeros, look_up, replaced, inserted, removed}
use Rattle.taught.proofs.Written.{written, Sound, position, insert, remove}
use Rattle.taught.proofs.Reading.{bytes_of, behind_place, behind_zeros, drop_place, drop_more, take_more}
use Rattle.taught.proofs.Reading.{position_past, position_here, look_past, look_here, there_here}

-- past one place, k more, and the one to be left out
drop_next : (k : ℕ) (p : Place) (rest : List ℕ) → drop (80 * suc k + 80) (bytes_of p ++ rest) ≡ drop (80 * k + 80) rest
drop_next k p rest = ap (λ (n : ℕ). drop n (bytes_of p ++ rest)) (two_more k) ∙ drop_place p (80 * k + 80) rest
  where
    two_more : (k : ℕ) → 80 * suc k + 80 ≡ 80 + (80 * k + 80)
    two_more k = omega arith

-- ---- what is stored behind a place leaves that place
replaced_past : (k : ℕ) (new : List ℕ) (p : Place) (rest : List ℕ)
    → replaced (80 * suc k) new (bytes_of p ++ rest) ≡ bytes_of p ++ replaced (80 * k) new rest
replaced_past k new p rest =
    ap₂ (λ (a b : List ℕ). a ++ (new ++ b)) (take_more k p rest) (drop_next k p rest)
    ∙ append_assoc (bytes_of p) (take (80 * k) rest) (new ++ drop (80 * k + 80) rest)

inserted_past : (k m : ℕ) (new : List ℕ) (p : Place) (rest : List ℕ)
    → inserted (80 * suc k) (80 * suc m) new (bytes_of p ++ rest) ≡ bytes_of p ++ inserted (80 * k) (80 * m) new rest
inserted_past k m new p rest =
    ap₂ (λ (a b : List ℕ). a ++ (new ++ b)) (take_more k p rest)
    (ap₂ (λ (a b : List ℕ). a ++ b)
    (ap (drop (80 * suc k)) (take_more m p rest) ∙ drop_more k p (take (80 * m) rest))
    (drop_next m p rest))
    ∙ append_assoc (bytes_of p) (take (80 * k) rest) (new ++ (slice (80 * k) (80 * m) rest ++ drop (80 * m + 80) rest))

removed_past : (k : ℕ) (p : Place) (rest : List ℕ) → removed (80 * suc k) (bytes_of p ++ rest) ≡ bytes_of p ++ removed (80 * k) rest
removed_past k p rest =
    ap₂ (λ (a b : List ℕ). a ++ (b ++ zeros 80)) (take_more k p rest) (drop_next k p rest)
    ∙ append_assoc (bytes_of p) (take (80 * k) rest) (drop (80 * k + 80) rest ++ zeros 80)

-- ---- one place more or less behind the used ones
longer : (n last : ℕ) (ps : List Place) → Sound n last ps → written n ps ++ zeros 80 ≡ written (suc n) ps
longer n last [] s =
    let more : 80 * n + 80 ≡ 80 * suc n = omega arith in
    replicate-append-replicate (80 * n) 80 0 ∙ ap zeros more
longer zero last (p ∷ ps) s = absurd s
longer (suc n) last (p ∷ ps) s =
    append_assoc (bytes_of p) (written n ps) (zeros 80) ∙ ap (λ (l : List ℕ). bytes_of p ++ l) (longer n p.id ps s.2)

-- the first unused place taken out
shorter : (n : ℕ) (ps : List Place) → length ps ≤ n
    → take (80 * length ps) (written (suc n) ps) ++ drop (80 * length ps + 80) (written (suc n) ps) ≡ written n ps
shorter n [] h = behind_zeros n
shorter zero (p ∷ ps) h = absurd (omega (arith, h))
shorter (suc n) (p ∷ ps) h =
    ap₂ (λ (a b : List ℕ). a ++ b) (take_more (length ps) p (written (suc n) ps)) (drop_next (length ps) p (written (suc n) ps))
    ∙ append_assoc (bytes_of p) (take (80 * length ps) (written (suc n) ps)) (drop (80 * length ps + 80) (written (suc n) ps))
    ∙ ap (λ (l : List ℕ). bytes_of p ++ l) (shorter n ps (omega (arith, h)))

-- ---- insert and remove at the first place: past it, or there
abbrev insert_by : ℕ → Feet → Place → List Place → Bool → Bool → List Place
insert_by id f p ps lower same =
    choose lower (p ∷ insert id f ps) (record { id = id; pose = f } ∷ choose same ps (p ∷ ps))

insert_past : (id : ℕ) (f : Feet) (p : Place) (ps : List Place) → ltb p.id id ≡ true → insert id f (p ∷ ps) ≡ p ∷ insert id f ps
insert_past id f p ps e = ap (λ (t : Bool). insert_by id f p ps t (eqb p.id id)) e

insert_here : (id : ℕ) (f : Feet) (p : Place) (ps : List Place) (t : Bool) → ltb p.id id ≡ false → eqb p.id id ≡ t
    → insert id f (p ∷ ps) ≡ record { id = id; pose = f } ∷ choose t ps (p ∷ ps)
insert_here id f p ps t e h = ap₂ (insert_by id f p ps) e h

remove_past : (id : ℕ) (p : Place) (ps : List Place) → ltb p.id id ≡ true → remove id (p ∷ ps) ≡ p ∷ remove id ps
remove_past id p ps e =
    let less : p.id < id = ltb-true p.id id e in
    ap (λ (t : Bool). choose t ps (p ∷ remove id ps)) (ne_eqb p.id id (λ q. omega (arith, less, q)))

remove_here : (id : ℕ) (p : Place) (ps : List Place) → eqb p.id id ≡ true → remove id (p ∷ ps) ≡ ps
remove_here id p ps e = ap (λ (t : Bool). choose t ps (p ∷ remove id ps)) e

there_past : (id : ℕ) (p : Place) (ps : List Place) (t : Bool) → ltb p.id id ≡ true → there (look_up (p ∷ ps) id) ≡ t
    → there (look_up ps id) ≡ t
there_past id p ps t e h = ap there (sym (look_past id p ps e)) ∙ h

same_here : (n id : ℕ) (p : Place) (ps : List Place) (t : Bool) → Sound n p.id ps → ltb p.id id ≡ false
    → there (look_up (p ∷ ps) id) ≡ t → eqb p.id id ≡ t
same_here n id p ps t s e h = sym (ap there (look_here n id p ps s e) ∙ there_here (eqb p.id id) p.pose) ∙ h

-- ---- a put of an id that is there, a put of a new one, and a drop
pub replaced_written : (n last id : ℕ) (f : Feet) (ps : List Place) → Sound n last ps → there (look_up ps id) ≡ true
    → replaced (80 * position id ps) (place_bytes id f) (written n ps) ≡ written n (insert id f ps)
replaced_written n last id f [] s h = absurd (false≢true h)
replaced_written zero last id f (p ∷ ps) s h = absurd s
replaced_written (suc n) last id f (p ∷ ps) s h =
    let new = place_bytes id f in
    let rest = written n ps in
    by_test (ltb p.id id)
    (λ e. ap (λ (k : ℕ). replaced (80 * k) new (bytes_of p ++ rest)) (position_past id p ps e)
    ∙ replaced_past (position id ps) new p rest
    ∙ ap (λ (l : List ℕ). bytes_of p ++ l) (replaced_written n p.id id f ps s.2 (there_past id p ps true e h))
    ∙ ap (written (suc n)) (sym (insert_past id f p ps e)))
    (λ e. ap (λ (k : ℕ). replaced (80 * k) new (bytes_of p ++ rest)) (position_here id p ps e)
    ∙ ap (λ (l : List ℕ). new ++ l) (behind_place p rest)
    ∙ ap (written (suc n)) (sym (insert_here id f p ps true e (same_here n id p ps true s.2 e h))))

pub inserted_written : (n last id : ℕ) (f : Feet) (ps : List Place) → Sound n last ps → there (look_up ps id) ≡ false → length ps < n
    → inserted (80 * position id ps) (80 * length ps) (place_bytes id f) (written n ps) ≡ written n (insert id f ps)
inserted_written zero last id f ps s h room = absurd (omega (arith, room))
inserted_written (suc n) last id f [] s h room = ap (λ (l : List ℕ). place_bytes id f ++ l) (behind_zeros n)
inserted_written (suc n) last id f (p ∷ ps) s h room =
    let new = place_bytes id f in
    let rest = written n ps in
    by_test (ltb p.id id)
    (λ e. ap (λ (k : ℕ). inserted (80 * k) (80 * suc (length ps)) new (bytes_of p ++ rest)) (position_past id p ps e)
    ∙ inserted_past (position id ps) (length ps) new p rest
    ∙ ap (λ (l : List ℕ). bytes_of p ++ l) (inserted_written n p.id id f ps s.2 (there_past id p ps false e h) (omega (arith, room)))
    ∙ ap (written (suc n)) (sym (insert_past id f p ps e)))
    (λ e. ap (λ (k : ℕ). inserted (80 * k) (80 * suc (length ps)) new (bytes_of p ++ rest)) (position_here id p ps e)
    ∙ ap (λ (l : List ℕ). new ++ l) (shorter n (p ∷ ps) (omega (arith, room)))
    ∙ ap (written (suc n)) (sym (insert_here id f p ps false e (same_here n id p ps false s.2 e h))))

pub removed_written : (n last id : ℕ) (ps : List Place) → Sound n last ps → there (look_up ps id) ≡ true
    → removed (80 * position id ps) (written n ps) ≡ written n (remove id ps)
removed_written n last id [] s h = absurd (false≢true h)
removed_written zero last id (p ∷ ps) s h = absurd s
removed_written (suc n) last id (p ∷ ps) s h =
    let rest = written n ps in
    by_test (ltb p.id id)
    (λ e. ap (λ (k : ℕ). removed (80 * k) (bytes_of p ++ rest)) (position_past id p ps e)
    ∙ removed_past (position id ps) p rest
    ∙ ap (λ (l : List ℕ). bytes_of p ++ l) (removed_written n p.id id ps s.2 (there_past id p ps true e h))
    ∙ ap (written (suc n)) (sym (remove_past id p ps e)))
    (λ e. ap (λ (k : ℕ). removed (80 * k) (bytes_of p ++ rest)) (position_here id p ps e)
    ∙ ap (λ (l : List ℕ). l ++ zeros 80) (behind_place p rest)
    ∙ longer n p.id ps s.2
    ∙ ap (written (suc n)) (sym (remove_here id p ps (same_here n id p ps true s.2 e h))))
